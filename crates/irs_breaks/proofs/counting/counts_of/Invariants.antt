use Rattle.std.proofs.Common.{◌≡◌, ℕ, ◌≤◌, List, take}
use Rattle.irs_breaks.specs.Findings.{number_of}
use Rattle.irs_breaks.specs.declared.values.FieldValues.{FieldValues}
use Rattle.irs_breaks.specs.declared.values.Standing.TheVariants.{Compared, Unknown, Unstated}
use Rattle.irs_breaks.proofs.counting.counts_of.Given as goal

-- the three counts of the first i fields
pub record AreCounted (fields : List FieldValues) (i compared unstated unknown : ℕ) : Type 0 where
  pub compared_is : compared ≡ number_of Compared (take i fields)
  pub unstated_is : unstated ≡ number_of Unstated (take i fields)
  pub unknown_is : unknown ≡ number_of Unknown (take i fields)
  pub compared_few : compared ≤ i
  pub unstated_few : unstated ≤ i
  pub unknown_few : unknown ≤ i

-- the counts of the fields so far
abbrev pub invariant-loop-field : goal.invariant-loop-field
invariant-loop-field l = AreCounted l.fields l.field-index l.compared l.unstated l.unknown
