-- There is one first broken rule, and one first line of a file of fixings that is at fault.
use Rattle.std.proofs.Common.{◌≡◌, ℕ, List, Option, Some, None, Result, Ok, Err}
use Rattle.irs_terms.proofs.FaultOrder.{broken_ties}
use Rattle.irs_base.proofs.Firsts.{one_first as one_of_order}
use Rattle.irs_base.specs.Outcomes.{First}
use Rattle.irs_terms.specs.Faults.{is_before}
use Rattle.irs_terms.specs.declared.places.Broken.{Broken}
use Rattle.irs_resets.specs.Resets.{MeetsFile, fixings_of}
use Rattle.irs_resets.specs.Rates.{RateTable}
use Rattle.irs_resets.specs.declared.fixings.FixErr.{FixErr}
use Rattle.irs_resets.specs.declared.fixings.FixErr.TheVariants.{Syntax, Repeat, Memory}
use Rattle.irs_resets.proofs.FileOutcomes.{no_rates, one_fault}
use Rattle.irs_answers.specs.Due.{IsFixingsFault, AreGivenFixings, FixingsRead}

-- ---- broken rules

-- a set of broken rules has one first
pub one_first : (P : Broken → Type 0) (f g : Broken) → First is_before P f → First is_before P g → g ≡ f
one_first P f g h k = one_of_order is_before broken_ties P g f k h

-- ---- files of fixings

-- a file of fixings has one first fault
pub one_fixings_fault : (o : Option (List ℕ)) (f g : FixErr) → IsFixingsFault o f → IsFixingsFault o g → g ≡ f
one_fixings_fault None f g h k = absurd h
one_fixings_fault (Some bytes) f g h k = one_fault bytes f g h k

-- a file with a line at fault gives no rates
pub no_fixings : (o : Option (List ℕ)) (f : FixErr) (t : RateTable) → IsFixingsFault o f → AreGivenFixings o t → ⊥
no_fixings None f t h k = h
no_fixings (Some bytes) f t h k = no_rates bytes f t h k

-- what reading a file of fixings gave is its rates, or its first line at fault
pub read_table : (bytes : List ℕ) (r : Result RateTable FixErr) → MeetsFile (fixings_of bytes) r
    → FixingsRead (Some bytes) r
read_table bytes (Ok t) h = h
read_table bytes (Err (Syntax n)) h = h
read_table bytes (Err (Repeat n)) h = h
read_table bytes (Err Memory) h = tt
