use Rattle.std.proofs.Common.{ap, ◌∙◌, ◌++◌, List, ℕ, codes, length}
use Rattle.std.specs.List.{sum_by}
use Rattle.irs_breaks.specs.Findings.{counted_as}
use Rattle.irs_breaks.specs.declared.counting.Counts.{Counts}
use Rattle.irs_breaks.specs.declared.findings.Break.{Break}
use Rattle.irs_breaks.specs.declared.values.Standing.TheVariants.{Compared, Unknown, Unstated}
use Rattle.irs_breaks.proofs.TextLines.{number_put}
use Rattle.irs_breaks.proofs.texts.last_line.Goals as goal

pub returns : goal.returns
returns c =
    let pairs = c.pairs-pairs.ensures in
    let head = c.push.ensures ∙ ap (λ (l : List ℕ). l ++ codes "end") c.new-line.ensures in
    let breaks = number_put c.put_total.ensures.text head (ap (λ (l : List Break). length l) c.breaks.ensures.value) in
    let rows = number_put c.put_total-2.ensures.text breaks (ap (λ (l : List Counts). length l) pairs) in
    let compared = number_put c.put_total-3.ensures.text rows
    (c.total.ensures.value ∙ ap (λ (l : List Counts). sum_by (counted_as Compared) l) pairs) in
    let unstated = number_put c.put_total-4.ensures.text compared
    (c.total-2.ensures.value ∙ ap (λ (l : List Counts). sum_by (counted_as Unstated) l) pairs) in
    let unknown = number_put c.put_total-5.ensures.text unstated
    (c.total-3.ensures.value ∙ ap (λ (l : List Counts). sum_by (counted_as Unknown) l) pairs) in
    c.push-2.ensures ∙ ap (λ (l : List ℕ). l ++ codes "\n") unknown
