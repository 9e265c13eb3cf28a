-- The findings of the rows of two lists that are paired.
use Rattle.std.proofs.Common.{◌≡◌, ℕ, ◌-◌, List, length, length-drop, map, take, drop, Option, ℤ, arith, sym, subst, ap, ◌∙◌}
use Rattle.std.proofs.lemmas.List.{take_all}
use Rattle.irs_base.specs.Lists.{Every}
use Rattle.irs_flows.specs.FlowReading.{FlowPart}
use Rattle.irs_flows.specs.declared.flows.FlowPeriod.{FlowPeriod}
use Rattle.irs_breaks.specs.Findings.{EachRow, Findings}
use Rattle.irs_breaks.specs.Private.Findings.{Adds}
use Rattle.irs_breaks.specs.Pairing.{IsPairing, IsPlacedRow}
use Rattle.irs_breaks.specs.BreakLists.{FindsRows}
use Rattle.irs_breaks.specs.declared.dated.PairedRow.{PairedRow}
use Rattle.irs_breaks.proofs.RowsTold.{adds_told}

-- the places of rows are places of any lists of the same lengths
pub same_placed : (a b n m : ℕ) (rows all : List PairedRow) → a ≡ n → b ≡ m → all ≡ rows → Every (IsPlacedRow a b) rows
    → Every (IsPlacedRow n m) all
same_placed a b n m rows all e f g h =
    subst (λ (k : ℕ). Every (IsPlacedRow k m) all) e
    (subst (λ (k : ℕ). Every (IsPlacedRow a k) all) f (subst (λ (z : List PairedRow). Every (IsPlacedRow a b) z) (sym g) h))

-- the findings of a pairing are those of equal lists of dates
pub told_of : (from first : ℤ) (ours theirs dates others : List (Option ℤ)) (Told : PairedRow → Findings → Type 0)
    (rows all : List PairedRow) (a b : Findings) → from ≡ first → ours ≡ dates → theirs ≡ others → all ≡ rows
    → IsPairing from ours theirs rows → Adds (EachRow Told all) a b → Adds (FindsRows first dates others Told) a b
told_of from first ours theirs dates others Told rows all a b d e f g paired h =
    adds_told first dates others Told rows a b
    (subst (λ (z : ℤ). IsPairing z dates others rows) d
    (subst (λ (z : List (Option ℤ)). IsPairing from z others rows) e
    (subst (λ (z : List (Option ℤ)). IsPairing from ours z rows) f paired)))
    (subst (λ (z : List PairedRow). Adds (EachRow Told z) a b) g h)

-- the adjusted starts of the first n periods of theirs from a place on
pub their_rows : (g : FlowPart) (start n : ℕ) (rows : List FlowPeriod) → rows ≡ g.periods
    → map (λ (z : FlowPeriod). z.adjusted_start) (take n (take (length rows - start) (drop start rows)))
    ≡ map (λ (z : FlowPeriod). z.adjusted_start) (take n (drop start g.periods))
their_rows g start n rows e =
    let long = length-drop start rows in
    ap (λ (z : List FlowPeriod). map (λ (y : FlowPeriod). y.adjusted_start) (take n z))
    (take_all (length rows - start) (drop start rows) (omega (arith, long)) ∙ ap (drop start) e)
