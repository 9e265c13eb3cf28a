-- There is one verdict on cash flows, and the counts of a schedule are small.
use Rattle.std.proofs.Common.{◌≡◌, ℕ, Bool, true, false, cond, ◌+◌, ◌*◌, ◌^◌, ◌<◌, ◌≤◌, List, [], ◌∷◌, length, sym, ◌∙◌}
use Rattle.std.proofs.Common.{ap, arith, ◌↔◌}
use Rattle.std.specs.Prelude.{is_none, if◌then◌else◌}
use Rattle.std.specs.List.{fold}
use Rattle.irs_schedule.specs.Parts.{Part, KeepsBounds, IsWithin}
use Rattle.irs_schedule.specs.declared.entries.PaymentEntry.{PaymentEntry}
use Rattle.irs_audit.specs.declared.departures.Departure.{Departure}
use Rattle.irs_audit.specs.declared.departures.Verdict.{Verdict}
use Rattle.irs_audit.specs.declared.departures.Verdict.TheVariants.{Yes, No}
use Rattle.irs_audit.specs.Verdicts.{Departs, IsVerdict, IsNo, stream_row_count, stream_unfixed, row_count}
use Rattle.irs_audit.specs.Verdicts.{unfixed_count, departs_before}
use Rattle.irs_flows.specs.FlowReading.{FlowPart}
use Rattle.irs_audit.proofs.BoundLemmas.{payments_few}
use Rattle.irs_audit.proofs.OrderLemmas.{departure_ties}
use Rattle.irs_base.proofs.Firsts.{one_first}
use Rattle.irs_base.specs.Limits.{most_periods}
use Rattle.irs_schedule.specs.RowsOf.{most_stream_rows}
use Rattle.irs_base.specs.Lists.{Every}

-- the same flows and schedule have at most one verdict
pub one_verdict : (f : List FlowPart) (s : List Part) (v w : Verdict) → IsVerdict f s v → IsVerdict f s w → v ≡ w
one_verdict f s (Yes a b) (Yes c d) h k = λ i. Yes ((h.1 ∙ sym k.1) i) ((h.2 ∙ sym k.2) i)
one_verdict f s (Yes a b) (No e) h k = absurd (h.0 e k.0)
one_verdict f s (No d) (Yes a b) h k = absurd (k.0 d h.0)
one_verdict f s (No d) (No e) h k =
    ap (λ (x : Departure). No x) (one_first departs_before departure_ties (Departs f s) d e h k)

-- the verdict is No exactly where something departs
pub no_exactly : (f : List FlowPart) (s : List Part) (v : Verdict) → IsVerdict f s v
    → (IsNo v ↔ ((d : Departure) × Departs f s d))
no_exactly f s (Yes a b) h = (λ n. absurd n, λ x. h.0 x.0 x.1)
no_exactly f s (No d) h = (λ _. (d, h.0), λ _. tt)

few_if : (b : Bool) (m n : ℕ) → m ≡ (if b then n else 0) → m ≤ n
few_if true m n e = omega (arith, e)
few_if false m n e = omega (arith, e)

-- a stream has no more rows than the limit
pub rows_few : (p : Part) → KeepsBounds p → stream_row_count p ≤ most_stream_rows
rows_few p h =
    let payments = payments_few p h in
    let resets = few_if p.floating (length p.resets) (length p.periods) h.resets in
    omega (arith, h.few, h.exchanges, payments, resets)

one_few : (b : Bool) → cond b 1 0 ≤ 1
one_few true = omega arith
one_few false = omega arith

count_few : {X : Type 0} (test : X → Bool) (a : ℕ) (xs : List X)
    → fold (λ n x. n + cond (test x) 1 0) a xs ≤ a + length xs
count_few test a [] = omega arith
count_few test a (x ∷ xs) = let rest = count_few test (a + cond (test x) 1 0) xs in let one = one_few (test x) in
    omega (arith, rest, one)

-- a stream has no more payments without amount than the limit on periods
pub unfixed_few : (p : Part) → KeepsBounds p → stream_unfixed p ≤ most_periods
unfixed_few p h =
    let payments = payments_few p h in
    let count = count_few (λ (y : PaymentEntry). is_none y.amount) 0 p.payments in
    omega (arith, h.few, payments, count)

-- a sum over streams is at most their number times the greatest share of each
pub sum_few : (f : Part → ℕ) (c a : ℕ) (ps : List Part) → ((p : Part) → KeepsBounds p → f p ≤ c) → Every KeepsBounds ps
    → fold (λ n p. n + f p) a ps ≤ a + c * length ps
sum_few f c a [] each h = omega arith
sum_few f c a (p ∷ ps) each h = let rest = sum_few f c (a + f p) ps each h.1 in let one = each p h.0 in
    omega (arith, rest, one)

-- the rows of a schedule fit 32 bits
pub row_count_fits : (s : List Part) → IsWithin s → row_count s < 2 ^ 32
row_count_fits s h = let few = sum_few stream_row_count most_stream_rows 0 s rows_few h.each in omega (arith, few, h.few)

-- the payments without amount fit 32 bits
pub unfixed_count_fits : (s : List Part) → IsWithin s → unfixed_count s < 2 ^ 32
unfixed_count_fits s h = let few = sum_few stream_unfixed most_periods 0 s unfixed_few h.each in
    omega (arith, few, h.few)
