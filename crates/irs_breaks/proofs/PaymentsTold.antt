-- The findings of a payment and its calculation periods.
use Rattle.std.proofs.Common.{◌≡◌, inl, inr, ℕ, zero, suc, ◌+◌, ◌<◌, ◌≤◌, min, Bool, true, false, List, [], ◌∷◌, ◌++◌, length}
use Rattle.std.proofs.Common.{get_or, Option, Some, None, refl, sym, subst, ap, ◌∙◌, arith}
use Rattle.std.specs.Prelude.{slice_get, unwrap_or, ◌==◌, IfSome}
use Rattle.std.proofs.lemmas.Bool.{cases_Bool, cases_lt}
use Rattle.std.proofs.lemmas.Bool.Decides.{nat_tests}
use Rattle.std.proofs.lemmas.List.{length_push}
use Rattle.std.proofs.lemmas.List.Sums.{sum_by_more}
use Rattle.std.proofs.lemmas.Option.{none-some, slice_get_within}
use Rattle.irs_terms.specs.declared.results.Reset.{Reset}
use Rattle.irs_schedule.specs.Parts.{KeepsBounds, Part}
use Rattle.irs_schedule.specs.RowsOf.{period_at}
use Rattle.irs_schedule.specs.declared.entries.PaymentEntry.{PaymentEntry}
use Rattle.irs_schedule.specs.declared.views.CalculationPeriod.{CalculationPeriod}
use Rattle.irs_audit.specs.StatedFlows.{IsBoundedFraction}
use Rattle.irs_flows.specs.FlowReading.{FlowPart}
use Rattle.irs_flows.specs.declared.flows.FlowPayment.{FlowPayment}
use Rattle.irs_flows.specs.declared.flows.FlowPeriod.{FlowPeriod}
use Rattle.irs_flows.specs.declared.flows.FlowReset.{FlowReset}
use Rattle.irs_audit.proofs.BoundLemmas.{payment_kept, period_small}
use Rattle.irs_breaks.specs.Findings.{counts_in, payment_fields, period_fields, Findings, Then, one_pair}
use Rattle.irs_breaks.specs.Findings.{joined_findings, no_findings, one_break}
use Rattle.irs_breaks.specs.Private.Findings.{Adds, AreStarts}
use Rattle.irs_breaks.specs.BreakLists.{AreFieldBreaks, FindsPayment, ArePeriods, ArePeriodsOf, FindsReset, UnlessBare}
use Rattle.irs_breaks.specs.BreakLists.{counted_reset, extra_reset, member_at, payment_counts, periods_before}
use Rattle.irs_breaks.specs.declared.counting.Counts.{Counts}
use Rattle.irs_breaks.specs.declared.findings.BreakPlace.{BreakPlace}
use Rattle.irs_breaks.specs.declared.values.FieldValues.{FieldValues}
use Rattle.irs_breaks.proofs.Joining.{adds_then, joined_nothing}
use Rattle.irs_breaks.proofs.PaymentPlaces.{HasPeriods, payment_at}
use Rattle.irs_breaks.proofs.RowsTold.{counted_then}

-- ---- payments of the schedule

-- a payment of the schedule has periods of its stream
pub payment_periods : (p : Part) (place : Option ℕ) (x : PaymentEntry) → KeepsBounds p → Some x ≡ member_at p.payments place
    → HasPeriods 1 (length p.periods) x
payment_periods p None x h e = absurd (none-some x (sym e))
payment_periods p (Some n) x h e = payment_at p n x h (sym e)

-- the amount of a payment of the schedule has at most twelve decimals
pub payment_few : (p : Part) (place : Option ℕ) (x : PaymentEntry) → KeepsBounds p → Some x ≡ member_at p.payments place
    → IfSome x.amount (λ v. v.places ≤ 12)
payment_few p None x h e = absurd (none-some x (sym e))
payment_few p (Some n) x h e = let kept = payment_kept p n x h (sym e) in kept.decimals

-- the fraction of a period of the schedule is within its bounds
pub small_there : (p : Part) (n : ℕ) (o : Option CalculationPeriod) → KeepsBounds p → o ≡ period_at p n
    → IfSome o (λ x. IsBoundedFraction x.frac)
small_there p n None h e = tt
small_there p n (Some x) h e = period_small p n x h (sym e)

-- ---- where the periods of the payments of theirs begin

get_left : {X : Type 0} (xs ys : List X) (j : ℕ) → j < length xs → slice_get (xs ++ ys) j ≡ slice_get xs j
get_left [] ys j h = absurd (omega (arith, h))
get_left (x ∷ xs) ys zero h = refl
get_left (x ∷ xs) ys (suc j) h = get_left xs ys j (omega (arith, h))

get_last : {X : Type 0} (xs : List X) (x : X) → slice_get (xs ++ x ∷ []) (length xs) ≡ Some x
get_last [] x = refl
get_last (y ∷ ys) x = get_last ys x

-- the places at which the periods of the first n payments begin, and the next place
pub record StartsUpTo (g : FlowPart) (n next : ℕ) (starts : List ℕ) : Type 0 where
  pub next_is : next ≡ periods_before g n
  pub count : length starts ≡ n
  pub each : (k : ℕ) → k < n → slice_get starts k ≡ Some (periods_before g k)

before_more : (g : FlowPart) (i next : ℕ) (y : FlowPayment) → i < length g.payments → y ≡ get_or g.payments i y
    → next ≡ periods_before g i → min (length g.periods) (next + y.periods) ≡ periods_before g (i + 1)
before_more g i next y within is e =
    let more = sum_by_more (λ (z : FlowPayment). z.periods) g.payments i y within in
    let same : y.periods ≡ (get_or g.payments i y).periods = ap (λ (z : FlowPayment). z.periods) is in
    omega (arith, more, same, e)

one_more : (g : FlowPart) (i next : ℕ) (starts : List ℕ) → StartsUpTo g i next starts → (k : ℕ) → k < i + 1
    → slice_get (starts ++ next ∷ []) k ≡ Some (periods_before g k)
one_more g i next starts h k low = elim (cases_lt k i) [
  | inl old ↦
      let count = h.count in
      get_left starts (next ∷ []) k (omega (arith, count, old)) ∙ h.each k old
  | inr new ↦
      let count = h.count in
      let here : k ≡ length starts = omega (arith, low, new, count) in
      let is : k ≡ i = omega (arith, low, new) in
      ap (λ (j : ℕ). slice_get (starts ++ next ∷ []) j) here ∙ (get_last starts next
      ∙ ap (λ (z : ℕ). Some z) (h.next_is ∙ ap (periods_before g) (sym is)))
]

-- the periods of one more payment begin at the next place
pub starts_more : (g : FlowPart) (i next after : ℕ) (starts : List ℕ) (y : FlowPayment) → StartsUpTo g i next starts
    → i < length g.payments → y ≡ get_or g.payments i y → after ≡ min (length g.periods) (next + y.periods)
    → StartsUpTo g (i + 1) after (starts ++ next ∷ [])
starts_more g i next after starts y h within is e = record {
  next_is = e ∙ before_more g i next y within is h.next_is;
  count = length_push starts next ∙ ap (λ (n : ℕ). n + 1) h.count;
  each = one_more g i next starts h;
}

-- the places of all payments are found
pub starts_all : (g : FlowPart) (n next : ℕ) (starts : List ℕ) → StartsUpTo g n next starts → length g.payments ≤ n
    → AreStarts g starts
starts_all g n next starts h all = λ place y at.
    let within = slice_get_within g.payments place y at in
    h.each place (omega (arith, within, all))

-- the entry of a payment is the number of periods before its own
pub start_there : (g : FlowPart) (starts : List ℕ) (place : Option ℕ) (y : FlowPayment) → AreStarts g starts
    → Some y ≡ member_at g.payments place → unwrap_or (member_at starts place) 0 ≡ periods_before g (unwrap_or place 0)
start_there g starts None y h e = absurd (none-some y (sym e))
start_there g starts (Some n) y h e = ap (λ (o : Option ℕ). unwrap_or o 0) (h n y (sym e))

-- ---- pairs of payments

-- a payment of theirs without periods adds no findings of periods
pub bare_told : (bare : Bool) (Told : Findings → Type 0) (a : Findings) → bare ≡ true → Adds (UnlessBare bare Told) a a
bare_told bare Told a e =
    subst (λ (b : Bool). Adds (UnlessBare b Told) a a) (sym e) (no_findings, refl, sym (joined_nothing a))

-- a payment of theirs with periods adds their findings
pub periods_told : (bare : Bool) (Told : Findings → Type 0) (a b : Findings) → bare ≡ false → Adds Told a b
    → Adds (UnlessBare bare Told) a b
periods_told bare Told a b e h = subst (λ (z : Bool). Adds (UnlessBare z Told) a b) (sym e) h

-- the findings of a pair of payments: its counts, its fields and its periods
pub payments_told : (place : BreakPlace) (p : Part) (g : FlowPart) (before : ℕ) (x : PaymentEntry) (y : FlowPayment)
    (fields : List FieldValues) (counts : Counts) (a b c d : Findings) → fields ≡ payment_fields p.currency x y
    → counts ≡ payment_counts (y.periods == 0) (counts_in fields) → b ≡ joined_findings a (one_pair counts)
    → Adds (AreFieldBreaks place fields) b c
    → Adds (UnlessBare (y.periods == 0) (ArePeriodsOf place.stream p g x before y)) c d
    → Adds (FindsPayment place p g before x y) a d
payments_told place p g before x y fields counts a b c d e f first second third =
    let wanted = payment_fields p.currency x y in
    let bare = y.periods == 0 in
    let total = payment_counts bare (counts_in wanted) in
    let is : counts ≡ total = f ∙ ap (λ (z : List FieldValues). payment_counts bare (counts_in z)) e in
    counted_then (one_pair total)
    (Then (AreFieldBreaks place wanted) (UnlessBare bare (ArePeriodsOf place.stream p g x before y))) a b d
    (first ∙ ap (λ (z : Counts). joined_findings a (one_pair z)) is)
    (adds_then (AreFieldBreaks place wanted) (UnlessBare bare (ArePeriodsOf place.stream p g x before y)) b c d
    (subst (λ (z : List FieldValues). Adds (AreFieldBreaks place z) b c) e second) third)

-- ---- pairs of periods

-- the findings of a pair of calculation periods: its counts, its fields and its reset
pub pair_told : (place : BreakPlace) (reset : Option Reset) (x : CalculationPeriod) (y : FlowPeriod)
    (fields : List FieldValues) (counts : Counts) (a b c d : Findings) → fields ≡ period_fields x y
    → counts ≡ counts_in (fields ++ counted_reset reset y.reset) → b ≡ joined_findings a (one_pair counts)
    → Adds (AreFieldBreaks place fields) b c → Adds (FindsReset place reset y.reset) c d
    → Adds (ArePeriods place reset x y) a d
pair_told place reset x y fields counts a b c d e f first second third =
    let wanted = period_fields x y in
    let total = counts_in (wanted ++ counted_reset reset y.reset) in
    let is : counts ≡ total = f ∙ ap (λ (z : List FieldValues). counts_in (z ++ counted_reset reset y.reset)) e in
    counted_then (one_pair total) (Then (AreFieldBreaks place wanted) (FindsReset place reset y.reset)) a b d
    (first ∙ ap (λ (z : Counts). joined_findings a (one_pair z)) is)
    (adds_then (AreFieldBreaks place wanted) (FindsReset place reset y.reset) b c d
    (subst (λ (z : List FieldValues). Adds (AreFieldBreaks place z) b c) e second) third)

-- a reset that only theirs has is a break
pub reset_extra : (place : BreakPlace) (o : Option Reset) (q : Option FlowReset) (y : FlowReset) (a b : Findings)
    → None ≡ o → Some y ≡ q → b ≡ joined_findings a (one_break (extra_reset place y)) → Adds (FindsReset place o q) a b
reset_extra place o q y a b e f h =
    subst (λ (o : Option Reset). Adds (FindsReset place o q) a b) e
    (subst (λ (q : Option FlowReset). Adds (FindsReset place None q) a b) f (one_break (extra_reset place y), refl, h))

-- where neither has a reset there is nothing to add
pub reset_none : (place : BreakPlace) (o : Option Reset) (q : Option FlowReset) (a : Findings) → None ≡ o → None ≡ q
    → Adds (FindsReset place o q) a a
reset_none place o q a e f =
    subst (λ (o : Option Reset). Adds (FindsReset place o q) a a) e
    (subst (λ (q : Option FlowReset). Adds (FindsReset place None q) a a) f (no_findings, refl, sym (joined_nothing a)))

-- findings that were added to none meet the property themselves
pub added_to_nothing : (P : Findings → Type 0) (b : Findings) → Adds P no_findings b → P b
added_to_nothing P b h = subst P (sym h.2) h.1

-- ---- whether a payment has periods

-- a number that is zero passes the test for zero
pub is_bare : (n : ℕ) → n ≡ 0 → (n == 0) ≡ true
is_bare n e = rw e refl

-- a number that isn't zero fails the test for zero
pub not_bare : (n : ℕ) → ¬ (n ≡ 0) → (n == 0) ≡ false
not_bare zero h = absurd (h refl)
not_bare (suc n) h = elim (cases_Bool (suc n == 0)) [
  | inl holds ↦ absurd (grind (arith, nat_tests, holds))
  | inr fails ↦ fails
]
