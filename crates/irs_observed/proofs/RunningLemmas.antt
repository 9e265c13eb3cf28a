-- The observations of the members before a day, and that they give one rate.
use Rattle.std.proofs.Common.{◌≡◌, inl, inr, ℕ, suc, ◌+◌, ◌<◌, ◌≤◌, List, [], ◌∷◌, ◌++◌, length, take, Bool, true, false}
use Rattle.std.proofs.Common.{ℤ, pos, ◌-ℤ◌, ◌+ℤ◌, ◌<ℤ◌, ◌≤ℤ◌, refl, sym, subst, ◌∙◌, ap, arith, unsigned_abs}
use Rattle.std.specs.Prelude.{get_or, int_lt, if◌then◌else◌}
use Rattle.std.proofs.lemmas.List.{take_more, take_all}
use Rattle.jiff_core.proofs.SignedLemmas.{signed_arith}
use Rattle.irs_base.specs.Lists.{Every, EachNumbered, day_at}
use Rattle.irs_calendar.specs.GoodDays.{DaySet}
use Rattle.irs_observed.specs.ObservedRates.{DailyRates, RateFraction}
use Rattle.irs_observed.specs.Observations.{ObservedPeriod, Shifts, AreObservations, HasWeights, IsObservation}
use Rattle.irs_observed.specs.Observations.{total_weight, IsPeriodMember, member_or_end}
use Rattle.irs_observed.specs.OvernightRates.{IsRateBy, AddsUpUntil, IsRateBefore, IsRateUntil, ends_by, observed_until}
use Rattle.irs_observed.specs.Private.OvernightRates.{BeginsBefore}
use Rattle.irs_observed.specs.declared.method.DailyRateMethod.{DailyRateMethod}
use Rattle.irs_observed.specs.declared.method.DailyRateMethod.TheVariants.{Compounding, Averaging}
use Rattle.irs_observed.specs.declared.observation.Observation.{Observation}
use Rattle.irs_observed.specs.declared.overnight_rate.OvernightRate.{OvernightRate}
use Rattle.irs_observed.specs.declared.overnight_rate.OvernightRate.TheVariants.{Known, Absent}
use Rattle.irs_terms.specs.declared.parameters.ObservationOffset.{ObservationOffset}
use Rattle.irs_base.proofs.Decided.{order_of}
use Rattle.irs_observed.proofs.ListLemmas.{at_or_end, member_place, past_end, rises_to}
use Rattle.irs_observed.proofs.MemberLemmas.{distance}
use Rattle.irs_observed.proofs.OutcomeLemmas.{one_observations}
use Rattle.irs_observed.proofs.PeriodLemmas.{one_end, one_start}
use Rattle.irs_observed.proofs.OvernightThere.{one_rate_by}
use Rattle.irs_observed.proofs.WalkLemmas.{first_member}

-- ---- the list

-- what one observation adds
abbrev pub adds_until : ℤ → Observation → List Observation
adds_until b o = if int_lt o.day b then ends_by b o ∷ [] else []

push_by : (b : ℤ) (o : Observation) (xs : List Observation) (t : Bool)
    → (if t then ends_by b o ∷ xs else xs) ≡ (if t then ends_by b o ∷ [] else []) ++ xs
push_by b o xs true = refl
push_by b o xs false = refl

more_by : (b : ℤ) (x : Observation) (xs ys zs : List Observation) (t : Bool) → xs ≡ ys ++ zs
    → (if t then ends_by b x ∷ xs else xs) ≡ (if t then ends_by b x ∷ ys else ys) ++ zs
more_by b x xs ys zs true e = ap (λ z. ends_by b x ∷ z) e
more_by b x xs ys zs false e = e

until_push : (b : ℤ) (os : List Observation) (o : Observation)
    → observed_until b (os ++ o ∷ []) ≡ observed_until b os ++ adds_until b o
until_push b [] o = refl
until_push b (x ∷ xs) o =
    more_by b x (observed_until b (xs ++ o ∷ [])) (observed_until b xs) (adds_until b o) (int_lt x.day b)
    (until_push b xs o)

-- with one observation more
pub until_more : (b : ℤ) (os : List Observation) (k : ℕ) (o : Observation) → k < length os → get_or os k o ≡ o
    → observed_until b (take (k + 1) os) ≡ observed_until b (take k os) ++ adds_until b o
until_more b os k o low is =
    let longer : take (k + 1) os ≡ take k os ++ o ∷ [] = take_more os k o low ∙ ap (λ z. take k os ++ z ∷ []) is in
    ap (observed_until b) longer ∙ until_push b (take k os) o

test_before : (a b : ℤ) → a <ℤ b → int_lt a b ≡ true
test_before a b h = grind (arith, signed_arith)

test_after : (a b : ℤ) → b ≤ℤ a → int_lt a b ≡ false
test_after a b h = grind (arith, signed_arith)

-- a member before the day adds its observation
pub until_added : (b : ℤ) (o : Observation) → o.day <ℤ b → adds_until b o ≡ ends_by b o ∷ []
until_added b o low = let test = test_before o.day b low in rw test refl

-- a later one adds none
pub until_passed : (b : ℤ) (o : Observation) → b ≤ℤ o.day → adds_until b o ≡ []
until_passed b o late = let test = test_after o.day b late in rw test refl

-- all of them
pub until_all : (b : ℤ) (os : List Observation) (k : ℕ) → length os ≤ k
    → observed_until b (take k os) ≡ observed_until b os
until_all b os k all = ap (observed_until b) (take_all k os all)

-- ---- weights

before_test : (a b : ℤ) → int_lt a b ≡ true → a <ℤ b
before_test a b h = grind (arith, signed_arith)

each_by : (b : ℤ) (o : Observation) (xs : List Observation) (t : Bool) → int_lt o.day b ≡ t → 0 < o.weight
    → Every (λ p. 0 < p.weight) xs → Every (λ p. 0 < p.weight) (if t then ends_by b o ∷ xs else xs)
each_by b o xs true test some rest =
    let low = before_test o.day b test in (omega (arith, signed_arith, some, low), rest)
each_by b o xs false test some rest = rest

each_until : (b : ℤ) (os : List Observation) → Every (λ o. 0 < o.weight) os
    → Every (λ o. 0 < o.weight) (observed_until b os)
each_until b [] each = tt
each_until b (o ∷ os) each =
    each_by b o (observed_until b os) (int_lt o.day b) refl each.0 (each_until b os each.1)

total_by : (b : ℤ) (o : Observation) (xs : List Observation) (n : ℕ) (t : Bool) → total_weight xs ≤ n
    → total_weight (if t then ends_by b o ∷ xs else xs) ≤ o.weight + n
total_by b o xs n true h = omega (arith, h)
total_by b o xs n false h = omega (arith, h)

total_until : (b : ℤ) (os : List Observation) → total_weight (observed_until b os) ≤ total_weight os
total_until b [] = omega arith
total_until b (o ∷ os) =
    total_by b o (observed_until b os) (total_weight os) (int_lt o.day b) (total_until b os)

first_by : (b : ℤ) (o : Observation) (xs : List Observation) (t : Bool) → int_lt o.day b ≡ t → o.day <ℤ b
    → 0 < o.weight → 0 < total_weight (if t then ends_by b o ∷ xs else xs)
first_by b o xs true test low some = omega (arith, signed_arith, some, low)
first_by b o xs false test low some = absurd (grind (arith, signed_arith))

-- where the first member comes before the day, these are observations too
pub weights_until : (b : ℤ) (os : List Observation) → HasWeights os → BeginsBefore b os
    → HasWeights (observed_until b os)
weights_until b [] h starts = absurd starts
weights_until b (o ∷ os) h starts =
    let few = h.few in
    let total = total_until b (o ∷ os) in
    record {
      each = each_until b (o ∷ os) h.each;
      some = first_by b o (observed_until b os) (int_lt o.day b) refl starts h.each.0;
      few = omega (arith, few, total);
    }

-- ---- the first member

-- a day after the first of the observation period is after the first member
pub starts_before : (p : ObservedPeriod) (os : List Observation) (d : ℤ) → AreObservations p os → 0 < total_weight os
    → ((a : ℤ) → Shifts p.offset p.days p.start a → a <ℤ d) → BeginsBefore d os
starts_before p [] d are some begun = absurd (omega (arith, some))
starts_before p (o ∷ os) d are some begun =
    let many = are.observed.many in
    let at : o.day ≡ day_at are.members 0 = are.observed.each.0.day in
    let first : day_at are.members 0 ≡ are.from =
    first_member p.days are.from are.to are.members are.are_members (omega (arith, many)) in
    subst (λ (x : ℤ). x <ℤ d) (sym (at ∙ first)) (begun are.from are.period.from)

-- ---- the weights add up

days_to : (a d : ℤ) → a <ℤ d → a +ℤ pos (unsigned_abs (d -ℤ a)) ≡ d
days_to a d h =
    let n = distance a d (omega (arith, signed_arith, h)) in
    let is = n.1 in
    let difference : d -ℤ a ≡ pos n.0 = omega (arith, signed_arith, is) in
    let size : unsigned_abs (d -ℤ a) ≡ n.0 = ap unsigned_abs difference in
    omega (arith, signed_arith, is, size)

-- the weights from the place k on end on d: those of members after d are none
record EndOn (u : List ℤ) (b d : ℤ) (k : ℕ) (os : List Observation) : Type 0 where
  some : member_or_end u b k <ℤ d → member_or_end u b k +ℤ pos (total_weight (observed_until d os)) ≡ d
  none : d ≤ℤ member_or_end u b k → total_weight (observed_until d os) ≡ 0

module _ (offset : ObservationOffset) (set : DaySet) (u : List ℤ) (b d : ℤ) (high : d ≤ℤ b)
    (rises : (k : ℕ) → k < length u → day_at u k <ℤ member_or_end u b (suc k)) where
  -- with the observation of the member at k before those from k + 1 on
  one_more : (k : ℕ) (o : Observation) (os : List Observation) (t : Bool) → int_lt o.day d ≡ t
      → member_or_end u b k ≡ o.day → o.day +ℤ pos o.weight ≡ member_or_end u b (k + 1) → o.day <ℤ member_or_end u b (k + 1)
      → EndOn u b d (k + 1) os
      → (o.day <ℤ d → o.day +ℤ pos (total_weight (if t then ends_by d o ∷ observed_until d os else observed_until d os)) ≡ d)
      × (d ≤ℤ o.day → total_weight (if t then ends_by d o ∷ observed_until d os else observed_until d os) ≡ 0)
  one_more k o os true test at weight rise rest =
      let low = before_test o.day d test in
      let days = days_to o.day d low in (
        λ less. elim (order_of (member_or_end u b (k + 1)) d) [
          | inl before ↦ let total = rest.some before in omega (arith, signed_arith, weight, low, before, total, days)
          | inr past ↦
              let late : d ≤ℤ member_or_end u b (k + 1) = elim past [
                | inl above ↦ omega (arith, signed_arith, above)
                | inr same ↦ omega (arith, signed_arith, same)
              ] in
              let total = rest.none late in
              omega (arith, signed_arith, weight, low, late, total, days)
        ],
        λ late. absurd (omega (arith, signed_arith, low, late)),
      )
  one_more k o os false test at weight rise rest = (
    λ less. absurd (let e = test_before o.day d less in cc),
    λ late. rest.none (omega (arith, signed_arith, late, rise)),
  )

  ends_on : (k : ℕ) (os : List Observation) → EachNumbered (IsObservation offset set u b) k os
      → k + length os ≡ length u → EndOn u b d k os
  ends_on k [] each many =
      let e : k ≡ length u = omega (arith, many) in
      let at : member_or_end u b k ≡ b = subst (λ (j : ℕ). member_or_end u b j ≡ b) (sym e) (past_end u b) in
      record { some = λ less. absurd (omega (arith, signed_arith, at, less, high)); none = λ late. refl }
  ends_on k (o ∷ os) each many =
      let low : k < length u = omega (arith, many) in
      let at = at_or_end u b k low in
      let day = each.0.day in
      let weight = each.0.weight in
      let rise = rises k low in
      let next : suc k ≡ k + 1 = omega arith in
      let step : day_at u k <ℤ member_or_end u b (k + 1) =
      subst (λ (j : ℕ). day_at u k <ℤ member_or_end u b j) next rise in
      let rest = ends_on (k + 1) os each.1 (omega (arith, many)) in
      let here : member_or_end u b k ≡ o.day = at ∙ sym day in
      let both = one_more k o os (int_lt o.day d) refl here weight (omega (arith, signed_arith, day, step)) rest in
      record {
        some = λ less. rw here (both.0 (omega (arith, signed_arith, here, less)));
        none = λ late. both.1 (omega (arith, signed_arith, here, late));
      }

-- the weights of the members before a day are the days from the first of the observation period to it
pub adds_up_until : (p : ObservedPeriod) (d : ℤ) → AddsUpUntil p d
adds_up_until p d os a b has period low high =
    let are = has.1 in
    let u = are.members in
    let start = one_start p are.from are.to a b are.period period in
    let end = one_end p are.from are.to a b are.period period in
    let inside : IsPeriodMember p.days are.from are.to are.from =
    (omega (arith, signed_arith), omega (arith, signed_arith, start, end, low, high), inl refl) in
    let at = member_place are.from u (are.are_members.complete are.from inside) in
    let some : 0 < length u = omega (arith, at.1) in
    let first = first_member p.days are.from are.to u are.are_members some in
    let zeroth = at_or_end u are.to 0 some in
    let many = are.observed.many in
    let below : (k : ℕ) → k < length u → day_at u k <ℤ member_or_end u are.to (suc k) = λ k h.
    rises_to u are.to k are.are_members.rising (λ x m. (are.are_members.sound x m).1) h in
    let total = ends_on p.offset p.days u are.to d (omega (arith, signed_arith, end, high)) below 0 os are.observed.each
    (omega (arith, many)) in
    let sum = total.some (omega (arith, signed_arith, zeroth, first, start, low)) in
    omega (arith, signed_arith, zeroth, first, start, sum)

-- ---- one rate

until_same : (method : DailyRateMethod) (daily : DailyRates) (p : ObservedPeriod) (d : ℤ) (x y : OvernightRate)
    → IsRateUntil method daily p d x → IsRateUntil method daily p d y → x ≡ y
until_same method daily p d x y h k =
    let same = one_observations p h.observations k.observations h.has.1 k.has.1 in
    one_rate_by method daily (observed_until d k.observations) x y
    (subst (λ (os : List Observation). IsRateBy method daily (observed_until d os) x) same h.is_rate) k.is_rate

-- a period has at most one rate by the members before a day
pub one_before : (method : DailyRateMethod) (daily : DailyRates) (p : ObservedPeriod) (d : ℤ) (x y : OvernightRate)
    → IsRateBefore method daily p d x → IsRateBefore method daily p d y → x ≡ y
one_before method daily p d x y (inl h) (inl k) = until_same method daily p d x y h k
one_before method daily p d x y (inl h) (inr k) = absurd (h.has.0 k.0 k.1)
one_before method daily p d x y (inr h) (inl k) = absurd (k.has.0 h.0 h.1)
one_before method daily p d x y (inr h) (inr k) = h.2 ∙ sym k.2

until_above : (method : DailyRateMethod) (daily : DailyRates) (p : ObservedPeriod) (d : ℤ) (x : RateFraction)
    → IsRateUntil method daily p d (Known x) → pos 0 <ℤ x.denominator
until_above (Compounding year) daily p d x h =
    let some = h.some in
    let denominator = h.is_rate.1.denominator in
    omega (arith, signed_arith, some, denominator)
until_above Averaging daily p d x h =
    let some = h.some in
    let denominator = h.is_rate.1.denominator in
    omega (arith, signed_arith, some, denominator)

-- the fraction of a rate that is known has a denominator above 0
pub before_above : (method : DailyRateMethod) (daily : DailyRates) (p : ObservedPeriod) (d : ℤ) (x : RateFraction)
    → IsRateBefore method daily p d (Known x) → pos 0 <ℤ x.denominator
before_above method daily p d x (inl h) = until_above method daily p d x h
before_above method daily p d x (inr h) = let e : Known x ≡ Absent = h.2 in absurd (cc)
