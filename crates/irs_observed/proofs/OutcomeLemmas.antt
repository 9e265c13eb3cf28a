-- A calculation period has one list of observations, or one first reason why it has none.
use Rattle.std.proofs.Common.{◌≡◌, ◌⊎◌, inl, inr, ℕ, zero, suc, ◌+◌, ◌<◌, List, [], ◌∷◌, ◌++◌, length, ℤ, pos}
use Rattle.std.proofs.Common.{◌+ℤ◌, ◌-ℤ◌, ◌<ℤ◌, ◌≤ℤ◌, refl, sym, subst, ◌∙◌, ap, arith}
use Rattle.std.proofs.lemmas.Bool.{cases_lt}
use Rattle.jiff_core.proofs.SignedLemmas.{signed_arith}
use Rattle.irs_base.specs.Days.{IsDay}
use Rattle.irs_base.specs.Lists.{day_at}
use Rattle.irs_base.specs.Outcomes.{First, Determined}
use Rattle.irs_base.specs.Private.Order.{IsDecided}
use Rattle.irs_base.proofs.Decided.{order_of}
use Rattle.irs_base.proofs.MemberLemmas.{numbered_there, one_numbered}
use Rattle.irs_base.proofs.Outcomes.{unless_broken_determined}
use Rattle.irs_calendar.specs.GoodDays.{DaySet, IsGood, Prev}
use Rattle.irs_adjust.specs.Private.ConventionLaws.{one_prev}
use Rattle.irs_adjust.proofs.FoundDays.{IsFound, decides_in_cover, decides_le, decides_next, decides_prev}
use Rattle.irs_adjust.proofs.MovedDays.{decides_moves}
use Rattle.irs_adjust.proofs.OffsetLaws.{one_moved}
use Rattle.irs_observed.specs.Observations.{IsObservationPeriod, ObservedPeriod, Shifts, back, LacksObservations}
use Rattle.irs_observed.specs.Observations.{reported_before, AddsUp, AreObservations, AreObserved, HasWeights}
use Rattle.irs_observed.specs.Observations.{IsObservation, ObservesOn, lockout_days, place_observed, AreMembers}
use Rattle.irs_observed.specs.Observations.{IsPeriodMember, LeavesCover, member_or_end}
use Rattle.irs_observed.specs.Private.OvernightRates.{IsUnseen, IsWalk}
use Rattle.irs_observed.specs.OvernightRates.{observations_of}
use Rattle.irs_observed.specs.declared.observation.NoObservations.{NoObservations}
use Rattle.irs_observed.specs.declared.observation.NoObservations.TheVariants.{FewMembers, NoDay}
use Rattle.irs_observed.specs.declared.observation.Observation.{Observation}
use Rattle.irs_terms.specs.declared.parameters.ObservationOffset.{ObservationOffset}
use Rattle.irs_terms.specs.declared.parameters.ObservationOffset.TheVariants.{Absent, Shift, Lookback, Lockout}
use Rattle.irs_observed.proofs.MemberLemmas.{ListsTo, distance, lists_all, lists_more, lists_none, none_good, one_members}
use Rattle.irs_observed.proofs.PeriodLemmas.{one_end, one_start}
use Rattle.irs_observed.proofs.RuleLemmas.{none_lacks, observes, refused_few, refused_member, refused_period}
use Rattle.irs_observed.proofs.RuleLemmas.{refused_uncovered}
use Rattle.irs_observed.proofs.WeightLemmas.{adds_to, adds_up, has_weights}
use Rattle.irs_observed.proofs.WalkLemmas.{first_member, member_at, walk_of}

-- ---- one of each

-- a member has one observation day
pub one_day_observed : (offset : ObservationOffset) (set : DaySet) (d o p : ℤ) → ObservesOn offset set d o
    → ObservesOn offset set d p → o ≡ p
one_day_observed Absent set d o p h k = one_prev set d o p h k
one_day_observed (Shift n) set d o p h k = one_prev set d o p h k
one_day_observed (Lookback n) set d o p h k =
    let same = one_prev set d h.0 k.0 h.1 k.1 in
    one_moved (back n) set k.0 o p
    (subst (λ (q : ℤ). Rattle.irs_adjust.specs.MovedDays.Moves (back n) set q o) same h.2) k.2
one_day_observed (Lockout n) set d o p h k = one_prev set d o p h k

same_weight : (d e : ℤ) (v w : ℕ) (z : ℤ) → d ≡ e → d +ℤ pos v ≡ z → e +ℤ pos w ≡ z → v ≡ w
same_weight d e v w z same h k = omega (arith, signed_arith, same, h, k)

same_fields : (o p : Observation) → o.day ≡ p.day → o.weight ≡ p.weight → o.observed ≡ p.observed → o ≡ p
same_fields o p day weight observed =
    let a : o ≡ record { day = p.day; weight = o.weight; observed = o.observed } =
    ap (λ (d : ℤ). record { day = d; weight = o.weight; observed = o.observed }) day in
    let b : record { day = p.day; weight = o.weight; observed = o.observed }
    ≡ record { day = p.day; weight = p.weight; observed = o.observed } =
    ap (λ (w : ℕ). record { day = p.day; weight = w; observed = o.observed }) weight in
    let c : record { day = p.day; weight = p.weight; observed = o.observed } ≡ p =
    ap (λ (d : ℤ). record { day = p.day; weight = p.weight; observed = d }) observed in
    a ∙ b ∙ c

one_observation : (offset : ObservationOffset) (set : DaySet) (u : List ℤ) (b : ℤ) (k : ℕ) (o p : Observation)
    → IsObservation offset set u b k o → IsObservation offset set u b k p → o ≡ p
one_observation offset set u b k o p h j =
    let day : o.day ≡ p.day = h.day ∙ sym j.day in
    let weight = same_weight o.day p.day o.weight p.weight (member_or_end u b (k + 1)) day h.weight j.weight in
    let observed = one_day_observed offset set (day_at u (place_observed offset (length u) k)) o.observed p.observed
    h.observed j.observed in
    same_fields o p day weight observed

one_observed : (offset : ObservationOffset) (set : DaySet) (u : List ℤ) (b : ℤ) (os ps : List Observation)
    → AreObserved offset set u b os → AreObserved offset set u b ps → os ≡ ps
one_observed offset set u b os ps h k =
    one_numbered (IsObservation offset set u b) (one_observation offset set u b) 0 os ps (h.many ∙ sym k.many) h.each
    k.each

-- a period has one list of observations
pub one_observations : (p : ObservedPeriod) (os ps : List Observation) → AreObservations p os → AreObservations p ps
    → os ≡ ps
one_observations p os ps h k =
    let start = one_start p h.from h.to k.from k.to h.period k.period in
    let end = one_end p h.from h.to k.from k.to h.period k.period in
    let are : AreMembers p.days k.from k.to h.members =
    subst (λ (x : ℤ). AreMembers p.days k.from x h.members) end
    (subst (λ (x : ℤ). AreMembers p.days x h.to h.members) start h.are_members) in
    let members = one_members p.days k.from k.to h.members k.members are k.are_members in
    let observed : AreObserved p.offset p.days k.members k.to os =
    subst (λ (x : ℤ). AreObserved p.offset p.days k.members x os) end
    (subst (λ (u : List ℤ). AreObserved p.offset p.days u h.to os) members h.observed) in
    one_observed p.offset p.days k.members k.to os ps observed k.observed

one_reason : (p : ObservedPeriod) (f g : NoObservations) → First reported_before (LacksObservations p) f
    → First reported_before (LacksObservations p) g → f ≡ g
one_reason p FewMembers FewMembers h k = refl
one_reason p FewMembers NoDay h k = let e = k.1 FewMembers h.0 in absurd (cc)
one_reason p NoDay FewMembers h k = let e = h.1 FewMembers k.0 in absurd (cc)
one_reason p NoDay NoDay h k = refl

-- ---- there is one of them

found_shift : (offset : ObservationOffset) (set : DaySet) (d : ℤ) → IsFound (Shifts offset set d)
found_shift Absent set d = inl (d, refl)
found_shift (Shift n) set d = decides_moves (back n) set d
found_shift (Lookback n) set d = inl (d, refl)
found_shift (Lockout n) set d = inl (d, refl)

found_observed : (offset : ObservationOffset) (set : DaySet) (d : ℤ) → IsFound (ObservesOn offset set d)
found_observed Absent set d = decides_prev set d
found_observed (Shift n) set d = decides_prev set d
found_observed (Lookback n) set d = elim (decides_prev set d) [
  | inl prev ↦ elim (decides_moves (back n) set prev.0) [
    | inl moved ↦ inl (moved.0, (prev.0, prev.1, moved.1))
    | inr none ↦ inr (λ o h.
        let same = one_prev set d h.0 prev.0 h.1 prev.1 in
        none o (subst (λ (q : ℤ). Rattle.irs_adjust.specs.MovedDays.Moves (back n) set q o) same h.2))
  ]
  | inr none ↦ inr (λ o h. none h.0 h.1)
]
found_observed (Lockout n) set d = decides_prev set d

-- a day leaves the cover, or none does
decides_leaves : (set : DaySet) (a b : ℤ) → IsDecided (LeavesCover set a b)
decides_leaves set a b = elim (decides_le b a) [
  | inl empty ↦ inr (λ h. let low = h.from in let high = h.to in omega (arith, signed_arith, low, high, empty))
  | inr some ↦ elim (order_of a b) [
    | inl order ↦ elim (decides_in_cover set a) [
      | inr outside ↦ inl (record {
        day = a;
        from = omega (arith, signed_arith);
        to = order;
        outside = outside;
      })
      | inl first ↦ elim (decides_in_cover set (b -ℤ pos 1)) [
        | inr outside ↦ inl (record {
          day = b -ℤ pos 1;
          from = omega (arith, signed_arith, order);
          to = omega (arith, signed_arith);
          outside = outside;
        })
        | inl last ↦ inr (λ h.
            let low = h.from in
            let high = h.to in
            let from = first.from in
            let to = last.to in
            h.outside (record {
              from = omega (arith, signed_arith, low, from);
              to = omega (arith, signed_arith, high, to);
            }))
      ]
    ]
    | inr (inl above) ↦ absurd (some (omega (arith, signed_arith, above)))
    | inr (inr same) ↦ absurd (some (omega (arith, signed_arith, same)))
  ]
]

-- the next member after a day, or the end
record NextOrEnd (set : DaySet) (b day r : ℤ) : Type 0 where
  after : day <ℤ r
  good : r <ℤ b → IsGood set r
  none : (x : ℤ) → day <ℤ x → x <ℤ r → IsGood set x → ⊥

module _ (set : DaySet) (a b : ℤ) (covered : LeavesCover set a b → ⊥) where
  next_or_end : (day : ℤ) → a ≤ℤ day → day <ℤ b → (r : ℤ) × NextOrEnd set b day r
  next_or_end day low open_day = elim (decides_next set (day +ℤ pos 1)) [
    | inl found ↦ elim (order_of found.0 b) [
      | inl inside ↦
          let after = found.1.after in (
            found.0,
            record {
              after = omega (arith, signed_arith, after);
              good = λ h. found.1.good;
              none = λ x from to. found.1.none_before x (omega (arith, signed_arith, from)) to;
            },
          )
      | inr past ↦ (
        b,
        record {
          after = open_day;
          good = λ h. absurd (omega (arith, signed_arith, h));
          none = λ x from to. found.1.none_before x (omega (arith, signed_arith, from)) (elim past [
            | inl beyond ↦ omega (arith, signed_arith, to, beyond)
            | inr same ↦ omega (arith, signed_arith, to, same)
          ]);
        },
      )
    ]
    | inr nothing ↦ (
      b,
      record {
        after = open_day;
        good = λ h. absurd (omega (arith, signed_arith, h));
        none = λ x from to. none_good set a b (day +ℤ pos 1) x covered (omega (arith, signed_arith, low))
            (omega (arith, signed_arith, from)) to nothing;
      },
    )
  ]

  members_from : (n : ℕ) (u : List ℤ) (day : ℤ) → ListsTo set a b u day → b ≤ℤ (day +ℤ pos n)
      → (v : List ℤ) × AreMembers set a b v
  members_from zero u day to enough = (u, lists_all set a b u day to (omega (arith, signed_arith, enough)))
  members_from (suc n) u day to enough = elim (decides_le b day) [
    | inl past ↦ (u, lists_all set a b u day to past)
    | inr more ↦
        let open_day : day <ℤ b = elim (order_of day b) [
          | inl below ↦ below
          | inr (inl above) ↦ absurd (more (omega (arith, signed_arith, above)))
          | inr (inr same) ↦ absurd (more (omega (arith, signed_arith, same)))
        ] in
        let next = next_or_end day to.low open_day in
        let after = next.1.after in
        members_from n (u ++ day ∷ []) next.0
        (lists_more set a b u day next.0 to open_day next.1.after next.1.good next.1.none)
        (omega (arith, signed_arith, enough, after))
  ]

  members_there : (u : List ℤ) × AreMembers set a b u
  members_there = elim (decides_le b a) [
    | inl empty ↦ members_from 0 [] a (lists_none set a b) (omega (arith, signed_arith, empty))
    | inr some ↦
        let order : a ≤ℤ b = elim (order_of a b) [
          | inl below ↦ omega (arith, signed_arith, below)
          | inr (inl above) ↦ absurd (some (omega (arith, signed_arith, above)))
          | inr (inr same) ↦ omega (arith, signed_arith, same)
        ] in
        let n = distance a b order in
        let is = n.1 in
        members_from n.0 [] a (lists_none set a b) (omega (arith, signed_arith, is))
  ]

module _ (offset : ObservationOffset) (set : DaySet) (u : List ℤ) where
  -- the observation day that the member at a place takes
  abbrev Takes : ℕ → ℤ → Type 0
  Takes k o = ObservesOn offset set (day_at u (place_observed offset (length u) k)) o

  all_take : (m : ℕ)
      → ((k : ℕ) → k < m → (o : ℤ) × Takes k o) ⊎ ((k : ℕ) × (k < m) × ((o : ℤ) → Takes k o → ⊥))
  all_take zero = inl (λ k h. absurd (omega (arith, h)))
  all_take (suc m) = elim (all_take m) [
    | inr none ↦ let low = none.1 in inr (none.0, omega (arith, low), none.2)
    | inl before ↦ elim (found_observed offset set (day_at u (place_observed offset (length u) m))) [
      | inr none ↦ inr (m, omega arith, none)
      | inl found ↦ inl (λ k h. elim (cases_lt k m) [
        | inl less ↦ before k less
        | inr more ↦
            let e : m ≡ k = omega (arith, h, more) in
            subst (λ (j : ℕ). (o : ℤ) × Takes j o) e found
      ])
    ]
  ]

  module _ (q b : ℤ) (walk : IsWalk set q u b) where
    observation_there : (k : ℕ) → k < length u → (o : ℤ) × Takes k o → (o : Observation) × IsObservation offset set u b k o
    observation_there k low takes =
        let rises = walk.rises k low in
        let n = distance (day_at u k) (member_or_end u b (k + 1)) (omega (arith, signed_arith, rises)) in (
          record { day = day_at u k; weight = n.0; observed = takes.0 },
          record { day = refl; weight = sym n.1; observed = takes.1 },
        )

    observed_there : ((k : ℕ) → k < length u → (o : ℤ) × Takes k o)
        → (os : List Observation) × AreObserved offset set u b os
    observed_there all =
        let there = numbered_there (IsObservation offset set u b) (length u) 0
        (λ k low high. let below : k < length u = omega (arith, high) in observation_there k below (all k below)) in
        (there.0, record { many = there.1; each = there.2 })

-- a period has observations, or there is a first reason why it has none
abbrev ThereOrReason : ObservedPeriod → Type 0
ThereOrReason p =
    (((f : NoObservations) × First reported_before (LacksObservations p) f) ⊎ ((f : NoObservations) → LacksObservations p f → ⊥))
    × (((f : NoObservations) → LacksObservations p f → ⊥) → (os : List Observation) × AreObservations p os)

-- a reason is the first
refused_with : (p : ObservedPeriod) (f : NoObservations) → First reported_before (LacksObservations p) f → ThereOrReason p
refused_with p f first = (inl (f, first), λ none. absurd (none f first.0))

module _ (p : ObservedPeriod) (a b : ℤ) (period : IsObservationPeriod p a b) (covered : LeavesCover p.days a b → ⊥)
    (u : List ℤ) (are : AreMembers p.days a b u) (enough : lockout_days p.offset < length u) where
  some_members : 0 < length u
  some_members = omega (arith, enough)

  place_low : (k : ℕ) → place_observed p.offset (length u) k < length u
  place_low k = omega (arith, some_members)

  with_first : (q : ℤ) → Prev p.days a q → ThereOrReason p
  with_first q prev =
      let walk = walk_of p.days a b u are q covered prev some_members in
      elim (all_take p.offset p.days u (length u)) [
        | inr none ↦
            let at = place_observed p.offset (length u) none.0 in
            refused_with p NoDay
            (refused_member p a b period covered u are enough (day_at u at)
            (member_at p.days a b u are at (place_low none.0)) none.2)
        | inl all ↦
            let there = observed_there p.offset p.days u q b walk all in
            let os : AreObservations p there.0 =
            record { from = a; to = b; period = period; members = u; are_members = are; observed = there.1 } in
            let each = observes p.offset p.days q u b there.0 walk there.1 in
            (inr (none_lacks p a b period covered u are enough each), λ none. (there.0, os))
      ]

  -- without a business day at or before it, the first member has no observation day
  no_first : (offset : ObservationOffset) → ((q : ℤ) → Prev p.days a q → ⊥) → (o : ℤ) → ObservesOn offset p.days a o → ⊥
  no_first Absent none o h = none o h
  no_first (Shift n) none o h = none o h
  no_first (Lookback n) none o h = none h.0 h.1
  no_first (Lockout n) none o h = none o h

  -- the first member has no observation day
  pub refused_first : ((q : ℤ) → Prev p.days a q → ⊥) → First reported_before (LacksObservations p) NoDay
  refused_first none =
      let first = first_member p.days a b u are some_members in
      let is : IsPeriodMember p.days a b a =
      subst (λ (x : ℤ). IsPeriodMember p.days a b x) first (member_at p.days a b u are 0 some_members) in
      refused_member p a b period covered u are enough a is (no_first p.offset none)

  -- a member at a place that the observations take from has none
  pub refused_unseen : IsUnseen p.offset p.days u → First reported_before (LacksObservations p) NoDay
  refused_unseen none =
      let at = place_observed p.offset (length u) none.place in
      refused_member p a b period covered u are enough (day_at u at)
      (member_at p.days a b u are at (place_low none.place)) none.none

  module _ (q : ℤ) (prev : Prev p.days a q) where
    pub walks : IsWalk p.days q u b
    walks = walk_of p.days a b u are q covered prev some_members

    module _ (os : List Observation) (observed : AreObserved p.offset p.days u b os) where
      -- these are its observations, and nothing is lacking
      pub meets_all : (observations_of p).Answers os
      meets_all =
          let each = observes p.offset p.days q u b os walks observed in
          let is : AreObservations p os =
          record { from = a; to = b; period = period; members = u; are_members = are; observed = observed } in
          (none_lacks p a b period covered u are enough each, is)

      pub adds_all : AddsUp p os
      adds_all =
          let first = first_member p.days a b u are some_members in
          let total = adds_to p.offset p.days q u b walks os observed some_members in
          adds_up p a b os period (omega (arith, signed_arith, first, total))

      pub weights_all : IsDay a → IsDay b → HasWeights os
      weights_all from to =
          let first = first_member p.days a b u are some_members in
          let order = (member_at p.days a b u are 0 some_members).1 in
          has_weights p.offset p.days q u b walks os observed some_members order (subst IsDay (sym first) from) to

  with_members : ThereOrReason p
  with_members = elim (decides_prev p.days a) [
    | inl prev ↦ with_first prev.0 prev.1
    | inr none ↦ refused_with p NoDay (refused_first none)
  ]

with_period : (p : ObservedPeriod) (a b : ℤ) → IsObservationPeriod p a b → ThereOrReason p
with_period p a b period = elim (decides_leaves p.days a b) [
  | inl leaves ↦ refused_with p NoDay (refused_uncovered p a b period leaves)
  | inr covered ↦
      let members = members_there p.days a b covered in
      elim (cases_lt (lockout_days p.offset) (length members.0)) [
        | inl enough ↦ with_members p a b period covered members.0 members.1 enough
        | inr few ↦
            refused_with p FewMembers
            (refused_few p a b period covered members.0 members.1 (omega (arith, few)))
      ]
]

there_or_reason : (p : ObservedPeriod) → ThereOrReason p
there_or_reason p = elim (found_shift p.offset p.days p.start) [
  | inr none ↦ refused_with p NoDay (refused_period p (λ a b h. none a h.from))
  | inl from ↦ elim (found_shift p.offset p.days p.end) [
    | inr none ↦ refused_with p NoDay (refused_period p (λ a b h. none b h.to))
    | inl to ↦ with_period p from.0 to.0 (record { from = from.1; to = to.1 })
  ]
]

-- a calculation period has one outcome
pub observations_determined : (p : ObservedPeriod) → Determined (observations_of p)
observations_determined p =
    let there = there_or_reason p in
    unless_broken_determined reported_before (LacksObservations p) (AreObservations p) there.0 there.1 (one_observations p)
    (one_reason p)
