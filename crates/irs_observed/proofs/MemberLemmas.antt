-- The members of an observation period, found one after another.
use Rattle.std.proofs.Common.{◌≡◌, ◌⊎◌, inl, inr, ℕ, zero, suc, List, [], ◌∷◌, ◌++◌, ℤ, pos, ◌+ℤ◌, ◌-ℤ◌, ◌<ℤ◌, ◌≤ℤ◌, refl, sym}
use Rattle.std.proofs.Common.{subst, arith, ◌-◌, ◌+◌}
use Rattle.jiff_core.proofs.SignedLemmas.{signed_arith}
use borrow.Author.Differences.{up, down}
use Rattle.irs_base.specs.Lists.{Lists, Member}
use Rattle.irs_base.proofs.Decided.{order_of}
use Rattle.irs_base.proofs.Rising.{member_cases, member_new, member_old, one_rising, rising_push}
use Rattle.irs_calendar.specs.GoodDays.{DaySet, InCover, IsGood, Next}
use Rattle.irs_adjust.specs.Private.ConventionLaws.{next_stays}
use Rattle.irs_adjust.proofs.FoundDays.{decides_good, decides_in_cover}
use Rattle.irs_observed.specs.Observations.{AreMembers, IsPeriodMember, LeavesCover}

-- there is one list of members
pub one_members : (set : DaySet) (a b : ℤ) (u v : List ℤ) → AreMembers set a b u → AreMembers set a b v → u ≡ v
one_members set a b u v p q =
    one_rising u v p.rising q.rising (λ d m. q.complete d (p.sound d m)) (λ d m. p.complete d (q.sound d m))

-- where no day leaves the cover each is in it
pub covered_day : (set : DaySet) (a b d : ℤ) → (LeavesCover set a b → ⊥) → a ≤ℤ d → d <ℤ b → InCover set d
covered_day set a b d covered low high = elim (decides_in_cover set d) [
  | inl inside ↦ inside
  | inr outside ↦ absurd (covered (record { day = d; from = low; to = high; outside = outside }))
]

-- nor does one leave it from a later day on
pub covered_from : (set : DaySet) (a b d : ℤ) → (LeavesCover set a b → ⊥) → a ≤ℤ d → LeavesCover set d b → ⊥
covered_from set a b d covered low h =
    covered (record {
      day = h.day;
      from = let from = h.from in omega (arith, signed_arith, low, from);
      to = h.to;
      outside =
          h.outside;
    })

-- if a later day is a business day, there is a next business day
next_by : (set : DaySet) (n : ℕ) (d : ℤ) → InCover set d → IsGood set (d +ℤ pos n) → (r : ℤ) × Next set d r
next_by set zero d inside good =
    let same : d +ℤ pos 0 ≡ d = omega (arith, signed_arith) in
    (d, next_stays set d (subst (IsGood set) same good))
next_by set (suc n) d inside good = elim (decides_good set d inside) [
  | inl here ↦ (d, next_stays set d here)
  | inr bad ↦
      let same : d +ℤ pos (suc n) ≡ (d +ℤ pos 1) +ℤ pos n = omega (arith, signed_arith) in
      let from = inside.from in
      let to = good.inside.to in
      let on : InCover set (d +ℤ pos 1) =
      record { from = omega (arith, signed_arith, from); to = omega (arith, signed_arith, to) } in
      let rest = next_by set n (d +ℤ pos 1) on (subst (IsGood set) same good) in
      let next = rest.1 in
      let after = next.after in (
        rest.0,
        record {
          starts = inside;
          after = omega (arith, signed_arith, after);
          good = next.good;
          none_before = λ x low high g. elim (order_of d x) [
            | inl later ↦ next.none_before x (omega (arith, signed_arith, later)) high g
            | inr (inl earlier) ↦ omega (arith, signed_arith, earlier, low)
            | inr (inr same) ↦ bad (subst (IsGood set) (sym same) g)
          ];
        },
      )
]

-- the distance from a day to a later one is a whole number of days
pub distance : (a b : ℤ) → a ≤ℤ b → (n : ℕ) × (b ≡ a +ℤ pos n)
distance a b h = (up b + down a - (down b + up a), omega (arith, signed_arith, h))

-- if there is no next business day, no later day is one
pub none_good : (set : DaySet) (a b d x : ℤ) → (LeavesCover set a b → ⊥) → a ≤ℤ d → d ≤ℤ x → x <ℤ b
    → ((r : ℤ) → Next set d r → ⊥) → IsGood set x → ⊥
none_good set a b d x covered low order high none good =
    let n = distance d x order in
    let inside = covered_day set a b d covered low (omega (arith, signed_arith, order, high)) in
    let found = next_by set n.0 d inside (subst (IsGood set) n.1 good) in
    none found.0 found.1

-- the members before a day are listed, and the day is a member itself or not before the end
pub record ListsTo (set : DaySet) (a b : ℤ) (u : List ℤ) (day : ℤ) : Type 0 where
  pub low : a ≤ℤ day
  pub here : day <ℤ b → (day ≡ a) ⊎ IsGood set day
  pub listed : Lists (λ d. IsPeriodMember set a b d × (d <ℤ day)) u

-- before the first day there is no member to list
pub lists_none : (set : DaySet) (a b : ℤ) → ListsTo set a b [] a
lists_none set a b = record {
  low = omega (arith, signed_arith);
  here = λ _. inl refl;
  listed = record {
    rising = tt;
    sound = λ d m. absurd m;
    complete = λ d h. let low = h.0.0 in let high = h.1 in absurd (omega (arith, signed_arith, low, high));
  };
}

module _ (set : DaySet) (a b : ℤ) (u : List ℤ) (day next : ℤ) (to : ListsTo set a b u day) (open_day : day <ℤ b)
    (after : day <ℤ next) (good : next <ℤ b → IsGood set next)
    (none : (x : ℤ) → day <ℤ x → x <ℤ next → IsGood set x → ⊥) where
  -- the day is a member
  is_member : IsPeriodMember set a b day
  is_member = (to.low, open_day, to.here open_day)

  sound_more : (d : ℤ) → Member d (u ++ day ∷ []) → IsPeriodMember set a b d × (d <ℤ next)
  sound_more d m = elim (member_cases d day u m) [
    | inl old ↦ let h = to.listed.sound d old in let high = h.1 in (h.0, omega (arith, signed_arith, high, after))
    | inr new ↦
        (subst (IsPeriodMember set a b) (sym new) is_member, omega (arith, signed_arith, new, after))
  ]

  complete_more : (d : ℤ) → IsPeriodMember set a b d × (d <ℤ next) → Member d (u ++ day ∷ [])
  complete_more d h = elim (order_of d day) [
    | inl below ↦ member_old d day u (to.listed.complete d (h.0, below))
    | inr (inl above) ↦ elim h.0.2 [
      | inl first ↦ absurd (let low = to.low in omega (arith, signed_arith, first, above, low))
      | inr fine ↦ absurd (none d above h.1 fine)
    ]
    | inr (inr same) ↦ subst (λ (x : ℤ). Member x (u ++ day ∷ [])) (sym same) (member_new day u)
  ]

  pub lists_more : ListsTo set a b (u ++ day ∷ []) next
  lists_more = record {
    low = let low = to.low in omega (arith, signed_arith, low, after);
    here = λ h. inr (good h);
    listed = record {
      rising = rising_push day u to.listed.rising (λ d m. (to.listed.sound d m).1);
      sound = sound_more;
      complete = complete_more;
    };
  }

-- once the end is reached, all members are listed
pub lists_all : (set : DaySet) (a b : ℤ) (u : List ℤ) (day : ℤ) → ListsTo set a b u day → b ≤ℤ day → AreMembers set a b u
lists_all set a b u day to past = record {
  rising = to.listed.rising;
  sound = λ d m. (to.listed.sound d m).0;
  complete = λ d h. let high = h.1 in to.listed.complete d (h, omega (arith, signed_arith, high, past));
}

-- ---- the cover

module _ (set : DaySet) (s e : ℤ) (order : s <ℤ e) where
  -- the period starts before the cover
  pub leaves_before : s <ℤ set.first → LeavesCover set s e
  leaves_before low =
      record {
        day = s;
        from = omega (arith, signed_arith);
        to = order;
        outside = λ h. let from = h.from in omega (arith, signed_arith, from, low);
      }

  -- it ends after the cover
  pub leaves_past : (set.last +ℤ pos 1) <ℤ e → LeavesCover set s e
  leaves_past high = record {
    day = e -ℤ pos 1;
    from = omega (arith, signed_arith, order);
    to = omega (arith, signed_arith);
    outside = λ h. let to = h.to in omega (arith, signed_arith, to, high);
  }

  -- a period that starts in the cover and leaves it ends after it
  pub past_if : set.first ≤ℤ s → LeavesCover set s e → (set.last +ℤ pos 1) <ℤ e
  past_if first h =
      let from = h.from in
      let to = h.to in
      elim (order_of (set.last +ℤ pos 1) e) [
        | inl past ↦ past
        | inr (inl inside) ↦
            absurd (h.outside (record {
              from = omega (arith, signed_arith, first, from);
              to = omega (arith, signed_arith, to, inside);
            }))
        | inr (inr last) ↦
            absurd (h.outside (record {
              from = omega (arith, signed_arith, first, from);
              to = omega (arith, signed_arith, to, last);
            }))
      ]

-- no day leaves the cover where there is no day
pub none_leave : (set : DaySet) (s e : ℤ) → e ≤ℤ s → LeavesCover set s e → ⊥
none_leave set s e empty h =
    let low = h.from in let high = h.to in omega (arith, signed_arith, low, high, empty)
