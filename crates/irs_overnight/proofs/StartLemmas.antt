-- The days from which daily rates hold, found day by day.
use Rattle.std.proofs.Common.{◌≡◌, inl, inr, ℕ, ◌+◌, ◌≤◌, List, [], ◌∷◌, ◌++◌, ℤ, pos, ◌+ℤ◌, ◌-ℤ◌, ◌<ℤ◌, ◌≤ℤ◌, sym}
use Rattle.std.proofs.Common.{subst, arith, Bool, false, IsTrue}
use Rattle.jiff_core.proofs.SignedLemmas.{signed_arith}
use Rattle.irs_base.specs.Lists.{Member}
use Rattle.irs_base.proofs.Decided.{order_of}
use Rattle.irs_base.proofs.Rising.{member_cases, member_new, member_old, one_rising, rising_push}
use Rattle.irs_calendar.specs.GoodDays.{DaySet, IsGood}
use Rattle.irs_observed.specs.Observations.{LeavesCover}
use Rattle.irs_overnight.specs.Observations.{AreStarts}

-- what is false isn't true
pub is_not : (b : Bool) → b ≡ false → IsTrue b → ⊥
is_not b p q = cc (p, q)

-- there is one list of starts
pub one_starts : (set : DaySet) (s e : ℤ) (u v : List ℤ) → AreStarts set s e u → AreStarts set s e v → u ≡ v
one_starts set s e u v p q =
    one_rising u v p.rising q.rising (λ d m. q.complete d (p.sound d m)) (λ d m. p.complete d (q.sound d m))

-- a period of one day has its first day as its only start
pub starts_one : (set : DaySet) (s : ℤ) → AreStarts set s (s +ℤ pos 1) (s ∷ [])
starts_one set s = record {
  rising = (tt, tt);
  sound = λ d m. elim m [ inl here ↦ inl here | inr none ↦ absurd none ];
  complete = λ d h. elim h [
    | inl here ↦ inl here
    | inr later ↦
        absurd (let low = later.0 in let high = later.1 in omega (arith, signed_arith, low, high))
  ];
}

module _ (set : DaySet) (s : ℤ) (k : ℕ) (u : List ℤ) (some : 1 ≤ k) (are : AreStarts set s (s +ℤ pos k) u) where
  -- of a period that is a day longer, which is good
  pub starts_good : IsGood set (s +ℤ pos k) → AreStarts set s (s +ℤ pos (k + 1)) (u ++ (s +ℤ pos k) ∷ [])
  starts_good good =
      let day : ℤ = s +ℤ pos k in
      record {
        rising = rising_push day u are.rising (λ d m. elim (are.sound d m) [
          | inl first ↦ omega (arith, signed_arith, first, some)
          | inr later ↦ later.1
        ]);
        sound = λ d m. elim (member_cases d day u m) [
          | inl old ↦ elim (are.sound d old) [
            | inl first ↦ inl first
            | inr later ↦ let high = later.1 in inr (later.0, omega (arith, signed_arith, high), later.2)
          ]
          | inr new ↦ inr (
            omega (arith, signed_arith, new, some),
            omega (arith, signed_arith, new),
            subst (λ (x : ℤ). IsGood set x) (sym new) good,
          )
        ];
        complete = λ d h. elim h [
          | inl first ↦ member_old d day u (are.complete d (inl first))
          | inr later ↦ elim (order_of d day) [
            | inl below ↦ member_old d day u (are.complete d (inr (later.0, below, later.2)))
            | inr rest ↦ elim rest [
              | inl above ↦ absurd (let high = later.1 in omega (arith, signed_arith, high, above))
              | inr same ↦ subst (λ (x : ℤ). Member x (u ++ day ∷ [])) (sym same) (member_new day u)
            ]
          ]
        ];
      }

  -- one more day that isn't a good business day adds no start
  pub starts_bad : (IsGood set (s +ℤ pos k) → ⊥) → AreStarts set s (s +ℤ pos (k + 1)) u
  starts_bad bad =
      let day : ℤ = s +ℤ pos k in
      record {
        rising = are.rising;
        sound = λ d m. elim (are.sound d m) [
          | inl first ↦ inl first
          | inr later ↦ let high = later.1 in inr (later.0, omega (arith, signed_arith, high), later.2)
        ];
        complete = λ d h. elim h [
          | inl first ↦ are.complete d (inl first)
          | inr later ↦ elim (order_of d day) [
            | inl below ↦ are.complete d (inr (later.0, below, later.2))
            | inr rest ↦ elim rest [
              | inl above ↦ absurd (let high = later.1 in omega (arith, signed_arith, high, above))
              | inr same ↦ absurd (bad (subst (λ (x : ℤ). IsGood set x) same later.2))
            ]
          ]
        ];
      }

-- ---- the cover

module _ (set : DaySet) (s e : ℤ) (order : s <ℤ e) where
  -- the period starts before the cover
  pub leaves_before : s <ℤ set.first → LeavesCover set s e
  leaves_before low =
      record {
        day = s;
        from = omega (arith, signed_arith);
        to = order;
        outside = λ h. let from = h.from in
            omega (arith, signed_arith, from, low);
      }

  -- it ends after the cover
  pub leaves_past : (set.last +ℤ pos 1) <ℤ e → LeavesCover set s e
  leaves_past high = record {
    day = e -ℤ pos 1;
    from = omega (arith, signed_arith, order);
    to = omega (arith, signed_arith);
    outside = λ h. let to = h.to in omega (arith, signed_arith, to, high);
  }

  -- a period that starts in the cover and leaves it ends after it
  pub past_if : set.first ≤ℤ s → LeavesCover set s e → (set.last +ℤ pos 1) <ℤ e
  past_if first h =
      let from = h.from in
      let to = h.to in
      elim (order_of (set.last +ℤ pos 1) e) [
        | inl past ↦ past
        | inr (inl inside) ↦
            absurd (h.outside (record {
              from = omega (arith, signed_arith, first, from);
              to =
                  omega (arith, signed_arith, to, inside);
            }))
        | inr (inr last) ↦
            absurd (h.outside (record {
              from = omega (arith, signed_arith, first, from);
              to =
                  omega (arith, signed_arith, to, last);
            }))
      ]
