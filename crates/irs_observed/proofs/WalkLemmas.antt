-- What the members of an observation period are one after another, and their observation days.
use Rattle.std.proofs.Common.{◌≡◌, inl, inr, ℕ, zero, suc, ◌+◌, ◌-◌, ◌<◌, ◌≤◌, min, List, length, ℤ, pos, negsuc, ◌-ℤ◌, ◌<ℤ◌, ◌≤ℤ◌}
use Rattle.std.proofs.Common.{refl, sym, subst, ap, arith, add-one, Option, Some, None, IfSome, IfNone, false, ◌==◌}
use Rattle.std.proofs.lemmas.Bool.Decides.{nat_tests}
use Rattle.jiff_core.proofs.SignedLemmas.{signed_arith}
use Rattle.irs_base.specs.Lists.{day_at}
use Rattle.irs_base.proofs.Decided.{order_of}
use Rattle.irs_calendar.specs.GoodDays.{DaySet, InCover, IsGood, Prev}
use Rattle.irs_adjust.specs.Private.ConventionLaws.{one_prev, prev_stays}
use Rattle.irs_adjust.specs.declared.ways.Way.TheVariants.{Back}
use Rattle.irs_adjust.proofs.WayLemmas.{Reached, moved, reached_more, reached_none}
use Rattle.irs_observed.specs.Observations.{MovesBack, AreMembers, IsPeriodMember, LeavesCover}
use Rattle.irs_observed.specs.Private.OvernightRates.{IsWalk, LooksBack, good_at}
use Rattle.irs_observed.proofs.ListLemmas.{at_member, at_or_end, first_lowest, member_place, none_between}
use Rattle.irs_observed.proofs.ListLemmas.{rises_to}
use Rattle.irs_observed.proofs.MemberLemmas.{covered_day}

not_zero : (k : ℕ) → (suc k == 0) ≡ false
not_zero k = grind (arith, nat_tests)

-- of a later member it is the member
pub good_later : (q : ℤ) (u : List ℤ) (k : ℕ) → good_at q u (suc k) ≡ day_at u (suc k)
good_later q u k = rw (not_zero k) refl

module _ (set : DaySet) (a b : ℤ) (u : List ℤ) (are : AreMembers set a b u) where
  pub member_at : (k : ℕ) → k < length u → IsPeriodMember set a b (day_at u k)
  member_at k h = are.sound (day_at u k) (at_member u k h)

  first_by : (k : ℕ) → k < length u → a ≡ day_at u k → a ≤ℤ day_at u 0 → day_at u 0 ≡ a
  first_by zero h is low = sym is
  first_by (suc k) h is low =
      let later = first_lowest u k are.rising h in
      absurd (omega (arith, signed_arith, later, is, low))

  -- the first member is the first day
  pub first_member : 0 < length u → day_at u 0 ≡ a
  first_member some =
      let first = member_at 0 some in
      let low = first.0 in
      let high = first.1 in
      let here : IsPeriodMember set a b a =
      (omega (arith, signed_arith), omega (arith, signed_arith, low, high), inl refl) in
      let at = member_place a u (are.complete a here) in
      first_by at.0 at.1 at.2 low

  -- every later one is good
  later_good : (k : ℕ) → suc k < length u → IsGood set (day_at u (suc k))
  later_good k h =
      let some : 0 < length u = omega (arith, h) in
      let first = first_member some in
      let later = first_lowest u k are.rising h in
      elim (member_at (suc k) h).2 [
        | inl same ↦ absurd (omega (arith, signed_arith, same, first, later))
        | inr good ↦ good
      ]

  pub good_member : (k : ℕ) → 0 < k → k < length u → IsGood set (day_at u k)
  good_member zero some h = absurd (omega (arith, some))
  good_member (suc k) some h = later_good k h

  -- between two members there is no business day
  none_good_between : (k : ℕ) (x : ℤ) → suc k < length u → day_at u k <ℤ x → x <ℤ day_at u (suc k) → IsGood set x → ⊥
  none_good_between k x h low high good =
      let before = (member_at k (omega (arith, h))).0 in
      let after = (member_at (suc k) h).1 in
      let is : IsPeriodMember set a b x =
      (omega (arith, signed_arith, before, low), omega (arith, signed_arith, high, after), inr good) in
      none_between u k x are.rising h low high (are.complete x is)

  module _ (q : ℤ) (covered : LeavesCover set a b → ⊥) (prev : Prev set a q) where
    day_before : (k : ℕ) → suc k < length u → InCover set (day_at u (suc k) -ℤ pos 1)
    day_before k h =
        let before = (member_at k (omega (arith, h))).0 in
        let rises = rises_to u b k are.rising (λ d m. (are.sound d m).1) (omega (arith, h)) in
        let next = at_or_end u b (suc k) h in
        let after = (member_at (suc k) h).1 in
        covered_day set a b (day_at u (suc k) -ℤ pos 1) covered
        (omega (arith, signed_arith, before, rises, next)) (omega (arith, signed_arith, after))

    before_first : 1 < length u → Prev set (day_at u 1 -ℤ pos 1) q
    before_first h =
        let some : 0 < length u = omega (arith, h) in
        let first = first_member some in
        let rises = first_lowest u 0 are.rising h in
        let back = prev.before in
        record {
          starts = day_before 0 h;
          before = omega (arith, signed_arith, first, rises, back);
          good = prev.good;
          none_after = λ x low high good. elim (order_of a x) [
            | inl later ↦
                none_good_between 0 x h (omega (arith, signed_arith, first, later)) (omega (arith, signed_arith, high)) good
            | inr (inl earlier) ↦ prev.none_after x low (omega (arith, signed_arith, earlier)) good
            | inr (inr same) ↦ prev.none_after x low (omega (arith, signed_arith, same)) good
          ];
        }

    before_later : (k : ℕ) → suc (suc k) < length u
        → Prev set (day_at u (suc (suc k)) -ℤ pos 1) (day_at u (suc k))
    before_later k h =
        let rises = rises_to u b (suc k) are.rising (λ d m. (are.sound d m).1) (omega (arith, h)) in
        let next = at_or_end u b (suc (suc k)) h in
        record {
          starts = day_before (suc k) h;
          before = omega (arith, signed_arith, rises, next);
          good = later_good k (omega (arith, h));
          none_after = λ x low high good.
              none_good_between (suc k) x h low (omega (arith, signed_arith, high)) good;
        }

    before_next : (k : ℕ) → suc k < length u → Prev set (day_at u (suc k) -ℤ pos 1) (good_at q u k)
    before_next zero h = before_first h
    before_next (suc k) h =
        subst (λ (x : ℤ). Prev set (day_at u (suc (suc k)) -ℤ pos 1) x) (sym (good_later q u k)) (before_later k h)

    -- the members rise, each later one is a business day, and none lies between two of them
    pub walk_of : 0 < length u → IsWalk set q u b
    walk_of some =
        let first = first_member some in
        record {
          rises = λ k h. rw add-one (rises_to u b k are.rising (λ d m. (are.sound d m).1) h);
          first = subst (λ (x : ℤ). Prev set x q) (sym first) prev;
          good = good_member;
          before = λ k h. rw add-one (before_next k (omega (arith, h)));
        }

module _ (set : DaySet) (q : ℤ) (u : List ℤ) (b : ℤ) (walk : IsWalk set q u b) where
  -- the last business day at or before the member at a place
  pub prev_at : (k : ℕ) → k < length u → Prev set (day_at u k) (good_at q u k)
  prev_at zero h = walk.first
  prev_at (suc k) h =
      subst (λ (x : ℤ). Prev set (day_at u (suc k)) x) (sym (good_later q u k))
      (prev_stays set (day_at u (suc k)) (walk.good (suc k) (omega arith) h))

  good_there : (k : ℕ) → k < length u → IsGood set (good_at q u k)
  good_there k h = (prev_at k h).good

  before_at : (k : ℕ) → suc k < length u → Prev set (good_at q u (suc k) -ℤ pos 1) (good_at q u k)
  before_at k h =
      let e : k + 1 ≡ suc k = omega arith in
      let later = subst (λ (j : ℕ). Prev set (day_at u j -ℤ pos 1) (good_at q u k)) e
      (walk.before k (omega (arith, h))) in
      subst (λ (x : ℤ). Prev set (x -ℤ pos 1) (good_at q u k)) (sym (good_later q u k)) later

  -- n places back is n business days back
  reached : (n k : ℕ) → n + k < length u → Reached Back set (good_at q u (n + k)) n (good_at q u k)
  reached zero k h =
      let e : 0 + k ≡ k = omega arith in
      let low : k < length u = omega (arith, h) in
      let none = reached_none Back set (good_at q u k) (good_there k low).inside in
      subst (λ (j : ℕ). Reached Back set (good_at q u j) 0 (good_at q u k)) (sym e) none
  reached (suc n) k h =
      let e : n + suc k ≡ suc n + k = omega arith in
      let before = reached n (suc k) (omega (arith, h)) in
      let far = reached_more Back set (good_at q u (n + suc k)) n (good_at q u (suc k)) (good_at q u k) before
      (before_at k (omega (arith, h))) in
      subst (λ (j : ℕ). Reached Back set (good_at q u j) (suc n) (good_at q u k)) e far

  moves_by : (n k : ℕ) → n + k < length u → MovesBack n set (good_at q u (n + k)) (good_at q u k)
  moves_by zero k h = inl (refl, ap (good_at q u) (let e : k ≡ 0 + k = omega arith in e))
  moves_by (suc n) k h =
      inr (
        λ none. absurd (apart none),
        moved Back set (good_at q u (suc n + k)) (suc n) (good_at q u k) (omega arith) (reached (suc n) k h)
            (good_there k (omega (arith, h))),
      )
    where
      apart : negsuc n ≡ pos 0 → ⊥
      apart e = cc

  -- the business day n places back is the member's, moved back by n
  pub looks_back : (n k : ℕ) → n ≤ k → k < length u → LooksBack n set (day_at u k) (good_at q u (k - n))
  looks_back n k low h =
      let e : n + (k - n) ≡ k = omega (arith, low) in
      let by = moves_by n (k - n) (omega (arith, low, h)) in
      (good_at q u k, prev_at k h, subst (λ (j : ℕ). MovesBack n set (good_at q u j) (good_at q u (k - n))) e by)

  -- if the member's business day cannot be moved back, a lookback gives no day
  pub looks_nowhere : (n k : ℕ) → k < length u → ((r : ℤ) → MovesBack n set (good_at q u k) r → ⊥) → (r : ℤ)
      → LooksBack n set (day_at u k) r → ⊥
  looks_nowhere n k h none r looks =
      let same = one_prev set (day_at u k) looks.0 (good_at q u k) looks.1 (prev_at k h) in
      none r (subst (λ (x : ℤ). MovesBack n set x r) same looks.2)

  -- the day to which the member's business day is moved back, if any
  pub looks_from : (n k : ℕ) → k < length u → (d : ℤ) → d ≡ good_at q u k → (found : Option ℤ)
      → IfSome found (MovesBack n set d) → IfSome found (LooksBack n set (day_at u k))
  looks_from n k h d is None moves = tt
  looks_from n k h d is (Some r) moves =
      (good_at q u k, prev_at k h, subst (λ (x : ℤ). MovesBack n set x r) is moves)

  pub looks_none : (n k : ℕ) → k < length u → (d : ℤ) → d ≡ good_at q u k → (found : Option ℤ)
      → IfNone found ((r : ℤ) → MovesBack n set d r → ⊥) → IfNone found ((r : ℤ) → LooksBack n set (day_at u k) r → ⊥)
  looks_none n k h d is (Some r) none = tt
  looks_none n k h d is None none =
      looks_nowhere n k h (λ r moves. none r (subst (λ (x : ℤ). MovesBack n set x r) (sym is) moves))

-- without a lockout each member takes its own observation day
pub own_place : (count k : ℕ) → k < count → min k (count - 1 - 0) ≡ k
own_place count k h = omega (arith, h)
