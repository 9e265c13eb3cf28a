-- The days of the regular span between the two ends of the term, as one list.
use Rattle.std.proofs.Common.{◌≡◌, ◌⊎◌, ◌↔◌, inl, inr, ⊎_elim, Bool, true, false, is_lt, int_cmp, List, [], ◌∷◌, ◌++◌}
use Rattle.std.proofs.Common.{ℤ, ◌<ℤ◌, ◌≤ℤ◌, refl, sym, subst, ◌∙◌, arith, append-nil}
use Rattle.jiff_core.proofs.SignedLemmas.{signed_arith}
use Rattle.irs_base.specs.Lists.{Member, AllAfter, Lists}
use Rattle.irs_base.proofs.Rising.{member_old, member_new, member_cases, rising_push, one_rising}
use Rattle.irs_periods.specs.Boundaries.{OnSpan, IsBoundaryBy}
use Rattle.irs_periods.specs.Private.Spans.{where_before}

all_after : (e : ℤ) (xs : List ℤ) → ((d : ℤ) → Member d xs → e <ℤ d) → AllAfter e xs
all_after e [] h = tt
all_after e (x ∷ xs) h = (h x (inl refl), all_after e xs (λ d m. h d (inr m)))

lists_cons : (P : ℤ → Type 0) (e : ℤ) (xs : List ℤ) → Lists P xs → ((d : ℤ) → P d → e <ℤ d)
    → Lists (λ d. (d ≡ e) ⊎ P d) (e ∷ xs)
lists_cons P e xs l before = record {
  rising = (all_after e xs (λ d m. before d (l.sound d m)), l.rising);
  sound = λ d m. ⊎_elim inl (λ there. inr (l.sound d there)) m;
  complete = λ d m. ⊎_elim inl (λ there. inr (l.complete d there)) m;
}

lists_push : (P : ℤ → Type 0) (t : ℤ) (xs : List ℤ) → Lists P xs → ((d : ℤ) → P d → d <ℤ t)
    → Lists (λ d. P d ⊎ (d ≡ t)) (xs ++ t ∷ [])
lists_push P t xs l after = record {
  rising = rising_push t xs l.rising (λ d m. after d (l.sound d m));
  sound = λ d m. ⊎_elim (λ old. inl (l.sound d old)) inr (member_cases d t xs m);
  complete = λ d m. ⊎_elim (λ old. member_old d t xs (l.complete d old)) (λ new. rw new (member_new t xs)) m;
}

-- the list of a set is that of every set with the same members
pub lists_same : (P Q : ℤ → Type 0) (xs : List ℤ) → ((d : ℤ) → P d → Q d) → ((d : ℤ) → Q d → P d) → Lists P xs
    → Lists Q xs
lists_same P Q xs there back l = record {
  rising = l.rising;
  sound = λ d m. there d (l.sound d m);
  complete = λ d q. l.complete d (back d q);
}

-- a set of days has one list
pub one_list : (P : ℤ → Type 0) (a b : List ℤ) → Lists P a → Lists P b → a ≡ b
one_list P a b la lb =
    one_rising a b la.rising lb.rising (λ d m. lb.complete d (la.sound d m)) (λ d m. la.complete d (lb.sound d m))

-- the list where a comes before b, and where it doesn't
pub before_cases : (a b d : ℤ) → ((a <ℤ b) × (where_before a b d ≡ d ∷ [])) ⊎ ((b ≤ℤ a) × (where_before a b d ≡ []))
before_cases a b d = by_test (is_lt (int_cmp a b)) refl
  where
    by_test : (t : Bool) → is_lt (int_cmp a b) ≡ t
        → ((a <ℤ b) × (where_before a b d ≡ d ∷ [])) ⊎ ((b ≤ℤ a) × (where_before a b d ≡ []))
    by_test true e = inl (grind (arith, signed_arith), rw e refl)
    by_test false e = inr (grind (arith, signed_arith), rw e refl)

module _ (on : ℤ → Type 0) (e t first last : ℤ) (mid : List ℤ) (before : e ≤ℤ first) (order : first ≤ℤ last)
    (after : last ≤ℤ t) (ends : e <ℤ t) (on_first : on first) (on_last : on last)
    (l : Lists (OnSpan on first last) mid) where
  with_front : Lists (λ d. (d ≡ e) ⊎ OnSpan on first last d) (where_before e first e ++ mid)
  with_front = elim (before_cases e first e) [
    | inl apart ↦
        rw apart.1 (lists_cons (OnSpan on first last) e mid l (λ d s. omega (arith, signed_arith, apart.0, s.0)))
    | inr here ↦
        let same : e ≡ first = omega (arith, signed_arith, here.0, before) in
        rw here.1 (lists_same (OnSpan on first last) (λ d. (d ≡ e) ⊎ OnSpan on first last d) mid
        (λ d s. inr s)
        (λ d m. ⊎_elim (λ at_e. subst (OnSpan on first last) (sym (at_e ∙ same)) (
          omega (arith, signed_arith),
          order,
          on_first,
        )) (λ s. s) m) l)
  ]

  -- the grid days of the span, with the ends of the term where they lie outside it, are the boundaries
  pub assembled : Lists (IsBoundaryBy on e t first last) ((where_before e first e ++ mid) ++ where_before last t t)
  assembled =
      let P : ℤ → Type 0 = λ d. (d ≡ e) ⊎ OnSpan on first last d in
      let xs : List ℤ = where_before e first e ++ mid in
      elim (before_cases last t t) [
        | inl apart ↦
            rw apart.1 (lists_same (λ d. P d ⊎ (d ≡ t)) (IsBoundaryBy on e t first last) (xs ++ t ∷ [])
            (λ d m. ⊎_elim (λ p. ⊎_elim (λ x. inl x) (λ s. inr (inr s)) p) (λ x. inr (inl x)) m)
            (λ d m. ⊎_elim (λ x. inl (inl x)) (λ n. ⊎_elim (λ x. inr x) (λ s. inl (inr s)) n) m)
            (lists_push P t xs with_front
            (λ d p. ⊎_elim (λ x. subst (λ (z : ℤ). z <ℤ t) (sym x) ends)
            (λ s. omega (arith, signed_arith, apart.0, s.1)) p)))
        | inr here ↦
            let same : t ≡ last = omega (arith, signed_arith, here.0, after) in
            rw (here.1, append-nil xs) (lists_same P (IsBoundaryBy on e t first last) xs
            (λ d p. ⊎_elim (λ x. inl x) (λ s. inr (inr s)) p)
            (λ d m. ⊎_elim (λ x. inl x)
            (λ n. ⊎_elim (λ x. inr (subst (OnSpan on first last) (sym (x ∙ same)) (
              order,
              omega (arith, signed_arith),
              on_last,
            ))) (λ s. inr s) n) m)
            with_front)
      ]

boundary_same : (p q : ℤ → Type 0) → ((d : ℤ) → p d → q d) → (e t first last d : ℤ) → IsBoundaryBy p e t first last d
    → IsBoundaryBy q e t first last d
boundary_same p q f e t first last d b =
    ⊎_elim (λ x. inl x) (λ n. ⊎_elim (λ x. inr (inl x)) (λ s. inr (inr (s.0, s.1, f d s.2))) n) b

-- the same grid gives the same boundaries
pub same_boundaries : (p q : ℤ → Type 0) → ((d : ℤ) → p d ↔ q d) → (e t first last : ℤ) (b : List ℤ)
    → Lists (IsBoundaryBy p e t first last) b → Lists (IsBoundaryBy q e t first last) b
same_boundaries p q same e t first last b l =
    lists_same (IsBoundaryBy p e t first last) (IsBoundaryBy q e t first last) b
    (λ d m. boundary_same p q (λ x. (same x).0) e t first last d m)
    (λ d m. boundary_same q p (λ x. (same x).1) e t first last d m) l
