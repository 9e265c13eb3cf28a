-- One more period in the balance of a payment.
use Rattle.std.proofs.Common.{◌≡◌, ℕ, ℤ, ◌+◌, ◌-◌, ◌*◌, ◌<◌, ◌≤◌, ◌+ℤ◌, unsigned_abs, arith, refl, sym, ap, subst, ◌∙◌}
use Rattle.std.proofs.Common.{inl, inr, List, [], ◌∷◌, ◌++◌, length, take, get_or, Some, IsSomeAnd, All, slice_get}
use Rattle.std.specs.Prelude.{nat_lt}
use Rattle.std.proofs.lemmas.Bool.{cases_lt}
use Rattle.std.proofs.lemmas.List.{take_more, take_all}
use Rattle.std.proofs.lemmas.List.Elements.{All-get_or}
use Rattle.std.proofs.lemmas.Option.{slice_get-get_or}
use Rattle.irs_base.specs.Outcomes.{First}
use Rattle.irs_base.proofs.Firsts.{lt_false}
use Rattle.irs_terms.specs.declared.codes.CompCode.{CompCode}
use Rattle.irs_terms.specs.declared.codes.CompCode.TheVariants.{Simple, Straight, Flat, SpreadExclusive}
use Rattle.irs_compound.specs.Amounts.{Pays, RoundedAt, IsTermOver, StandsAt, StandsAfter, Follows, SumsWithin}
use Rattle.irs_compound.specs.Amounts.{StaysWithin, PeriodPasses, amount, total, kept_of, sum_kept, denominator}
use Rattle.irs_compound.specs.Amounts.{most_exact}
use Rattle.irs_compound.specs.Private.AmountLaws.{BalanceFits, Takes, Stops, Balances, follows_more, not_passed}
use Rattle.irs_compound.specs.Private.AmountLaws.{number_within, total-push, kept-push, all_fractions}
use Rattle.irs_compound.specs.declared.balances.Balance.{Balance}
use Rattle.irs_compound.specs.declared.periods.PeriodTerm.{PeriodTerm}
use Rattle.irs_compound.specs.declared.periods.Parts.{Parts}

within_fits : (code : CompCode) (den : ℤ) (p : PeriodTerm) (c : Parts) (b : Balance) → p.frac.den ≡ den
    → SumsWithin code p c b.sum b.kept → BalanceFits code den b
within_fits Simple den p c b e h = subst (λ (d : ℤ). unsigned_abs b.sum ≤ most_exact * unsigned_abs d) e h
within_fits Straight den p c b e h = (h.2, h.3)
within_fits Flat den p c b e h = (h.2, h.3)
within_fits SpreadExclusive den p c b e h = (h.2, h.3)

-- the parts so far in the place of their balance
stands_behind : (code : CompCode) (p : PeriodTerm) (b : Balance) (cs : List Parts) (c : Parts) → b.kept ≡ sum_kept code cs
    → IsSomeAnd p.rates (λ r. StandsAt code p r b.kept c) → StandsAfter code p cs c
stands_behind code p b cs c e h = subst (λ (n : ℤ). IsSomeAnd p.rates (λ r. StandsAt code p r n c)) e h

-- none of the first i periods leaves the range, nor does the next one
none_more : (code : CompCode) (ps : List PeriodTerm) (i : ℕ) → ((n : ℕ) → n ≤ i → PeriodPasses code ps n → ⊥)
    → (PeriodPasses code ps (i + 1) → ⊥) → (n : ℕ) → n ≤ i + 1 → PeriodPasses code ps n → ⊥
none_more code ps i below next n le x = elim (cases_lt n (i + 1)) [
  | inl less ↦ below n (omega (arith, less)) x
  | inr more ↦ next (subst (PeriodPasses code ps) (omega (arith, le, more)) x)
]

-- the balance after one more period
pub balances_more : (code : CompCode) (ps : List PeriodTerm) (i : ℕ) (d : PeriodTerm) (before next : Balance)
    → All (IsTermOver (denominator ps)) ps → i < length ps → Balances code ps i before
    → Takes code (get_or ps i d) before next → Balances code ps (i + 1) next
balances_more code ps i d before next all inside s t =
    let p = get_or ps i d in
    let term : IsTermOver (denominator ps) p = All-get_or (IsTermOver (denominator ps)) ps i d inside all in
    let there : slice_get ps i ≡ Some p = slice_get-get_or ps i d inside in
    let stands : StandsAfter code p s.parts t.parts = stands_behind code p before s.parts t.parts s.keeps t.stands in
    let sum : next.sum ≡ total s.parts +ℤ amount t.parts =
    ap (λ (b : Balance). b.sum) t.is ∙ ap (λ (n : ℤ). n +ℤ amount t.parts) s.sums in
    let keep : next.kept ≡ sum_kept code s.parts +ℤ kept_of code t.parts =
    ap (λ (b : Balance). b.kept) t.is ∙ ap (λ (n : ℤ). n +ℤ kept_of code t.parts) s.keeps in
    let within : StaysWithin code p t.parts next.sum next.kept =
    subst (λ (b : Balance). StaysWithin code p t.parts b.sum b.kept) (sym t.is) t.within in
    let within1 : StaysWithin code p t.parts (total s.parts +ℤ amount t.parts) next.kept =
    subst (λ (n : ℤ). StaysWithin code p t.parts n next.kept) sum within in
    let within2 : StaysWithin code p t.parts (total s.parts +ℤ amount t.parts) (sum_kept code s.parts +ℤ kept_of code t.parts) =
    subst (λ (n : ℤ). StaysWithin code p t.parts (total s.parts +ℤ amount t.parts) n) keep within1 in
    let more : take (i + 1) ps ≡ take i ps ++ p ∷ [] = take_more ps i d inside in
    let back : i + 1 - 1 ≡ i = omega arith in
    let f : Follows code (take i ps ++ p ∷ []) (s.parts ++ t.parts ∷ []) =
    follows_more code [] (take i ps) s.parts p t.parts s.follows stands in
    record {
      parts = s.parts ++ t.parts ∷ [];
      follows = subst (λ (qs : List PeriodTerm). Follows code qs (s.parts ++ t.parts ∷ [])) (sym more) f;
      sums = sum ∙ sym (total-push s.parts t.parts);
      keeps = keep ∙ sym (kept-push code s.parts t.parts);
      fits = within_fits code (denominator ps) p t.parts next term.2 within.1;
      none_passes =
          none_more code ps i s.none_passes
          (λ x. not_passed code ps (i + 1) p s.parts t.parts (all_fractions (denominator ps) ps all) term.1
          (rw back there) (rw back s.follows) stands within2 x);
    }

passes_here : (code : CompCode) (ps : List PeriodTerm) (n : ℕ) (p : PeriodTerm) (before : Balance) → 1 ≤ n
    → slice_get ps (n - 1) ≡ Some p → Balances code ps (n - 1) before → Stops code p before → PeriodPasses code ps n
passes_here code ps n p before one there s t =
    let passes1 : StaysWithin code p t.parts (total s.parts +ℤ amount t.parts) (before.kept +ℤ kept_of code t.parts) → ⊥ =
    subst (λ (n : ℤ). StaysWithin code p t.parts (n +ℤ amount t.parts) (before.kept +ℤ kept_of code t.parts)
    → ⊥) s.sums t.passes in
    record {
      from_one = one;
      earlier = s.parts;
      period = p;
      parts = t.parts;
      there = there;
      follows = s.follows;
      stands = stands_behind code p before s.parts t.parts s.keeps t.stands;
      passes = subst (λ (n : ℤ). StaysWithin code p t.parts (total s.parts +ℤ amount t.parts) (n +ℤ kept_of code t.parts)
          → ⊥) s.keeps passes1;
    }

-- a period that leaves the range is the first
pub passes_first : (code : CompCode) (ps : List PeriodTerm) (i n : ℕ) (d : PeriodTerm) (before : Balance) → n ≡ i
    → i < length ps → Balances code ps i before → Stops code (get_or ps i d) before
    → First nat_lt (PeriodPasses code ps) (n + 1)
passes_first code ps i n d before e inside s t =
    let back : n + 1 - 1 ≡ i = omega (arith, e) in
    let there : slice_get ps (n + 1 - 1) ≡ Some (get_or ps i d) = rw back (slice_get-get_or ps i d inside) in
    let so_far : Balances code ps (n + 1 - 1) before = rw back s in (
      passes_here code ps (n + 1) (get_or ps i d) before (omega arith) there so_far t,
      λ m x. lt_false m (n + 1) (λ less. s.none_passes m (omega (arith, e, less)) x),
    )

-- the first period has the denominator of all
pub first_denominator : (ps : List PeriodTerm) (d : PeriodTerm) → 1 ≤ length ps
    → (get_or ps 0 d).frac.den ≡ denominator ps
first_denominator [] d h = absurd (omega (arith, h))
first_denominator (p ∷ ps) d h = refl

-- the rounded balance is the amount
pub pays_from : (code : CompCode) (ps : List PeriodTerm) (den : ℤ) (b : Balance) (places : ℕ) (m : ℤ)
    → den ≡ denominator ps → Balances code ps (length ps) b → RoundedAt code den b.sum places m → Pays code ps places m
pays_from code ps den b places m e s r = record {
  parts = s.parts;
  follows = subst (λ (qs : List PeriodTerm). Follows code qs s.parts) (take_all (length ps) ps (omega arith)) s.follows;
  rounds = subst (λ (n : ℤ). RoundedAt code n (total s.parts) places m) e
      (subst (λ (n : ℤ). RoundedAt code den n places m) s.sums r);
}

-- where the balance of all periods is made none of them leaves the range
pub none_passes : (code : CompCode) (ps : List PeriodTerm) (b : Balance) → Balances code ps (length ps) b → (n : ℕ)
    → PeriodPasses code ps n → ⊥
none_passes code ps b s n x = s.none_passes n (number_within code ps n x) x
