-- The amount of a payment is at most 10^14 currency units in size, where no period leaves the range.
use Rattle.std.proofs.Common.{◌≡◌, ℕ, ◌+◌, ◌-◌, ◌*◌, ◌^◌, ◌<◌, ◌≤◌, ℤ, pos, ◌+ℤ◌, ◌*ℤ◌, ◌≤ℤ◌, unsigned_abs, arith, sym}
use Rattle.std.proofs.Common.{ap, subst, ◌∙◌, inl, inr, List, [], ◌∷◌, ◌++◌, length, take, get_or, Option, Some, None}
use Rattle.std.proofs.Common.{IsSome, IfSome}
use Rattle.std.specs.List.{slice_get}
use Rattle.std.proofs.Math.Nat.{mul-le-mul}
use Rattle.std.proofs.lemmas.Bool.{cases_lt}
use Rattle.std.proofs.lemmas.List.{take_more, take_all}
use Rattle.std.proofs.lemmas.List.Elements.{All-get_or, All-take}
use Rattle.std.proofs.lemmas.Nat.{pow-add}
use Rattle.std.proofs.lemmas.Option.{slice_get-get_or}
use Rattle.jiff_core.proofs.SignedLemmas.{signed_arith}
use Rattle.irs_base.specs.Limits.{Rounded}
use Rattle.irs_base.specs.declared.rounding.Direction.TheVariants.{Nearest}
use Rattle.irs_base.proofs.RoundingLaws.{rounded_size}
use Rattle.irs_terms.specs.declared.codes.CompCode.{CompCode}
use Rattle.irs_terms.specs.declared.codes.CompCode.TheVariants.{Simple, Straight, Flat, SpreadExclusive}
use Rattle.irs_compound.proofs.Sizes.{positive_size}
use Rattle.irs_compound.specs.Amounts.{IsDayCountFraction, IsTermOver, IsPaymentOfTerms, AllPriced, AmountOf}
use Rattle.irs_compound.specs.Amounts.{IsOutOfRange, Pays, RoundedAt, Follows, StandsAfter, StaysWithin, PeriodPasses}
use Rattle.irs_compound.specs.Amounts.{amount, total, sum_kept, kept_of, denominator, code_for, most_amount, most_exact}
use Rattle.irs_compound.specs.Amounts.{most_currency_places, most_units}
use Rattle.irs_compound.specs.Private.AmountLaws.{AllFractions, all_fractions, follows_exists, follows_once}
use Rattle.irs_compound.specs.Private.AmountLaws.{stands_exists, ten_above, follows_more, total-push}
use Rattle.irs_compound.specs.declared.periods.PeriodTerm.{PeriodTerm}
use Rattle.irs_compound.specs.declared.periods.Parts.{Parts}

-- the parts of the periods before the last one, and those of the last one
record Parted (code : CompCode) (ps : List PeriodTerm) (cs : List Parts) : Type 0 where
  period : PeriodTerm
  earlier : List Parts
  last : Parts
  there : slice_get ps (length ps - 1) ≡ Some period
  term : IsTermOver (denominator ps) period
  follows : Follows code (take (length ps - 1) ps) earlier
  stands : StandsAfter code period earlier last
  sum : total cs ≡ total earlier +ℤ amount last

parted : (code : CompCode) (ps : List PeriodTerm) (d : PeriodTerm) (cs : List Parts) → IsPaymentOfTerms ps → AllPriced ps
    → Follows code ps cs → Parted code ps cs
parted code ps d cs payment priced follows =
    let some = payment.0 in
    let fits : AllFractions ps = all_fractions (denominator ps) ps payment.2 in
    let term : IsTermOver (denominator ps) (get_or ps (length ps - 1) d) =
    All-get_or (IsTermOver (denominator ps)) ps (length ps - 1) d (omega (arith, some)) payment.2 in
    let i = length ps - 1 in
    let inside : i < length ps = omega (arith, some) in
    let p = get_or ps i d in
    let before =
    follows_exists code [] (take i ps) (All-take (λ (q : PeriodTerm). IsDayCountFraction q.frac) i ps fits)
    (All-take (λ (q : PeriodTerm). IsSome q.rates) i ps priced) in
    let last = stands_exists code p before.0 term.1
    (All-get_or (λ (q : PeriodTerm). IsSome q.rates) ps i d inside priced) in
    let whole : take i ps ++ p ∷ [] ≡ ps = sym (take_more ps i d inside) ∙ take_all (i + 1) ps (omega (arith, some)) in
    let more : Follows code (take i ps ++ p ∷ []) (before.0 ++ last.0 ∷ []) =
    follows_more code [] (take i ps) before.0 p last.0 before.1 last.1 in
    let moved : Follows code ps (before.0 ++ last.0 ∷ []) =
    subst (λ (qs : List PeriodTerm). Follows code qs (before.0 ++ last.0 ∷ [])) whole more in
    let same : before.0 ++ last.0 ∷ [] ≡ cs = follows_once code [] ps (before.0 ++ last.0 ∷ []) cs fits moved follows in
    record {
      period = p;
      earlier = before.0;
      last = last.0;
      there = slice_get-get_or ps i d inside;
      term = term;
      follows = before.1;
      stands = last.1;
      sum = sym (ap total same) ∙ total-push before.0 last.0;
    }

-- what bounds the sum of a payment
abbrev SumFits : CompCode → ℤ → ℤ → Type 0
SumFits Simple den sum = unsigned_abs sum ≤ most_exact * unsigned_abs den
SumFits Straight den sum = unsigned_abs sum ≤ most_amount
SumFits Flat den sum = unsigned_abs sum ≤ most_amount
SumFits SpreadExclusive den sum = unsigned_abs sum ≤ most_amount

not_above : (m n : ℕ) → ((m ≤ n → ⊥) → ⊥) → m ≤ n
not_above m n h = elim (cases_lt n m) [ inl more ↦ absurd (h (λ less. omega (arith, more, less))) | inr fits ↦ fits ]

sum_fits : (code : CompCode) (p : PeriodTerm) (c : Parts) (sum kept_sum : ℤ) → ((StaysWithin code p c sum kept_sum → ⊥) → ⊥)
    → SumFits code p.frac.den sum
sum_fits Simple p c sum kept_sum h =
    not_above (unsigned_abs sum) (most_exact * unsigned_abs p.frac.den) (λ out. h (λ w. out w.1))
sum_fits Straight p c sum kept_sum h = not_above (unsigned_abs sum) most_amount (λ out. h (λ w. out w.1.2))
sum_fits Flat p c sum kept_sum h = not_above (unsigned_abs sum) most_amount (λ out. h (λ w. out w.1.2))
sum_fits SpreadExclusive p c sum kept_sum h = not_above (unsigned_abs sum) most_amount (λ out. h (λ w. out w.1.2))

-- powers of ten up to k and from there on
tens : (k n : ℕ) → n ≤ k → 10 ^ (k - n) * 10 ^ n ≡ 10 ^ k
tens k n few = sym (pow-add 10 (k - n) n) ∙ ap (λ j. 10 ^ j) (omega (arith, few))

many_above : (m n : ℕ) → 1 ≤ m → 1 ≤ n → 0 < m * n
many_above m n h k = let p : 1 * 1 ≤ m * n = mul-le-mul h k in omega (arith, p)

simple_size : (n : ℕ) (sum m : ℤ) (places : ℕ) → 1 ≤ n → places ≤ most_currency_places → unsigned_abs sum ≤ most_exact * n
    → Rounded Nearest sum (pos (n * 10 ^ (13 - places))) m → unsigned_abs m ≤ most_units places
simple_size n sum m places some few small rounds =
    let ten = ten_above (13 - places) in
    let whole : n * (10 ^ (13 - places) * 10 ^ places) ≡ n * 10 ^ 13 =
    ap (λ j. n * j) (tens 13 places (omega (arith, few))) in
    rounded_size Nearest sum m (n * 10 ^ (13 - places)) (most_units places)
    (many_above n (10 ^ (13 - places)) some (omega (arith, ten))) (omega (arith, small, whole)) rounds

compound_size : (sum m : ℤ) (places : ℕ) → places ≤ most_currency_places → unsigned_abs sum ≤ most_amount
    → Rounded Nearest sum (pos (10 ^ (6 - places))) m → unsigned_abs m ≤ most_units places
compound_size sum m places few small rounds =
    let whole : 10 ^ (6 - places) * 10 ^ places ≡ 10 ^ 6 = tens 6 places (omega (arith, few)) in
    rounded_size Nearest sum m (10 ^ (6 - places)) (most_units places) (ten_above (6 - places))
    (omega (arith, small, whole)) rounds

rounded_fits : (code : CompCode) (den sum : ℤ) (places : ℕ) (m : ℤ) → pos 1 ≤ℤ den → places ≤ most_currency_places
    → SumFits code den sum → RoundedAt code den sum places m → unsigned_abs m ≤ most_units places
rounded_fits Simple den sum places m low few small rounds =
    let is : den ≡ pos (unsigned_abs den) = positive_size den (omega (arith, signed_arith, low)) in
    let some : 1 ≤ unsigned_abs den = omega (arith, signed_arith, low) in
    simple_size (unsigned_abs den) sum m places some few small
    (subst (λ (d : ℤ). Rounded Nearest sum (d *ℤ pos (10 ^ (13 - places))) m) is rounds)
rounded_fits Straight den sum places m low few small rounds = compound_size sum m places few small rounds
rounded_fits Flat den sum places m low few small rounds = compound_size sum m places few small rounds
rounded_fits SpreadExclusive den sum places m low few small rounds = compound_size sum m places few small rounds

-- a payment of which no period leaves the range pays at most 10^14 currency units
amount_bounded : (code : CompCode) (ps : List PeriodTerm) (places : ℕ) (m : ℤ) → IsPaymentOfTerms ps → places ≤ most_currency_places
    → AllPriced ps → ((n : ℕ) → PeriodPasses code ps n → ⊥) → Pays code ps places m → unsigned_abs m ≤ most_units places
amount_bounded code [] places m payment few priced none pays = absurd (omega (arith, payment.0))
amount_bounded code (q ∷ qs) places m payment few priced none pays =
    let ps = q ∷ qs in
    let part = parted code ps q pays.parts payment priced pays.follows in
    let term = part.term in
    let sum = total part.earlier +ℤ amount part.last in
    let small : SumFits code part.period.frac.den sum =
    sum_fits code part.period part.last sum (sum_kept code part.earlier +ℤ kept_of code part.last)
    (λ passes. none (length ps) (record {
      from_one = payment.0;
      earlier = part.earlier;
      period = part.period;
      parts = part.last;
      there = part.there;
      follows = part.follows;
      stands = part.stands;
      passes = passes;
    })) in
    let fits : SumFits code (denominator ps) (total pays.parts) =
    subst (λ (n : ℤ). SumFits code (denominator ps) n) (sym part.sum)
    (subst (λ (d : ℤ). SumFits code d sum) term.2 small) in
    rounded_fits code (denominator ps) (total pays.parts) places m
    (subst (λ (d : ℤ). pos 1 ≤ℤ d) term.2 term.1.2) few fits pays.rounds

-- so an amount is at most that
pub amount_small : (code : CompCode) (ps : List PeriodTerm) (places : ℕ) (m : Option ℤ) → IsPaymentOfTerms ps
    → places ≤ most_currency_places → ((n : ℕ) → IsOutOfRange code ps n → ⊥) → AmountOf code ps places m
    → IfSome m (λ units. unsigned_abs units ≤ most_units places)
amount_small code ps places None payment few none h = tt
amount_small code ps places (Some m) payment few none h =
    amount_bounded (code_for code ps) ps places m payment few h.0 (λ n x. none n (h.0, x)) h.1
