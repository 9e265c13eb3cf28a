-- Private: no public contract rests on this file.
-- The balance over the periods, of private functions; and the laws of amounts with their proofs: there is one, and only one.
use Rattle.std.specs.Prelude.{ℕ, ◌+◌, ◌*◌, List, nat_lt, ◌≡◌, ℤ, take, ◌≤◌, ◌+ℤ◌, unsigned_abs, IsSomeAnd}
use Rattle.std.proofs.Common.{◌-◌, arith, sym, subst, ◌∙◌, [], ◌∷◌, ◌++◌, length, append_assoc, Some, All, slice_get, refl}
use Rattle.std.proofs.Common.{ap, get_or, Option, None, IsSome, suc, zero, ◌^◌, ◌<◌, pos, negsuc, ◌≤ℤ◌, ◌*ℤ◌, ◌<ℤ◌}
use Rattle.std.proofs.Common.{◌-ℤ◌}
use Rattle.std.proofs.lemmas.List.{append-nil}
use Rattle.std.proofs.lemmas.List.Elements.{All-take, All-get_or, All-head, All-tail, All-weaker}
use Rattle.std.proofs.lemmas.Option.{slice_get_within, get_or_from_slice_get}
use Rattle.jiff_core.proofs.SignedLemmas.{signed_arith}
use Rattle.irs_base.specs.Limits.{most_notional, most_numerator, most_rate}
use Rattle.irs_base.specs.Outcomes.{First, Spec, unless_broken}
use Rattle.irs_terms.specs.declared.codes.CompCode.{CompCode}
use Rattle.irs_terms.specs.declared.codes.CompCode.TheVariants.{Simple, Straight, Flat, SpreadExclusive}
use Rattle.irs_compound.specs.declared.periods.PeriodTerm.{PeriodTerm}
use Rattle.irs_compound.specs.Amounts.{most_amount, IsOutOfRange, StandsAt, StaysWithin, amount, total, kept_of}
use Rattle.irs_compound.specs.Amounts.{sum_kept, Follows, PeriodPasses, denominator, most_exact, Pays}
use Rattle.irs_compound.specs.Amounts.{IsDayCountFraction, StandsAfter, FollowsFrom, IsPaymentOfTerms, AllPriced}
use Rattle.irs_compound.specs.Amounts.{SomeUnpriced, AmountOf, code_for, IsTermOver, Interest, RoundedAt}
use Rattle.irs_compound.specs.declared.periods.Parts.{Parts}
use Rattle.irs_compound.specs.declared.balances.Balance.{Balance}
use Rattle.irs_compound.specs.declared.periods.Rates.{Rates}
use Rattle.irs_base.proofs.RoundingLaws.{nearest_once, nearest_exists}

-- ---- amounts of the periods of a payment, and of the payment: the 2006 ISDA Definitions, articles 5 and 6
-- Notionals are in units of 10^-4, rates in units of 10^-9. Two rules are ours: that flat compounding takes the base
-- rate, and how the spread is excluded from compounding.

-- the greatest balance that bears interest: the greatest notional and the greatest amount, in units of 10^-6
abbrev pub most_balance : ℕ
most_balance = 100 * most_notional + most_amount

-- what the greatest balance earns at the greatest rate, before it is divided
abbrev pub most_product : ℕ
most_product = most_balance * most_rate * most_numerator

-- the first such period
abbrev pub IsFirstOut : CompCode → List PeriodTerm → ℕ → Type 0
IsFirstOut code ps number = First nat_lt (IsOutOfRange code ps) number

-- ---- one step of the balance over the periods of a payment

-- the balance of the periods before is within its limits
abbrev pub BalanceFits : CompCode → ℤ → Balance → Type 0
BalanceFits Simple den b = unsigned_abs b.sum ≤ most_exact * unsigned_abs den
BalanceFits Straight den b = (unsigned_abs b.sum ≤ most_amount) × (unsigned_abs b.kept ≤ most_amount)
BalanceFits Flat den b = (unsigned_abs b.sum ≤ most_amount) × (unsigned_abs b.kept ≤ most_amount)
BalanceFits SpreadExclusive den b = (unsigned_abs b.sum ≤ most_amount) × (unsigned_abs b.kept ≤ most_amount)

-- the balance with one more period
abbrev pub balance_after : CompCode → Balance → Parts → Balance
balance_after code b c = record { sum = b.sum +ℤ amount c; kept = b.kept +ℤ kept_of code c }

-- the period takes the balance from `before` to `next`
pub record Takes (code : CompCode) (p : PeriodTerm) (before next : Balance) : Type 0 where
  pub parts : Parts
  pub stands : IsSomeAnd p.rates (λ r. StandsAt code p r before.kept parts)
  pub within : StaysWithin code p parts (balance_after code before parts).sum (balance_after code before parts).kept
  pub is : next ≡ balance_after code before parts

-- the period leaves the range
pub record Stops (code : CompCode) (p : PeriodTerm) (before : Balance) : Type 0 where
  pub parts : Parts
  pub stands : IsSomeAnd p.rates (λ r. StandsAt code p r before.kept parts)
  pub passes : StaysWithin code p parts (balance_after code before parts).sum (balance_after code before parts).kept → ⊥

-- the first n periods make the balance, and none of them leaves the range
pub record Balances (code : CompCode) (ps : List PeriodTerm) (n : ℕ) (b : Balance) : Type 0 where
  pub parts : List Parts
  pub follows : Follows code (take n ps) parts
  pub sums : b.sum ≡ total parts
  pub keeps : b.kept ≡ sum_kept code parts
  pub fits : BalanceFits code (denominator ps) b
  pub none_passes : (number : ℕ) → number ≤ n → PeriodPasses code ps number → ⊥

-- ---- what the calls of this crate answer, and what they refuse: the position of a period in its payment (K39)

-- what periods with all their rates pay, or the first of them that leaves the range
abbrev pub pay_of : CompCode → List PeriodTerm → ℕ → Spec ℤ ℕ
pay_of code ps places = unless_broken nat_lt (PeriodPasses code ps) (Pays code ps places)

-- ---- powers of ten

-- a power of ten is above 0
pub ten_above : (n : ℕ) → 0 < 10 ^ n
ten_above zero = omega arith
ten_above (suc n) = let h = ten_above n in omega (arith, h)

-- a number above 0 is above 0 with a sign
pub above : (n : ℕ) → 0 < n → pos 0 <ℤ pos n
above n h = omega (arith, signed_arith, h)

-- a denominator times a number above 0 is above 0
pub scaled_above : (den : ℤ) (n : ℕ) → pos 1 ≤ℤ den → 0 < n → pos 0 <ℤ (den *ℤ pos n)
scaled_above (negsuc k) n h e = absurd (omega (arith, signed_arith, h))
scaled_above (pos zero) n h e = absurd (omega (arith, signed_arith, h))
scaled_above (pos (suc k)) zero h e = absurd (omega (arith, e))
scaled_above (pos (suc k)) (suc n) h e = omega (arith, signed_arith)

-- ---- the parts of the periods of a payment: there is one list of them, and only one

-- a divisor above 0
divisor_above : (den : ℤ) → pos 1 ≤ℤ den → pos 0 <ℤ (den *ℤ pos (10 ^ 9))
divisor_above den h = omega (arith, signed_arith, h)

-- parts with the same two amounts are equal
same_parts : (c d : Parts) → c.main ≡ d.main → c.extra ≡ d.extra → c ≡ d
same_parts c d h k =
    let mk : ℤ → ℤ → Parts = λ m e. record { main = m; extra = e } in
    ap (λ m. mk m c.extra) h ∙ ap (λ e. mk d.main e) k

-- a balance earns one amount of interest in a period
interest_once : (b r : ℤ) (p : PeriodTerm) (x y : ℤ) → IsDayCountFraction p.frac → Interest b r p.frac x
    → Interest b r p.frac y → x ≡ y
interest_once b r p x y f h k =
    nearest_once (b *ℤ r *ℤ p.frac.num) (p.frac.den *ℤ pos (10 ^ 9)) x y (divisor_above p.frac.den f.2) h k

-- a period adds one pair of parts at given rates
at_once : (code : CompCode) (p : PeriodTerm) (r : Rates) (before : ℤ) (c d : Parts) → IsDayCountFraction p.frac
    → StandsAt code p r before c → StandsAt code p r before d → c ≡ d
at_once Simple p r before c d f h k = same_parts c d (h.0 ∙ sym k.0) (h.1 ∙ sym k.1)
at_once Straight p r before c d f h k =
    same_parts c d (interest_once (pos 100 *ℤ p.notional +ℤ before) r.all_in p c.main d.main f h.0 k.0) (h.1 ∙ sym k.1)
at_once Flat p r before c d f h k =
    same_parts c d (interest_once (pos 100 *ℤ p.notional) r.all_in p c.main d.main f h.0 k.0)
    (interest_once before r.base p c.extra d.extra f h.1 k.1)
at_once SpreadExclusive p r before c d f h k =
    same_parts c d (interest_once (pos 100 *ℤ p.notional +ℤ before) r.base p c.main d.main f h.0 k.0)
    (interest_once (pos 100 *ℤ p.notional) (r.all_in -ℤ r.base) p c.extra d.extra f h.1 k.1)

-- a period with rates adds one pair of parts
priced_once : (o : Option Rates) (code : CompCode) (p : PeriodTerm) (before : ℤ) (c d : Parts) → IsDayCountFraction p.frac
    → IsSomeAnd o (λ r. StandsAt code p r before c) → IsSomeAnd o (λ r. StandsAt code p r before d) → c ≡ d
priced_once None code p before c d f h k = absurd h
priced_once (Some r) code p before c d f h k = at_once code p r before c d f h k

-- a period adds one pair of parts
pub stands_once : (code : CompCode) (p : PeriodTerm) (earlier : List Parts) (c d : Parts) → IsDayCountFraction p.frac
    → StandsAfter code p earlier c → StandsAfter code p earlier d → c ≡ d
stands_once code p earlier c d f h k = priced_once p.rates code p (sum_kept code earlier) c d f h k

-- two lists over the same periods are equal, by induction on the earlier amounts
pub follows_once : (code : CompCode) (earlier : List Parts) (ps : List PeriodTerm) (cs ds : List Parts)
    → All (λ p. IsDayCountFraction p.frac) ps → FollowsFrom code earlier ps cs → FollowsFrom code earlier ps ds → cs ≡ ds
follows_once code earlier [] [] [] f h k = refl
follows_once code earlier [] [] (d ∷ ds) f h k = absurd k
follows_once code earlier [] (c ∷ cs) ds f h k = absurd h
follows_once code earlier (p ∷ ps) [] ds f h k = absurd h
follows_once code earlier (p ∷ ps) (c ∷ cs) [] f h k = absurd k
follows_once code earlier (p ∷ ps) (c ∷ cs) (d ∷ ds) f h k =
    let e : c ≡ d = stands_once code p earlier c d (All-head (λ q. IsDayCountFraction q.frac) p ps f) h.0 k.0 in
    let k' : FollowsFrom code (earlier ++ c ∷ []) ps ds =
    subst (λ (x : Parts). FollowsFrom code (earlier ++ x ∷ []) ps ds) (sym e) k.1 in
    let t : cs ≡ ds =
    follows_once code (earlier ++ c ∷ []) ps cs ds (All-tail (λ q. IsDayCountFraction q.frac) p ps f) h.1 k' in
    cc

-- a period with rates adds some
pub at_exists : (code : CompCode) (p : PeriodTerm) (r : Rates) (before : ℤ) → IsDayCountFraction p.frac
    → (c : Parts) × StandsAt code p r before c
at_exists Simple p r before f = (record { main = p.notional *ℤ r.all_in *ℤ p.frac.num; extra = pos 0 }, (refl, refl))
at_exists Straight p r before f =
    let m = nearest_exists ((pos 100 *ℤ p.notional +ℤ before) *ℤ r.all_in *ℤ p.frac.num) (p.frac.den *ℤ pos (10 ^ 9))
    (divisor_above p.frac.den f.2) in
    (record { main = m.0; extra = pos 0 }, (m.1, refl))
at_exists Flat p r before f =
    let m = nearest_exists ((pos 100 *ℤ p.notional) *ℤ r.all_in *ℤ p.frac.num) (p.frac.den *ℤ pos (10 ^ 9))
    (divisor_above p.frac.den f.2) in
    let n = nearest_exists (before *ℤ r.base *ℤ p.frac.num) (p.frac.den *ℤ pos (10 ^ 9))
    (divisor_above p.frac.den f.2) in
    (record { main = m.0; extra = n.0 }, (m.1, n.1))
at_exists SpreadExclusive p r before f =
    let m = nearest_exists ((pos 100 *ℤ p.notional +ℤ before) *ℤ r.base *ℤ p.frac.num) (p.frac.den *ℤ pos (10 ^ 9))
    (divisor_above p.frac.den f.2) in
    let n = nearest_exists (pos 100 *ℤ p.notional *ℤ (r.all_in -ℤ r.base) *ℤ p.frac.num) (p.frac.den *ℤ pos (10 ^ 9))
    (divisor_above p.frac.den f.2) in
    (record { main = m.0; extra = n.0 }, (m.1, n.1))

-- a period with rates adds a pair of parts
priced_exists : (o : Option Rates) (code : CompCode) (p : PeriodTerm) (before : ℤ) → IsDayCountFraction p.frac → IsSome o
    → (c : Parts) × IsSomeAnd o (λ r. StandsAt code p r before c)
priced_exists None code p before f h = cc
priced_exists (Some r) code p before f h = at_exists code p r before f

-- so it does after earlier periods
pub stands_exists : (code : CompCode) (p : PeriodTerm) (earlier : List Parts) → IsDayCountFraction p.frac → IsSome p.rates
    → (c : Parts) × StandsAfter code p earlier c
stands_exists code p earlier f h = priced_exists p.rates code p (sum_kept code earlier) f h

-- each period of a payment adds some
pub follows_exists : (code : CompCode) (earlier : List Parts) (ps : List PeriodTerm) → All (λ p. IsDayCountFraction p.frac) ps
    → AllPriced ps → (cs : List Parts) × FollowsFrom code earlier ps cs
follows_exists code earlier [] f h = ([], tt)
follows_exists code earlier (p ∷ ps) f h =
    let c = stands_exists code p earlier (All-head (λ q. IsDayCountFraction q.frac) p ps f)
    (All-head (λ q. IsSome q.rates) p ps h) in
    let cs = follows_exists code (earlier ++ c.0 ∷ []) ps (All-tail (λ q. IsDayCountFraction q.frac) p ps f)
    (All-tail (λ q. IsSome q.rates) p ps h) in
    (c.0 ∷ cs.0, (c.1, cs.1))

-- each period has a fraction
abbrev pub AllFractions : List PeriodTerm → Type 0
AllFractions ps = All (λ p. IsDayCountFraction p.frac) ps

-- terms with one denominator are fractions
pub all_fractions : (den : ℤ) (ps : List PeriodTerm) → All (IsTermOver den) ps → AllFractions ps
all_fractions den ps h = All-weaker (IsTermOver den) (λ p. IsDayCountFraction p.frac) (λ p t. t.1) ps h

-- the total of two lists
pub total-append : (xs ys : List Parts) → total (xs ++ ys) ≡ total xs +ℤ total ys
total-append [] ys = omega (arith, signed_arith)
total-append (x ∷ xs) ys = let e = total-append xs ys in omega (arith, signed_arith, e)

-- the total with one more
pub total-push : (xs : List Parts) (x : Parts) → total (xs ++ x ∷ []) ≡ total xs +ℤ amount x
total-push xs x = let e = total-append xs (x ∷ []) in omega (arith, signed_arith, e)

-- what is kept of two lists
pub kept-append : (code : CompCode) (xs ys : List Parts) → sum_kept code (xs ++ ys) ≡ sum_kept code xs +ℤ sum_kept code ys
kept-append code [] ys = omega (arith, signed_arith)
kept-append code (x ∷ xs) ys = let e = kept-append code xs ys in omega (arith, signed_arith, e)

-- what is kept with one more
pub kept-push : (code : CompCode) (xs : List Parts) (x : Parts)
    → sum_kept code (xs ++ x ∷ []) ≡ sum_kept code xs +ℤ kept_of code x
kept-push code xs x = let e = kept-append code xs (x ∷ []) in omega (arith, signed_arith, e)

-- one more period at the end
pub follows_more : (code : CompCode) (earlier : List Parts) (ps : List PeriodTerm) (cs : List Parts) (p : PeriodTerm)
    (c : Parts) → FollowsFrom code earlier ps cs → StandsAfter code p (earlier ++ cs) c
    → FollowsFrom code earlier (ps ++ p ∷ []) (cs ++ c ∷ [])
follows_more code earlier [] [] p c h k = (rw append-nil at k, tt)
follows_more code earlier [] (d ∷ cs) p c h k = absurd h
follows_more code earlier (q ∷ ps) [] p c h k = absurd h
follows_more code earlier (q ∷ ps) (d ∷ cs) p c h k =
    (h.0, follows_more code (earlier ++ d ∷ []) ps cs p c h.1 (rw append_assoc k))

-- the range of a period after the parts of the earlier ones
abbrev pub WithinAfter : CompCode → PeriodTerm → List Parts → Parts → Type 0
WithinAfter code p cs c = StaysWithin code p c (total cs +ℤ amount c) (sum_kept code cs +ℤ kept_of code c)

-- a period within the limits is not one that leaves the range
pub not_passed : (code : CompCode) (ps : List PeriodTerm) (n : ℕ) (p : PeriodTerm) (cs : List Parts) (c : Parts)
    → All (λ q. IsDayCountFraction q.frac) ps → IsDayCountFraction p.frac → slice_get ps (n - 1) ≡ Some p
    → Follows code (take (n - 1) ps) cs → StandsAfter code p cs c → WithinAfter code p cs c → PeriodPasses code ps n → ⊥
not_passed code ps n p cs c f g there h k w x =
    let q : x.period ≡ p = (let e : Some x.period ≡ Some p = sym x.there ∙ there in cc) in
    let e : x.earlier ≡ cs =
    follows_once code [] (take (n - 1) ps) x.earlier cs
    (All-take (λ q. IsDayCountFraction q.frac) (n - 1) ps f) x.follows h in
    let s : StandsAfter code p cs x.parts =
    subst (λ (y : PeriodTerm). StandsAfter code y cs x.parts) q
    (subst (λ (ds : List Parts). StandsAfter code x.period ds x.parts) e x.stands) in
    let d : x.parts ≡ c = stands_once code p cs x.parts c g s k in
    let w1 : WithinAfter code x.period cs c = subst (λ (y : PeriodTerm). WithinAfter code y cs c) (sym q) w in
    let w2 : WithinAfter code x.period x.earlier c =
    subst (λ (ds : List Parts). WithinAfter code x.period ds c) (sym e) w1 in
    x.passes (subst (λ (y : Parts). WithinAfter code x.period x.earlier y) (sym d) w2)

-- a period that leaves the range is one of the periods
pub number_within : (code : CompCode) (ps : List PeriodTerm) (n : ℕ) → PeriodPasses code ps n → n ≤ length ps
number_within code ps n x =
    let inside = slice_get_within ps (n - 1) x.period x.there in
    let low = x.from_one in
    omega (arith, inside, low)

-- ---- a payment has one amount, and only one

-- the common denominator of a payment is at least 1
denominator_above : (ps : List PeriodTerm) → AllFractions ps → pos 1 ≤ℤ denominator ps
denominator_above [] f = omega (arith, signed_arith)
denominator_above (p ∷ ps) f = (All-head (λ q. IsDayCountFraction q.frac) p ps f).2

-- a sum has one rounded amount
rounded_sum_once : (code : CompCode) (ps : List PeriodTerm) (sum : ℤ) (k : ℕ) (m n : ℤ) → AllFractions ps
    → RoundedAt code (denominator ps) sum k m → RoundedAt code (denominator ps) sum k n → m ≡ n
rounded_sum_once Simple ps sum k m n f a b =
    nearest_once sum (denominator ps *ℤ pos (10 ^ (13 - k))) m n
    (scaled_above (denominator ps) (10 ^ (13 - k)) (denominator_above ps f) (ten_above (13 - k))) a b
rounded_sum_once Straight ps sum k m n f a b =
    nearest_once sum (pos (10 ^ (6 - k))) m n (above (10 ^ (6 - k)) (ten_above (6 - k))) a b
rounded_sum_once Flat ps sum k m n f a b =
    nearest_once sum (pos (10 ^ (6 - k))) m n (above (10 ^ (6 - k)) (ten_above (6 - k))) a b
rounded_sum_once SpreadExclusive ps sum k m n f a b =
    nearest_once sum (pos (10 ^ (6 - k))) m n (above (10 ^ (6 - k)) (ten_above (6 - k))) a b

-- every sum has a rounded amount
rounded_sum_exists : (code : CompCode) (ps : List PeriodTerm) (sum : ℤ) (k : ℕ) → AllFractions ps
    → (m : ℤ) × RoundedAt code (denominator ps) sum k m
rounded_sum_exists Simple ps sum k f =
    nearest_exists sum (denominator ps *ℤ pos (10 ^ (13 - k)))
    (scaled_above (denominator ps) (10 ^ (13 - k)) (denominator_above ps f) (ten_above (13 - k)))
rounded_sum_exists Straight ps sum k f =
    nearest_exists sum (pos (10 ^ (6 - k))) (above (10 ^ (6 - k)) (ten_above (6 - k)))
rounded_sum_exists Flat ps sum k f = nearest_exists sum (pos (10 ^ (6 - k))) (above (10 ^ (6 - k)) (ten_above (6 - k)))
rounded_sum_exists SpreadExclusive ps sum k f =
    nearest_exists sum (pos (10 ^ (6 - k))) (above (10 ^ (6 - k)) (ten_above (6 - k)))

-- a payment has one amount
pub pays_once : (code : CompCode) (ps : List PeriodTerm) (k : ℕ) (m n : ℤ) → AllFractions ps → Pays code ps k m
    → Pays code ps k n → m ≡ n
pays_once code ps k m n f a b =
    let e : b.parts ≡ a.parts = follows_once code [] ps b.parts a.parts f b.follows a.follows in
    rounded_sum_once code ps (total a.parts) k m n f a.rounds
    (subst (λ (cs : List Parts). RoundedAt code (denominator ps) (total cs) k n) e b.rounds)

-- a payment whose periods have rates has an amount
pub pays_exists : (code : CompCode) (ps : List PeriodTerm) (k : ℕ) → AllFractions ps → AllPriced ps
    → (m : ℤ) × Pays code ps k m
pays_exists code ps k f h =
    let cs = follows_exists code [] ps f h in
    let m = rounded_sum_exists code ps (total cs.0) k f in
    (m.0, record { parts = cs.0; follows = cs.1; rounds = m.1 })

-- a payment of periods has one amount
pub one_amount_of : (code : CompCode) (ps : List PeriodTerm) (k : ℕ) (m n : ℤ) → IsPaymentOfTerms ps → Pays code ps k m
    → Pays code ps k n → m ≡ n
one_amount_of code ps k m n h a b = pays_once code ps k m n (all_fractions (denominator ps) ps h.2) a b

-- a payment of periods with rates has an amount
pub some_amount_of : (code : CompCode) (ps : List PeriodTerm) (k : ℕ) → IsPaymentOfTerms ps → AllPriced ps
    → (m : ℤ) × Pays code ps k m
some_amount_of code ps k h p = pays_exists code ps k (all_fractions (denominator ps) ps h.2) p

-- not both: each period has its rates, and some period has none
pub priced_or_not : (ps : List PeriodTerm) → AllPriced ps → SomeUnpriced ps → ⊥
priced_or_not ps h x =
    let s : IsSome (get_or ps x.0 x.1).rates =
    All-get_or (λ p. IsSome p.rates) ps x.0 x.1 (slice_get_within ps x.0 x.1 x.2) h in
    let e : get_or ps x.0 x.1 ≡ x.1 = get_or_from_slice_get ps x.0 x.1 x.1 x.2 in
    let t : IsSome x.1.rates = subst (λ (p : PeriodTerm). IsSome p.rates) e s in
    let u : IsSome {T = Rates} None = subst (λ (o : Option Rates). IsSome o) x.3 t in
    cc

-- a payment has at most one amount, present or absent
pub one_amount : (code : CompCode) (ps : List PeriodTerm) (k : ℕ) (m n : Option ℤ) → AllFractions ps
    → AmountOf code ps k m → AmountOf code ps k n → m ≡ n
one_amount code ps k None None f a b = refl
one_amount code ps k None (Some n) f a b = absurd (priced_or_not ps b.0 a)
one_amount code ps k (Some m) None f a b = absurd (priced_or_not ps a.0 b)
one_amount code ps k (Some m) (Some n) f a b = ap Some (pays_once (code_for code ps) ps k m n f a.1 b.1)

-- there is one list of what each period adds
pub one_list : (code : CompCode) (ps : List PeriodTerm) (cs ds : List Parts) → IsPaymentOfTerms ps → Follows code ps cs
    → Follows code ps ds → cs ≡ ds
one_list code ps cs ds h a b = follows_once code [] ps cs ds (all_fractions (denominator ps) ps h.2) a b
