-- Amounts of the periods of a payment, and of the payment: the 2006 ISDA Definitions, articles 5 and 6.
use Rattle.std.specs.Prelude.{◌≡◌, ℕ, ℤ, pos, ◌-◌, ◌*◌, ◌^◌, ◌≤◌, ◌+ℤ◌, ◌-ℤ◌, ◌*ℤ◌, ◌≤ℤ◌, unsigned_abs, List, [], ◌∷◌}
use Rattle.std.specs.Prelude.{◌++◌, length, All, IsSome, IsSomeAnd, Option, Some, None, slice_get, take, Result, Ok}
use Rattle.std.specs.Prelude.{Err, nat_lt}
use Rattle.irs_base.specs.Limits.{most_numerator, most_periods, Rounded}
use Rattle.irs_base.specs.declared.rounding.Direction.TheVariants.{Nearest}
use Rattle.irs_base.specs.Outcomes.{Spec, unless_broken}
use Rattle.irs_terms.specs.Lawful.{IsNotional, IsRate}
use Rattle.irs_terms.specs.declared.results.Frac.{Frac}
use Rattle.irs_terms.specs.declared.codes.CompCode.{CompCode}
use Rattle.irs_terms.specs.declared.codes.CompCode.TheVariants.{Simple, Straight, Flat, SpreadExclusive}
use Rattle.irs_daycount.specs.Fractions.{act_act_denominator}
use Rattle.irs_compound.specs.declared.periods.Rates.{Rates}
use Rattle.irs_compound.specs.declared.periods.PeriodTerm.{PeriodTerm}
use Rattle.irs_compound.specs.declared.periods.Parts.{Parts}
use Rattle.irs_compound.specs.declared.compounding.OutOfRange.{OutOfRange}

-- ---- amounts of the periods of a payment, and of the payment: the 2006 ISDA Definitions, articles 5 and 6
-- Notionals are in units of 10^-4, rates in units of 10^-9. Two rules are ours: that flat compounding takes the base
-- rate, and how the spread is excluded from compounding.

-- 10^14 units of currency, in units of 10^-6
abbrev pub most_amount : ℕ
most_amount = 10 ^ 20

-- 10^14 units of currency, in units of 10^-13
abbrev pub most_exact : ℕ
most_exact = 10 ^ 27

-- 10^14 units of currency, in units of 10^-places
abbrev pub most_units : ℕ → ℕ
most_units places = 10 ^ 14 * 10 ^ places

-- the most decimals of a currency
abbrev pub most_currency_places : ℕ
most_currency_places = 3

-- a fraction of a day count: its numerator and its denominator lie in the range of the seven codes
abbrev pub IsDayCountFraction : Frac → Type 0
IsDayCountFraction f = (pos 0 ≤ℤ f.num) × (f.num ≤ℤ pos most_numerator) × (pos 1 ≤ℤ f.den) × (f.den ≤ℤ pos act_act_denominator)

-- a period of a payment whose fractions have this denominator
abbrev pub IsTermOver : ℤ → PeriodTerm → Type 0
IsTermOver den p = IsNotional p.notional × IsDayCountFraction p.frac × (p.frac.den ≡ den)

-- the denominator of the first period
abbrev pub denominator : List PeriodTerm → ℤ
denominator [] = pos 1
denominator (p ∷ ps) = p.frac.den

-- the periods of one payment: at least one, and all with one denominator
abbrev pub IsPaymentOfTerms : List PeriodTerm → Type 0
IsPaymentOfTerms ps = (1 ≤ length ps) × (length ps ≤ most_periods) × All (IsTermOver (denominator ps)) ps

-- each period has its rates
abbrev pub AllPriced : List PeriodTerm → Type 0
AllPriced ps = All (λ p. IsSome p.rates) ps

-- some period has none
abbrev pub SomeUnpriced : List PeriodTerm → Type 0
SomeUnpriced ps = (i : ℕ) × (p : PeriodTerm) × (slice_get ps i ≡ Some p) × (p.rates ≡ None)

-- what a balance earns in a period at a rate, to the nearest unit of the balance
abbrev pub Interest : ℤ → ℤ → Frac → ℤ → Type 0
Interest balance rate frac c = Rounded Nearest (balance *ℤ rate *ℤ frac.num) (frac.den *ℤ pos (10 ^ 9)) c

-- the amount of a period
abbrev pub amount : Parts → ℤ
amount c = c.main +ℤ c.extra

-- the sum of the amounts of periods
abbrev pub total : List Parts → ℤ
total [] = pos 0
total (c ∷ cs) = amount c +ℤ total cs

-- the part of a period's amount that bears interest in later periods. Without compounding none does. With
-- straight and flat compounding all of it does, and with the spread exclusive the compounded part
abbrev pub kept_of : CompCode → Parts → ℤ
kept_of Simple c = pos 0
kept_of Straight c = amount c
kept_of Flat c = amount c
kept_of SpreadExclusive c = c.main

-- the sum of what bears interest later
abbrev pub sum_kept : CompCode → List Parts → ℤ
sum_kept code [] = pos 0
sum_kept code (c ∷ cs) = kept_of code c +ℤ sum_kept code cs

-- The parts of a period, where `before` is what bears interest of the earlier periods of the payment.
-- Without compounding: notional times rate times fraction, exact, in units of 10^-13 over the denominator.
-- Straight: interest on the notional and all earlier amounts, at the rate.
-- Flat: the basic amount is interest on the notional at the rate. The additional amount is interest on all earlier
-- amounts, basic and additional, at the base rate.
-- Spread exclusive: the compounded part is interest on the notional and all earlier compounded parts, at the base rate.
-- The spread part is interest on the notional at the rate less the base rate.
-- All but the first to the nearest unit of 10^-6.
abbrev pub StandsAt : CompCode → PeriodTerm → Rates → ℤ → Parts → Type 0
StandsAt Simple p r before c = (c.main ≡ p.notional *ℤ r.all_in *ℤ p.frac.num) × (c.extra ≡ pos 0)
StandsAt Straight p r before c = Interest (pos 100 *ℤ p.notional +ℤ before) r.all_in p.frac c.main × (c.extra ≡ pos 0)
StandsAt Flat p r before c =
    Interest (pos 100 *ℤ p.notional) r.all_in p.frac c.main × Interest before r.base p.frac c.extra
StandsAt SpreadExclusive p r before c =
    Interest (pos 100 *ℤ p.notional +ℤ before) r.base p.frac c.main
    × Interest (pos 100 *ℤ p.notional) (r.all_in -ℤ r.base) p.frac c.extra

-- the parts of a period whose rates are there, after those of all earlier periods of the payment
abbrev pub StandsAfter : CompCode → PeriodTerm → List Parts → Parts → Type 0
StandsAfter code p earlier c = IsSomeAnd p.rates (λ r. StandsAt code p r (sum_kept code earlier) c)

-- the parts of each period are those that follow from the parts of all periods before it
abbrev pub FollowsFrom : CompCode → List Parts → List PeriodTerm → List Parts → Type 0
FollowsFrom code earlier [] [] = Unit {0}
FollowsFrom code earlier [] (c ∷ cs) = ⊥
FollowsFrom code earlier (p ∷ ps) [] = ⊥
FollowsFrom code earlier (p ∷ ps) (c ∷ cs) = StandsAfter code p earlier c × FollowsFrom code (earlier ++ c ∷ []) ps cs

-- the list of parts of a payment's periods
abbrev pub Follows : CompCode → List PeriodTerm → List Parts → Type 0
Follows code ps cs = FollowsFrom code [] ps cs

-- the rates are at most 10 in size
abbrev pub RatesWithin : Rates → Type 0
RatesWithin r = IsRate r.base × IsRate r.all_in

-- neither a part nor a sum is above 10^14 units of currency in size; the two parts of a period together may be
abbrev pub PartsWithin : Parts → ℤ → ℤ → Type 0
PartsWithin c sum kept_sum =
    (unsigned_abs c.main ≤ most_amount) × (unsigned_abs c.extra ≤ most_amount) × (unsigned_abs sum ≤ most_amount)
    × (unsigned_abs kept_sum ≤ most_amount)

-- The amounts up to a period are in range. Without compounding their exact sum alone is bounded. Else the parts of the
-- period are bounded, the sum of the amounts, and the sum of what bears interest later. The two sums are the same with
-- straight and flat compounding. With the spread exclusive, spread parts may cancel compounded ones, so each sum has
-- its own bound.
abbrev pub SumsWithin : CompCode → PeriodTerm → Parts → ℤ → ℤ → Type 0
SumsWithin Simple p c sum kept_sum = unsigned_abs sum ≤ most_exact * unsigned_abs p.frac.den
SumsWithin Straight p c sum kept_sum = PartsWithin c sum kept_sum
SumsWithin Flat p c sum kept_sum = PartsWithin c sum kept_sum
SumsWithin SpreadExclusive p c sum kept_sum = PartsWithin c sum kept_sum

-- neither the rates of a period nor its amounts leave the range
abbrev pub StaysWithin : CompCode → PeriodTerm → Parts → ℤ → ℤ → Type 0
StaysWithin code p c sum kept_sum = IsSomeAnd p.rates RatesWithin × SumsWithin code p c sum kept_sum

-- the period with that number, from 1, leaves the range
pub record PeriodPasses (code : CompCode) (ps : List PeriodTerm) (number : ℕ) : Type 0 where
  pub from_one : 1 ≤ number
  pub earlier : List Parts
  pub period : PeriodTerm
  pub parts : Parts
  pub there : slice_get ps (number - 1) ≡ Some period
  pub follows : Follows code (take (number - 1) ps) earlier
  pub stands : StandsAfter code period earlier parts
  pub passes : StaysWithin code period parts (total earlier +ℤ amount parts) (sum_kept code earlier +ℤ kept_of code parts) → ⊥

-- a sum rounded to the decimals of the currency, in units of 10^-places
abbrev pub RoundedAt : CompCode → ℤ → ℤ → ℕ → ℤ → Type 0
RoundedAt Simple den sum places m = Rounded Nearest sum (den *ℤ pos (10 ^ (13 - places))) m
RoundedAt Straight den sum places m = Rounded Nearest sum (pos (10 ^ (6 - places))) m
RoundedAt Flat den sum places m = Rounded Nearest sum (pos (10 ^ (6 - places))) m
RoundedAt SpreadExclusive den sum places m = Rounded Nearest sum (pos (10 ^ (6 - places))) m

-- m is what the periods pay: the sum of all their amounts, rounded once
pub record Pays (code : CompCode) (ps : List PeriodTerm) (places : ℕ) (m : ℤ) : Type 0 where
  pub parts : List Parts
  pub follows : Follows code ps parts
  pub rounds : RoundedAt code (denominator ps) (total parts) places m

-- one period is never compounded
abbrev pub code_for : CompCode → List PeriodTerm → CompCode
code_for code [] = code
code_for code (p ∷ []) = Simple
code_for code (p ∷ q ∷ ps) = code

-- the period with that number, from 1, leaves the range, in a payment whose rates are all there
abbrev pub IsOutOfRange : CompCode → List PeriodTerm → ℕ → Type 0
IsOutOfRange code ps number = AllPriced ps × PeriodPasses (code_for code ps) ps number

-- the amount of a payment: absent where the rates of a period are
abbrev pub AmountOf : CompCode → List PeriodTerm → ℕ → Option ℤ → Type 0
AmountOf code ps places None = SomeUnpriced ps
AmountOf code ps places (Some m) = AllPriced ps × Pays (code_for code ps) ps places m

-- ---- what the calls of this crate answer, and what they refuse: the position of a period in its payment (K39)

-- the amount of a payment, absent where the rates of a period are, or the first period that leaves the range
abbrev pub payment_amount_of : CompCode → List PeriodTerm → ℕ → Spec (Option ℤ) ℕ
payment_amount_of code ps places = unless_broken nat_lt (IsOutOfRange code ps) (AmountOf code ps places)

-- a result gives a right answer, or the position that is a right refusal
abbrev pub MeetsPosition : {A : Type 0} → Spec A ℕ → Result A OutOfRange → Type 0
MeetsPosition spec (Ok a) = spec.Answers a
MeetsPosition spec (Err e) = spec.Refuses e.period
