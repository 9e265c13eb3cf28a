-- The theorems of the amount of a payment. A period is the first to leave the range, or none leaves it. Only
-- one period is the first. The payment has an amount.
use Rattle.std.proofs.Common.{◌≡◌, ◌⊎◌, inl, inr, ℕ, zero, suc, ◌*◌, ◌-◌, ◌<◌, ◌≤◌, ℤ, pos, ◌+ℤ◌, unsigned_abs, List}
use Rattle.std.proofs.Common.{[], ◌∷◌, length, take, get_or, Option, Some, None, IsSome, IsSomeAnd, refl, arith, rules}
use Rattle.std.specs.Prelude.{nat_lt}
use Rattle.std.specs.List.{slice_get}
use Rattle.std.proofs.lemmas.Bool.{cases_lt}
use Rattle.std.proofs.lemmas.List.Elements.{All-nil, All-cons, All-get_or, All-take}
use Rattle.std.proofs.lemmas.Option.{slice_get-get_or}
use Rattle.irs_base.specs.Outcomes.{First}
use Rattle.irs_base.specs.Private.Order.{IsDecided}
use Rattle.irs_base.proofs.Firsts.{lt_false, one_first, tied_last}
use Rattle.irs_terms.specs.declared.codes.CompCode.{CompCode}
use Rattle.irs_terms.specs.declared.codes.CompCode.TheVariants.{Simple, Straight, Flat, SpreadExclusive}
use Rattle.irs_compound.specs.Amounts.{IsDayCountFraction, AllPriced, SomeUnpriced, AmountOf, PeriodPasses}
use Rattle.irs_compound.specs.Amounts.{IsOutOfRange, RatesWithin, PartsWithin, SumsWithin, StaysWithin, amount, total}
use Rattle.irs_compound.specs.Amounts.{sum_kept, kept_of, code_for, most_amount, most_exact}
use Rattle.irs_compound.specs.Private.AmountLaws.{IsFirstOut, priced_or_not, not_passed, number_within, pays_exists}
use Rattle.irs_compound.specs.Private.AmountLaws.{AllFractions, follows_exists, stands_exists}
use Rattle.irs_compound.specs.declared.periods.PeriodTerm.{PeriodTerm}
use Rattle.irs_compound.specs.declared.periods.Parts.{Parts}
use Rattle.irs_compound.specs.declared.periods.Rates.{Rates}

-- ---- rates that are there, or absent

-- every period has its rates, or some period has none
priced_first : (t : PeriodTerm) (ts : List PeriodTerm) (rates : Option Rates) → t.rates ≡ rates
    → AllPriced ts ⊎ SomeUnpriced ts → AllPriced (t ∷ ts) ⊎ SomeUnpriced (t ∷ ts)
priced_first t ts None absent rest = inr (0, t, refl, absent)
priced_first t ts (Some rates) there (inl priced) =
    let some : IsSome t.rates = rw there (search rules) in
    inl (All-cons (λ (u : PeriodTerm). IsSome u.rates) t ts some priced)
priced_first t ts (Some rates) there (inr unpriced) = inr (suc unpriced.0, unpriced.1, unpriced.2, unpriced.3)

-- each period has a rate, or one has none
pub decides_priced : (ts : List PeriodTerm) → AllPriced ts ⊎ SomeUnpriced ts
decides_priced [] = inl (All-nil (λ (t : PeriodTerm). IsSome t.rates))
decides_priced (t ∷ ts) = priced_first t ts t.rates refl (decides_priced ts)

-- ---- limits

decides_size : (m n : ℕ) → IsDecided (m ≤ n)
decides_size m n = elim (cases_lt n m) [ inl more ↦ inr (λ fits. omega (arith, more, fits)) | inr fits ↦ inl fits ]

decides_both : {A B : Type 0} → IsDecided A → IsDecided B → IsDecided (A × B)
decides_both a b = elim a [
  | inl x ↦ elim b [ inl y ↦ inl (x, y) | inr out ↦ inr (λ p. out p.1) ]
  | inr out ↦ inr (λ p. out p.0)
]

decides_rates : (o : Option Rates) → IsDecided (IsSomeAnd o RatesWithin)
decides_rates None = inr (λ none. none)
decides_rates (Some r) = decides_both (decides_size (unsigned_abs r.base) _) (decides_size (unsigned_abs r.all_in) _)

decides_parts : (c : Parts) (sum kept_sum : ℤ) → IsDecided (PartsWithin c sum kept_sum)
decides_parts c sum kept_sum =
    elim (decides_both (decides_size (unsigned_abs c.main) most_amount)
    (decides_size (unsigned_abs c.extra) most_amount)) [
      | inl parts ↦
          elim (decides_both (decides_size (unsigned_abs sum) most_amount)
          (decides_size (unsigned_abs kept_sum) most_amount)) [
            | inl sums ↦ inl (parts.0, parts.1, sums.0, sums.1)
            | inr out ↦ inr (λ w. out (w.2, w.3))
          ]
      | inr out ↦ inr (λ w. out (w.0, w.1))
    ]

decides_sums : (code : CompCode) (p : PeriodTerm) (c : Parts) (sum kept_sum : ℤ)
    → IsDecided (SumsWithin code p c sum kept_sum)
decides_sums Simple p c sum kept_sum = decides_size (unsigned_abs sum) (most_exact * unsigned_abs p.frac.den)
decides_sums Straight p c sum kept_sum = decides_parts c sum kept_sum
decides_sums Flat p c sum kept_sum = decides_parts c sum kept_sum
decides_sums SpreadExclusive p c sum kept_sum = decides_parts c sum kept_sum

decides_within : (code : CompCode) (p : PeriodTerm) (c : Parts) (sum kept_sum : ℤ)
    → IsDecided (StaysWithin code p c sum kept_sum)
decides_within code p c sum kept_sum = decides_both (decides_rates p.rates) (decides_sums code p c sum kept_sum)

-- ---- the first period that leaves the range

blank : PeriodTerm
blank = record { notional = pos 0; rates = None; frac = record { num = pos 0; den = pos 0 } }

module _ (code : CompCode) (ps : List PeriodTerm) (fits : AllFractions ps) (priced : AllPriced ps) where
  decides_passes : (n : ℕ) → 1 ≤ n → n ≤ length ps → IsDecided (PeriodPasses code ps n)
  decides_passes n low high =
      let i = n - 1 in
      let p = get_or ps i blank in
      let inside : i < length ps = omega (arith, low, high) in
      let there : slice_get ps i ≡ Some p = slice_get-get_or ps i blank inside in
      let fraction : IsDayCountFraction p.frac = All-get_or (λ (q : PeriodTerm). IsDayCountFraction q.frac) ps i blank inside fits in
      let rates : IsSome p.rates = All-get_or (λ (q : PeriodTerm). IsSome q.rates) ps i blank inside priced in
      let before =
      follows_exists code [] (take i ps) (All-take (λ (q : PeriodTerm). IsDayCountFraction q.frac) i ps fits)
      (All-take (λ (q : PeriodTerm). IsSome q.rates) i ps priced) in
      let cs = before.0 in
      let last = stands_exists code p cs fraction rates in
      let c = last.0 in
      elim (decides_within code p c (total cs +ℤ amount c) (sum_kept code cs +ℤ kept_of code c)) [
        | inl within ↦ inr (λ x. not_passed code ps n p cs c fits fraction there before.1 last.1 within x)
        | inr out ↦ inl (record {
          from_one = low;
          earlier = cs;
          period = p;
          parts = c;
          there = there;
          follows =
              before.1;
          stands = last.1;
          passes = out;
        })
      ]

  first_up_to : (k : ℕ) → k ≤ length ps → ((n : ℕ) × First nat_lt (PeriodPasses code ps) n)
      ⊎ ((n : ℕ) → n ≤ k → PeriodPasses code ps n → ⊥)
  first_up_to zero le = inr (λ n up x. let low = x.from_one in omega (arith, up, low))
  first_up_to (suc k) le = elim (first_up_to k (omega (arith, le))) [
    | inl first ↦ inl first
    | inr none ↦ elim (decides_passes (suc k) (omega arith) le) [
      | inl out ↦ inl (suc k, (out, λ m x. lt_false m (suc k) (λ less. none m (omega (arith, less)) x)))
      | inr within ↦ inr (λ n up x. elim (cases_lt n (suc k)) [
        | inl less ↦ none n (omega (arith, less)) x
        | inr more ↦ let same : n ≡ suc k = omega (arith, up, more) in within (rw same at x)
      ])
    ]
  ]

  passes_decided : ((n : ℕ) × First nat_lt (PeriodPasses code ps) n) ⊎ ((n : ℕ) → PeriodPasses code ps n → ⊥)
  passes_decided = elim (first_up_to (length ps) (omega arith)) [
    | inl first ↦ inl first
    | inr none ↦ inr (λ n x. none n (number_within code ps n x) x)
  ]

-- ---- the theorems

-- a period is the first that leaves the range, or none leaves it
pub amount_decided : (code : CompCode) (ps : List PeriodTerm) → AllFractions ps
    → ((n : ℕ) × IsFirstOut code ps n) ⊎ ((n : ℕ) → IsOutOfRange code ps n → ⊥)
amount_decided code ps fits = elim (decides_priced ps) [
  | inl priced ↦ elim (passes_decided (code_for code ps) ps fits priced) [
    | inl first ↦ inl (first.0, ((priced, first.1.0), λ m out. first.1.1 m out.1))
    | inr none ↦ inr (λ n out. none n out.1)
  ]
  | inr unpriced ↦ inr (λ n out. priced_or_not ps out.0 unpriced)
]

-- the payment has an amount, absent where the rates of a period are
pub amount_there : (code : CompCode) (ps : List PeriodTerm) (places : ℕ) → AllFractions ps
    → (m : Option ℤ) × AmountOf code ps places m
amount_there code ps places fits = elim (decides_priced ps) [
  | inl priced ↦ let m = pays_exists (code_for code ps) ps places fits priced in (Some m.0, (priced, m.1))
  | inr unpriced ↦ (None, unpriced)
]

-- only one period is the first that leaves the range
pub one_amount_out : (code : CompCode) (ps : List PeriodTerm) (m n : ℕ) → IsFirstOut code ps m
    → IsFirstOut code ps n → m ≡ n
one_amount_out code ps m n = one_first nat_lt tied_last (IsOutOfRange code ps) m n

-- it is one of the periods
pub out_within : (code : CompCode) (ps : List PeriodTerm) (n : ℕ) → IsOutOfRange code ps n → n ≤ length ps
out_within code ps n out = number_within (code_for code ps) ps n out.1

-- periods count from 1
pub out_from_one : (code : CompCode) (ps : List PeriodTerm) (n : ℕ) → IsOutOfRange code ps n → 1 ≤ n
out_from_one code ps n out = out.1.from_one
