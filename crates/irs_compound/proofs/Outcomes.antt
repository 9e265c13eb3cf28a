-- Each call of this crate has one outcome.
use Rattle.std.proofs.Common.{ℕ, List}
use Rattle.std.specs.Prelude.{nat_lt}
use Rattle.irs_base.specs.Outcomes.{Determined}
use Rattle.irs_base.proofs.Outcomes.{unless_broken_determined}
use Rattle.irs_terms.specs.declared.codes.CompCode.{CompCode}
use Rattle.irs_compound.specs.Amounts.{AmountOf, IsOutOfRange, payment_amount_of}
use Rattle.irs_compound.specs.Private.AmountLaws.{one_amount, AllFractions}
use Rattle.irs_compound.specs.declared.periods.PeriodTerm.{PeriodTerm}
use Rattle.irs_compound.proofs.AmountTheorems.{amount_decided, amount_there, one_amount_out}

-- a payment has one amount, or one first period out of range
pub payment_determined : (code : CompCode) (ps : List PeriodTerm) (places : ℕ) → AllFractions ps
    → Determined (payment_amount_of code ps places)
payment_determined code ps places fractions =
    unless_broken_determined nat_lt (IsOutOfRange code ps) (AmountOf code ps places)
    (amount_decided code ps fractions) (λ _. amount_there code ps places fractions)
    (λ m n a b. one_amount code ps places m n fractions a b) (one_amount_out code ps)
