use Rattle.std.proofs.Common.{rules, pos, None, FitsSigned, get_or}
use Rattle.std.specs.Int.{w64, w128}
use Rattle.std.proofs.lemmas.Int.{to_z-of_z}
use Rattle.std.proofs.lemmas.Result.{err_from_is_err_and}
use Rattle.irs_compound.specs.Amounts.{RoundedAt}
use Rattle.irs_compound.proofs.BalanceLemmas.{none_passes, pays_from, first_denominator}
use Rattle.irs_compound.specs.declared.periods.PeriodTerm.{PeriodTerm}
use Rattle.irs_compound.proofs.amounts.compounded.Goals as goal

pub returns-in_err-balance : goal.returns-in_err-balance
returns-in_err-balance c =
    let p = err_from_is_err_and c.from_residual.result c.from_residual.ensures.1 in
    rw (p.1, p.2) c.in_err-balance.ensures.out

pub returns : goal.returns
returns c =
    let ps = c.args.periods.now in
    let blank : PeriodTerm = record { notional = pos 0; rates = None; frac = record { num = pos 0; den = pos 0 } } in
    let fr : FitsSigned w128 c.rounded_sum.result = search rules in
    let fd : FitsSigned w64 (get_or ps 0 blank).frac.den = search rules in
    let r : RoundedAt c.args.code (get_or ps 0 blank).frac.den c.in_ok-balance.balance.sum c.args.places
    c.rounded_sum.result = simp to_z-of_z at c.rounded_sum.ensures in
    simp to_z-of_z (
      none_passes c.args.code ps c.in_ok-balance.balance c.in_ok-balance.ensures.ok,
      pays_from c.args.code ps (get_or ps 0 blank).frac.den c.in_ok-balance.balance c.args.places
          c.rounded_sum.result (first_denominator ps blank c.requires.payment.0) c.in_ok-balance.ensures.ok r,
    )
