use Rattle.std.proofs.Common.{◌≡◌, ◌++◌, [], ◌∷◌, length, length-append, ap, arith}
use Rattle.irs_schedule.specs.Schedules.{IsPeriodTerm}
use Rattle.irs_schedule.specs.Private.Layouts.{table_dates}
use Rattle.irs_base.proofs.MemberLemmas.{numbered_push}
use Rattle.irs_schedule.proofs.amounts.terms_of.Goals as goal

pub loop-number-preserved : goal.loop-number-preserved
loop-number-preserved c =
    let terms = c.loop-number.terms.items in
    let count = c.loop-number.invariant.count in
    let longer : c.push.new.self.items ≡ terms ++ c.period_term.result ∷ [] = c.in_ok-push.ensures.items in
    record {
      count = omega (arith, count, ap length longer, length-append terms (c.period_term.result ∷ []));
      each = rw longer (numbered_push
          (IsPeriodTerm (table_dates c.args.s.now c.args.table.now))
          c.args.payment.now.first_period c.loop-number.number terms c.period_term.result c.loop-number.invariant.each
          count c.period_term.ensures);
    }

pub returns : goal.returns
returns c =
    let count = c.loop-number.invariant.count in
    let past = c.loop-number-test.false in
    let end = c.loop-number.auto.number-end (omega (arith, c.requires.periods.some)) in
    record { count = omega (arith, count, past, end); each = c.loop-number.invariant.each }
