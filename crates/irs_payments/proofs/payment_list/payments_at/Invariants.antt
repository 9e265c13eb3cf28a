use Rattle.irs_payments.specs.Private.Dating.{Dated, NoneLacks}
use Rattle.irs_payments.proofs.payment_list.payments_at.Given as goal

-- the payments before j are worked out, and none of them lacks a date
abbrev pub invariant-loop-j : goal.invariant-loop-j
invariant-loop-j g l = record {
  dated : Dated l.s (g.G.GoodDays.days l.days) l.unadjusted l.adjusted l.places l.j l.beyond l.list;
  none : NoneLacks l.s (g.G.GoodDays.days l.days) l.adjusted l.places l.j;
}
