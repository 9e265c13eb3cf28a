use Rattle.std.proofs.Common.{◌≡◌, ◌+ℤ◌, ◌≤ℤ◌, pos, arith, sym}
use Rattle.jiff_core.proofs.SignedLemmas.{signed_arith}
use Rattle.irs_base.proofs.Orders.{lt_false}
use Rattle.irs_observed.proofs.MemberLemmas.{none_good}
use Rattle.irs_observed.proofs.members.next_or_end.Goals as goal

pub returns-then-lt-clause-none : goal.returns-then-lt-clause-none
returns-then-lt-clause-none g c = λ x low high good.
    let day = c.ahead.ensures in
    c.in-Some.ensures.some.none_before x (omega (arith, signed_arith, day, low)) high good

pub returns-else-lt-clause-none : goal.returns-else-lt-clause-none
returns-else-lt-clause-none g c = λ x low high good.
    let day = c.ahead.ensures in
    let past : c.args.end ≤ℤ c.in-Some.next = lt_false c.in-Some.next c.args.end (sym (c.if-lt.ensures {u = tt})) in
    c.in-Some.ensures.some.none_before x (omega (arith, signed_arith, day, low))
    (omega (arith, signed_arith, high, past)) good

pub returns-in-None-clause-none : goal.returns-in-None-clause-none
returns-in-None-clause-none g c = λ x low high good.
    let day : c.ahead.result ≡ c.args.day +ℤ pos 1 = c.ahead.ensures in
    none_good (g.G.GoodDays.days c.args.days.now) c.args.day c.args.end c.ahead.result x c.requires.covered
    (omega (arith, signed_arith, day)) (omega (arith, signed_arith, day, low)) high c.in-None.ensures.none good
