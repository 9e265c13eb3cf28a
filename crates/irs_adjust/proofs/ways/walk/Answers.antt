use Rattle.std.proofs.Common.{arith, ◌≡◌, ℕ, ℤ, ◌<◌, ap, subst, sym, add-one}
use Rattle.jiff_core.proofs.SignedLemmas.{signed_arith}
use Rattle.irs_base.proofs.Orders.{lt_false}
use Rattle.irs_calendar.specs.GoodDays.{DaySet, InCover}
use Rattle.irs_adjust.specs.MovedDays.{MovesOn}
use Rattle.irs_adjust.proofs.WayLemmas.{reached_none, reached_more, gap_of, moved, none_moved}
use Rattle.irs_adjust.proofs.ways.walk.Goals as goal

pub loop-i-init : goal.loop-i-init
loop-i-init g c =
    let s : DaySet = g.G.GoodDays.days c.args.g.now in
    let first : c.cover-first.result.0 ≡ s.first = ap (λ (p : ℤ × ℤ). p.0) c.cover-first.ensures.ends in
    let last : c.cover-first.result.1 ≡ s.last = ap (λ (p : ℤ × ℤ). p.1) c.cover-first.ensures.ends in
    let low = lt_false c.args.d c.cover-first.result.0 (sym (c.if-lt.ensures {u = tt})) in
    let high = lt_false c.cover-first.result.1 c.args.d (sym (c.if-lt-2.ensures {u = tt})) in
    let starts : InCover s c.args.d =
    record { from = omega (arith, signed_arith, low, first); to = omega (arith, signed_arith, high, last) } in
    record {
      reached = reached_none c.args.way s c.args.d starts;
      good = λ none. absurd (omega (arith, none));
    }

pub loop-i-preserved : goal.loop-i-preserved
loop-i-preserved g c =
    let s : DaySet = g.G.GoodDays.days c.args.g.now in
    record {
      reached = rw add-one
          (reached_more c.args.way s c.args.d c.loop-i._i c.loop-i.day c.in_ok-day.day c.loop-i.invariant.reached
          c.in_ok-day.ensures.some);
      good = λ _. (gap_of c.args.way s c.loop-i.day c.in_ok-day.day c.in_ok-day.ensures.some).good;
    }

pub returns-in_err-day-clause-none : goal.returns-in_err-day-clause-none
returns-in_err-day-clause-none g c =
    let s : DaySet = g.G.GoodDays.days c.args.g.now in
    rw c.from_residual.ensures
    (none_moved c.args.way s c.args.d c.loop-i._i c.args.n c.loop-i.day c.loop-i-test.true
    c.loop-i.invariant.reached c.in_err-day.ensures.none)

pub returns-clause-some : goal.returns-clause-some
returns-clause-some g c =
    let s : DaySet = g.G.GoodDays.days c.args.g.now in
    let i = c.loop-i._i in
    let all : i ≡ c.args.n = omega (arith, c.loop-i-test.false, c.loop-i.auto) in
    let some : 0 < i = omega (arith, c.requires) in
    subst (λ (k : ℕ). MovesOn c.args.way s c.args.d k c.loop-i.day) all
    (moved c.args.way s c.args.d i c.loop-i.day some c.loop-i.invariant.reached (c.loop-i.invariant.good some))
