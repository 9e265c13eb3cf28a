use Rattle.std.proofs.Common.{◌≡◌, ◌≤ℤ◌, ◌+ℤ◌, ◌<ℤ◌, pos, refl, sym}
use Rattle.irs_base.proofs.Orders.{lt_false, lt_true}
use Rattle.irs_calendar.specs.GoodDays.{DaySet}
use Rattle.irs_observed.proofs.MemberLemmas.{leaves_past, leaves_before, past_if}
use Rattle.irs_observed.proofs.members.some_leave.Goals as goal

pub returns-then-lt : goal.returns-then-lt
returns-then-lt g c =
    let set : DaySet = g.G.GoodDays.days c.args.days.now in
    let ends = c.cover-first.ensures.ends in
    let first : c.cover-first.result.0 ≡ set.first = cc ends in
    let low : c.args.start <ℤ c.cover-first.result.0 =
    lt_true c.args.start c.cover-first.result.0 (sym (c.if-lt.ensures {u = tt})) in
    (λ _. leaves_before set c.args.start c.args.end c.requires.order (rw (sym first) low), λ _. refl)

pub returns : goal.returns
returns g c =
    let set : DaySet = g.G.GoodDays.days c.args.days.now in
    let ends = c.cover-first.ensures.ends in
    let first : c.cover-first.result.0 ≡ set.first = cc ends in
    let last : c.cover-first.result.1 ≡ set.last = cc ends in
    let low : c.cover-first.result.0 ≤ℤ c.args.start =
    lt_false c.args.start c.cover-first.result.0 (sym (c.if-lt.ensures {u = tt})) in (
      λ t. let high : (c.cover-first.result.1 +ℤ pos 1) <ℤ c.args.end = c.ends_past.ensures.0 t in
          leaves_past set c.args.start c.args.end c.requires.order (rw (sym last) high),
      λ h. c.ends_past.ensures.1
          (rw last (past_if set c.args.start c.args.end c.requires.order (rw (sym first) low) h)),
    )
