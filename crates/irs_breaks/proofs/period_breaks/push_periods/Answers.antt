use Rattle.std.proofs.Common.{◌≡◌, ◌-◌, ◌∙◌}
use Rattle.irs_base.specs.Days.{first_day}
use Rattle.irs_breaks.specs.BreakLists.{IsPeriodRow, moved, our_starts, their_starts}
use Rattle.irs_breaks.specs.declared.dated.PairedRow.{PairedRow}
use Rattle.irs_breaks.proofs.TablesTold.{their_rows, told_of}
use Rattle.irs_breaks.proofs.period_breaks.push_periods.Goals as goal

pub returns : goal.returns
returns c =
    let ours : c.deref.result.now ≡ our_starts c.args.part.now c.args.x.now =
    c.deref.ensures.value ∙ c.in_ok-ours.ensures in
    let theirs : c.deref-2.result.now ≡ their_starts c.args.flow.now c.args.start c.args.y.now =
    c.deref-2.ensures.value ∙ (c.in_ok-theirs.ensures
    ∙ their_rows c.args.flow.now c.args.start c.args.y.now.periods c.periods.result.now c.periods.ensures) in
    told_of c.earliest.result first_day c.deref.result.now c.deref-2.result.now (our_starts c.args.part.now c.args.x.now)
    (their_starts c.args.flow.now c.args.start c.args.y.now)
    (λ (m : PairedRow). IsPeriodRow c.args.stream c.args.part.now c.args.flow.now (moved (c.args.x.now.first_period - 1) c.args.start m))
    c.in_ok-rows.rows.items c.deref-3.result.now c.args.list.now c.push_period_rows.new.list c.earliest.ensures ours theirs
    c.deref-3.ensures.value c.in_ok-rows.ensures.pairing c.in_ok-push_period_rows.ensures
