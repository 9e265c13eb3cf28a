use Rattle.std.proofs.Common.{ℕ, ◌+◌, List, sym, ◌∙◌, ap, subst, arith, pos, ◌+ℤ◌, Vec, Global}
use Rattle.jiff_core.proofs.SignedLemmas.{signed_arith}
use Rattle.irs_calendar.specs.declared.runs.Run.{Run}
use Rattle.irs_calendar.specs.Sections.{all_open}
use Rattle.irs_calendar.specs.Private.Closed.{any_listed, is_marked, IsNext, AreHeld}
use Rattle.irs_calendar.proofs.CoverLemmas.{sections_at}
use Rattle.irs_calendar.proofs.ClosedLemmas.{Turn, turn, weekend_later}
use Rattle.irs_calendar.proofs.MarkLemmas.{marks_find, marks_held, next_later}
use Rattle.irs_calendar.proofs.GrownLemmas.{Among, among_more, among_with, represents}
use Rattle.irs_calendar.proofs.openings.open_runs.Goals as goal
use Rattle.irs_calendar.proofs.openings.open_runs.Goals.{then-k-end+in_ok-push, else-k-end}

pub day_after-k-requires-clause-weekday : goal.day_after-k-requires-clause-weekday
day_after-k-requires-clause-weekday c = c.loop-k.invariant.weekend.in_week

pub weekend_after-weekend-requires-clause-weekday : goal.weekend_after-weekend-requires-clause-weekday
weekend_after-weekend-requires-clause-weekday c = c.loop-k.invariant.weekend.in_week

still : (c : goal.After-weekend_after-weekend)
    → AreHeld (is_marked c.in_ok-marks.marks.items) c.min-end.result c.behind_marked-behind.result c.loop-k.weekend.day
    (c.days_after-days.result + 1)
still c = subst (λ (marks : List ℕ). AreHeld (is_marked marks) c.min-end.result c.behind_marked-behind.result
    c.loop-k.weekend.day (c.days_after-days.result + 1)) c.deref-in-loop-k.ensures.value c.behind_marked-behind.ensures

turned : (c : goal.After-weekend_after-weekend)
    → Turn (all_open (sections_at c.args.sections.now)) c.args.first
    (c.days_after-days.result + 1) c.loop-k.k c.min-end.result c.day_after-k.result
turned c =
    let ss = sections_at c.args.sections.now in
    let found : IsNext (is_marked c.in_ok-marks.marks.items) c.loop-k.k c.marked_from-listed.result
    (c.days_after-days.result + 1) =
    subst (λ (marks : List ℕ). IsNext (is_marked marks) c.loop-k.k c.marked_from-listed.result
    (c.days_after-days.result + 1)) c.deref.ensures.value c.marked_from-listed.ensures in
    let next : IsNext (λ i. any_listed ss (c.args.first +ℤ pos i)) c.loop-k.k c.marked_from-listed.result
    (c.days_after-days.result + 1) =
    marks_find c.in_ok-marks.marks.items (λ i. any_listed ss (c.args.first +ℤ pos i)) c.loop-k.k
    c.marked_from-listed.result (c.days_after-days.result + 1) c.in_ok-marks.ensures.same found in
    let held : AreHeld (λ i. any_listed ss (c.args.first +ℤ pos i)) c.min-end.result c.behind_marked-behind.result
    c.loop-k.weekend.day (c.days_after-days.result + 1) =
    marks_held c.in_ok-marks.marks.items (λ i. any_listed ss (c.args.first +ℤ pos i)) c.min-end.result
    c.behind_marked-behind.result c.loop-k.weekend.day (c.days_after-days.result + 1) c.in_ok-marks.ensures.same
    (still c) in
    turn ss c.args.first (c.days_after-days.result + 1) c.loop-k.k c.marked_from-listed.result c.min-end.result
    c.behind_marked-behind.result c.day_after-k.result c.loop-k.weekend c.week_of-week.result c.week_of-week.ensures
    c.loop-k.invariant.weekend next held c.min-end.ensures c.day_after-k.ensures

pub loop-k-smaller : goal.loop-k-smaller
loop-k-smaller c = let t = turned c in omega (arith, t.after, t.later, c.loop-k-test.true)

pub loop-k-preserved : goal.loop-k-preserved
loop-k-preserved c =
    let ss = sections_at c.args.sections.now in
    let first = c.args.first in
    let limit = c.days_after-days.result + 1 in
    let k = c.loop-k.k in
    let h = c.marked_from-listed.result in
    let end = c.min-end.result in
    let next = c.day_after-k.result in
    let t = turned c in
    record {
      among = elim c.if-k-end.branch [
        | then-k-end+in_ok-push w ↦
            let r : Run = record { first = w.ahead.result; last = w.ahead-then-k-end.result } in
            subst (Among (all_open ss) first limit next)
            (sym (ap (λ (v : Vec Run Global). v.items) w.runs-is ∙ w.in_ok-push.ensures.items))
            (among_with (all_open ss) first limit k end next c.loop-k.runs.items r c.loop-k.invariant.among t
            w.if-k-end.true w.ahead.ensures (omega (
              arith,
              signed_arith,
              w.if-k-end.true,
              w.ahead-then-k-end.ensures,
            )))
        | else-k-end w ↦
            subst (Among (all_open ss) first limit next) (sym (ap (λ (v : Vec Run Global). v.items) w.runs-is))
            (among_more (all_open ss) first limit k end next c.loop-k.runs.items c.loop-k.invariant.among t
            w.if-k-end.false)
      ];
      known = λ more.
          next_later (is_marked c.in_ok-marks.marks.items) k next h limit
          (subst (λ (marks : List ℕ). IsNext (is_marked marks) k h limit) c.deref.ensures.value
          c.marked_from-listed.ensures) (omega (arith, t.after, t.later)) (omega (arith, more));
      weekend = weekend_later ss first limit k h end c.behind_marked-behind.result next c.loop-k.weekend
          c.weekend_after-weekend.result c.week_of-week.result c.week_of-week.ensures c.loop-k.invariant.weekend t.after
          t.within (still c).later (still c).within c.min-end.ensures c.day_after-k.ensures
          c.weekend_after-weekend.ensures;
    }

pub returns : goal.returns
returns c =
    represents (all_open (sections_at c.args.sections.now))
    (record { first = c.args.first; last = c.args.last; runs = c.loop-k.runs.items })
    (c.days_after-days.result + 1) c.loop-k.k (omega (arith, signed_arith, c.days_after-days.ensures.sum))
    c.loop-k-test.false c.loop-k.invariant.among
