use Rattle.std.proofs.Common.{List, subst, sym}
use Rattle.irs_calendar.specs.declared.sections.Section.{Section}
use Rattle.irs_rules.specs.TermsRules.{TermsKept}
use Rattle.irs_rules.proofs.Kept.{terms_kept}
use Rattle.irs_base.specs.Outcomes.{Meets}
use Rattle.irs_schedule.specs.Schedules.{schedule_of, IsSchedule}
use Rattle.irs_schedule.proofs.OnePart.{met_ok, schedule_is}
use Rattle.irs_schedule.proofs.making.make_schedule.Goals as goal

pub new-requires-clause-kept : goal.new-requires-clause-kept
new-requires-clause-kept c =
    terms_kept c.args.swap.now c.args.cal.now c.requires.lawful c.requires.terms

pub schedule_by-requires-clause-kept : goal.schedule_by-requires-clause-kept
schedule_by-requires-clause-kept c =
    λ i s at. subst (λ (cal : List Section). TermsKept cal s) (sym c.in_ok-table.ensures.sections)
    (terms_kept c.args.swap.now c.args.cal.now c.requires.lawful c.requires.terms i s at)

pub returns-clause-ok : goal.returns-clause-ok
returns-clause-ok c =
    let swap = c.args.swap.now in
    let fix = c.args.fix.now in
    let meets : Meets (schedule_of swap c.args.cal.now fix) c.schedule_by.result =
    subst (λ (cal : List Section). Meets (schedule_of swap cal fix) c.schedule_by.result) c.in_ok-table.ensures.sections
    c.schedule_by.ensures in
    met_ok (schedule_of swap c.args.cal.now fix) (IsSchedule swap c.args.cal.now fix)
    (schedule_is swap c.args.cal.now fix c.requires.lawful c.requires.terms) c.schedule_by.result meets
