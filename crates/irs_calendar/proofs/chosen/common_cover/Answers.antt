use Rattle.irs_base.specs.Days.{first_day, last_day}
use Rattle.irs_calendar.specs.Sections.{latest_first, earliest_last}
use Rattle.irs_calendar.proofs.CoverLemmas.{sections_at, first_more, last_more, first_end, last_end}
use Rattle.irs_calendar.proofs.chosen.common_cover.Goals as goal

pub loop-s-preserved : goal.loop-s-preserved
loop-s-preserved c =
    let ss = c.args.sections.now in
    let i = c.loop-s.s-index in
    let x = c.s-item.result in
    record {
      first = rw c.later-first.ensures
          (first_more ss i x c.loop-s.first (latest_first first_day (sections_at ss)) c.loop-s-test.true c.s-item.is
          c.loop-s.invariant.first);
      last = rw c.earlier-last.ensures
          (last_more ss i x c.loop-s.last (earliest_last last_day (sections_at ss)) c.loop-s-test.true c.s-item.is
          c.loop-s.invariant.last);
    }

pub returns-clause-first : goal.returns-clause-first
returns-clause-first c =
    first_end c.args.sections.now c.loop-s.s-index c.loop-s.first _ c.loop-s-test.false c.loop-s.invariant.first

pub returns-clause-last : goal.returns-clause-last
returns-clause-last c =
    last_end c.args.sections.now c.loop-s.s-index c.loop-s.last _ c.loop-s-test.false c.loop-s.invariant.last
