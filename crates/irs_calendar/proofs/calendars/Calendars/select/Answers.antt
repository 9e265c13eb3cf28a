use Rattle.std.proofs.Common.{rules}
use Rattle.irs_calendar.specs.GoodDays.{set_of_runs}
use Rattle.irs_calendar.specs.Sections.{sections_named}
use Rattle.irs_calendar.proofs.CoverLemmas.{covers_common}
use Rattle.irs_calendar.proofs.calendars.Calendars.select.Goals as goal

pub returns-clause-cover : goal.returns-clause-cover
returns-clause-cover c =
    covers_common (sections_named c.args.self.now c.args.names.now) (set_of_runs c.in_ok-days.days) (search rules)
