use Rattle.std.proofs.Common.{Some, refl}
use Rattle.irs_observed.specs.ObservedRates.{one_day}
use Rattle.irs_unfixed.proofs.GapLemmas.{daily_lacks}
use Rattle.irs_unfixed.proofs.needed.daily_fixing.Goals as goal

pub returns : goal.returns
returns c =
    daily_lacks c.args.calendars.now c.args.fixings.now c.args.s.now c.args.part.now c.args.number c.requires.gap
    c.args.float.now c.requires.pays c.args.parameters.now c.requires.daily
    (record { index = c.args.float.now.index; tenor = Some one_day; day = c.in_ok-day.day }) refl refl
    c.in_ok-day.ensures
