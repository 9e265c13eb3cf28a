use Rattle.std.proofs.Common.{ℕ, List, [], IfSome, Option, Some, None}
use Rattle.std.proofs.lemmas.Result.{err_from_is_err_and}
use Rattle.irs_calendar.specs.Grammar.{spot_of, IsFirstCalendarFault, Spot}
use Rattle.irs_calendar.specs.Private.Files.{calendars_in, SpotFails}
use Rattle.irs_calendar.proofs.DistinctLemmas.{calendars_apart}
use Rattle.irs_calendar.proofs.CalendarLemmas.{texts}
use Rattle.irs_calendar.proofs.GrammarLemmas.{read_is_spelt}
use Rattle.irs_calendar.proofs.FaultLemmas.{fault_is_first, one_first_fault, faulty_spell_none, spelt_or_faulty}
use Rattle.irs_calendar.proofs.calendars.Calendars.read.Goals as goal

pub invariant_of-result : goal.invariant_of-result
invariant_of-result c =
    calendars_apart 1 [] (texts c.args.files.now) c.in_ok-sections.sections tt c.in_ok-sections.ensures

pub returns-clause-spelt : goal.returns-clause-spelt
returns-clause-spelt c =
    let apart = calendars_apart 1 [] (texts c.args.files.now) c.in_ok-sections.sections tt c.in_ok-sections.ensures in
    read_is_spelt (texts c.args.files.now) c.in_ok-sections.sections apart c.in_ok-sections.ensures

first_of : (o : Option Spot) (files : List (List ℕ)) → SpotFails o (calendars_in 1 [] files)
    → IfSome o (IsFirstCalendarFault files)
first_of None files fails = tt
first_of (Some s) files fails = fault_is_first files s fails

pub returns-in_err-sections-clause-first : goal.returns-in_err-sections-clause-first
returns-in_err-sections-clause-first c =
    let p = err_from_is_err_and c.from_residual.result c.from_residual.ensures.1 in
    rw (p.1, p.2) (first_of (spot_of c.in_err-sections.field-0.0) (texts c.args.files.now) c.in_err-sections.ensures)

pub returns-in_err-sections-clause-faultless : goal.returns-in_err-sections-clause-faultless
returns-in_err-sections-clause-faultless c =
    λ ss spelt s first. faulty_spell_none (texts c.args.files.now) s ss first spelt

pub returns-clause-faultless : goal.returns-clause-faultless
returns-clause-faultless c = λ ss spelt s first. faulty_spell_none (texts c.args.files.now) s ss first spelt

pub returns-in_err-sections-clause-decided : goal.returns-in_err-sections-clause-decided
returns-in_err-sections-clause-decided c = spelt_or_faulty (texts c.args.files.now)

pub returns-clause-decided : goal.returns-clause-decided
returns-clause-decided c = spelt_or_faulty (texts c.args.files.now)

pub returns-in_err-sections-clause-one_first : goal.returns-in_err-sections-clause-one_first
returns-in_err-sections-clause-one_first c = one_first_fault (texts c.args.files.now)

pub returns-clause-one_first : goal.returns-clause-one_first
returns-clause-one_first c = one_first_fault (texts c.args.files.now)
