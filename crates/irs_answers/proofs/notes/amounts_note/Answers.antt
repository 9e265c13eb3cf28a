use Rattle.std.proofs.Common.{Option, subst}
use Rattle.std.specs.Prelude.{IfSome}
use Rattle.irs_unfixed.specs.Unfixed.{IsFirstMissing, made_from}
use Rattle.irs_unfixed.specs.declared.missing.Missing.{Missing}
use Rattle.irs_answers.proofs.NoteLemmas.{counted_is}
use Rattle.irs_answers.proofs.notes.amounts_note.Goals as goal

pub returns-in_ok-counted-in-Ok-Some : goal.returns-in_ok-counted-in-Ok-Some
returns-in_ok-counted-in-Ok-Some c =
    let f = c.args.found.now in
    let x = made_from f.swap f.calendars.now f.fixings.now in
    let made = c.in_ok-counted-in-Ok-Some in
    counted_is x f.schedule c.in-Ok-Some.missing made.field-0 made.ensures.count made.ensures.payments made.ensures.place
    made.ensures.fixing
    (subst (λ (o : Option Missing). IfSome o (IsFirstMissing x f.schedule)) c.in-Ok-Some.field-0-is
    c.in-Ok-Some.ensures.some)
