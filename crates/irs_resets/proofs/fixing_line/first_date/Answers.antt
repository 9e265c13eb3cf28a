use Rattle.std.proofs.Common.{sym, ap, ◌∙◌, arith}
use Rattle.irs_base.specs.Texts.{date_at, without_gap}
use Rattle.irs_base.proofs.FieldLemmas.{whole_rest}
use Rattle.irs_resets.proofs.FirstDates.{date_word}
use Rattle.irs_resets.proofs.fixing_line.first_date.Goals as goal

pub returns-in-Some-clause-day : goal.returns-in-Some-clause-day
returns-in-Some-clause-day c =
    let first = date_word c.args.line.now c.in-Some.day c.if-line-gt10.true (sym c.is_gap.ensures
    ∙ c.if-is_gap.true) c.in-Some.ensures.some in
    c.in-Some.ensures.value ∙ ap date_at first.0

pub returns-in-Some-clause-rest : goal.returns-in-Some-clause-rest
returns-in-Some-clause-rest c =
    let first = date_word c.args.line.now c.in-Some.day c.if-line-gt10.true (sym c.is_gap.ensures
    ∙ c.if-is_gap.true) c.in-Some.ensures.some in
    c.skip_gap.ensures
    ∙ ap without_gap (whole_rest c.args.line.now 10 (omega (arith, c.if-line-gt10.true)) ∙ first.1)
