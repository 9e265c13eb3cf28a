use Rattle.std.proofs.Common.{ap, ◌∙◌, sym}
use Rattle.std.proofs.lemmas.List.{append-nil}
use Rattle.irs_breaks.specs.BreakTexts.{break_text}
use Rattle.irs_breaks.specs.Findings.{IsPrintable}
use Rattle.irs_breaks.proofs.TextLines.{every_at, lines_more, lines_whole}
use Rattle.irs_breaks.proofs.texts.push_lines.Goals as goal

pub loop-found-init : goal.loop-found-init
loop-found-init c = sym (append-nil _)

pub break_text-requires : goal.break_text-requires
break_text-requires c =
    every_at IsPrintable c.args.breaks.now c.loop-found.found-index c.found-item.result c.requires c.loop-found-test.true
    c.found-item.is

pub loop-found-preserved : goal.loop-found-preserved
loop-found-preserved c =
    let line = c.bytes.ensures.bytes ∙ c.break_text.ensures.text ∙ ap break_text c.found-item.is in
    lines_more break_text _ _ _ c.bytes.result.now c.args.breaks.now c.loop-found.found-index c.found-item.result
    c.loop-found-test.true c.loop-found.invariant c.in_ok-extend_from_slice.ensures.items line

pub returns : goal.returns
returns c =
    lines_whole break_text _ _ c.args.breaks.now c.loop-found.found-index c.loop-found-test.false c.loop-found.invariant
