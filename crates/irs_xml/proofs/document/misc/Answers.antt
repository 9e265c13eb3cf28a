use Rattle.std.proofs.Common.{Some, ap, sym, ◌∙◌}
use Rattle.std.specs.Prelude.{codes}
use Rattle.irs_xml.specs.Characters.{rest_after}
use Rattle.irs_xml.proofs.MiscSteps.{misc_ends, misc_no_comment, misc_no_instruction, misc_comment, misc_instruction, comment_shorter, instruction_shorter}
use Rattle.irs_xml.proofs.document.misc.Goals as goal

pub loop-reader-smaller-in-Continue-1 : goal.loop-reader-smaller-in-Continue-1
loop-reader-smaller-in-Continue-1 c =
    comment_shorter c.loop-reader.reader c.skip_space.new.self c.eat.new.self c.comment.new.reader (sym c.skip_space.ensures) c.if-eat.ensures c.in_ok-comment.ensures

pub loop-reader-preserved-in-Continue-1 : goal.loop-reader-preserved-in-Continue-1
loop-reader-preserved-in-Continue-1 c =
    misc_comment c.loop-reader.reader c.skip_space.new.self c.eat.new.self c.comment.new.reader c.args.reader.now c.loop-reader.invariant
    (sym c.skip_space.ensures) c.if-eat.ensures c.in_ok-comment.ensures

pub returns-in_err-comment : goal.returns-in_err-comment
returns-in_err-comment c =
    rw c.from_residual.ensures (misc_no_comment c.loop-reader.reader c.skip_space.new.self c.eat.new.self c.args.reader.now c.loop-reader.invariant
    (sym c.skip_space.ensures) c.if-eat.ensures c.in_err-comment.ensures)

pub loop-reader-smaller : goal.loop-reader-smaller
loop-reader-smaller c =
    instruction_shorter c.loop-reader.reader c.skip_space.new.self c.eat-else-eat.new.self c.instruction.new.reader (sym c.skip_space.ensures)
    (ap (rest_after (codes "<?")) (sym c.if-eat.ensures.1) ∙ c.if-eat-2.ensures) c.in_ok-instruction.ensures

pub loop-reader-preserved : goal.loop-reader-preserved
loop-reader-preserved c =
    misc_instruction c.loop-reader.reader c.skip_space.new.self c.eat-else-eat.new.self c.instruction.new.reader c.args.reader.now c.loop-reader.invariant
    (sym c.skip_space.ensures) c.if-eat.ensures.0 (ap (rest_after (codes "<?")) (sym c.if-eat.ensures.1) ∙ c.if-eat-2.ensures) c.in_ok-instruction.ensures

pub returns-in_err-instruction : goal.returns-in_err-instruction
returns-in_err-instruction c =
    rw c.from_residual-in_err-instruction.ensures (misc_no_instruction c.loop-reader.reader c.skip_space.new.self c.eat-else-eat.new.self
    c.args.reader.now c.loop-reader.invariant (sym c.skip_space.ensures) c.if-eat.ensures.0
    (ap (rest_after (codes "<?")) (sym c.if-eat.ensures.1) ∙ c.if-eat-2.ensures) c.in_err-instruction.ensures)

pub returns-else-eat-2 : goal.returns-else-eat-2
returns-else-eat-2 c =
    misc_ends c.loop-reader.reader c.skip_space.new.self c.args.reader.now c.loop-reader.invariant (sym c.skip_space.ensures) c.if-eat.ensures.0
    (ap (rest_after (codes "<?")) (sym c.if-eat.ensures.1) ∙ c.if-eat-2.ensures.0)
    ∙ ap (λ t. Some t) (sym c.if-eat.ensures.1 ∙ sym c.if-eat-2.ensures.1)
