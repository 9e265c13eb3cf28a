use Rattle.std.proofs.Common.{arith, sym, ◌∙◌}
use Rattle.irs_base.proofs.FieldLemmas.{field_here, field_alone, whole_rest}
use Rattle.irs_base.proofs.fields.split_field.Goals as goal

pub returns-then-is_gap-clause-fields : goal.returns-then-is_gap-clause-fields
returns-then-is_gap-clause-fields c =
    rw (whole_rest c.args.bytes.now c.loop-i.i (omega arith))
    (field_here c.args.bytes.now c.loop-i.i c.requires.begins c.loop-i-test.true (sym c.is_gap.ensures
    ∙ c.if-is_gap.true) c.loop-i.invariant)

pub returns-clause-fields : goal.returns-clause-fields
returns-clause-fields c = field_alone c.args.bytes.now c.requires.some (λ k h. c.loop-i.invariant k (omega (arith, h)))
