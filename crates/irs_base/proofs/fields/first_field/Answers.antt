use Rattle.std.proofs.Common.{sym, ◌∙◌}
use Rattle.irs_base.proofs.FieldLemmas.{none_behind}
use Rattle.irs_base.proofs.fields.first_field.Goals as goal

pub returns-then-is_empty-clause-fields : goal.returns-then-is_empty-clause-fields
returns-then-is_empty-clause-fields c =
    none_behind c.args.bytes.now c.skip_gap-rest.result.now c.skip_gap-rest.ensures
    (sym c.is_empty.ensures ∙ c.if-is_empty.true)

pub returns-then-is_empty-clause-shorter : goal.returns-then-is_empty-clause-shorter
returns-then-is_empty-clause-shorter c =
    none_behind c.args.bytes.now c.skip_gap-rest.result.now c.skip_gap-rest.ensures
    (sym c.is_empty.ensures ∙ c.if-is_empty.true)
