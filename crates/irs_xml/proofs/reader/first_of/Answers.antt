use Rattle.std.proofs.Common.{ap, ◌∙◌}
use Rattle.std.specs.List.{slice_get}
use Rattle.irs_xml.proofs.Seeing.{seen_none, seen_ascii, cut_ascii}
use Rattle.irs_xml.proofs.reader.first_of.Goals as goal

pub returns-in_err-byte : goal.returns-in_err-byte
returns-in_err-byte c =
    rw (c.from_residual.ensures) (seen_none c.args.text.now (c.in_err-byte.ensures.value ∙ ap (λ bs. slice_get bs 0) c.as_bytes.ensures.value))

pub range_from-requires : goal.range_from-requires
range_from-requires c = λ _.
    cut_ascii c.args.text.now c.in_ok-byte.field-0.now c.utf8.text
    (c.in_ok-byte.ensures.value ∙ ap (λ bs. slice_get bs 0) c.as_bytes.ensures.value) c.if-byte-lt128.true

pub returns-then-byte-ne13 : goal.returns-then-byte-ne13
returns-then-byte-ne13 c =
    rw (c.from.ensures, c.range_from.ensures.value) (seen_ascii c.args.text.now c.in_ok-byte.field-0.now c.utf8.text
    (c.in_ok-byte.ensures.value ∙ ap (λ bs. slice_get bs 0) c.as_bytes.ensures.value) c.if-byte-lt128.true c.if-byte-ne13.true)
