use Rattle.std.proofs.Common.{sym, ap, subst, ◌∙◌}
use Rattle.std.specs.List.{slice_get}
use Rattle.irs_xml.specs.Private.Reading.{SplitsPlain}
use Rattle.irs_xml.proofs.PlainSteps.{plain_more}
use Rattle.irs_xml.proofs.Seeing.{cut_ascii}
use Rattle.irs_xml.proofs.reader.plain_rest.Goals as goal

pub range_from-left-requires : goal.range_from-left-requires
range_from-left-requires c = λ _.
    cut_ascii c.loop-byte.left.now c.in-Some.byte.now c.loop-byte.invariant.0
    (c.in-Some.ensures.value ∙ ap (λ bs. slice_get bs 0) c.as_bytes.ensures.value) (c.is_plain.ensures c.if-is_plain.true).0

pub loop-byte-preserved : goal.loop-byte-preserved
loop-byte-preserved c = (
  c.range_from-left.utf8,
  subst (SplitsPlain c.args.text.now) (sym c.range_from-left.ensures.value)
      (plain_more c.args.text.now c.loop-byte.left.now c.in-Some.byte.now c.loop-byte.invariant.1
      (c.in-Some.ensures.value ∙ ap (λ bs. slice_get bs 0) c.as_bytes.ensures.value) (c.is_plain.ensures c.if-is_plain.true)),
)
