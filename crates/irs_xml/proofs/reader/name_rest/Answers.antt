use Rattle.std.proofs.Common.{◌++◌, length, sym, ◌∙◌, ap}
use Rattle.std.specs.Char.{encode_utf8}
use Rattle.std.specs.List.{slice_get}
use Rattle.irs_xml.proofs.NameReads.{splits_more, ends_empty, ends_other}
use Rattle.irs_xml.proofs.Seeing.{cut_ascii, front_ascii}
use Rattle.irs_xml.proofs.reader.name_rest.Goals as goal

pub range_from-left-requires : goal.range_from-left-requires
range_from-left-requires c = λ _.
    cut_ascii c.loop-byte.left.now c.in-Some.byte.now c.loop-byte.invariant.0
    (c.in-Some.ensures.value ∙ ap (λ bs. slice_get bs 0) c.as_bytes.ensures.value) (c.is_ascii_name.ensures c.if-is_ascii_name.true).0

pub loop-byte-preserved-then-is_ascii_name : goal.loop-byte-preserved-then-is_ascii_name
loop-byte-preserved-then-is_ascii_name c =
    let test = c.is_ascii_name.ensures c.if-is_ascii_name.true in
    let begins = front_ascii c.loop-byte.left.now c.in-Some.byte.now
    (c.in-Some.ensures.value ∙ ap (λ bs. slice_get bs 0) c.as_bytes.ensures.value) test.0 in (
      c.range_from-left.utf8,
      rw c.range_from-left.ensures.value (splits_more _ _ _ _ c.loop-byte.invariant.1 c.loop-byte.invariant.0 begins test.1),
    )

pub loop-byte-preserved : goal.loop-byte-preserved
loop-byte-preserved c =
    let begins = sym c.chars-behind.ensures.rest ∙ c.in-Some-next.ensures.steps.0
    ∙ ap (λ t. encode_utf8 c.in-Some-next.c ++ t) (sym c.as_str-left.ensures) in (
      c.as_str-left.utf8,
      splits_more _ _ _ _ c.loop-byte.invariant.1 c.loop-byte.invariant.0 begins (sym c.is_name_char.ensures ∙ c.if-is_name_char.true),
    )

pub returns-in_default-next-clause-ends : goal.returns-in_default-next-clause-ends
returns-in_default-next-clause-ends c =
    ends_other _ _ _ c.loop-byte.invariant.0 (sym c.chars-behind.ensures.rest ∙ c.in-Some-next.ensures.steps.0)
    (sym c.is_name_char.ensures ∙ c.if-is_name_char.false)

pub returns-in_default-next-2-clause-ends : goal.returns-in_default-next-2-clause-ends
returns-in_default-next-2-clause-ends c = ends_empty _ (ap length (sym c.chars-behind.ensures.rest) ∙ c.in_default-next.ensures.steps.0.0)
