use Rattle.std.proofs.Common.{◌++◌, length, sym, ◌∙◌, ap}
use Rattle.std.specs.Char.{encode_utf8}
use Rattle.std.specs.List.{slice_get}
use Rattle.irs_xml.proofs.Seeing.{cut_ascii, front_ascii}
use Rattle.irs_xml.proofs.TextLaws.{all_nothing, all_step, all_stop}
use Rattle.irs_xml.proofs.reading.forbidden.Goals as goal

pub range_from-left-requires : goal.range_from-left-requires
range_from-left-requires c = λ _.
    cut_ascii c.loop-byte.left.now c.in-Some.byte.now c.loop-byte.invariant.0
    (c.in-Some.ensures.value ∙ ap (λ bs. slice_get bs 0) c.as_bytes.ensures.value) (c.is_ascii_char.ensures c.if-is_ascii_char.true).0

pub loop-byte-preserved-then-is_ascii_char : goal.loop-byte-preserved-then-is_ascii_char
loop-byte-preserved-then-is_ascii_char c =
    let test = c.is_ascii_char.ensures c.if-is_ascii_char.true in
    let begins = front_ascii c.loop-byte.left.now c.in-Some.byte.now
    (c.in-Some.ensures.value ∙ ap (λ bs. slice_get bs 0) c.as_bytes.ensures.value) test.0 in (
      c.range_from-left.utf8,
      rw c.range_from-left.ensures.value (sym (all_step _ _ _ c.loop-byte.invariant.0 begins test.1) ∙ c.loop-byte.invariant.1),
    )

pub loop-byte-preserved : goal.loop-byte-preserved
loop-byte-preserved c =
    let begins = sym c.chars-behind.ensures.rest ∙ c.in-Some-next.ensures.steps.0
    ∙ ap (λ t. encode_utf8 c.in-Some-next.c ++ t) (sym c.as_str-left.ensures) in (
      c.as_str-left.utf8,
      sym (all_step _ _ _ c.loop-byte.invariant.0 begins (sym c.is_char.ensures ∙ c.if-not-is_char.false)) ∙ c.loop-byte.invariant.1,
    )

pub returns-then-not-is_char : goal.returns-then-not-is_char
returns-then-not-is_char c =
    sym c.loop-byte.invariant.1
    ∙ all_stop _ _ _ c.loop-byte.invariant.0 (sym c.chars-behind.ensures.rest ∙ c.in-Some-next.ensures.steps.0)
    (sym c.is_char.ensures ∙ c.if-not-is_char.true)

pub returns-in_default-next : goal.returns-in_default-next
returns-in_default-next c =
    sym c.loop-byte.invariant.1 ∙ all_nothing _ (ap length (sym c.chars-behind.ensures.rest) ∙ c.in_default-next.ensures.steps.0.0)
