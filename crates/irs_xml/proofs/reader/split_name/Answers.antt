use Rattle.std.proofs.Common.{◌++◌, sym, ◌∙◌, ap}
use Rattle.std.specs.Char.{encode_utf8}
use Rattle.irs_xml.specs.Characters.{seen}
use Rattle.irs_xml.proofs.Seeing.{seen_nothing}
use Rattle.irs_xml.proofs.NameReads.{Named, no_name_at_end, no_name_other, may_split, name_read}
use Rattle.irs_xml.proofs.reader.split_name.Goals as goal

pub returns-in_err-next : goal.returns-in_err-next
returns-in_err-next c =
    rw (c.from_residual.ensures) (no_name_at_end _ (ap seen (sym c.chars-behind.ensures.rest)
    ∙ seen_nothing _ c.in_err-next.ensures.steps.0.0))

pub returns-then-not-is_name_start : goal.returns-then-not-is_name_start
returns-then-not-is_name_start c =
    no_name_other _ _ _ c.utf8.text (sym c.chars-behind.ensures.rest ∙ c.in_ok-next.ensures.steps.0)
    (sym c.is_name_start.ensures ∙ c.if-not-is_name_start.true)

pub split_at-requires : goal.split_at-requires
split_at-requires c =
    let named : Named c.args.text.now c.as_str.result.now c.name_rest-left.result.now c.in_ok-next.field-0 = record {
      utf8 = c.utf8.text;
      begins = sym c.chars-behind.ensures.rest ∙ c.in_ok-next.ensures.steps.0
          ∙ ap (λ t. encode_utf8 c.in_ok-next.field-0 ++ t) (sym c.as_str.ensures);
      start = sym c.is_name_start.ensures ∙ c.if-not-is_name_start.false;
      splits = c.name_rest-left.ensures.splits;
      ends = c.name_rest-left.ensures.ends;
    } in
    may_split named c.name_rest-left.utf8

pub returns : goal.returns
returns c =
    let named : Named c.args.text.now c.as_str.result.now c.name_rest-left.result.now c.in_ok-next.field-0 = record {
      utf8 = c.utf8.text;
      begins = sym c.chars-behind.ensures.rest ∙ c.in_ok-next.ensures.steps.0
          ∙ ap (λ t. encode_utf8 c.in_ok-next.field-0 ++ t) (sym c.as_str.ensures);
      start = sym c.is_name_start.ensures ∙ c.if-not-is_name_start.false;
      splits = c.name_rest-left.ensures.splits;
      ends = c.name_rest-left.ensures.ends;
    } in
    rw (c.split_at.ensures.front, c.split_at.ensures.back) (name_read named)
