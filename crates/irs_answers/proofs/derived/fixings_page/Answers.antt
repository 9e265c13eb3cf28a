use Rattle.std.proofs.Common.{codes, ap, ◌∙◌}
use Rattle.irs_overnight.specs.Texts.{derived_text_of}
use Rattle.irs_overnight.specs.declared.derived.DerivedRow.{DerivedRow}
use Rattle.irs_answers.proofs.PageLemmas.{page_more, page_whole}
use Rattle.irs_answers.proofs.derived.fixings_page.Goals as goal

pub loop-row-preserved : goal.loop-row-preserved
loop-row-preserved c =
    let f = λ (row : DerivedRow). derived_text_of row c.args.tenor c.args.index.now in
    let line = c.bytes.ensures.bytes ∙ c.derived_text.ensures.text ∙ ap f c.row-item.is in
    record {
      text = page_more f (codes "# irs-fixings 1\n") c.loop-row.text.items c.extend_from_slice.new.self.items
          c.bytes.result.now c.args.rows.now c.loop-row.row-index c.row-item.result c.loop-row-test.true
          c.loop-row.invariant.text c.in_ok-extend_from_slice.ensures.items line;
    }

pub returns : goal.returns
returns c = page_whole (λ row. derived_text_of row c.args.tenor c.args.index.now)
    (codes "# irs-fixings 1\n") c.loop-row.text.items c.args.rows.now c.loop-row.row-index c.loop-row-test.false
    c.loop-row.invariant.text
