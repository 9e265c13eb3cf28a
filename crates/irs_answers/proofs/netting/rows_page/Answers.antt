use Rattle.std.proofs.Common.{ap, ◌∙◌, ◌++◌, List, ℕ}
use Rattle.irs_net.specs.Nets.{net_text}
use Rattle.irs_answers.specs.Tasks.{net_header}
use Rattle.irs_answers.proofs.PageLemmas.{page_more, page_whole}
use Rattle.irs_answers.proofs.netting.rows_page.Goals as goal

pub loop-row-preserved : goal.loop-row-preserved
loop-row-preserved c =
    let line = c.bytes.ensures.bytes ∙ c.net_text.ensures ∙ ap net_text c.row-item.is in
    record {
      text = page_more net_text net_header c.loop-row.text.items c.extend_from_slice.new.self.items c.bytes.result.now
          c.args.rows.now c.loop-row.row-index c.row-item.result c.loop-row-test.true c.loop-row.invariant.text
          c.in_ok-extend_from_slice.ensures.items line;
    }

pub returns : goal.returns
returns c = c.in_ok-extend_from_slice-2.ensures.items
    ∙ ap (λ (l : List ℕ). l ++ _)
    (page_whole net_text net_header c.loop-row.text.items c.args.rows.now c.loop-row.row-index c.loop-row-test.false
    c.loop-row.invariant.text)
