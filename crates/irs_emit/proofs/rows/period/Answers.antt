use Rattle.irs_emit.proofs.rows.period.Goals as goal
use Rattle.irs_emit.proofs.Pieces.{twice}
use Rattle.std.proofs.Common.{◌++◌, option_map, ap, ◌∙◌}
use Rattle.irs_emit.proofs.RowTexts.{period_text}
use Rattle.irs_emit.specs.Private.Texts.{period_back, period_front, rate_text}

pub returns : goal.returns
returns c =
    let x = c.args.x.now in
    let reset = option_map (λ r. r.now) c.args.reset in
    twice c.args.out.now.items c.front.new.out.items c.back.new.out.items
    (period_front x) _ c.in_ok-front.ensures
    (twice c.front.new.out.items c.rate.new.out.items c.back.new.out.items
    (rate_text x reset) (period_back x) c.in_ok-rate.ensures c.in_ok-back.ensures)
    ∙ ap (λ t. c.args.out.now.items ++ t) (period_text x reset)
