use Rattle.std.specs.Prelude.{option_copied}
use Rattle.irs_breaks.proofs.PaymentsTold.{pair_told}
use Rattle.irs_breaks.proofs.period_breaks.push_period_pair.Goals as goal

pub returns : goal.returns
returns c =
    pair_told c.args.place.now (option_copied c.args.reset) c.args.x.now c.args.y.now c.period_fields-fields.result
    c.period_counts.result c.args.list.now c.push_pair.new.self c.push_fields.new.list c.push_reset.new.list
    c.period_fields-fields.ensures.fields c.period_counts.ensures c.in_ok-push_pair.ensures c.in_ok-push_fields.ensures
    c.in_ok-push_reset.ensures
