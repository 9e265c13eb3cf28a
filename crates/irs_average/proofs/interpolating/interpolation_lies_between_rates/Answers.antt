use Rattle.irs_average.specs.Interpolations.{StubAsked, stub_asked}
use Rattle.irs_average.proofs.StubLemmas.{lies_among}
use Rattle.irs_average.proofs.interpolating.interpolation_lies_between_rates.Goals as goal

pub returns : goal.returns
returns c =
    let a : StubAsked =
    stub_asked c.args.swap.now c.args.stream c.args.side c.args.low c.args.high c.args.s.now c.args.fix.now in
    lies_among a
