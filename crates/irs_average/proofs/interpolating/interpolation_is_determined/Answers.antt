use Rattle.irs_average.specs.Interpolations.{StubAsked, stub_asked}
use Rattle.irs_average.proofs.StubLemmas.{one_interpolated, one_stub_broken, row_there}
use Rattle.irs_average.proofs.interpolating.interpolation_is_determined.Goals as goal

pub returns-clause-exists : goal.returns-clause-exists
returns-clause-exists c =
    let a : StubAsked =
    stub_asked c.args.swap.now c.args.stream c.args.side c.args.low c.args.high c.args.s.now c.args.fix.now in
    row_there a c.numbered_row-row.result c.numbered_row-row.ensures.ok c.numbered_row-row.ensures.broken

pub returns-clause-one : goal.returns-clause-one
returns-clause-one c =
    let a : StubAsked =
    stub_asked c.args.swap.now c.args.stream c.args.side c.args.low c.args.high c.args.s.now c.args.fix.now in
    one_interpolated a

pub returns-clause-one_broken : goal.returns-clause-one_broken
returns-clause-one_broken c =
    let a : StubAsked =
    stub_asked c.args.swap.now c.args.stream c.args.side c.args.low c.args.high c.args.s.now c.args.fix.now in
    one_stub_broken a
