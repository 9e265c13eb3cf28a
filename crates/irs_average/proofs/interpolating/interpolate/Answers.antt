use Rattle.irs_average.specs.Interpolations.{StubAsked, stub_asked}
use Rattle.irs_average.proofs.StubLemmas.{row_kept}
use Rattle.irs_average.proofs.StubReading.{read_back}
use Rattle.irs_average.proofs.interpolating.interpolate.Goals as goal

pub returns-clause-fixings : goal.returns-clause-fixings
returns-clause-fixings c =
    let a : StubAsked =
    stub_asked c.args.swap.now c.args.stream c.args.side c.args.low c.args.high c.args.s.now c.args.fix.now in
    read_back a c.requires c.bounds.ensures.each c.numbered_row.result c.numbered_row.ensures.ok
    c.numbered_row.ensures.range

pub returns-clause-kept : goal.returns-clause-kept
returns-clause-kept c =
    let a : StubAsked =
    stub_asked c.args.swap.now c.args.stream c.args.side c.args.low c.args.high c.args.s.now c.args.fix.now in
    row_kept a c.numbered_row.result c.numbered_row.ensures.ok
