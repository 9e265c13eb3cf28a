use Rattle.std.proofs.Common.{arith}
use Rattle.irs_resets.proofs.ListedResets.{listed_unbroken, no_stub}
use Rattle.irs_resets.proofs.RowLemmas.{few_days, resets_in}
use Rattle.irs_resets.specs.Resets.{BreaksStubs, ResetSource, source_of}
use Rattle.irs_resets.proofs.rows.floating_resets.Goals as goal

pub first_fault-requires-clause-few : goal.first_fault-requires-clause-few
first_fault-requires-clause-few g c =
    let few = few_days c.args.adjusted.now c.requires.rising c.as_slice-days.ensures.days in
    rw c.as_slice-days.ensures.value (omega (arith, few))

pub returns-in-None-clause-memory : goal.returns-in-None-clause-memory
returns-in-None-clause-memory g c = rw c.as_slice-days.ensures.value at c.in-None.ensures

pub returns-in-Some-clause-meets : goal.returns-in-Some-clause-meets
returns-in-Some-clause-meets g c =
    let source : ResetSource =
    source_of c.args.s.now c.args.span.now c.args.adjusted.now (g.G.GoodDays.days c.args.reset_days.now)
    (g.G.GoodDays.days c.args.fixing_days.now) in
    let stubs = no_stub (BreaksStubs source.stream source.span) c.stub_fault.result c.if-is_none.ensures
    c.stub_fault.ensures in
    let rows = rw c.as_slice-days.ensures.value at c.in-Some.ensures.some in (
      listed_unbroken source c.args.float.now c.args.terms.now c.args.fixings.now c.in-Some.rows
          c.requires.reset stubs rows,
      resets_in source c.args.fixings.now c.args.float.now c.args.terms.now c.in-Some.rows c.requires.leg
          c.requires.reset rows,
    )
