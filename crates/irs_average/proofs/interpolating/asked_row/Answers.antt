use Rattle.std.proofs.Common.{◌≡◌, inl, inr, ℕ, ◌-◌, Some, length, subst}
use Rattle.std.specs.Prelude.{slice_get}
use Rattle.irs_overnight.proofs.SourceLemmas.{asked_place, part_floats, part_read}
use Rattle.irs_average.specs.Interpolations.{outside_at, IsStubRow, LiesOutside, StubAsked, stub_asked, stub_source}
use Rattle.irs_average.specs.Private.Means.{number_on}
use Rattle.irs_average.proofs.StubLemmas.{has_stub, is_with_days, stub_with, with_days}
use Rattle.irs_average.proofs.interpolating.asked_row.Goals as goal

pub returns-in_default-clause-broken : goal.returns-in_default-clause-broken
returns-in_default-clause-broken c =
    inl (λ stub has. c.in_default.ensures.none stub.source.index stub.tenor has.gives, c.without_stub.ensures)

pub bounds-streams-stream : goal.bounds-streams-stream
bounds-streams-stream c =
    let a : StubAsked =
    stub_asked c.args.swap.now c.args.stream c.args.side c.args.low c.args.high c.args.s.now c.args.fix.now in
    rw c.streams.ensures.value (asked_place (with_days a c.requires) (is_with_days a c.requires)).1

pub stub_row-requires-clause-floating : goal.stub_row-requires-clause-floating
stub_row-requires-clause-floating c =
    let a : StubAsked =
    stub_asked c.args.swap.now c.args.stream c.args.side c.args.low c.args.high c.args.s.now c.args.fix.now in
    let part = c.index-streams-stream.result in
    let place = asked_place (with_days a c.requires) (is_with_days a c.requires) in
    let at : slice_get c.args.s.now (c.args.stream - 1) ≡ Some part =
    part_read c.args.s.now c.streams.result.now (c.args.stream - 1) part c.streams.ensures.value place.1
    c.index-streams-stream.is in
    part_floats (with_days a c.requires) (is_with_days a c.requires) part at

pub returns-in-Some-stub_row-clause-ok : goal.returns-in-Some-stub_row-clause-ok
returns-in-Some-stub_row-clause-ok c =
    let a : StubAsked =
    stub_asked c.args.swap.now c.args.stream c.args.side c.args.low c.args.high c.args.s.now c.args.fix.now in
    let part = c.index-streams-stream.result in
    let index = c.in-Some.index.now in
    let tenor = c.in-Some.field-0-1 in
    let place = asked_place (with_days a c.requires) (is_with_days a c.requires) in
    let at : slice_get c.args.s.now (c.args.stream - 1) ≡ Some part =
    part_read c.args.s.now c.streams.result.now (c.args.stream - 1) part c.streams.ensures.value place.1
    c.index-streams-stream.is in
    let number : c.stub_number-number.result ≡ number_on a.side (length part.adjusted - 1) =
    c.stub_number-number.ensures.value in
    record {
      stub = stub_with a part index tenor;
      has = has_stub a c.requires part at index tenor c.in-Some.ensures.some;
      is = subst (λ (n : ℕ). IsStubRow (stub_source part n index a.low a.high a.rates) n c.in-Some-stub_row.row) number
          c.in-Some-stub_row.ensures.some;
    }

pub returns-in-None-clause-broken : goal.returns-in-None-clause-broken
returns-in-None-clause-broken c =
    let a : StubAsked =
    stub_asked c.args.swap.now c.args.stream c.args.side c.args.low c.args.high c.args.s.now c.args.fix.now in
    let part = c.index-streams-stream.result in
    let index = c.in-Some.index.now in
    let tenor = c.in-Some.field-0-1 in
    let place = asked_place (with_days a c.requires) (is_with_days a c.requires) in
    let at : slice_get c.args.s.now (c.args.stream - 1) ≡ Some part =
    part_read c.args.s.now c.streams.result.now (c.args.stream - 1) part c.streams.ensures.value place.1
    c.index-streams-stream.is in
    let number : c.stub_number-number.result ≡ number_on a.side (length part.adjusted - 1) =
    c.stub_number-number.ensures.value in
    inr (record {
      stub = stub_with a part index tenor;
      has = has_stub a c.requires part at index tenor c.in-Some.ensures.some;
      outside = subst (λ (n : ℕ). LiesOutside (stub_source part n index a.low a.high a.rates)) number
          c.in-None.ensures.none;
      is = subst (λ (n : ℕ). c.outside.result ≡ outside_at n) number c.outside.ensures;
    })
