use Rattle.std.proofs.Common.{◌≡◌, ℤ, pos, ◌+ℤ◌, to_z, of_z, w64, arith, ap, ◌∙◌, subst, sym}
use Rattle.jiff_core.proofs.SignedLemmas.{signed_arith}
use Rattle.irs_base.specs.Days.{IsDay}
use Rattle.irs_periods.proofs.GridDays.{number_bounds}
use Rattle.irs_periods.proofs.RegularPart.{on_first, listed, days, number_order_of}
use Rattle.irs_periods.proofs.listing.regular_part.Goals as goal

pub number_of-first-requires : goal.number_of-first-requires
number_of-first-requires g c =
    let grid = c.args.grid.now in
    let laws = g.met.G.Grid in
    let q = c.requires in
    on_first (g.G.Grid.at grid) (laws.rises grid) (g.G.Grid.on grid) (laws.nth_is_on grid)
    (laws.misses_none grid) c.args.s.now c.args.span.now q.dates q.timed q.span q.kept q.first q.on

pub steps_between-requires-clause-low : goal.steps_between-requires-clause-low
steps_between-requires-clause-low g c =
    let f : ℤ → ℤ = g.G.Grid.at c.args.grid.now in
    let zeroth : IsDay (f (pos 0)) = subst IsDay (sym c.requires.first) c.number.ensures.range in
    let at_first : IsDay (f c.number_of-first.result) =
    subst IsDay (sym c.number_of-first.ensures) c.number-2.ensures.range in
    let bounds = number_bounds f (g.met.G.Grid.rises c.args.grid.now) c.number_of-first.result zeroth at_first in
    omega (arith, signed_arith, bounds)

pub steps_between-requires-clause-high : goal.steps_between-requires-clause-high
steps_between-requires-clause-high g c =
    let f : ℤ → ℤ = g.G.Grid.at c.args.grid.now in
    let zeroth : IsDay (f (pos 0)) = subst IsDay (sym c.requires.first) c.number.ensures.range in
    let at_last : IsDay (f c.number_of-last.result) =
    subst IsDay (sym c.number_of-last.ensures) c.number-3.ensures.range in
    let bounds = number_bounds f (g.met.G.Grid.rises c.args.grid.now) c.number_of-last.result zeroth at_last in
    omega (arith, signed_arith, bounds)

pub steps_between-requires-clause-order : goal.steps_between-requires-clause-order
steps_between-requires-clause-order g c =
    let grid = c.args.grid.now in
    let laws = g.met.G.Grid in
    let q = c.requires in
    let f : ℤ → ℤ = g.G.Grid.at grid in
    let zeroth : IsDay (f (pos 0)) = subst IsDay (sym q.first) c.number.ensures.range in
    let at_first : IsDay (f c.number_of-first.result) =
    subst IsDay (sym c.number_of-first.ensures) c.number-2.ensures.range in
    let at_last : IsDay (f c.number_of-last.result) =
    subst IsDay (sym c.number_of-last.ensures) c.number-3.ensures.range in
    let low = number_bounds f (laws.rises grid) c.number_of-first.result zeroth at_first in
    let high = number_bounds f (laws.rises grid) c.number_of-last.result zeroth at_last in
    let order = number_order_of f (laws.rises grid) (g.G.Grid.on grid) (laws.nth_is_on grid)
    (laws.misses_none grid) c.args.s.now c.args.span.now q.dates q.timed q.span q.kept q.first q.on
    c.number_of-first.result c.number_of-last.result c.number_of-first.ensures c.number_of-last.ensures in
    omega (arith, signed_arith, low, high, order)

pub returns-clause-near : goal.returns-clause-near
returns-clause-near g c =
    let f : ℤ → ℤ = g.G.Grid.at c.args.grid.now in
    let zeroth : IsDay (f (pos 0)) = subst IsDay (sym c.requires.first) c.number.ensures.range in
    let at_first : IsDay (f c.number_of-first.result) =
    subst IsDay (sym c.number_of-first.ensures) c.number-2.ensures.range in
    let bounds = number_bounds f (g.met.G.Grid.rises c.args.grid.now) c.number_of-first.result zeroth at_first in
    (omega (arith, signed_arith, bounds), omega (arith, signed_arith, bounds))

pub returns-clause-listed : goal.returns-clause-listed
returns-clause-listed g c =
    let grid = c.args.grid.now in
    let laws = g.met.G.Grid in
    let q = c.requires in
    let f : ℤ → ℤ = g.G.Grid.at grid in
    let zeroth : IsDay (f (pos 0)) = subst IsDay (sym q.first) c.number.ensures.range in
    let at_first : IsDay (f c.number_of-first.result) =
    subst IsDay (sym c.number_of-first.ensures) c.number-2.ensures.range in
    let at_last : IsDay (f c.number_of-last.result) =
    subst IsDay (sym c.number_of-last.ensures) c.number-3.ensures.range in
    let low = number_bounds f (laws.rises grid) c.number_of-first.result zeroth at_first in
    let high = number_bounds f (laws.rises grid) c.number_of-last.result zeroth at_last in
    let start : ℤ = to_z w64 (of_z w64 c.number_of-first.result) in
    let same : start ≡ c.number_of-first.result = omega (arith, signed_arith, low) in
    let end : start +ℤ pos c.steps_between.result ≡ c.number_of-last.result =
    omega (arith, signed_arith, high, c.steps_between.ensures) in
    listed f (laws.rises grid) (g.G.Grid.on grid) (laws.nth_is_on grid)
    (laws.misses_none grid) c.args.s.now c.args.span.now q.dates q.timed q.span q.kept q.first q.on
    start c.steps_between.result (ap f same ∙ c.number_of-first.ensures) (ap f end ∙ c.number_of-last.ensures)

pub returns-clause-days : goal.returns-clause-days
returns-clause-days g c =
    let grid = c.args.grid.now in
    let laws = g.met.G.Grid in
    let q = c.requires in
    let f : ℤ → ℤ = g.G.Grid.at grid in
    let zeroth : IsDay (f (pos 0)) = subst IsDay (sym q.first) c.number.ensures.range in
    let at_first : IsDay (f c.number_of-first.result) =
    subst IsDay (sym c.number_of-first.ensures) c.number-2.ensures.range in
    let at_last : IsDay (f c.number_of-last.result) =
    subst IsDay (sym c.number_of-last.ensures) c.number-3.ensures.range in
    let low = number_bounds f (laws.rises grid) c.number_of-first.result zeroth at_first in
    let high = number_bounds f (laws.rises grid) c.number_of-last.result zeroth at_last in
    let start : ℤ = to_z w64 (of_z w64 c.number_of-first.result) in
    let same : start ≡ c.number_of-first.result = omega (arith, signed_arith, low) in
    let end : start +ℤ pos c.steps_between.result ≡ c.number_of-last.result =
    omega (arith, signed_arith, high, c.steps_between.ensures) in
    λ j h. days f (laws.rises grid) (g.G.Grid.on grid) (laws.nth_is_on grid)
    (laws.misses_none grid) c.args.s.now c.args.span.now q.dates q.timed q.span q.kept q.first q.on
    start c.steps_between.result (ap f same ∙ c.number_of-first.ensures) (ap f end
    ∙ c.number_of-last.ensures) c.number-2.ensures.range c.number-3.ensures.range j h
