use Rattle.std.proofs.Common.{ℤ, pos, arith, subst}
use Rattle.std.proofs.lemmas.List.{get_or_read}
use Rattle.std.proofs.lemmas.Option.{IfSome_then}
use Rattle.irs_base.proofs.DateTexts.{IfNone_then}
use Rattle.irs_periods.specs.Boundaries.{AdjustsAt, NoResult, boundary_days_by, last_of}
use Rattle.irs_periods.proofs.FirstResults.{each_place, first_alone, first_behind}
use Rattle.irs_base.specs.Lists.{day_at}
use Rattle.irs_periods.proofs.adjusting.first_without.Goals as goal

pub returns-in-Some-clause-some : goal.returns-in-Some-clause-some
returns-in-Some-clause-some g c =
    let s = c.args.s.now in
    let b = c.args.days.now in
    let days = g.G.GoodDays.days in
    let sets = boundary_days_by days c.args.start.now c.args.end.now c.args.middle.now in
    let zeroth = get_or_read b 0 c.index-days-0.result (omega (arith, c.requires)) c.index-days-0.is (pos 0) in
    let at_first : (r : ℤ) × AdjustsAt s sets (last_of b) 0 (day_at b 0) r = (
      c.in-Some._first,
      subst (λ (d : ℤ). AdjustsAt s sets (last_of b) 0 d c.in-Some._first) zeroth
          c.in-Some.ensures.some,
    ) in
    IfSome_then c.later_without-later.result c.later_without-later.ensures.some
    (λ i h. first_behind s sets b i at_first h)

pub returns-in-Some-clause-none : goal.returns-in-Some-clause-none
returns-in-Some-clause-none g c =
    let s = c.args.s.now in
    let b = c.args.days.now in
    let days = g.G.GoodDays.days in
    let sets = boundary_days_by days c.args.start.now c.args.end.now c.args.middle.now in
    let zeroth = get_or_read b 0 c.index-days-0.result (omega (arith, c.requires)) c.index-days-0.is (pos 0) in
    let at_first : (r : ℤ) × AdjustsAt s sets (last_of b) 0 (day_at b 0) r = (
      c.in-Some._first,
      subst (λ (d : ℤ). AdjustsAt s sets (last_of b) 0 d c.in-Some._first) zeroth
          c.in-Some.ensures.some,
    ) in
    IfNone_then c.later_without-later.result c.later_without-later.ensures.none
    (λ later. each_place s sets b at_first later)

pub returns-in-Some-None-clause-some : goal.returns-in-Some-None-clause-some
returns-in-Some-None-clause-some g c =
    let s = c.args.s.now in
    let b = c.args.days.now in
    let days = g.G.GoodDays.days in
    let sets = boundary_days_by days c.args.start.now c.args.end.now c.args.middle.now in
    let zeroth = get_or_read b 0 c.index-days-0.result (omega (arith, c.requires)) c.index-days-0.is (pos 0) in
    let misses : NoResult s sets b 0 = record {
      within = omega (arith, c.requires);
      none = subst (λ (d : ℤ). (r : ℤ) → AdjustsAt s sets (last_of b) 0 d r → ⊥) zeroth c.in_default.ensures.none;
    } in
    let later = rw c.in-Some-None.is-1 at c.later_without-later.ensures.none in
    first_alone s sets b misses later
