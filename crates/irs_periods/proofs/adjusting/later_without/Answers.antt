use Rattle.std.proofs.Common.{◌≡◌, inl, inr, ℕ, ◌<◌, ℤ, pos, arith, subst}
use Rattle.std.proofs.lemmas.Bool.{cases_lt}
use Rattle.std.proofs.lemmas.List.{get_or_read}
use Rattle.irs_periods.specs.Boundaries.{AdjustsAt, NoResult, boundary_days_by, last_of}
use Rattle.irs_periods.proofs.FirstResults.{first_inner, each_later}
use Rattle.irs_base.specs.Lists.{day_at}
use Rattle.irs_periods.proofs.adjusting.later_without.Goals as goal

pub returns-in_default-adjust_at-clause-some : goal.returns-in_default-adjust_at-clause-some
returns-in_default-adjust_at-clause-some g c =
    let s = c.args.s.now in
    let b = c.args.days.now in
    let last = last_of b in
    let days = g.G.GoodDays.days in
    let sets = boundary_days_by days c.args.start.now c.args.end.now c.args.middle.now in
    let i = c.loop-i.i in
    let inner : i < last = omega (arith, c.loop-i-test.true) in
    let some : 0 < i = omega (arith, c.loop-i.auto) in
    let final = get_or_read b last c.index-days-last.result (omega (arith, c.requires)) c.index-days-last.is (pos 0) in
    let here = get_or_read b i c.index-days-i.result (omega (arith, inner)) c.index-days-i.is (pos 0) in
    let misses : NoResult s sets b i = record {
      within = omega (arith, inner);
      none = subst (λ (d : ℤ). (r : ℤ) → AdjustsAt s sets last i d r → ⊥) here c.in_default-adjust_at.ensures.none;
    } in
    first_inner s sets b i some inner misses
    (c.in-Some._last, subst (λ (d : ℤ). AdjustsAt s sets last last d c.in-Some._last) final c.in-Some.ensures.some)
    c.loop-i.invariant

pub loop-i-preserved : goal.loop-i-preserved
loop-i-preserved g c = λ j low high.
    let s = c.args.s.now in
    let b = c.args.days.now in
    let last = last_of b in
    let days = g.G.GoodDays.days in
    let sets = boundary_days_by days c.args.start.now c.args.end.now c.args.middle.now in
    let i = c.loop-i.i in
    let inner : i < last = omega (arith, c.loop-i-test.true) in
    let here = get_or_read b i c.index-days-i.result (omega (arith, inner)) c.index-days-i.is (pos 0) in
    let found = c.in-Some-adjust_at._middle in
    elim (cases_lt j i) [
      | inl before ↦ c.loop-i.invariant j low before
      | inr after ↦
          let e : i ≡ j = omega (arith, after, high) in
          subst (λ (k : ℕ). (r : ℤ) × AdjustsAt s sets last k (day_at b k) r) e
          (found, subst (λ (d : ℤ). AdjustsAt s sets last i d found) here c.in-Some-adjust_at.ensures.some)
    ]

pub returns-clause-none : goal.returns-clause-none
returns-clause-none g c =
    let s = c.args.s.now in
    let b = c.args.days.now in
    let last = last_of b in
    let days = g.G.GoodDays.days in
    let sets = boundary_days_by days c.args.start.now c.args.end.now c.args.middle.now in
    let final = get_or_read b last c.index-days-last.result (omega (arith, c.requires)) c.index-days-last.is (pos 0) in
    each_later s sets b
    (c.in-Some._last, subst (λ (d : ℤ). AdjustsAt s sets last last d c.in-Some._last) final c.in-Some.ensures.some)
    (λ j low high. c.loop-i.invariant j low (omega (arith, high, c.loop-i-test.false)))
