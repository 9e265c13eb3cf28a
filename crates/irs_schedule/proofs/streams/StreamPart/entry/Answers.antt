use Rattle.std.proofs.Common.{◌-◌, ◌≤◌, ◌<ℤ◌, length, subst, sym, ◌∙◌, arith, refl}
use Rattle.irs_schedule.specs.Parts.{Part}
use Rattle.irs_schedule.specs.Schedules.{period_count, period_by}
use Rattle.irs_schedule.proofs.PeriodLemmas.{entry_at, length_periods, next_day}
use Rattle.irs_base.specs.Lists.{day_at}
use Rattle.irs_schedule.proofs.streams.StreamPart.entry.Goals as goal

pub entry_by-requires-clause-order : goal.entry_by-requires-clause-order
entry_by-requires-clause-order c =
    let s = c.self.inside in
    let b = c.self.invariant.bounds in
    let P : Part → Type 0 = λ p. c.args.number ≤ length p.periods in
    let high = subst P (sym c.self.view_is) c.requires.high in
    let order : day_at s.adjusted (c.args.number - 1) <ℤ day_at s.adjusted c.args.number =
    next_day s.adjusted c.args.number b.adjusted_rises c.requires.low (omega (arith, high, b.adjusted)) in
    rw (c.day_at.ensures, c.day_at-2.ensures, c.as_slice.ensures.value, c.as_slice-2.ensures.value) order

pub returns : goal.returns
returns c =
    let s = c.self.inside in
    let P : Part → Type 0 = λ p. c.args.number ≤ length p.periods in
    let high = subst P (sym c.self.view_is) c.requires.high in
    let within : c.args.number ≤ period_count s.adjusted =
    omega (arith, high, length_periods s.terms s.unadjusted s.adjusted s.resets s.rates) in
    let h = entry_at s.terms s.unadjusted s.adjusted s.resets s.rates c.args.number c.requires.low within in
    rw (← c.self.view_is) (c.entry_by.ensures
    ∙ rw (
      c.day_at.ensures,
      c.day_at-2.ensures,
      c.day_at-3.ensures,
      c.observed_at.ensures,
      c.overnight_at.ensures,
      c.len.ensures,
      c.as_slice.ensures.value,
      c.as_slice-2.ensures.value,
      c.as_slice-3.ensures.value,
      c.as_slice-4.ensures,
      c.as_slice-5.ensures,
    ) (refl {a = period_by s.terms s.unadjusted s.adjusted s.resets s.rates c.args.number})
    ∙ sym h)
