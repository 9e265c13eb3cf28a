use Rattle.std.proofs.Common.{◌-◌, ◌≤◌, ◌<ℤ◌, length, rules, subst, sym, ap, ◌∙◌, arith, refl, FitsSigned}
use Rattle.std.specs.Int.{w64}
use Rattle.std.proofs.lemmas.Int.{to_z-of_z}
use Rattle.irs_schedule.specs.Parts.{Part}
use Rattle.irs_schedule.specs.Schedules.{period_count}
use Rattle.irs_schedule.specs.declared.entries.PeriodEntry.{PeriodEntry}
use Rattle.irs_schedule.proofs.PeriodLemmas.{entry_at, length_periods, next_day}
use Rattle.irs_base.specs.Lists.{day_at}
use Rattle.irs_schedule.proofs.streams.StreamPart.entry_days.Goals as goal

pub days_by-requires : goal.days_by-requires
days_by-requires c =
    let s = c.self.inside in
    let b = c.self.invariant.bounds in
    let P : Part → Type 0 = λ p. c.args.number ≤ length p.periods in
    let high = subst P (sym c.self.view_is) c.requires.high in
    let order : day_at s.adjusted (c.args.number - 1) <ℤ day_at s.adjusted c.args.number =
    next_day s.adjusted c.args.number b.adjusted_rises c.requires.low (omega (arith, high, b.adjusted)) in
    rw (c.day_at.ensures, c.day_at-2.ensures, c.as_slice-boundaries.ensures.value) order

pub returns : goal.returns
returns c =
    let s = c.self.inside in
    let P : Part → Type 0 = λ p. c.args.number ≤ length p.periods in
    let high = subst P (sym c.self.view_is) c.requires.high in
    let within : c.args.number ≤ period_count s.adjusted =
    omega (arith, high, length_periods s.terms s.unadjusted s.adjusted s.resets s.rates) in
    let h = entry_at s.terms s.unadjusted s.adjusted s.resets s.rates c.args.number c.requires.low within in
    let f : FitsSigned w64 c.days_by.result = search rules in
    rw (← c.self.view_is) (ap (λ (e : PeriodEntry). e.days) h
    ∙ sym (simp to_z-of_z (c.days_by.ensures.value
    ∙ rw (c.day_at.ensures, c.day_at-2.ensures, c.len.ensures, c.as_slice-boundaries.ensures.value) refl)))
