use Rattle.std.proofs.Common.{rules, arith, ◌≡◌, ℤ, ◌-ℤ◌, FitsSigned, w64, w32, to_z, of_z, to_z-of_z, sym}
use Rattle.std.proofs.Common.{ap, ◌∙◌}
use Rattle.std.proofs.lemmas.Option.{IfSome_then}
use Rattle.jiff_core.proofs.SignedLemmas.{signed_arith}
use Rattle.irs_roll.specs.Private.Laws.{none_then, roll_at, roll_off_range, roll_off_steps, rolls_on}
use Rattle.irs_roll.proofs.month_grid.steps_to.Goals as goal

pub returns-in_err-rolled-clause-none : goal.returns-in_err-rolled-clause-none
returns-in_err-rolled-clause-none g c =
    let r = g.R.Roll in
    let laws = g.met.R.Roll in
    let roll = c.args.roll.now in
    let m = c.month_index-month.ensures in
    let month = c.month_index-month.result in
    let e : to_z w64 (of_z w64 c.from.result) ≡ month = omega (arith, signed_arith, c.from.ensures) in
    let out = rw e at (c.in_err-rolled.ensures {u = tt}) in
    rw c.from_residual.ensures
    (roll_off_range (r.rolls roll) (r.day roll) (laws.is roll) (laws.only roll)
    (laws.stays roll) c.args.months c.args.start c.args.d month m.month m.day out)

pub returns-then-number-clause-none : goal.returns-then-number-clause-none
returns-then-number-clause-none g c = λ h.
    let r = g.R.Roll in
    let laws = g.met.R.Roll in
    let roll = c.args.roll.now in
    let month = c.month_index-month.result in
    let e : to_z w64 (of_z w64 c.from.result) ≡ month = omega (arith, signed_arith, c.from.ensures) in
    let rolled = (rw e at (c.in_ok-rolled.ensures {u = tt})).1 in
    let is = rolls_on (r.rolls roll) (r.day roll) (laws.is roll) (laws.only roll)
    (laws.stays roll) c.args.months c.args.start c.args.d month c.month_index-month.ensures.month h in
    c.if-number.true (ap (of_z w32) (c.number.ensures.value ∙ rolled ∙ is ∙ sym c.number-2.ensures.value))

pub returns-clause-some : goal.returns-clause-some
returns-clause-some g c =
    let r = g.R.Roll in
    let laws = g.met.R.Roll in
    let roll = c.args.roll.now in
    let month = c.month_index-month.result in
    let e : to_z w64 (of_z w64 c.from.result) ≡ month = omega (arith, signed_arith, c.from.ensures) in
    let rolled = (rw e at (c.in_ok-rolled.ensures {u = tt})).1 in
    let a : FitsSigned w32 c.number.result =
    omega (arith, signed_arith, c.number.ensures.value, c.number.ensures.range) in
    let b : FitsSigned w32 c.number-2.result =
    omega (arith, signed_arith, c.number-2.ensures.value, c.number-2.ensures.range) in
    let same : c.number.result ≡ c.number-2.result =
    sym (to_z-of_z a) ∙ ap (to_z w32) c.if-number.false ∙ to_z-of_z b in
    let is : r.day roll month ≡ c.args.d = sym rolled ∙ sym c.number.ensures.value ∙ same ∙ c.number-2.ensures.value in
    let fits : FitsSigned w32 c.args.start = search rules in
    let apart : to_z w64 (of_z w64 (to_z w64 (of_z w64 c.from-2.result) -ℤ to_z w64 (of_z w64 c.from-3.result)))
    ≡ month -ℤ c.args.start = omega (arith, signed_arith, c.from-2.ensures, c.from-3.ensures) in
    IfSome_then c.whole_steps.result c.whole_steps.ensures.some (λ (k : ℤ) steps.
    roll_at (r.rolls roll) (r.day roll) (laws.is roll) (laws.only roll)
    (laws.stays roll) c.args.months c.args.start month c.args.d k (sym apart ∙ steps) is)

pub returns-clause-none : goal.returns-clause-none
returns-clause-none g c =
    let r = g.R.Roll in
    let laws = g.met.R.Roll in
    let roll = c.args.roll.now in
    let month = c.month_index-month.result in
    let fits : FitsSigned w32 c.args.start = search rules in
    let apart : to_z w64 (of_z w64 (to_z w64 (of_z w64 c.from-2.result) -ℤ to_z w64 (of_z w64 c.from-3.result)))
    ≡ month -ℤ c.args.start = omega (arith, signed_arith, c.from-2.ensures, c.from-3.ensures) in
    none_then c.whole_steps.result _ _ c.whole_steps.ensures.none (λ out h.
    roll_off_steps (r.rolls roll) (r.day roll) (laws.is roll) (laws.only roll)
    (laws.stays roll) c.args.months c.args.start c.args.d month c.month_index-month.ensures.month
    (rw (← apart) out) h)
