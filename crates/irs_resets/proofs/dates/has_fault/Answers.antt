use Rattle.std.proofs.Common.{subst}
use Rattle.irs_resets.specs.declared.dates.DateFault.{DateFault}
use Rattle.irs_resets.specs.Resets.{ResetDays, reset_days_by, DatesFail}
use Rattle.irs_resets.proofs.DateLemmas.{dates_stand, one_way}
use Rattle.irs_resets.proofs.dates.has_fault.Goals as goal

pub returns-in-Ok : goal.returns-in-Ok
returns-in-Ok g c =
    let days : ResetDays =
    reset_days_by c.args.adjusted.now (g.G.GoodDays.days c.args.reset_days.now)
    (g.G.GoodDays.days c.args.fixing_days.now) in (
      λ h. absurd (cc),
      λ f.
          absurd (dates_stand c.args.fault c.args.terms.now days c.args.number c.in-Ok.field-0.reset
          c.in-Ok.field-0.fixing c.in-Ok.ensures.ok f),
    )

pub returns-in-Err : goal.returns-in-Err
returns-in-Err g c =
    let days : ResetDays =
    reset_days_by c.args.adjusted.now (g.G.GoodDays.days c.args.reset_days.now)
    (g.G.GoodDays.days c.args.fixing_days.now) in (
      λ h. subst (λ (e : DateFault). DatesFail e c.args.terms.now days c.args.number)
          (c.is_same.ensures.0 h) c.in-Err.ensures.fault,
      λ f. c.is_same.ensures.1
          (one_way c.in-Err.found c.args.fault c.args.terms.now days c.args.number c.in-Err.ensures.fault f),
    )
