-- There is a verdict on any cash flows by any schedule, in that there can't be none.
use Rattle.std.proofs.Common.{List, refl}
use Rattle.irs_base.proofs.Firsts.{IsFounded, level_founded, rank_founded}
use Rattle.irs_flows.specs.FlowReading.{FlowPart}
use Rattle.irs_schedule.specs.Parts.{Part}
use Rattle.irs_audit.specs.Verdicts.{Departs, IsVerdict, departs_before, field_place, kind_place, row_count}
use Rattle.irs_audit.specs.Verdicts.{unfixed_count}
use Rattle.irs_audit.specs.declared.departures.Departure.{Departure}
use Rattle.irs_audit.specs.declared.departures.Verdict.{Verdict}
use Rattle.irs_audit.specs.declared.departures.Verdict.TheVariants.{No, Yes}

-- where no departure comes first there is none
pub departures_founded : IsFounded departs_before
departures_founded =
    level_founded (λ (d : Departure). d.stream) _
    (level_founded (λ (d : Departure). kind_place d.kind) _
    (level_founded (λ (d : Departure). d.row) _ (rank_founded (λ (d : Departure). field_place d.field))))

-- it can't be that there is no verdict
pub verdict_there : (f : List FlowPart) (s : List Part) → ((v : Verdict) → IsVerdict f s v → ⊥) → ⊥
verdict_there f s none =
    let agrees = departures_founded (Departs f s) (λ d first. none (No d) first) in
    none (Yes (row_count s) (unfixed_count s)) (agrees, refl, refl)
