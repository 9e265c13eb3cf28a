use Rattle.std.proofs.Common.{◌≡◌, Some, rules, option_map, FitsSigned, sym, ◌∙◌}
use Rattle.std.specs.Int.{w64, w128}
use Rattle.std.specs.Prelude.{slice_get}
use Rattle.std.proofs.lemmas.Int.{to_z-of_z}
use Rattle.irs_bulk.proofs.SumLemmas.{days_size, days_there}
use Rattle.irs_bulk.proofs.summing.days_at.Goals as goal

pub returns-in-Some : goal.returns-in-Some
returns-in-Some c =
    let fd : FitsSigned w64 c.in-Some.days = search rules in
    let ff : FitsSigned w128 c.from.result = search rules in
    let d : c.from.result ≡ c.in-Some.days = simp to_z-of_z at c.from.ensures in
    let there : option_map (λ e. e.days) (slice_get c.args.part.now.periods c.args.place) ≡ Some c.in-Some.days =
    sym c.days.ensures.value ∙ c.in-Some.is in
    record {
      value = simp to_z-of_z (rw d (days_there c.args.part.now.periods c.args.place c.in-Some.days there));
      size = simp to_z-of_z (rw d (days_size c.in-Some.days fd));
    }
