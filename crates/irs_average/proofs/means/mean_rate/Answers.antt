use Rattle.std.proofs.Common.{rules, FitsSigned}
use Rattle.std.specs.Int.{w64, w128}
use Rattle.std.proofs.lemmas.Int.{to_z-of_z}
use Rattle.irs_average.specs.Averages.{IsMean}
use Rattle.irs_average.proofs.MeanLemmas.{mean_small}
use Rattle.irs_average.proofs.means.mean_rate.Goals as goal

pub as_rate-requires : goal.as_rate-requires
as_rate-requires c =
    let fits : FitsSigned w128 c.rounded_mean.result = search rules in
    let fits_days : FitsSigned w64 c.args.days = c.ranges.days in
    let mean : IsMean c.args.kind c.args.days c.args.observations.now c.rounded_mean.result =
    record { known = c.requires.known; rounded = simp to_z-of_z at c.rounded_mean.ensures } in
    simp to_z-of_z (mean_small c.args.kind c.args.days c.args.observations.now c.requires.days.0 c.requires.shares
    c.rounded_mean.result c.requires.small mean)
