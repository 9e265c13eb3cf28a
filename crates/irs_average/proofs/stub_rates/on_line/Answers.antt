use Rattle.std.proofs.Common.{rules, FitsSigned}
use Rattle.std.specs.Int.{w64, w128}
use Rattle.std.proofs.lemmas.Int.{to_z-of_z}
use Rattle.irs_base.specs.Limits.{Rounded}
use Rattle.irs_base.specs.declared.rounding.Direction.TheVariants.{Nearest}
use Rattle.irs_average.proofs.LineLemmas.{line_small, weighed}
use Rattle.irs_average.proofs.stub_rates.on_line.Goals as goal

pub as_rate-requires : goal.as_rate-requires
as_rate-requires c =
    let fits : FitsSigned w128 c.rounded_line.result = search rules in
    let fits_low : FitsSigned w64 c.args.low = c.ranges.low in
    let fits_high : FitsSigned w64 c.args.high = c.ranges.high in
    let fits_width : FitsSigned w64 c.args.width = c.ranges.width in
    let fits_days : FitsSigned w64 c.args.days = c.ranges.days in
    let rounded : Rounded Nearest (weighed c.args.low c.args.high c.args.width c.args.days) c.args.width
    c.rounded_line.result = simp to_z-of_z at c.rounded_line.ensures in
    simp to_z-of_z (line_small c.args.low c.args.high c.args.width c.args.days c.rounded_line.result c.requires.width.0
    c.requires.days.0 c.requires.days.1 rounded c.requires.low c.requires.high)
