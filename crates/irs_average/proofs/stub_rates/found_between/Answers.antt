use Rattle.std.proofs.Common.{rules, ◌≡◌, ◌-ℤ◌, FitsSigned, sym}
use Rattle.std.specs.Int.{w64}
use Rattle.std.proofs.lemmas.Int.{to_z-of_z}
use Rattle.irs_base.specs.Limits.{Rounded}
use Rattle.irs_base.specs.declared.rounding.Direction.TheVariants.{Nearest}
use Rattle.irs_average.proofs.LineLemmas.{weighed}
use Rattle.irs_average.proofs.stub_rates.found_between.Goals as goal

pub returns-clause-is : goal.returns-clause-is
returns-clause-is c =
    let fits : FitsSigned w64 c.on_line.result = search rules in
    let fits_low : FitsSigned w64 c.in-Some-Some.low = search rules in
    let fits_high : FitsSigned w64 c.in-Some-Some.high = search rules in
    let fits_width : FitsSigned w64 c.days_between-width.result = search rules in
    let fits_days : FitsSigned w64 c.days_between-days.result = search rules in
    let rounded : Rounded Nearest
    (weighed c.in-Some-Some.low c.in-Some-Some.high c.days_between-width.result c.days_between-days.result)
    c.days_between-width.result c.on_line.result = simp to_z-of_z at c.on_line.ensures.rounded in
    let width : c.days_between-width.result ≡ c.args.far -ℤ c.args.near = c.days_between-width.ensures.value in
    let days : c.days_between-days.result ≡ c.args.end -ℤ c.args.near = c.days_between-days.ensures.value in
    simp to_z-of_z (record {
      low_rate = c.in-Some-Some.low;
      is_low = c.in-Some-Some.is-0;
      high_rate = c.in-Some-Some.high;
      is_high = c.in-Some-Some.is-1;
      rounded = rw (sym width, sym days) rounded;
    })
