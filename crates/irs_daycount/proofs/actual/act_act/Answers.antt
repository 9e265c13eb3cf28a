use Rattle.std.proofs.Common.{rules, arith, ◌≡◌, pos, ◌-ℤ◌, FitsSigned}
use Rattle.std.specs.Int.{w64}
use Rattle.std.proofs.lemmas.Int.{to_z-of_z}
use Rattle.jiff_core.proofs.SignedLemmas.{signed_arith}
use Rattle.irs_daycount.specs.Fractions.{act_act_denominator}
use Rattle.irs_daycount.proofs.Counting.{act_act_is}
use Rattle.irs_daycount.proofs.actual.act_act.Goals as goal

pub returns : goal.returns
returns c =
    let ff : FitsSigned w64 c.from.result = search rules in
    let fg : FitsSigned w64 c.from-2.result = search rules in
    let fd : FitsSigned w64 (c.from.result -ℤ c.from-2.result) =
    omega (arith, signed_arith, c.from.ensures, c.from-2.ensures, c.place.ensures.range, c.place-2.ensures.range) in
    let fe : FitsSigned w64 c.from-3.result = search rules in
    let den : c.from-3.result ≡ pos act_act_denominator = c.from-3.ensures in
    simp to_z-of_z (act_act_is c.args.s c.args.e (record {
      num = c.from.result -ℤ c.from-2.result;
      den =
          c.from-3.result;
    }) c.requires c.place-2.ensures.day c.place.ensures.day
    (omega (
      arith,
      signed_arith,
      c.from.ensures,
      c.from-2.ensures,
      c.place.ensures.value,
      c.place-2.ensures.value,
    )) den)
