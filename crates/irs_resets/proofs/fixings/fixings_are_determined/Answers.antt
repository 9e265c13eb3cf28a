use Rattle.std.proofs.Common.{arith, ◌≤◌, length, subst, sym}
use Rattle.irs_resets.proofs.FileOutcomes.{EachDecided, decided_by, file_determined, none_left}
use Rattle.irs_resets.proofs.FileOutcomes.{seen_decided}
use Rattle.irs_base.specs.Texts.{lines_of}
use Rattle.irs_resets.proofs.fixings.fixings_are_determined.Goals as goal

pub loop-rest-preserved : goal.loop-rest-preserved
loop-rest-preserved c = λ more.
    let here = decided_by c.split_line.result.0.now c.is_spelt-decided.result c.is_spelt-decided.ensures in
    c.loop-rest.invariant (subst EachDecided (sym c.split_line.ensures.lines) (here, more))

pub returns : goal.returns
returns c =
    let none : length c.loop-rest.rest.now ≤ 0 = grind (arith, c.is_empty.ensures) in
    file_determined c.args.bytes.now
    (seen_decided 0 (lines_of c.args.bytes.now) (c.loop-rest.invariant (none_left c.loop-rest.rest.now none)))
