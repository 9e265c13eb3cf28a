use Rattle.std.proofs.Common.{◌≡◌, true, take}
use Rattle.irs_base.specs.Texts.{has_no_point}
use Rattle.irs_base.proofs.decimals.cut_at_point.Given as goal

abbrev pub invariant-loop-i : goal.invariant-loop-i
invariant-loop-i l = has_no_point (take l.i l.text) ≡ true
