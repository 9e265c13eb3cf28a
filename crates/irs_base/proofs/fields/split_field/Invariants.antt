use Rattle.std.proofs.Common.{◌≡◌, ℕ, ◌<◌, get_or, false}
use Rattle.irs_base.specs.Texts.{is_space_or_tab}
use Rattle.irs_base.proofs.fields.split_field.Given as goal

abbrev pub invariant-loop-i : goal.invariant-loop-i
invariant-loop-i l = (k : ℕ) → k < l.i → is_space_or_tab (get_or l.bytes k 0) ≡ false
