use Rattle.std.proofs.Common.{◌≡◌, drop}
use Rattle.irs_audit.specs.Private.Comparisons.{first_true}
use Rattle.irs_audit.proofs.row_fields.first_of.Given as goal

-- the first field that departs is among those still to be tested
abbrev pub invariant-loop-field : goal.invariant-loop-field
invariant-loop-field l = first_true (drop l.field-index l.tests) ≡ first_true l.fn.tests
