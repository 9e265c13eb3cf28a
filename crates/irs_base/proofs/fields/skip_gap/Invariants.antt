use Rattle.irs_base.proofs.FieldLemmas.{AllBefore}
use Rattle.irs_base.proofs.fields.skip_gap.Given as goal

abbrev pub invariant-loop-i : goal.invariant-loop-i
invariant-loop-i l = AllBefore l.bytes l.i
