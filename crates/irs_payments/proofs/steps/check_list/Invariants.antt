use Rattle.irs_payments.specs.Exchanges.{IsOff}
use Rattle.irs_base.proofs.MemberLemmas.{NoneOf}
use Rattle.irs_payments.proofs.steps.check_list.Given as goal

-- the date of each step before i is a boundary
abbrev pub invariant-loop-i : goal.invariant-loop-i
invariant-loop-i l = NoneOf (IsOff l.boundaries) l.steps l.i
