use Rattle.std.proofs.Common.{ℕ, arith, ap, ◌+◌, ◌^◌}
use Rattle.std.proofs.Math.Nat.{div-le_self}
use Rattle.irs_calendar.proofs.MarkLemmas.{some_set}
use Rattle.irs_calendar.proofs.marks.behind_set.Goals as goal

pub returns-else-rest : goal.returns-else-rest
returns-else-rest c =
    some_set c.args.word c.args.k _ c.requires.below (omega (arith, c.ranges.word.fits)) c.requires.set
    (omega (arith, c.ranges.word.fits, c.if-rest.false, div-le_self c.args.word (2 ^ c.args.k)))
    (ap (λ (n : ℕ). c.args.k + n) c.trailing_ones.ensures)
