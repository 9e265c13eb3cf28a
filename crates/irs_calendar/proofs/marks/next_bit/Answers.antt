use Rattle.std.proofs.Common.{arith, refl, ◌^◌}
use Rattle.std.proofs.Math.Nat.{div-le_self}
use Rattle.irs_calendar.proofs.MarkLemmas.{none_left, lowest_left}
use Rattle.irs_calendar.proofs.marks.next_bit.Goals as goal

pub returns-then-rest-eq0 : goal.returns-then-rest-eq0
returns-then-rest-eq0 c = none_left c.args.word c.args.k c.requires c.if-rest-eq0.true

pub returns-else-rest-eq0 : goal.returns-else-rest-eq0
returns-else-rest-eq0 c =
    lowest_left c.args.word c.args.k _ c.requires (omega (arith, c.ranges.word.fits))
    (omega (arith, c.if-rest-eq0.false)) (omega (
      arith,
      c.ranges.word.fits,
      div-le_self c.args.word (2 ^ c.args.k),
    )) refl
