use Rattle.std.proofs.Common.{arith, refl}
use Rattle.irs_calendar.proofs.MarkLemmas.{mark_more}
use Rattle.irs_calendar.proofs.marks.mark.Goals as goal

pub returns : goal.returns
returns c = λ i. mark_more c.args.marks.now c.args.k i _ (omega (arith, c.requires)) refl
