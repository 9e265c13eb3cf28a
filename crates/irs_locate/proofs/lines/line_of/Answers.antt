use Rattle.std.proofs.Common.{ℕ, sym, subst}
use Rattle.irs_locate.specs.Lines.{IsLineOf, element, nothing}
use Rattle.irs_locate.proofs.lines.line_of.Goals as goal

pub returns-in-None : goal.returns-in-None
returns-in-None c = nothing c.in-None.ensures.none

pub returns-in-Some : goal.returns-in-Some
returns-in-Some c =
    subst (λ (n : ℕ). IsLineOf c.args.text.now c.args.place n) (sym c.line_after.ensures)
    (element c.last_on_way.result c.last_on_way.ensures.last)
