use Rattle.std.proofs.Common.{List, ℕ, sym, ap, ◌∙◌, nat_eq}
use Rattle.std.specs.List.{starts_with}
use Rattle.irs_locate.proofs.Searches.{past_more}
use Rattle.irs_locate.proofs.markup.past.Goals as goal

pub loop-i-preserved : goal.loop-i-preserved
loop-i-preserved c =
    past_more c.args.word.now c.args.text.now c.loop-i.i c.loop-i-test.true
    (ap (λ (t : List ℕ). starts_with nat_eq t c.args.word.now) (sym c.rest.ensures)
    ∙ sym c.if-starts_with.ensures.value)
    c.loop-i.invariant
