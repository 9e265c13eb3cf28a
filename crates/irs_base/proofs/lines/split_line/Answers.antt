use Rattle.std.proofs.Common.{arith, ℕ, suc, List, ◌∷◌, drop, sym, ap, ◌∙◌}
use Rattle.irs_base.specs.Texts.{lines_of}
use Rattle.irs_base.proofs.LineLemmas.{line_at, line_alone, rest_of}
use Rattle.irs_base.proofs.lines.split_line.Goals as goal

pub returns-then-b-eq10-clause-lines : goal.returns-then-b-eq10-clause-lines
returns-then-b-eq10-clause-lines c =
    rw (rest_of c.args.bytes.now c.loop-i.i c.loop-i-test.true)
    (line_at c.args.bytes.now c.loop-i.i c.loop-i-test.true c.if-b-eq10.true c.loop-i.invariant
    ∙ ap (λ (l : List ℕ). l ∷ lines_of (drop (suc c.loop-i.i) c.args.bytes.now)) (sym c.before_return.ensures))

pub returns-clause-lines : goal.returns-clause-lines
returns-clause-lines c = line_alone c.args.bytes.now c.requires (λ k h. c.loop-i.invariant k (omega (arith, h)))
