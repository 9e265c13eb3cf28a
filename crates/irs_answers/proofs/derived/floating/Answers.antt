use Rattle.irs_answers.proofs.DerivedLemmas.{floats_by, stream_by}
use Rattle.irs_answers.proofs.derived.floating.Goals as goal

pub returns-in-Some-clause-none : goal.returns-in-Some-clause-none
returns-in-Some-clause-none c = λ x k. c.in-Some.ensures.0 (floats_by c.args.swap.now c.args.number x k)

pub unreachable-requires : goal.unreachable-requires
unreachable-requires c =
    c.in_default.ensures (λ f. let x = stream_by c.args.swap.now c.args.number f in c.in-None.ensures.none x.0 x.1)
