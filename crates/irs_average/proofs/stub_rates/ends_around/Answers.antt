use Rattle.irs_average.proofs.TenorLemmas.{is_not, not_around}
use Rattle.irs_average.proofs.stub_rates.ends_around.Goals as goal

pub returns-clause-none : goal.returns-clause-none
returns-clause-none c =
    not_around c.args.start c.args.end c.args.low c.args.high c.in-Some-Some.near c.in-Some-Some.far
    (c.in-Some-Some.ensures {u = tt}).some.1 (c.in-Some-Some.ensures' {u = tt}).some.1
    (λ around. is_not c.are_around.result c.if-are_around.false (c.are_around.ensures.1 around))
