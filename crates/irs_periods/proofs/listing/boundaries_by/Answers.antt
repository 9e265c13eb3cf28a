use Rattle.irs_base.proofs.Outcomes.{if_memory}
use Rattle.irs_periods.proofs.Outcomes.{term_answers}
use Rattle.irs_periods.proofs.listing.boundaries_by.Goals as goal

pub returns-in_err-whole_term-clause-memory : goal.returns-in_err-whole_term-clause-memory
returns-in_err-whole_term-clause-memory c =
    let term = c.is_whole_term.ensures.exact.0 c.if-is_whole_term.true in
    if_memory _ c.from_residual.result (term_answers c.args.s.now c.args.span.now term c.requires.dates).0

pub returns-in_ok-whole_term-clause-meets : goal.returns-in_ok-whole_term-clause-meets
returns-in_ok-whole_term-clause-meets c =
    let term = c.is_whole_term.ensures.exact.0 c.if-is_whole_term.true in
    rw c.in_ok-whole_term.ensures (term_answers c.args.s.now c.args.span.now term c.requires.dates)
