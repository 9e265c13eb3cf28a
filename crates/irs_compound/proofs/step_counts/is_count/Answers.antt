use Rattle.std.proofs.Common.{rules, ◌<◌, ◌-◌, ◌≤ℤ◌, ◌<ℤ◌, get_or, arith}
use Rattle.irs_terms.specs.declared.step_list.Step.{Step}
use Rattle.irs_compound.proofs.CountedSteps.{count_at, at_place}
use Rattle.irs_compound.proofs.step_counts.is_count.Goals as goal
use Rattle.irs_compound.proofs.step_counts.is_count.Goals.{then-count-eq0, else-count-eq0}

pub returns-then-count-steps : goal.returns-then-count-steps
returns-then-count-steps c =
    let steps = c.args.steps.now in
    let d = c.args.d in
    let n = c.args.count in
    let bound = c.requires.bound in
    let all = c.if-count-steps.true in
    let low : 0 < n → (e : Step) → (get_or steps (n - 1) e).day ≤ℤ d = λ p e. elim c.if-count-eq0.branch [
      | then-count-eq0 w ↦ absurd (omega (arith, p, w.if-count-eq0.true))
      | else-count-eq0 w ↦
          at_place (λ x. x ≤ℤ d) steps (n - 1) w.index-steps-count.result e (omega (arith, p, bound))
          w.index-steps-count.is (search rules)
    ] in
    (λ t. count_at steps d n c.requires.rises bound low (λ l. absurd (omega (arith, l, all))), λ h. search rules)

pub returns-else-count-steps : goal.returns-else-count-steps
returns-else-count-steps c =
    let steps = c.args.steps.now in
    let d = c.args.d in
    let n = c.args.count in
    let bound = c.requires.bound in
    let next = c.index-steps-count-else-count-steps in
    let low : 0 < n → (e : Step) → (get_or steps (n - 1) e).day ≤ℤ d = λ p e. elim c.if-count-eq0.branch [
      | then-count-eq0 w ↦ absurd (omega (arith, p, w.if-count-eq0.true))
      | else-count-eq0 w ↦
          at_place (λ x. x ≤ℤ d) steps (n - 1) w.index-steps-count.result e (omega (arith, p, bound))
          w.index-steps-count.is (search rules)
    ] in (
      λ t. count_at steps d n c.requires.rises bound low
          (λ l e. at_place (λ x. d <ℤ x) steps n next.result e l next.is (search rules)),
      λ h.
          let a = h.1.1 n next.result (omega arith) (omega (arith, bound, c.if-count-steps.false)) in
          search rules,
    )
