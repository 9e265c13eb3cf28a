use Rattle.std.proofs.Common.{◌∷◌, ◌++◌, [], take, sym, ◌∙◌, ap, ◌<ℤ◌, ◌≤ℤ◌, List}
use Rattle.std.proofs.lemmas.List.{append-nil}
use Rattle.irs_base.proofs.Orders.{lt_false, lt_true}
use Rattle.irs_observed.specs.OvernightRates.{ends_by, observed_until}
use Rattle.irs_observed.proofs.RunningLemmas.{until_added, until_more, until_passed}
use Rattle.irs_observed.specs.declared.observation.Observation.{Observation}
use Rattle.irs_observed.proofs.running.observed_until.Goals as goal
use Rattle.irs_observed.proofs.running.observed_until.Goals.{then-lt+in_ok-push, else-lt}

pub loop-o-preserved : goal.loop-o-preserved
loop-o-preserved c =
    let o : Observation = c.o-item.result in
    let before : List Observation = observed_until c.args.d (take c.loop-o.o-index c.args.all.now) in
    let more = until_more c.args.d c.args.all.now c.loop-o.o-index o c.loop-o-test.true (sym c.o-item.is) in
    elim c.if-lt.branch [
      | then-lt+in_ok-push w ↦
          let low : o.day <ℤ c.args.d = lt_true o.day c.args.d (sym (w.if-lt.ensures {u = tt})) in
          let added = ap (λ (z : List Observation). before ++ z) (until_added c.args.d o low) in
          rw w.found-is
          (w.in_ok-push.ensures.items ∙ ap (λ (z : Observation). c.loop-o.found.items ++ z ∷ []) w.ends_by.ensures
          ∙ ap (λ (z : List Observation). z ++ ends_by c.args.d o ∷ []) c.loop-o.invariant ∙ sym (more ∙ added))
      | else-lt w ↦
          let late : c.args.d ≤ℤ o.day = lt_false o.day c.args.d (sym (w.if-lt.ensures {u = tt})) in
          let passed = ap (λ (z : List Observation). before ++ z) (until_passed c.args.d o late) in
          rw w.found-is (c.loop-o.invariant ∙ sym (more ∙ passed ∙ append-nil before))
    ]
