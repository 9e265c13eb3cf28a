use Rattle.std.proofs.Common.{◌≡◌, ℕ, suc, ◌+◌, sym, ap, subst, arith}
use Rattle.std.proofs.lemmas.Option.{IfSome_then}
use Rattle.irs_answers.specs.Due.{RefusedBy, answer_of}
use Rattle.irs_bulk.specs.BulkRuns.{total_at, totals_to}
use Rattle.irs_bulk.specs.declared.totals.Totals.{Totals}
use Rattle.irs_bulk.proofs.BulkRunLemmas.{no_sums, stops_at, sums_more}
use Rattle.irs_bulk.proofs.runs.totals.Goals as goal

next_is : (k : ℕ) → k + 1 ≡ suc k
next_is k = omega arith

pub returns-in-Err-clause-meets : goal.returns-in-Err-clause-meets
returns-in-Err-clause-meets c =
    let e = c.in-Err.refusal in
    let k = c.loop-before.before in
    let here : RefusedBy (total_at (suc k)) e =
    subst (λ (i : ℕ). RefusedBy (total_at i) e) (next_is k) c.in-Err.ensures.meets in
    IfSome_then (answer_of e) here (λ a stop.
    stops_at c.args.n k c.loop-before.totals a c.loop-before-test.true c.loop-before.invariant.sums stop)

pub loop-before-init : goal.loop-before-init
loop-before-init c =
    let value = c.none-totals.ensures.value in
    record {
      sums = subst (λ (t : Totals). (totals_to 0).Answers t) (sym value) no_sums;
      run = c.none-totals.ensures.run;
      documents = ap (λ (t : Totals). t.documents) value;
    }

pub loop-before-preserved : goal.loop-before-preserved
loop-before-preserved c =
    let k = c.loop-before.before in
    let t = c.loop-before.totals in
    let u = c.in-Ok.more in
    let adds = subst (λ (i : ℕ). (total_at i).Answers u) (next_is k) c.in-Ok.ensures.meets in
    let sums = sums_more k t u c.loop-before.invariant.sums adds in
    record {
      sums = subst (λ (i : ℕ). (totals_to i).Answers c.with-totals.result) (sym (next_is k))
          (subst (λ (x : Totals). (totals_to (suc k)).Answers x) (sym c.with-totals.ensures.value) sums);
      run = c.with-totals.ensures.run;
      documents = search (arith, c.with-totals.ensures.value, c.loop-before.invariant.documents, c.in-Ok.ensures.one);
    }
