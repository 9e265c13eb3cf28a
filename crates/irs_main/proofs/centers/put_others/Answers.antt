use Rattle.std.proofs.Common.{ℕ, List, ◌∙◌, refl, subst}
use Rattle.irs_cli.proofs.PutLemmas.{on_err}
use Rattle.irs_outside.specs.Outside.{Grew, GrewByFront}
use Rattle.irs_main.specs.Shown.{other_name, names_after_first}
use Rattle.irs_main.proofs.PieceLemmas.{piece_failed, piece_put}
use Rattle.irs_main.proofs.centers.put_others.Goals as goal

pub loop-name-preserved : goal.loop-name-preserved
loop-name-preserved g c =
    let names = c.args.names.now in
    let before = g.S.Sink.written c.loop-name.out in
    let now = g.S.Sink.written c.put_other.new.out in
    record {
      put =
          piece_put names_after_first other_name (λ x xs. refl) names c.loop-name.name-index c.name-item.result
          c.loop-name-test.true (g.S.Sink.written c.args.out.now) before now (names_after_first names)
          c.loop-name.invariant.put
          (subst (λ (name : List ℕ). Grew before now (other_name name)) c.name-item.is c.in_ok-put_other.ensures.ok);
      quiet = c.in_ok-put_other.ensures.quiet ∙ c.loop-name.invariant.quiet;
    }

pub returns-in_err-put_other-clause-err : goal.returns-in_err-put_other-clause-err
returns-in_err-put_other-clause-err g c =
    let names = c.args.names.now in
    let before = g.S.Sink.written c.loop-name.out in
    let now = g.S.Sink.written c.put_other.new.out in
    on_err c.from_residual.result
    (piece_failed names_after_first other_name (λ x xs. refl) names c.loop-name.name-index c.name-item.result
    c.loop-name-test.true (g.S.Sink.written c.args.out.now) before now (names_after_first names) c.loop-name.invariant.put
    (subst (λ (name : List ℕ). GrewByFront before now (other_name name)) c.name-item.is
    c.in_err-put_other.ensures.err))
