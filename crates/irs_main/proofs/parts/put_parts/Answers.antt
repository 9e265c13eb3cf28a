use Rattle.std.proofs.Common.{refl, ◌∙◌}
use Rattle.irs_cli.proofs.PutLemmas.{on_err}
use Rattle.irs_main.specs.Private.Parts.{part_text, said_by}
use Rattle.irs_main.proofs.PieceLemmas.{piece_failed, piece_put}
use Rattle.irs_main.proofs.parts.put_parts.Goals as goal

pub loop-part-preserved : goal.loop-part-preserved
loop-part-preserved g c =
    let ps = c.args.parts.now in
    record {
      put =
          piece_put said_by part_text (λ x xs. refl) ps c.loop-part.part-index _ c.loop-part-test.true
          (g.S.Sink.written c.args.out.now) (g.S.Sink.written c.loop-part.out) (g.S.Sink.written c.put_part.new.out)
          (said_by ps) c.loop-part.invariant.put c.in_ok-put_part.ensures.ok;
      quiet = c.in_ok-put_part.ensures.quiet ∙ c.loop-part.invariant.quiet;
    }

pub returns-in_err-put_part-clause-err : goal.returns-in_err-put_part-clause-err
returns-in_err-put_part-clause-err g c =
    let ps = c.args.parts.now in
    on_err c.from_residual.result
    (piece_failed said_by part_text (λ x xs. refl) ps c.loop-part.part-index _ c.loop-part-test.true
    (g.S.Sink.written c.args.out.now) (g.S.Sink.written c.loop-part.out) (g.S.Sink.written c.put_part.new.out)
    (said_by ps) c.loop-part.invariant.put c.in_err-put_part.ensures.err)
