use Rattle.std.proofs.Common.{refl, ◌∙◌}
use Rattle.irs_cli.proofs.PutLemmas.{on_err}
use Rattle.irs_main.proofs.PieceLemmas.{piece_failed, piece_put}
use Rattle.irs_main.proofs.LineLemmas.{line_in, lines_in}
use Rattle.irs_main.proofs.pieces.put_lines.Goals as goal

pub loop-line-preserved : goal.loop-line-preserved
loop-line-preserved g c =
    let ps = c.args.lines.now in
    record {
      put =
          piece_put lines_in line_in (λ x xs. refl) ps c.loop-line.line-index _ c.loop-line-test.true
          (g.S.Sink.written c.args.out.now) (g.S.Sink.written c.loop-line.out) (g.S.Sink.written c.put_line.new.out)
          (lines_in ps) c.loop-line.invariant.put c.in_ok-put_line.ensures.ok;
      quiet = c.in_ok-put_line.ensures.quiet ∙ c.loop-line.invariant.quiet;
    }

pub returns-in_err-put_line-clause-err : goal.returns-in_err-put_line-clause-err
returns-in_err-put_line-clause-err g c =
    let ps = c.args.lines.now in
    on_err c.from_residual.result
    (piece_failed lines_in line_in (λ x xs. refl) ps c.loop-line.line-index _ c.loop-line-test.true
    (g.S.Sink.written c.args.out.now) (g.S.Sink.written c.loop-line.out) (g.S.Sink.written c.put_line.new.out)
    (lines_in ps) c.loop-line.invariant.put c.in_err-put_line.ensures.err)
