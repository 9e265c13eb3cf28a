use Rattle.std.proofs.Common.{◌≡◌, drop}
use Rattle.irs_cli.proofs.PutLemmas.{Through}
use Rattle.irs_main.proofs.LineLemmas.{lines_in}
use Rattle.irs_main.proofs.pieces.put_lines.Given as goal

-- the lines that are left are still to be written
abbrev pub invariant-loop-line : goal.invariant-loop-line
invariant-loop-line g l = record {
  put :
      Through (g.S.Sink.written l.fn.out) (g.S.Sink.written l.out)
      (lines_in (drop l.line-index l.lines)) (lines_in l.lines);
  quiet : g.S.Sink.faults l.out ≡ g.S.Sink.faults l.fn.out;
}
