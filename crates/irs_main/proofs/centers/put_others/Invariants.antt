use Rattle.std.proofs.Common.{◌≡◌, drop}
use Rattle.irs_cli.proofs.PutLemmas.{Through}
use Rattle.irs_main.specs.Shown.{names_after_first}
use Rattle.irs_main.proofs.centers.put_others.Given as goal

-- the names that are left are still to be written
abbrev pub invariant-loop-name : goal.invariant-loop-name
invariant-loop-name g l = record {
  put :
      Through (g.S.Sink.written l.fn.out) (g.S.Sink.written l.out)
      (names_after_first (drop l.name-index l.names)) (names_after_first l.names);
  quiet : g.S.Sink.faults l.out ≡ g.S.Sink.faults l.fn.out;
}
