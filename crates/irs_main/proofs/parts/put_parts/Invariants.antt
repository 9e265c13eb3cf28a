use Rattle.std.proofs.Common.{◌≡◌, drop}
use Rattle.irs_cli.proofs.PutLemmas.{Through}
use Rattle.irs_main.specs.Private.Parts.{said_by}
use Rattle.irs_main.proofs.parts.put_parts.Given as goal

-- the parts that are left are still to be written
abbrev pub invariant-loop-part : goal.invariant-loop-part
invariant-loop-part g l = record {
  put :
      Through (g.S.Sink.written l.fn.out) (g.S.Sink.written l.out)
      (said_by (drop l.part-index l.parts)) (said_by l.parts);
  quiet : g.S.Sink.faults l.out ≡ g.S.Sink.faults l.fn.out;
}
