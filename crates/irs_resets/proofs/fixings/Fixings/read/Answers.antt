use Rattle.std.proofs.Common.{◌+◌, arith, ◌≤◌, length}
use Rattle.std.proofs.lemmas.Result.{err_from_is_err_and}
use Rattle.irs_base.specs.Texts.{lines_of}
use Rattle.irs_calendar.specs.Grammar.{seen_from, seen_lines}
use Rattle.irs_resets.proofs.FileLemmas.{reads, stops, whole_file}
use Rattle.irs_resets.proofs.FileOutcomes.{next_fault}
use Rattle.irs_resets.proofs.fixings.Fixings.read.Goals as goal

pub returns-in_err-table-clause-meets : goal.returns-in_err-table-clause-meets
returns-in_err-table-clause-meets c =
    let p = err_from_is_err_and c.from_residual.result c.from_residual.ensures.1 in
    rw (p.1, p.2) (next_fault c.args.bytes.now (c.loop-rest.before + 1) c.split_seen.result.0.now
    (seen_from c.loop-rest.before (lines_of c.loop-rest.rest.now))
    (seen_from (c.loop-rest.before + 1) (lines_of c.split_seen.result.1.now)) c.loop-rest.table _
    c.loop-rest.invariant.so_far c.split_seen.ensures.lines c.in_err-table.ensures.meets)

pub returns-in_err-table-clause-memory : goal.returns-in_err-table-clause-memory
returns-in_err-table-clause-memory c = λ is.
    let p = err_from_is_err_and c.from_residual.result c.from_residual.ensures.1 in
    stops (seen_lines c.args.bytes.now) (c.loop-rest.before + 1) c.split_seen.result.0.now
    (seen_from c.loop-rest.before (lines_of c.loop-rest.rest.now))
    (seen_from (c.loop-rest.before + 1) (lines_of c.split_seen.result.1.now)) c.loop-rest.table
    c.loop-rest.invariant.so_far c.split_seen.ensures.lines (c.in_err-table.ensures.memory (rw (p.1, p.2) at is))

pub loop-rest-preserved : goal.loop-rest-preserved
loop-rest-preserved c = record {
  so_far = reads (seen_lines c.args.bytes.now) (c.loop-rest.before + 1) c.split_seen.result.0.now
      (seen_from c.loop-rest.before (lines_of c.loop-rest.rest.now))
      (seen_from (c.loop-rest.before + 1) (lines_of c.split_seen.result.1.now)) c.loop-rest.table c.in_ok-table.table
      c.loop-rest.invariant.so_far c.split_seen.ensures.lines c.in_ok-table.ensures.meets;
  room = omega (arith, c.split_seen.ensures.shorter, c.loop-rest.invariant.room);
  tail = c.read_line.ensures.tail;
}

pub returns-clause-meets : goal.returns-clause-meets
returns-clause-meets c =
    let none : length c.loop-rest.rest.now ≤ 0 = grind (arith, c.is_empty.ensures) in
    whole_file c.args.bytes.now c.loop-rest.rest.now (c.loop-rest.before + 1) c.loop-rest.before c.loop-rest.table
    c.loop-rest.invariant.so_far none
