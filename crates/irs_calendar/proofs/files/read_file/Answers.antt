use Rattle.std.proofs.Common.{◌+◌, arith, length, ◌≤◌, subst}
use Rattle.std.proofs.lemmas.Result.{err_from_is_err_and}
use Rattle.irs_calendar.specs.Grammar.{seen_from}
use Rattle.irs_calendar.specs.Private.Files.{GivesFile, sections_of}
use Rattle.irs_base.specs.Texts.{lines_of}
use Rattle.irs_calendar.proofs.FileLemmas.{goes_on, fails, ended}
use Rattle.irs_calendar.proofs.files.read_file.Goals as goal

pub returns-in_err-state : goal.returns-in_err-state
returns-in_err-state c =
    let p = err_from_is_err_and c.from_residual.result c.from_residual.ensures.1 in
    rw (p.1, p.2) (fails (c.loop-rest.before + 1) c.loop-rest.state c.split_seen.result.0.now
    (seen_from c.loop-rest.before (lines_of c.loop-rest.rest.now))
    (seen_from (c.loop-rest.before + 1) (lines_of c.split_seen.result.1.now))
    (sections_of c.args.done c.args.bytes.now) c.in_err-state.field-0.0
    c.loop-rest.invariant.0 c.split_seen.ensures.lines c.in_err-state.ensures)

pub loop-rest-preserved : goal.loop-rest-preserved
loop-rest-preserved c = (
  goes_on (c.loop-rest.before + 1) c.loop-rest.state c.in_ok-state.state c.split_seen.result.0.now
      (seen_from c.loop-rest.before (lines_of c.loop-rest.rest.now))
      (seen_from (c.loop-rest.before + 1) (lines_of c.split_seen.result.1.now))
      (sections_of c.args.done c.args.bytes.now) c.loop-rest.invariant.0 c.split_seen.ensures.lines
      c.in_ok-state.ensures,
  omega (arith, c.split_seen.ensures.shorter),
)

pub returns : goal.returns
returns c =
    let none : length c.loop-rest.rest.now ≤ 0 = grind (arith, c.is_empty.ensures) in
    subst (GivesFile c.read_end.result)
    (ended (c.loop-rest.before + 1) c.loop-rest.before c.loop-rest.state c.loop-rest.rest.now
    (sections_of c.args.done c.args.bytes.now) c.loop-rest.invariant.0 none) c.read_end.ensures
