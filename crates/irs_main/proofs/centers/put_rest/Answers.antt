use Rattle.std.proofs.Common.{◌++◌, refl}
use Rattle.irs_cli.proofs.PutLemmas.{first_part, on_err, on_err_then, through_last_part}
use Rattle.irs_main.specs.Shown.{more_text, names_after_first}
use Rattle.irs_main.proofs.centers.put_rest.Goals as goal

pub returns-in_err-put_others-clause-err : goal.returns-in_err-put_others-clause-err
returns-in_err-put_others-clause-err g c =
    on_err c.from_residual.result
    (first_part (g.S.Sink.written c.args.out.now) (g.S.Sink.written c.put_others.new.out)
    (names_after_first c.args.others.now) (more_text c.args.more)
    c.in_err-put_others.ensures.err)

pub returns-clause-err : goal.returns-clause-err
returns-clause-err g c =
    let first = names_after_first c.args.others.now in
    let rest = more_text c.args.more in
    on_err_then c.put_more.result c.put_more.ensures.err
    (through_last_part (g.S.Sink.written c.args.out.now) (g.S.Sink.written c.put_others.new.out)
    (g.S.Sink.written c.put_more.new.out) rest (first ++ rest)
    (record { front = first; grew = c.in_ok-put_others.ensures.ok; is = refl }))
