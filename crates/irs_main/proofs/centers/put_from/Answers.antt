use Rattle.std.proofs.Common.{◌++◌, codes, refl}
use Rattle.irs_cli.proofs.PutLemmas.{first_part, grew_more, on_err, on_err_then, on_ok_then, through_last_part}
use Rattle.irs_main.specs.Shown.{more_text, name_after, names_after_first}
use Rattle.irs_main.proofs.centers.put_from.Goals as goal

pub returns-in_err-put_name-clause-err : goal.returns-in_err-put_name-clause-err
returns-in_err-put_name-clause-err g c =
    on_err c.from_residual.result
    (first_part (g.S.Sink.written c.args.out.now) (g.S.Sink.written c.put_name.new.out)
    (name_after (codes "; the calendar files have ") c.args.name.now)
    (names_after_first c.args.others.now ++ more_text c.args.more)
    c.in_err-put_name.ensures.err)

pub returns-clause-ok : goal.returns-clause-ok
returns-clause-ok g c =
    let first = name_after (codes "; the calendar files have ") c.args.name.now in
    let rest = names_after_first c.args.others.now ++ more_text c.args.more in
    on_ok_then c.put_rest.result c.put_rest.ensures.ok
    (grew_more (g.S.Sink.written c.args.out.now) (g.S.Sink.written c.put_name.new.out)
    (g.S.Sink.written c.put_rest.new.out) first rest c.in_ok-put_name.ensures.ok)

pub returns-clause-err : goal.returns-clause-err
returns-clause-err g c =
    let first = name_after (codes "; the calendar files have ") c.args.name.now in
    let rest = names_after_first c.args.others.now ++ more_text c.args.more in
    on_err_then c.put_rest.result c.put_rest.ensures.err
    (through_last_part (g.S.Sink.written c.args.out.now) (g.S.Sink.written c.put_name.new.out)
    (g.S.Sink.written c.put_rest.new.out) rest (first ++ rest)
    (record { front = first; grew = c.in_ok-put_name.ensures.ok; is = refl }))
