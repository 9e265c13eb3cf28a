use Rattle.std.proofs.Common.{ℕ, List, codes, subst}
use Rattle.irs_outside.specs.Outside.{GrewByFront}
use Rattle.irs_cli.proofs.PutLemmas.{first_part, on_err}
use Rattle.irs_main.proofs.pieces.put_line.Goals as goal

pub returns-in_err-put-clause-err : goal.returns-in_err-put-clause-err
returns-in_err-put-clause-err g c =
    let before = g.S.Sink.written c.args.out.now in
    let now = g.S.Sink.written c.put.new.self in
    let G : List ℕ → Type 0 = λ t. GrewByFront before now t in
    on_err c.from_residual.result
    (first_part before now c.args.line.now (codes "\n") (subst G c.as_bytes.ensures.value c.in_err-put.ensures.err))
