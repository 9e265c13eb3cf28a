use Rattle.std.proofs.Common.{ℕ, subst, arith}
use Rattle.std.proofs.lemmas.Fmt.{parse-decimal}
use Rattle.irs_cli.specs.Commands.{IsCountWord}
use Rattle.irs_cli.proofs.HandedReplies.{not_true, ok_not_err, ok_same}
use Rattle.irs_cli.proofs.params.count_of.Goals as goal

pub returns-in-Ok-2-clause-none : goal.returns-in-Ok-2-clause-none
returns-in-Ok-2-clause-none c = λ n h.
    let few = h.to_most in
    let e = parse-decimal 32 n c.args.word.now c.parse.result (omega (arith, few))
    (omega (arith, few)) h.is c.parse.ensures.value.0 in
    let same = ok_same c.parse.result n c.in-Ok.count e c.in-Ok.is in
    not_true c.is_count.result c.if-is_count.false
    (c.is_count.ensures.1 (subst (λ (m : ℕ). IsCountWord c.args.word.now m) same h))

pub returns-in-Err-clause-none : goal.returns-in-Err-clause-none
returns-in-Err-clause-none c = λ n h.
    let few = h.to_most in
    let e = parse-decimal 32 n c.args.word.now c.parse.result (omega (arith, few))
    (omega (arith, few)) h.is c.parse.ensures.value.0 in
    ok_not_err c.parse.result n _ e c.in-Err.is
