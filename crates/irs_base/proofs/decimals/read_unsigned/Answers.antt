use Rattle.std.proofs.Common.{rules, sym, subst}
use Rattle.irs_base.specs.Texts.{IsUnsigned}
use Rattle.irs_base.proofs.DecimalLemmas.{no_parts, not_zeros, unsigned_is}
use Rattle.irs_base.proofs.decimals.read_unsigned.Goals as goal

pub returns-in_err-whole-clause-none : goal.returns-in_err-whole-clause-none
returns-in_err-whole-clause-none c =
    rw c.from_residual.ensures (λ v. no_parts c.args.text.now c.args.places v c.in_err-whole.ensures.none)

pub returns-then-not-are_zeros_past-clause-none : goal.returns-then-not-are_zeros_past-clause-none
returns-then-not-are_zeros_past-clause-none c =
    λ v. not_zeros c.args.text.now c.in_ok-whole.whole.now c.in_ok-whole.fraction.now c.args.places v
    c.in_ok-whole.ensures.cut (λ t. cc (t, c.are_zeros_past.ensures, c.if-not-are_zeros_past.true))

pub returns-clause-some : goal.returns-clause-some
returns-clause-some c =
    let is = unsigned_is c.args.text.now c.in_ok-whole.whole.now c.in_ok-whole.fraction.now c.args.places
    c.in_ok-whole.ensures.cut (search rules) (search rules) in
    subst (IsUnsigned c.args.text.now c.args.places) (sym c.number_of_parts.ensures.value) is
