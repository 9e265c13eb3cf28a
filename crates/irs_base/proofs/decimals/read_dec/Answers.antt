use Rattle.std.proofs.Common.{rules, ◌≡◌, ℤ, List, ℕ, sym, subst, FitsSigned}
use Rattle.std.specs.Int.{w128}
use Rattle.std.proofs.lemmas.Int.{to_z-of_z}
use Rattle.irs_base.specs.Texts.{DecText}
use Rattle.irs_base.specs.Texts.DecText.{bare, plus, minus}
use Rattle.irs_base.proofs.DecimalLemmas.{plus_none, minus_none, bare_none}
use Rattle.irs_base.proofs.decimals.read_dec.Goals as goal

spelt : (text other : List ℕ) (places : ℕ) (v w : ℤ) → text ≡ other → v ≡ w → DecText other places w
    → DecText text places v
spelt text other places v w e f d =
    subst (λ (t : List ℕ). DecText t places v) (sym e) (subst (DecText other places) (sym f) d)

pub returns-in_err-n-clause-none : goal.returns-in_err-n-clause-none
returns-in_err-n-clause-none c =
    rw c.from_residual.ensures
    (λ v d. plus_none c.in-Some.digits.now c.args.places v c.in_err-n.ensures.none
    (subst (λ (t : List ℕ). DecText t c.args.places v) c.in-Some.ensures.some d))

pub returns-in-Some-clause-some : goal.returns-in-Some-clause-some
returns-in-Some-clause-some c =
    let f : FitsSigned w128 c.positive.result = search rules in
    simp to_z-of_z (spelt _ _ _ _ _ c.in-Some.ensures.some c.positive.ensures.value (plus _ _ _ c.in_ok-n.ensures.some))

pub returns-in_err-n-2-clause-none : goal.returns-in_err-n-2-clause-none
returns-in_err-n-2-clause-none c =
    rw c.from_residual-in_err-n-2.ensures
    (λ v d. minus_none c.in-Some-behind_sign.digits.now c.args.places v c.in_err-n-2.ensures.none
    (subst (λ (t : List ℕ). DecText t c.args.places v) c.in-Some-behind_sign.ensures.some d))

pub returns-in-Some-behind_sign-clause-some : goal.returns-in-Some-behind_sign-clause-some
returns-in-Some-behind_sign-clause-some c =
    let f : FitsSigned w128 c.negative.result = search rules in
    simp to_z-of_z (spelt _ _ _ _ _ c.in-Some-behind_sign.ensures.some c.negative.ensures.value
    (minus _ _ _ c.in_ok-n-2.ensures.some))

pub returns-in_err-n-3-clause-none : goal.returns-in_err-n-3-clause-none
returns-in_err-n-3-clause-none c =
    rw c.from_residual-in_err-n-3.ensures
    (λ v d. bare_none c.args.text.now c.args.places v c.in_default.ensures.none c.in_default-behind_sign.ensures.none
    c.in_err-n-3.ensures.none d)

pub returns-clause-some : goal.returns-clause-some
returns-clause-some c =
    let f : FitsSigned w128 c.positive-2.result = search rules in
    simp to_z-of_z (subst (DecText c.args.text.now c.args.places) (sym c.positive-2.ensures.value)
    (bare _ _ _ c.in_ok-n-3.ensures.some))
