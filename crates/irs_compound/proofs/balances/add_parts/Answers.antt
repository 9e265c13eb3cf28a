use Rattle.std.proofs.Common.{rules, ◌≡◌, ◌≤◌, ℤ, ◌+ℤ◌, subst, unsigned_abs, FitsSigned, Option, Some, None, SomeIff}
use Rattle.std.specs.Int.{w128}
use Rattle.std.proofs.lemmas.Int.{to_z-of_z}
use Rattle.irs_terms.specs.declared.codes.CompCode.{CompCode}
use Rattle.irs_compound.specs.Amounts.{PartsWithin, amount, kept_of, most_amount}
use Rattle.irs_compound.specs.Private.AmountLaws.{balance_after}
use Rattle.irs_compound.specs.declared.balances.Balance.{Balance}
use Rattle.irs_compound.specs.declared.periods.Parts.{Parts}
use Rattle.irs_compound.proofs.balances.add_parts.Goals as goal

-- the balance with an amount and what of it is kept, where the sums alone are tested
abbrev SumsTested : Option Balance → Balance → ℤ → ℤ → Type 0
SumsTested r b n k =
    SomeIff r ((unsigned_abs (b.sum +ℤ n) ≤ most_amount)
    × (unsigned_abs (b.kept +ℤ k) ≤ most_amount)) (record { sum = b.sum +ℤ n; kept = b.kept +ℤ k })

tested : (r : Option Balance) (code : CompCode) (b : Balance) (c : Parts) → unsigned_abs c.main ≤ most_amount
    → unsigned_abs c.extra ≤ most_amount → SumsTested r b (amount c) (kept_of code c)
    → SomeIff r (PartsWithin c (balance_after code b c).sum (balance_after code b c).kept) (balance_after code b c)
tested None code b c m e h = λ w. h (w.2, w.3)
tested (Some x) code b c m e h = ((m, e, h.0.0, h.0.1), h.1)

pub returns : goal.returns
returns c =
    let fm : FitsSigned w128 c.args.parts.main = search rules in
    let fe : FitsSigned w128 c.args.parts.extra = search rules in
    let fa : FitsSigned w128 c.amount.result = search rules in
    let fr : FitsSigned w128 c.kept_of.result = search rules in
    let fs : FitsSigned w128 c.args.before.sum = search rules in
    let fk : FitsSigned w128 c.args.before.kept = search rules in
    let m : unsigned_abs c.args.parts.main ≤ most_amount = search rules in
    let e : unsigned_abs c.args.parts.extra ≤ most_amount = search rules in
    let i : c.amount.result ≡ amount c.args.parts = c.amount.ensures.value in
    let j : c.kept_of.result ≡ kept_of c.args.code c.args.parts = c.kept_of.ensures.value in
    let h : SumsTested c.add_amount.result c.args.before c.amount.result c.kept_of.result =
    simp to_z-of_z at c.add_amount.ensures in
    tested c.add_amount.result c.args.code c.args.before c.args.parts m e
    (subst (λ (n : ℤ). SumsTested c.add_amount.result c.args.before (amount c.args.parts) n) j
    (subst (λ (n : ℤ). SumsTested c.add_amount.result c.args.before n c.kept_of.result) i h))
