use Rattle.std.proofs.Common.{arith, ◌≡◌, sym, ap, ◌∙◌, w64, to_z, of_z, List, ℕ, ℤ, Option, None, Some, subst}
use Rattle.std.specs.Prelude.{IfNone}
use Rattle.std.proofs.lemmas.Int.{ints}
use Rattle.jiff_core.proofs.SignedLemmas.{signed_arith}
use Rattle.irs_resets.specs.FixingFiles.{word, behind_gap, SpellsRate}
use Rattle.irs_resets.specs.declared.store.Slot.{Slot}
use Rattle.irs_resets.specs.Private.FixingFiles.{IsTail}
use Rattle.irs_resets.proofs.fixing_line.fixing_line.Goals as goal

pub returns-clause-some : goal.returns-clause-some
returns-clause-some c =
    let rate = c.in_ok-rate.ensures.some in
    let whole : to_z w64 (of_z w64 c.in_ok-rate.rate) ≡ c.in_ok-rate.rate =
    omega (arith, ints, signed_arith, rate.small) in
    let second = c.first_word.ensures.word ∙ ap word c.first_date-date.ensures.rest in
    let third = c.first_word.ensures.rest ∙ ap behind_gap c.first_date-date.ensures.rest in
    let found = c.in_ok-tail.ensures.some in
    let tail = subst (λ (l : List ℕ). IsTail l c.in_ok-tail.tail.tenor c.in_ok-tail.tail.index.now) (found.0
    ∙ third) found.1 in
    rw whole (record {
      date = sym c.first_date-date.ensures.day ∙ c.in-Some.is;
      rate_text = rw second at rate;
      tenor = tail.tenor_text;
      rest = tail.rest;
      lawful = tail.lawful;
    })

-- a fact of the case without a value
if_none : {X : Type 0} (o : Option X) (P : Type 0) → P → IfNone o P
if_none None P p = p
if_none (Some x) P p = tt

pub returns-in_err-tail-clause-none : goal.returns-in_err-tail-clause-none
returns-in_err-tail-clause-none c =
    let third = c.first_word.ensures.rest ∙ ap behind_gap c.first_date-date.ensures.rest in
    if_none c.from_residual-in_err-tail.result
    ((index : List ℕ) (slot : Slot) (rate : ℤ) → SpellsRate c.args.line.now index slot rate → ⊥)
    (λ index slot rate s. c.in_err-tail.ensures.none slot.tenor index
    (subst (λ (l : List ℕ). IsTail l slot.tenor index) (sym third)
    (record { tenor_text = s.tenor; rest = s.rest; lawful = s.lawful })))
