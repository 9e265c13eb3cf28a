use Rattle.std.proofs.Common.{◌≡◌, ◌∙◌, refl, sym, ap, ap₂, subst, ◌++◌, Some, None, is_some, cond, w64, to_z, of_z, arith}
use Rattle.std.proofs.lemmas.Int.{ints}
use Rattle.std.specs.Map.{lookup}
use Rattle.irs_resets.specs.Rates.{SlotRates, is_slot}
use Rattle.irs_resets.specs.declared.store.Slot.{Slot}
use Rattle.irs_resets.proofs.OrderLemmas.{adds_last, adds_others, none_after, none_of, not_first, on_err_of, others_changed}
use Rattle.irs_resets.proofs.OrderLemmas.{some_first, some_others}
use Rattle.irs_resets.proofs.SlotLemmas.{slot_cmp-is, slot_lookup, slot_same}
use Rattle.irs_resets.proofs.store.Rates.add.Goals as goal

pub returns-then-contains_key-clause-adds : goal.returns-then-contains_key-clause-adds
returns-then-contains_key-clause-adds c =
    let xs : SlotRates = c.self.inside.in_order in
    let ys : SlotRates = c.self.inside.others.entries in
    let none = none_after xs c.args.slot.now (c.ends_before.ensures c.if-ends_before.true) in
    rw (← c.self.view_is)
    (some_others (is_slot c.args.slot.now) xs ys none
    (ap is_some (sym (slot_lookup c.args.slot.now ys)) ∙ sym c.contains_key.ensures ∙ c.if-contains_key.true))

pub returns-in_err-push-clause-memory : goal.returns-in_err-push-clause-memory
returns-in_err-push-clause-memory c =
    let xs : SlotRates = c.self.inside.in_order in
    let ys : SlotRates = c.self.inside.others.entries in
    let none = none_after xs c.args.slot.now (c.ends_before.ensures c.if-ends_before.true) in
    let others = none_of (is_slot c.args.slot.now) ys (lookup (is_slot c.args.slot.now) ys) refl
    (ap is_some (sym (slot_lookup c.args.slot.now ys)) ∙ sym c.contains_key.ensures ∙ c.if-contains_key.false) in
    rw (← c.self.view_is) (on_err_of c.from_residual.result (not_first (is_slot c.args.slot.now) xs ys none ∙ others))

pub returns-then-ends_before-clause-adds : goal.returns-then-ends_before-clause-adds
returns-then-ends_before-clause-adds c =
    let xs : SlotRates = c.self.inside.in_order in
    let ys : SlotRates = c.self.inside.others.entries in
    let none = none_after xs c.args.slot.now (c.ends_before.ensures c.if-ends_before.true) in
    let others = none_of (is_slot c.args.slot.now) ys (lookup (is_slot c.args.slot.now) ys) refl
    (ap is_some (sym (slot_lookup c.args.slot.now ys)) ∙ sym c.contains_key.ensures ∙ c.if-contains_key.false) in
    let whole : to_z w64 (of_z w64 c.args.rate) ≡ c.args.rate = omega (arith, ints, c.ranges.rate) in
    let pushed = rw whole at c.in_ok-push.ensures.ok in
    rw (← c.self.view_is, pushed)
    (not_first (is_slot c.args.slot.now) xs ys none ∙ others, adds_last xs ys c.args.slot.now c.args.rate none)

pub returns-then-is_some-clause-adds : goal.returns-then-is_some-clause-adds
returns-then-is_some-clause-adds c =
    rw (← c.self.view_is)
    (some_first (is_slot c.args.slot.now) c.self.inside.in_order c.self.inside.others.entries c.rate_near-old.result.0
    c.rate_near-old.ensures (sym c.is_some.ensures ∙ c.if-is_some.true))

pub returns-in_err-had-clause-memory : goal.returns-in_err-had-clause-memory
returns-in_err-had-clause-memory c =
    let xs : SlotRates = c.self.inside.in_order in
    let ys : SlotRates = c.self.inside.others.entries in
    let none = none_of (is_slot c.args.slot.now) xs c.rate_near-old.result.0 c.rate_near-old.ensures
    (sym c.is_some.ensures ∙ c.if-is_some.false) in
    rw (← c.self.view_is)
    (on_err_of c.from_residual-in_err-had.result (not_first (is_slot c.args.slot.now) xs ys none
    ∙ sym (slot_lookup c.args.slot.now ys) ∙ c.in_err-had.ensures.absent))

pub returns-clause-adds : goal.returns-clause-adds
returns-clause-adds c =
    let xs : SlotRates = c.self.inside.in_order in
    let ys : SlotRates = c.self.inside.others.entries in
    let zs : SlotRates = c.insert.new.self.entries in
    let none = none_of (is_slot c.args.slot.now) xs c.rate_near-old.result.0 c.rate_near-old.ensures
    (sym c.is_some.ensures ∙ c.if-is_some.false) in
    let had_is : c.in_ok-had.had ≡ lookup (is_slot c.args.slot.now) ys =
    c.in_ok-had.ensures.old ∙ slot_lookup c.args.slot.now ys in
    let whole : to_z w64 (of_z w64 c.args.rate) ≡ c.args.rate = omega (arith, ints, c.ranges.rate) in
    let adds = λ (q : Slot).
    let new = rw whole at (c.in_ok-had.ensures.updates.0 q) in
    others_changed (is_slot q) xs ys zs (is_slot c.args.slot.now q) c.args.rate
    (λ same. subst (λ (s : Slot). lookup (is_slot s) xs ≡ None) (slot_same c.args.slot.now q same) none)
    (sym (slot_lookup q zs) ∙ new
    ∙ ap₂ (λ t o. cond t (Some c.args.rate) o) (slot_cmp-is c.args.slot.now q) (slot_lookup q ys)) in
    rw (← c.self.view_is)
    (adds_others (xs ++ ys) (xs ++ zs) c.args.slot.now c.args.rate c.in_ok-had.had c.is_none.result c.is_none.ensures
    (λ some. some_others (is_slot c.args.slot.now) xs ys none (ap is_some (sym had_is) ∙ some))
    (λ is. (not_first (is_slot c.args.slot.now) xs ys none ∙ sym had_is ∙ is, adds)))
