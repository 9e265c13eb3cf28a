-- Slots that the order finds equal are the same.
use Rattle.std.proofs.Common.{◌≡◌, ℕ, Bool, true, ◌&&◌, ◌==◌, Option, Some, None, ℤ, refl, arith, ap₂, ◌∙◌, List, []}
use Rattle.std.proofs.Common.{◌∷◌, cond}
use Rattle.std.proofs.lemmas.Bool.Decides.{nat_tests}
use Rattle.std.specs.Ordering.{int_eq, is_eq, int_cmp, nat_cmp, ordering_then}
use Rattle.std.specs.Option.{option_cmp}
use Rattle.std.specs.Map.{lookup}
use Rattle.std.specs.declared.cmp.Ordering.{Ordering}
use Rattle.std.specs.declared.cmp.Ordering.TheVariants.{Less, Equal, Greater}
use Rattle.jiff_core.proofs.SignedLemmas.{signed_arith}
use Rattle.irs_terms.specs.declared.frequency.Unit.{Unit as FrequencyUnit}
use Rattle.irs_terms.specs.declared.frequency.Unit.TheVariants.{D, W, M, Y, T}
use Rattle.irs_terms.specs.declared.frequency.Frequency.{Frequency}
use Rattle.irs_terms.specs.contracts.frequency.FrequencyOrd.TheImpl.{cmp-value as of_frequency}
use Rattle.irs_terms.specs.contracts.frequency.UnitOrd.TheImpl.{cmp-value as of_unit}
use Rattle.irs_base.proofs.Orders.{both_true}
use Rattle.irs_resets.specs.Rates.{is_unit, is_tenor, is_slot}
use Rattle.irs_resets.specs.declared.store.Slot.{Slot}
use Rattle.irs_resets.specs.contracts.store.SlotOrd.TheImpl.{cmp-value}

-- the order of dates and tenors
abbrev pub slot_cmp : Slot → Slot → Ordering
slot_cmp = cmp-value.it

both_equal : (a b : Ordering) → is_eq (ordering_then a b) ≡ (is_eq a && is_eq b)
both_equal Less b = refl
both_equal Equal b = refl
both_equal Greater b = refl

date_cmp-is : (a b : ℤ) → is_eq (int_cmp a b) ≡ int_eq a b
date_cmp-is a b = grind (arith, signed_arith)

count_cmp-is : (a b : ℕ) → is_eq (nat_cmp a b) ≡ (a == b)
count_cmp-is a b = grind (arith, nat_tests)

unit_cmp-is : (a b : FrequencyUnit) → is_eq (of_unit.it a b) ≡ is_unit a b
unit_cmp-is D D = refl
unit_cmp-is D W = refl
unit_cmp-is D M = refl
unit_cmp-is D Y = refl
unit_cmp-is D T = refl
unit_cmp-is W D = refl
unit_cmp-is W W = refl
unit_cmp-is W M = refl
unit_cmp-is W Y = refl
unit_cmp-is W T = refl
unit_cmp-is M D = refl
unit_cmp-is M W = refl
unit_cmp-is M M = refl
unit_cmp-is M Y = refl
unit_cmp-is M T = refl
unit_cmp-is Y D = refl
unit_cmp-is Y W = refl
unit_cmp-is Y M = refl
unit_cmp-is Y Y = refl
unit_cmp-is Y T = refl
unit_cmp-is T D = refl
unit_cmp-is T W = refl
unit_cmp-is T M = refl
unit_cmp-is T Y = refl
unit_cmp-is T T = refl

frequency_cmp-is : (a b : Frequency) → is_eq (of_frequency.it a b) ≡ ((a.count == b.count) && is_unit a.unit b.unit)
frequency_cmp-is a b =
    both_equal (nat_cmp a.count b.count) (of_unit.it a.unit b.unit)
    ∙ ap₂ (λ x y. x && y) (count_cmp-is a.count b.count) (unit_cmp-is a.unit b.unit)

tenor_cmp-is : (a b : Option Frequency) → is_eq (option_cmp of_frequency.it a b) ≡ is_tenor a b
tenor_cmp-is None None = refl
tenor_cmp-is None (Some b) = refl
tenor_cmp-is (Some a) None = refl
tenor_cmp-is (Some a) (Some b) = frequency_cmp-is a b

-- slots of one place are the same slot
pub slot_cmp-is : (a b : Slot) → is_eq (slot_cmp a b) ≡ is_slot a b
slot_cmp-is a b =
    both_equal (int_cmp a.date b.date) (option_cmp of_frequency.it a.tenor b.tenor)
    ∙ ap₂ (λ x y. x && y) (date_cmp-is a.date b.date) (tenor_cmp-is a.tenor b.tenor)

-- a look-up by one of two tests that answer alike
pub lookup_alike : {K X : Type 0} (f g : K → Bool) → ((k : K) → f k ≡ g k) → (es : List (K × X))
    → lookup f es ≡ lookup g es
lookup_alike f g h [] = refl
lookup_alike f g h (e ∷ es) = ap₂ (λ t r. cond t (Some e.1) r) (h e.0) (lookup_alike f g h es)

-- a look-up by the order is one by sameness
pub slot_lookup : (slot : Slot) (es : List (Slot × ℤ))
    → lookup (λ k. is_eq (slot_cmp slot k)) es ≡ lookup (is_slot slot) es
slot_lookup slot es = lookup_alike (λ k. is_eq (slot_cmp slot k)) (is_slot slot) (slot_cmp-is slot) es

-- what passes the test is the same
unit_same : (a b : FrequencyUnit) → is_unit a b ≡ true → a ≡ b
unit_same D D h = refl
unit_same D W h = absurd (cc)
unit_same D M h = absurd (cc)
unit_same D Y h = absurd (cc)
unit_same D T h = absurd (cc)
unit_same W D h = absurd (cc)
unit_same W W h = refl
unit_same W M h = absurd (cc)
unit_same W Y h = absurd (cc)
unit_same W T h = absurd (cc)
unit_same M D h = absurd (cc)
unit_same M W h = absurd (cc)
unit_same M M h = refl
unit_same M Y h = absurd (cc)
unit_same M T h = absurd (cc)
unit_same Y D h = absurd (cc)
unit_same Y W h = absurd (cc)
unit_same Y M h = absurd (cc)
unit_same Y Y h = refl
unit_same Y T h = absurd (cc)
unit_same T D h = absurd (cc)
unit_same T W h = absurd (cc)
unit_same T M h = absurd (cc)
unit_same T Y h = absurd (cc)
unit_same T T h = refl

tenor_same : (a b : Option Frequency) → is_tenor a b ≡ true → a ≡ b
tenor_same None None h = refl
tenor_same None (Some b) h = absurd (cc)
tenor_same (Some a) None h = absurd (cc)
tenor_same (Some a) (Some b) h =
    let p = both_true (a.count == b.count) (is_unit a.unit b.unit) h in
    let count : a.count ≡ b.count = grind (arith, nat_tests, p.0) in
    let make : ℕ → FrequencyUnit → Option Frequency = λ n u. Some (record { count = n; unit = u }) in
    ap₂ make count (unit_same a.unit b.unit p.1)

date_same : (a b : ℤ) → int_eq a b ≡ true → a ≡ b
date_same a b h = grind (arith, signed_arith)

-- slots that pass the test are the same
pub slot_same : (a b : Slot) → is_slot a b ≡ true → a ≡ b
slot_same a b h =
    let p = both_true (int_eq a.date b.date) (is_tenor a.tenor b.tenor) h in
    let make : ℤ → Option Frequency → Slot = λ d t. record { date = d; tenor = t } in
    ap₂ make (date_same a.date b.date p.0) (tenor_same a.tenor b.tenor p.1)

unit_itself : (a : FrequencyUnit) → is_unit a a ≡ true
unit_itself D = refl
unit_itself W = refl
unit_itself M = refl
unit_itself Y = refl
unit_itself T = refl

tenor_itself : (a : Option Frequency) → is_tenor a a ≡ true
tenor_itself None = refl
tenor_itself (Some a) =
    let e : (a.count == a.count) ≡ true = grind (arith, nat_tests) in
    rw e (unit_itself a.unit)

date_itself : (a : ℤ) → int_eq a a ≡ true
date_itself a = grind (arith, signed_arith)

-- a slot is the same as itself
pub slot_itself : (a : Slot) → is_slot a a ≡ true
slot_itself a = rw (date_itself a.date) (tenor_itself a.tenor)
