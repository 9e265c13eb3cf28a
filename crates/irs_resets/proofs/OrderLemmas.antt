-- Rates in the order of their slots: what is at a place, where a search by halves ends, and one rate more.
use Rattle.std.proofs.Common.{◌≡◌, inl, inr, ℕ, suc, ◌+◌, ◌<◌, ◌≤◌, [], ◌∷◌, ◌++◌, length, Option, Some, None, ℤ}
use Rattle.std.proofs.Common.{Bool, true, false, not, IsSome, is_some, cond, Result, Ok, Err, OnErr}
use Rattle.std.proofs.Common.{refl, sym, ap, ap₂, ◌∙◌, subst, arith, slice_get}
use Rattle.std.specs.Prelude.{option_map}
use Rattle.std.specs.Cmp.{IsTotalOrder, eq_by_cmp_equiv}
use Rattle.std.specs.List.{AllByRecursion}
use Rattle.std.specs.List.Sorted.{IsStrictlySortedBy}
use Rattle.std.specs.Map.{keys_of, lookup}
use Rattle.std.specs.Ordering.{is_eq, is_lt, ordering_reverse}
use Rattle.std.specs.declared.cmp.Ordering.{Ordering}
use Rattle.std.specs.declared.cmp.Ordering.TheVariants.{Less, Equal, Greater}
use Rattle.std.proofs.lemmas.Bool.{cases_Bool, cases_lt}
use Rattle.std.proofs.lemmas.Map.Entries.{lookup_at_gap, lookup_from_place}
use Rattle.std.proofs.lemmas.Map.Keys.{IsDistinct-from_sorted, Less-from_sorted}
use Rattle.std.proofs.lemmas.Option.{get_or_from_slice_get, same_Some, slice_get-map, slice_get_within}
use Rattle.irs_resets.specs.Rates.{SlotRates, is_slot}
use Rattle.irs_resets.specs.Private.FixingFiles.{AddsNew, AddsTo}
use Rattle.irs_resets.specs.SlotOrder.{AreInOrder, slot_cmp}
use Rattle.irs_resets.specs.Private.SlotOrder.{ComesAfter, IsPlace}
use Rattle.irs_resets.specs.contracts.store.SlotOrd.TheImpl.Laws.{total-law}
use Rattle.irs_resets.specs.declared.store.Slot.{Slot}
use Rattle.irs_resets.proofs.SlotLemmas.{slot_cmp-is, slot_lookup, slot_same}

pub slot_total : IsTotalOrder slot_cmp
slot_total = total-law

-- no rates are in order
pub none_in_order : AreInOrder []
unfolding IsStrictlySortedBy
none_in_order = tt

-- the slot at a place
key_at : (rates : SlotRates) (i : ℕ) (e : Slot × ℤ) → slice_get rates i ≡ Some e → slice_get (keys_of rates) i ≡ Some e.0
key_at rates i e at =
    slice_get-map (λ (x : Slot × ℤ). x.0) rates i ∙ ap (λ (o : Option (Slot × ℤ)). option_map (λ (x : Slot × ℤ). x.0) o) at

-- of two places the earlier has the earlier slot
less_at : (rates : SlotRates) → AreInOrder rates → (i j : ℕ) (a b : Slot × ℤ) → i < j → slice_get rates i ≡ Some a
    → slice_get rates j ≡ Some b → slot_cmp a.0 b.0 ≡ Less
less_at rates order i j a b lower ata atb =
    let ka = key_at rates i a ata in
    let kb = key_at rates j b atb in
    let less = Less-from_sorted slot_cmp (keys_of rates) i j a.0 order lower (slice_get_within (keys_of rates) j b.0 kb) in
    let ea = get_or_from_slice_get (keys_of rates) i a.0 a.0 ka in
    let eb = get_or_from_slice_get (keys_of rates) j b.0 a.0 kb in
    sym (ap₂ slot_cmp ea eb) ∙ less

turned : (a b : Slot) → slot_cmp a b ≡ Greater → slot_cmp b a ≡ Less
turned a b h = slot_total.antisymm b a ∙ ap ordering_reverse h

turned_back : (a b : Slot) → slot_cmp a b ≡ Less → slot_cmp b a ≡ Greater
turned_back a b h = slot_total.antisymm b a ∙ ap ordering_reverse h

-- the rates before low come before the slot, and the one at high after it
pub record Halved (rates : SlotRates) (slot : Slot) (low high : ℕ) : Type 0 where
  pub order : low ≤ high
  pub within : high ≤ length rates
  pub before : (j : ℕ) (e : Slot × ℤ) → j < low → slice_get rates j ≡ Some e → slot_cmp slot e.0 ≡ Greater
  pub after : (e : Slot × ℤ) → slice_get rates high ≡ Some e → slot_cmp slot e.0 ≡ Less

pub halved_all : (rates : SlotRates) (slot : Slot) → Halved rates slot 0 (length rates)
halved_all rates slot = record {
  order = omega arith;
  within = omega arith;
  before = λ j e low at. absurd (omega (arith, low));
  after = λ e at. absurd (omega (arith, slice_get_within rates (length rates) e at));
}

module _ (rates : SlotRates) (slot : Slot) (low high mid : ℕ) (m : Slot × ℤ) (sorted : AreInOrder rates)
    (h : Halved rates slot low high) (from : low ≤ mid) (to : mid < high) (at : slice_get rates mid ≡ Some m) where
  -- the slot comes after the rate in the middle
  pub halved_up : slot_cmp slot m.0 ≡ Greater → Halved rates slot (mid + 1) high
  halved_up later = record {
    order = omega (arith, to);
    within = h.within;
    before = λ j e lower there. elim (cases_lt j mid) [
      | inl front ↦
          turned_back e.0 slot (slot_total.trans e.0 m.0 slot (less_at rates sorted j mid e m front there at)
          (turned slot m.0 later))
      | inr back ↦
          let same : j ≡ mid = omega (arith, lower, back) in
          let e_is : Some e ≡ Some m = sym there ∙ subst (λ (k : ℕ). slice_get rates k ≡ Some m) (sym same) at in
          subst (λ (x : Slot × ℤ). slot_cmp slot x.0 ≡ Greater) (sym (same_Some e m e_is)) later
    ];
    after = h.after;
  }

  -- it comes before it
  pub halved_down : slot_cmp slot m.0 ≡ Less → Halved rates slot low mid
  halved_down sooner = record {
    order = from;
    within = omega (arith, to, h.within);
    before = h.before;
    after = λ e there. subst (λ (x : Slot × ℤ). slot_cmp slot x.0 ≡ Less) (same_Some m e (sym at ∙ there)) sooner;
  }

-- where nothing is left the slot has no rate
pub halved_none : (rates : SlotRates) (slot : Slot) (low high : ℕ) → AreInOrder rates → Halved rates slot low high
    → high ≤ low → lookup (is_slot slot) rates ≡ None
halved_none rates slot low high sorted h past =
    let same : low ≡ high = omega (arith, h.order, past) in
    sym (slot_lookup slot rates)
    ∙ lookup_at_gap slot_total slot rates high sorted
    (λ j e lower at. h.before j e (subst (λ (k : ℕ). j < k) (sym same) lower) at) h.after

-- the rate at the place of a slot is what is looked up
pub lookup_at_place : (rates : SlotRates) (slot : Slot) (place : ℕ) (rate : ℤ) → AreInOrder rates
    → slice_get rates place ≡ Some (slot, rate) → lookup (is_slot slot) rates ≡ Some rate
lookup_at_place rates slot place rate sorted at =
    sym (slot_lookup slot rates)
    ∙ lookup_from_place (eq_by_cmp_equiv slot_total) rates place slot rate
    (IsDistinct-from_sorted slot_cmp (keys_of rates) sorted) at

-- the same of the slot and the rate at that place
pub lookup_of_entry : (rates : SlotRates) (slot : Slot) (place : ℕ) (e : Slot × ℤ) → AreInOrder rates
    → IsPlace rates slot place → slice_get rates place ≡ Some e → lookup (is_slot slot) rates ≡ Some e.1
lookup_of_entry rates slot place e sorted is at =
    let same = same_Some (slot, is.0) e (sym is.1 ∙ at) in
    lookup_at_place rates slot place is.0 sorted is.1 ∙ ap (λ (x : Slot × ℤ). Some x.1) same

-- a slot after the last comes after all
pub after_last : (rates : SlotRates) (slot : Slot) (n : ℕ) (last : Slot × ℤ) → AreInOrder rates → n + 1 ≡ length rates
    → slice_get rates n ≡ Some last → slot_cmp last.0 slot ≡ Less → ComesAfter rates slot
after_last rates slot n last sorted many at less = every_by rates (λ j e there. elim (cases_lt j n) [
  | inl front ↦
      slot_total.trans e.0 last.0 slot (less_at rates sorted j n e last front there at) less
  | inr back ↦
      let within = slice_get_within rates j e there in
      let same : j ≡ n = omega (arith, within, back, many) in
      let e_is : Some e ≡ Some last = sym there ∙ subst (λ (k : ℕ). slice_get rates k ≡ Some last) (sym same) at in
      subst (λ (x : Slot × ℤ). slot_cmp x.0 slot ≡ Less) (sym (same_Some e last e_is)) less
])
  where
    every_by : (es : SlotRates) → ((j : ℕ) (e : Slot × ℤ) → slice_get es j ≡ Some e → slot_cmp e.0 slot ≡ Less)
        → ComesAfter es slot
    every_by [] h = tt
    every_by (e ∷ es) h = (h 0 e refl, every_by es (λ j x there. h (suc j) x there))

all_more : (P : Slot → Type 0) (rates : SlotRates) (slot : Slot) (rate : ℤ) → AllByRecursion P (keys_of rates) → P slot
    → AllByRecursion P (keys_of (rates ++ (slot, rate) ∷ []))
all_more P [] slot rate all one = (one, tt)
all_more P (e ∷ es) slot rate all one = (all.0, all_more P es slot rate all.1 one)

-- with a rate more, whose slot comes after them
pub more_in_order : (rates : SlotRates) (slot : Slot) (rate : ℤ) → AreInOrder rates → ComesAfter rates slot
    → AreInOrder (rates ++ (slot, rate) ∷ [])
unfolding IsStrictlySortedBy
more_in_order [] slot rate sorted after = (tt, tt)
more_in_order (e ∷ es) slot rate sorted after =
    (all_more (λ k. slot_cmp e.0 k ≡ Less) es slot rate sorted.0 after.0, more_in_order es slot rate sorted.1 after.1)

-- what the order finds equal is the slot's
pub place_here : (rates : SlotRates) (slot : Slot) (place : ℕ) (e : Slot × ℤ) → slice_get rates place ≡ Some e
    → is_eq (slot_cmp slot e.0) ≡ true → IsPlace rates slot place
place_here rates slot place e at same =
    (e.1, at ∙ ap (λ (s : Slot). Some (s, e.1)) (sym (slot_same slot e.0 (sym (slot_cmp-is slot e.0) ∙ same))))

pub is_less : (o : Ordering) → is_lt o ≡ true → o ≡ Less
is_less Less h = refl
is_less Equal h = absurd (cc)
is_less Greater h = absurd (cc)

-- ---- rates in order, and others after them

module _ (test : Slot → Bool) where
  found_first : (xs ys : SlotRates) (v : ℤ) → lookup test xs ≡ Some v → lookup test (xs ++ ys) ≡ Some v
  found_first [] ys v h = absurd (cc)
  found_first (x ∷ xs) ys v h = found_by (test x.0) h (found_first xs ys v)
    where
      found_by : (b : Bool) → cond b (Some x.1) (lookup test xs) ≡ Some v
          → (lookup test xs ≡ Some v → lookup test (xs ++ ys) ≡ Some v)
          → cond b (Some x.1) (lookup test (xs ++ ys)) ≡ Some v
      found_by true h more = h
      found_by false h more = more h

  -- what the first haven't is looked up among the others
  pub not_first : (xs ys : SlotRates) → lookup test xs ≡ None → lookup test (xs ++ ys) ≡ lookup test ys
  not_first [] ys h = refl
  not_first (x ∷ xs) ys h = none_by (test x.0) h (not_first xs ys)
    where
      none_by : (b : Bool) → cond b (Some x.1) (lookup test xs) ≡ None
          → (lookup test xs ≡ None → lookup test (xs ++ ys) ≡ lookup test ys)
          → cond b (Some x.1) (lookup test (xs ++ ys)) ≡ lookup test ys
      none_by true h more = absurd (cc)
      none_by false h more = more h

  pub kept_first : (xs ys : SlotRates) (o : Option ℤ) → o ≡ lookup test xs → is_some o ≡ true → o ≡ lookup test (xs ++ ys)
  kept_first xs ys None at some = absurd (cc)
  kept_first xs ys (Some v) at some = sym (found_first xs ys v (sym at))

  pub some_first : (xs ys : SlotRates) (o : Option ℤ) → o ≡ lookup test xs → is_some o ≡ true
      → IsSome (lookup test (xs ++ ys))
  some_first xs ys None at some = absurd (cc)
  some_first xs ys (Some v) at some = rw (found_first xs ys v (sym at)) refl

  pub none_of : (xs : SlotRates) (o : Option ℤ) → o ≡ lookup test xs → is_some o ≡ false → lookup test xs ≡ None
  none_of xs None at none = sym at
  none_of xs (Some v) at none = absurd (cc)

  pub some_others : (xs ys : SlotRates) → lookup test xs ≡ None → is_some (lookup test ys) ≡ true
      → IsSome (lookup test (xs ++ ys))
  some_others xs ys none some = rw (not_first xs ys none) some

  -- two lists in turn, the second of which changes
  pub others_changed : (xs ys zs : SlotRates) (b : Bool) (v : ℤ) → (b ≡ true → lookup test xs ≡ None)
      → lookup test zs ≡ cond b (Some v) (lookup test ys)
      → lookup test (xs ++ zs) ≡ cond b (Some v) (lookup test (xs ++ ys))
  others_changed xs ys zs true v none changed = not_first xs zs (none refl) ∙ changed
  others_changed xs ys zs false v none changed = same_first xs changed
    where
      same_first : (ws : SlotRates) → lookup test zs ≡ lookup test ys → lookup test (ws ++ zs) ≡ lookup test (ws ++ ys)
      same_first [] e = e
      same_first (w ∷ ws) e = ap (λ (o : Option ℤ). cond (test w.0) (Some w.1) o) (same_first ws e)

pub slot_turned : (a b : Slot) → is_slot a b ≡ is_slot b a
slot_turned a b =
    sym (slot_cmp-is a b) ∙ (eq_by_cmp_equiv slot_total).symm a b ∙ slot_cmp-is b a

-- a slot after all of the rates has none
pub none_after : (rates : SlotRates) (slot : Slot) → ComesAfter rates slot → lookup (is_slot slot) rates ≡ None
none_after [] slot h = refl
none_after (e ∷ es) slot h =
    let other : is_slot slot e.0 ≡ false =
    sym (slot_cmp-is slot e.0) ∙ ap is_eq (turned_back e.0 slot h.0) in
    rw other (none_after es slot h.1)

-- the slot of the new rate has it, and each other one what it had
pub adds_last : (xs ys : SlotRates) (slot : Slot) (rate : ℤ) → lookup (is_slot slot) xs ≡ None
    → AddsTo (xs ++ ys) slot rate ((xs ++ (slot, rate) ∷ []) ++ ys)
adds_last [] ys slot rate none q = ap (λ (b : Bool). cond b (Some rate) (lookup (is_slot q) ys)) (slot_turned q slot)
adds_last (x ∷ xs) ys slot rate none q = elim (cases_Bool (is_slot q x.0)) [
  | inl here ↦
      let apart : is_slot slot q ≡ false = not_both here in
      rw (here, apart) refl
  | inr there ↦ rw there (adds_last xs ys slot rate (later none) q)
]
  where
    later : lookup (is_slot slot) (x ∷ xs) ≡ None → lookup (is_slot slot) xs ≡ None
    later h = by_test (is_slot slot x.0) h
      where
        by_test : (b : Bool) → cond b (Some x.1) (lookup (is_slot slot) xs) ≡ None → lookup (is_slot slot) xs ≡ None
        by_test true h = absurd (cc)
        by_test false h = h

    other : is_slot slot x.0 ≡ false
    other = by_test (is_slot slot x.0) none
      where
        by_test : (b : Bool) → cond b (Some x.1) (lookup (is_slot slot) xs) ≡ None → b ≡ false
        by_test true h = absurd (cc)
        by_test false h = refl

    not_both : is_slot q x.0 ≡ true → is_slot slot q ≡ false
    not_both here =
        let e : q ≡ x.0 = slot_same q x.0 here in
        subst (λ (s : Slot). is_slot slot s ≡ false) (sym e) other

-- the slot had a rate among the others, or it has this one now
pub adds_others : (old new : SlotRates) (slot : Slot) (rate : ℤ) (had : Option ℤ) (b : Bool) → is_some had ≡ not b
    → (is_some had ≡ true → IsSome (lookup (is_slot slot) old))
    → (had ≡ None → (lookup (is_slot slot) old ≡ None) × AddsTo old slot rate new) → AddsNew old slot rate new b
adds_others old new slot rate (Some v) true is some none = absurd (cc)
adds_others old new slot rate (Some v) false is some none = some refl
adds_others old new slot rate None true is some none = none refl
adds_others old new slot rate None false is some none = absurd (cc)

-- what holds holds if there is an error
pub on_err_of : {T E P : Type 0} (r : Result T E) → P → OnErr r P
on_err_of (Ok x) p = tt
on_err_of (Err e) p = p
