-- Maps whose keys are bytes.
use Rattle.std.proofs.Common.{◌≡◌, inl, inr, ℕ, Bool, true, false, Option, Some, None, ℤ, refl, ap₂, ◌∙◌}
use Rattle.std.proofs.Common.{sym, List, [], ◌∷◌, cond, subst}
use Rattle.std.specs.Ordering.{is_eq, nat_cmp}
use Rattle.std.specs.Cmp.{eq_by_cmp_equiv}
use Rattle.std.specs.Cmp.Lexicographic.{slice_cmp, nat_list_cmp_total, nat_list_eq_equiv}
use Rattle.std.specs.Str.{bytes_eq}
use Rattle.std.specs.BTreeMap.{BTreeMap, UpdatesBy, get_by}
use Rattle.std.specs.Map.{lookup, IsKeyTest, AreApart, KeepsOthers}
use Rattle.std.proofs.lemmas.Map.Text.{is_eq-slice_cmp}
use Rattle.std.proofs.lemmas.Slice.Eq.{bytes_eq-Decides}
use Rattle.std.proofs.lemmas.Bool.{cases_Bool}
use Rattle.std.specs.declared.vec.Vec.{Vec}
use Rattle.irs_resets.specs.declared.store.Slot.{Slot}
use Rattle.irs_resets.specs.Rates.{RateTable, SlotRates, by_bytes}
use Rattle.irs_resets.specs.Private.FixingFiles.{AddsNew, AddsNewAt}

apart : (bs cs ks : List ℕ) → bytes_eq bs cs ≡ false → is_eq (slice_cmp nat_cmp bs ks) ≡ true
    → is_eq (slice_cmp nat_cmp cs ks) ≡ false
apart bs cs ks n y =
    let at = sym (is_eq-slice_cmp bs ks) ∙ y in
    is_eq-slice_cmp cs ks ∙ nat_list_eq_equiv.symm cs ks ∙ sym (nat_list_eq_equiv.congr bs ks cs at) ∙ n

module _ {K : Type 0} (eq : K → K → Bool) (test : K → Bool) where
  other_entries : {X : Type 0} (old new : List (K × X)) → KeepsOthers eq test old new → (other : K → Bool)
      → IsKeyTest eq other → AreApart test other → lookup other new ≡ lookup other old
  unfolding KeepsOthers
  other_entries old new h = h

-- what a change at the bytes bs leaves at any bytes
pub updates_bytes : {K X : Type 0} (f : K → List ℕ) (bs : List ℕ) (m n : BTreeMap K X) (w : Option X)
    → UpdatesBy (λ x y. slice_cmp nat_cmp (f x) (f y)) (λ k. slice_cmp nat_cmp bs (f k)) m n w → (cs : List ℕ)
    → get_by (λ k. slice_cmp nat_cmp cs (f k)) n ≡ cond (bytes_eq bs cs) w (get_by (λ k. slice_cmp nat_cmp cs (f k)) m)
updates_bytes {K} {X} f bs m n w h cs = elim (cases_Bool (bytes_eq bs cs)) [
  | inl same ↦
      rw same (subst (λ (l : List ℕ). get_by (λ k. slice_cmp nat_cmp l (f k)) n ≡ w)
      ((bytes_eq-Decides bs cs).0 same) h.1)
  | inr other ↦
      rw other (other_entries _ _ m.entries n.entries h.3 (λ k. is_eq (slice_cmp nat_cmp cs (f k)))
      (λ x y. (eq_by_cmp_equiv nat_list_cmp_total).congr cs (f x) (f y)) (λ k. apart bs cs (f k) other))
]

-- keys as bytes
pub lookup_by_bytes : {Y X : Type 0} (index : List ℕ) (es : List (Vec ℕ Y × X))
    → lookup (λ k. is_eq (slice_cmp nat_cmp index k.items)) es ≡ lookup (bytes_eq index) (by_bytes es)
lookup_by_bytes index [] = refl
lookup_by_bytes index (e ∷ es) =
    ap₂ (λ t r. cond t (Some e.1) r) (is_eq-slice_cmp index e.0.items) (lookup_by_bytes index es)

-- a rate is added to those of its index, if it has none yet
pub adds_there : (old new : RateTable) (index : List ℕ) (slot : Slot) (rate : ℤ) (rates grown : SlotRates) (b : Bool)
    → lookup (bytes_eq index) old ≡ Some rates
    → ((cs : List ℕ) → lookup (bytes_eq cs) new ≡ cond (bytes_eq index cs) (Some grown) (lookup (bytes_eq cs) old))
    → AddsNew rates slot rate grown b → AddsNewAt old index slot rate new b
adds_there old new index slot rate rates grown false at back adds = rw at adds
adds_there old new index slot rate rates grown true at back adds = (
  rw at adds.0,
  λ i q. elim (cases_Bool (bytes_eq index i)) [
    | inl same ↦
        let here : lookup (bytes_eq i) new ≡ Some grown = rw same at (back i) in
        let is : index ≡ i = (bytes_eq-Decides index i).0 same in
        let old_at : lookup (bytes_eq i) old ≡ Some rates =
        subst (λ (l : List ℕ). lookup (bytes_eq l) old ≡ Some rates) is at in
        rw (here, same, old_at) (adds.1 q)
    | inr other ↦
        let e : lookup (bytes_eq i) new ≡ lookup (bytes_eq i) old = rw other at (back i) in
        rw (e, other) refl
  ],
)

-- the first rate of an index
pub adds_first : (old new : RateTable) (index : List ℕ) (slot : Slot) (rate : ℤ) (grown : SlotRates) (b : Bool)
    → lookup (bytes_eq index) old ≡ None
    → ((cs : List ℕ) → lookup (bytes_eq cs) new ≡ cond (bytes_eq index cs) (Some grown) (lookup (bytes_eq cs) old))
    → AddsNew [] slot rate grown b → AddsNewAt old index slot rate new b
adds_first old new index slot rate grown false at back adds = absurd (cc)
adds_first old new index slot rate grown true at back adds = (
  rw at refl,
  λ i q. elim (cases_Bool (bytes_eq index i)) [
    | inl same ↦
        let here : lookup (bytes_eq i) new ≡ Some grown = rw same at (back i) in
        let is : index ≡ i = (bytes_eq-Decides index i).0 same in
        let old_at : lookup (bytes_eq i) old ≡ None =
        subst (λ (l : List ℕ). lookup (bytes_eq l) old ≡ None) is at in
        rw (here, same, old_at) (adds.1 q)
    | inr other ↦
        let e : lookup (bytes_eq i) new ≡ lookup (bytes_eq i) old = rw other at (back i) in
        rw (e, other) refl
  ],
)
