-- The first rule that is broken among the values of a list, and by the streams of a swap.
use Rattle.irs_base.specs.Limits.{most_streams}
use Rattle.irs_elements.proofs.First.{Below, first_is, first_more, first_one, first_or, first_same}
use Rattle.irs_json.specs.Leaves.{element_names}
use Rattle.irs_read.specs.Documents.{Among, FaultOfStreams, WithMembers, in_stream, many_streams, no_stream, outside}
use Rattle.irs_terms.specs.declared.places.{Broken.Broken, Rule.TheVariants.K2, Rule.TheVariants.K7}
use Rattle.irs_terms.specs.{Elements.swap_stream, Faults.IsFirstBroken, Faults.earlier_broken}
use Rattle.serde_json.specs.{Data.Data, View.view, declared.value.Value.Value}
use Rattle.std.proofs.Common.{get_or, Option, Some, None, option_map, refl, ap, ◌∙◌, subst, arith}
use Rattle.std.proofs.Common.{◌≡◌, ℕ, ◌+◌, ◌<◌, ◌≤◌, true≢false, inl, inr, List, [], ◌∷◌, length, map, sym}
use Rattle.std.proofs.lemmas.{List.length-map, Option.slice_get_read, Option.slice_get_within, Option.slice_get-map}
use Rattle.std.{proofs.lemmas.Bool.cases_lt, specs.Prelude.slice_get, specs.Prelude.is_some}

module _ (P : ℕ → Data → Broken → Type 0) where
  -- the rules that the value at a place breaks
  abbrev pub Each : List Data → ℕ → Broken → Type 0
  Each ds j f = (x : Data) × ((slice_get ds j ≡ Some x) × P j x f)

  -- the first of all values is the first of the list
  pub each_all : (vs : List Value) (n : ℕ) (a : Option Broken) → length vs ≤ n
      → IsFirstBroken (Below (Each (map view vs)) n) a → IsFirstBroken (Among P (map view vs)) a
  each_all vs n a le p =
      first_same _ _ a (λ f (j, (h, (x, (e, q)))). (j, (x, (e, q)))) (λ f (j, (x, (e, q))).
      let within = slice_get_within (map view vs) j x e in
      (j, (omega (arith, le, within, length-map vs view), (x, (e, q))))) p

  -- the first of the value at a place
  pub each_one : (ds : List Data) (j : ℕ) (x : Data) (a : Option Broken) → slice_get ds j ≡ Some x
      → IsFirstBroken (P j x) a → IsFirstBroken (Each ds j) a
  each_one ds j x a e p =
      first_same _ _ a (λ f q. (x, (e, q))) (λ f (y, (e', q)). let same : y ≡ x = cc in
      subst (λ (z : Data). P j z f) same q) p

  -- the first of one more value
  pub each_step : (vs : List Value) (j : ℕ) (v : Value) (a b s : Option Broken) → j < length vs → v ≡ get_or vs j v
      → s ≡ earlier_broken a b → IsFirstBroken (Below (Each (map view vs)) j) a → IsFirstBroken (P j (view v)) b
      → IsFirstBroken (Below (Each (map view vs)) (j + 1)) s
  each_step vs j v a b s lt is e p q =
      let found = slice_get_read vs (length vs) j v refl lt is in
      let seen : slice_get (map view vs) j ≡ Some (view v) = slice_get-map view vs j ∙ ap (option_map view) found in
      first_is _ _ s e (first_more (Each (map view vs)) j a b p (each_one (map view vs) j (view v) b seen q))

  -- a swap without streams breaks K2 first
  pub none_first : (ds : List Data) (a : Option Broken) → length ds ≡ 0 → a ≡ Some (outside K2 swap_stream)
      → IsFirstBroken (FaultOfStreams P ds) a
  none_first ds a h e = first_is _ _ a e (first_one _ _ (no_stream h) (only ds h))
    where
      only : (ds : List Data) → length ds ≡ 0 → (g : Broken) → FaultOfStreams P ds g → g ≡ outside K2 swap_stream
      only ds h _ (no_stream e) = refl
      only ds h _ (many_streams e) = absurd (omega arith)
      only ds h _ (in_stream _ lo hi q) = absurd (omega arith)

  -- a swap with too many streams breaks K7 first
  pub many_first : (ds : List Data) (a : Option Broken) → most_streams < length ds → a ≡ Some (outside K7 swap_stream)
      → IsFirstBroken (FaultOfStreams P ds) a
  many_first ds a h e = first_is _ _ a e (first_one _ _ (many_streams h) (only ds h))
    where
      only : (ds : List Data) → most_streams < length ds → (g : Broken) → FaultOfStreams P ds g
          → g ≡ outside K7 swap_stream
      only ds h _ (no_stream e) = absurd (omega arith)
      only ds h _ (many_streams e) = refl
      only ds h _ (in_stream _ lo hi q) = absurd (omega arith)

  -- the first broken rule of one to eight streams
  pub each_first : (ds : List Data) (a : Option Broken) → 0 < length ds → length ds ≤ most_streams
      → IsFirstBroken (Among P ds) a → IsFirstBroken (FaultOfStreams P ds) a
  each_first ds a lo hi p = first_same _ _ a (λ f q. in_stream f lo hi q) (inner ds lo hi) p
    where
      inner : (ds : List Data) → 0 < length ds → length ds ≤ most_streams → (g : Broken) → FaultOfStreams P ds g
          → Among P ds g
      inner ds lo hi _ (no_stream e) = absurd (omega arith)
      inner ds lo hi _ (many_streams e) = absurd (omega arith)
      inner ds lo hi _ (in_stream _ lo' hi' q) = q

  -- the streams are one to eight, and none of them breaks a rule
  pub record AreFree (ds : List Data) : Type 0 where
    pub low : 0 < length ds
    pub high : length ds ≤ most_streams
    pub free : (j : ℕ) (x : Data) (f : Broken) → slice_get ds j ≡ Some x → P j x f → ⊥

  -- where the streams of a swap break no rule, they are
  pub are_free : (ds : List Data) → ((f : Broken) → FaultOfStreams P ds f → ⊥) → AreFree ds
  are_free [] none = absurd (none (outside K2 swap_stream) (no_stream refl))
  are_free (y ∷ ys) none = elim (cases_lt most_streams (length (y ∷ ys))) [
    | inl lt ↦ absurd (none (outside K7 swap_stream) (many_streams lt))
    | inr le ↦
        let some : 0 < length (y ∷ ys) = omega arith in
        record { low = some; high = le; free = λ j x f e q. none f (in_stream f some le (j, (x, (e, q)))) }
  ]

module _ (own inside : Broken → Type 0) where
  -- what is no object breaks what it breaks by itself
  pub object_none : (d : Data) (a : Option Broken) → element_names d ≡ None → IsFirstBroken own a
      → IsFirstBroken (WithMembers own inside d) a
  object_none d a h p =
      first_same _ _ a (λ f q. inl q)
      (λ f q. elim q [ inl own ↦ own | inr (t, _) ↦ absurd (true≢false (sym t ∙ ap is_some h)) ]) p

  -- an object breaks the earlier of what it and its members break
  pub object_some : (d : Data) (ns : List (List ℕ)) (a b s : Option Broken) → element_names d ≡ Some ns
      → s ≡ earlier_broken a b → IsFirstBroken own a → IsFirstBroken inside b
      → IsFirstBroken (WithMembers own inside d) s
  object_some d ns a b s h e p q =
      first_is _ _ s e
      (first_or own _ a b p (first_same _ _ b (λ f x. (ap is_some h, x)) (λ f (t, x). x) q))
