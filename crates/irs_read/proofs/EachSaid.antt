-- Lists of values: what is said of each, and the lists of centres of one stream more.
use Rattle.irs_base.{proofs.MemberLemmas.pairs_push, specs.Lists.Pairs}
use Rattle.irs_elements.specs.Elements.{seen}
use Rattle.irs_read.specs.{Private.Sayings.IsSaid, Readings.lists_in, Readings.lists_of}
use Rattle.serde_json.specs.{Data.Data, View.view, declared.value.Value.Value}
use Rattle.std.proofs.Common.{length, get_or, sym, ap, Option, refl}
use Rattle.std.proofs.Common.{subst, ◌∙◌, arith, ◌≡◌, ℕ, zero, suc, ◌+◌, ◌<◌, ◌≤◌, List, [], ◌∷◌, ◌++◌, map, take}
use Rattle.std.proofs.lemmas.List.{map-append, take_all, take_more, append-nil}
use Rattle.std.{proofs.lemmas.Grind.flat_map-append, specs.Borrow.Bor}

at_place : {A : Type 0} (says : Data → A → Type 0) (vs : List Value) (all : List A) → Pairs says (map view vs) all
    → (i : ℕ) (v : Value) → i < length vs → v ≡ get_or vs i v → IsSaid (says (view v))
at_place says [] all h i v lt is = absurd (omega (arith, lt))
at_place says (w ∷ vs) [] h i v lt is = absurd h
at_place says (w ∷ vs) (a ∷ all) h zero v lt is = subst (λ (x : Value). IsSaid (says (view x))) (sym is) (a, h.0)
at_place says (w ∷ vs) (a ∷ all) h (suc i) v lt is = at_place says vs all h.1 i v (omega (arith, lt)) is

-- something is said of each value of a list of which something is said
pub said_at : {A : Type 0} {xs : List Data} (says : Data → A → Type 0) (vs : List Value) → map view vs ≡ xs
    → IsSaid (Pairs says xs) → (i : ℕ) (v : Value) → i < length vs → v ≡ get_or vs i v → IsSaid (says (view v))
said_at {A = A} says vs e h = at_place says vs h.0 (subst (λ (xs : List Data). Pairs says xs h.0) (sym e) h.1)

-- the list so far has what the first i values say
abbrev pub SoFar : {A : Type 0} → (Data → A → Type 0) → List Value → ℕ → List A → Type 0
SoFar says vs i all = Pairs says (map view (take i vs)) all

-- one value more
pub says_more : {A : Type 0} (says : Data → A → Type 0) (vs : List Value) (i : ℕ) (v : Value) (old new : List A) (a : A)
    → i < length vs → v ≡ get_or vs i v → SoFar says vs i old → says (view v) a → new ≡ old ++ a ∷ []
    → SoFar says vs (i + 1) new
says_more {A = A} says vs i v old new a lt is h p e =
    let more : map view (take (i + 1) vs) ≡ map view (take i vs) ++ view v ∷ [] =
    ap (map view) (take_more vs i v lt ∙ ap (λ (x : Value). take i vs ++ x ∷ []) (sym is))
    ∙ map-append view (take i vs) (v ∷ []) in
    subst (λ (all : List A). Pairs says (map view (take (i + 1) vs)) all) (sym e)
    (subst (λ (xs : List Data). Pairs says xs (old ++ a ∷ [])) (sym more)
    (pairs_push says (map view (take i vs)) old (view v) a h p))

-- all values
pub says_all : {A : Type 0} {xs : List Data} (says : Data → A → Type 0) (vs : List Value) (i : ℕ) (all : List A)
    → map view vs ≡ xs → length vs ≤ i → SoFar says vs i all → Pairs says xs all
says_all says vs i all e le h = subst (λ (xs : List Data). Pairs says xs all) (ap (map view) (take_all i vs le) ∙ e) h

-- ---- lists of centres

-- the lists of the first i + 1 streams are those of the first i, then those of the next stream
pub lists_more : (vs : List Value) (i : ℕ) (v : Value) → i < length vs → v ≡ get_or vs i v
    → lists_of (map view (take (i + 1) vs)) ≡ lists_of (map view (take i vs)) ++ lists_in (view v)
lists_more vs i v lt is =
    let one : take (i + 1) vs ≡ take i vs ++ v ∷ [] =
    take_more vs i v lt ∙ ap (λ (x : Value). take i vs ++ x ∷ []) (sym is) in
    ap (λ (l : List Value). lists_of (map view l)) one ∙ ap lists_of (map-append view (take i vs) (v ∷ []))
    ∙ flat_map-append lists_in (map view (take i vs)) (view v ∷ [])
    ∙ ap (λ (l : List (Option Data)). lists_of (map view (take i vs)) ++ l) (append-nil (lists_in (view v)))

-- a list with more members, as it is seen
pub added : (new old more : List (Option (Bor Value))) (before all : List (Option Data)) → new ≡ old ++ more
    → map seen old ≡ before → map seen more ≡ all → map seen new ≡ before ++ all
added new old more before all e p q = ap (map seen) e ∙ map-append seen old more ∙ rw (p, q) refl
