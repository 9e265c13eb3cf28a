-- A way has few steps, and their names are texts.
use Rattle.std.proofs.Common.{◌≡◌, ℕ, zero, suc, ◌≤◌, ◌<◌, Bool, true, false, ◌&&◌, List, [], ◌∷◌, ◌++◌, length, map}
use Rattle.std.proofs.Common.{Option, Some, refl, subst, arith, nat_le, slice_get}
use Rattle.std.specs.List.{list_all}
use Rattle.std.specs.Prelude.{◌==◌, codes, if◌then◌else◌, nat_lt, slice_index}
use Rattle.std.specs.Str.{IsUtf8, bytes_eq}
use Rattle.std.proofs.lemmas.Bool.Decides.{nat_tests}
use Rattle.std.proofs.lemmas.List.{length-append, length-map}
use Rattle.std.proofs.lemmas.Option.{same_Some}
use Rattle.std.proofs.lemmas.Str.{IsUtf8-from_ascii}
use Rattle.irs_base.proofs.Orders.{both_true}
use Rattle.irs_terms.specs.Elements.{document, name_or_empty, swap, swap_stream}
use Rattle.irs_terms.specs.Paths.{paths, printed_paths, path_of}
use Rattle.irs_terms.specs.declared.places.Place.{Place}
use Rattle.irs_locate.specs.Ways.{root_in, WayStep, below_swap, names_on_way, once, step_below, stream_step, to_swap}
use Rattle.irs_locate.specs.Ways.{way}
use Rattle.irs_read.specs.Documents.{has}
use Rattle.serde_json.specs.Data.{Data}

-- ---- paths

-- whether each byte of a name is one of ASCII
abbrev is_plain : List ℕ → Bool
is_plain name = list_all (λ c. nat_lt c 128) name

-- whether a path has few names, and plain ones
abbrev is_lawful : List ℕ → Bool
is_lawful p = nat_le (length (names_on_way p)) 11 && list_all is_plain (names_on_way p)

-- so has each path of the table
all_lawful : list_all is_lawful printed_paths ≡ true
unfolding printed_paths paths
all_lawful = refl

-- and what is found in it
lawful_in : (ps : List (List ℕ)) (i : ℕ) (o : Option (List ℕ)) → list_all is_lawful ps ≡ true → slice_get ps i ≡ o
    → is_lawful (name_or_empty o) ≡ true
lawful_in [] i o h e = subst (λ (z : Option (List ℕ)). is_lawful (name_or_empty z) ≡ true) e refl
lawful_in (q ∷ qs) zero o h e =
    subst (λ (z : Option (List ℕ)). is_lawful (name_or_empty z) ≡ true) e
    (both_true (is_lawful q) (list_all is_lawful qs) h).0
lawful_in (q ∷ qs) (suc i) o h e = lawful_in qs i o (both_true (is_lawful q) (list_all is_lawful qs) h).1 e

-- the path of an element has few names, and plain ones
lawful : (elem : ℕ) → is_lawful (path_of elem) ≡ true
unfolding path_of
lawful elem = lawful_in printed_paths elem (slice_get printed_paths elem) all_lawful refl

-- the path of an element has few names
few_names : (elem : ℕ) → length (names_on_way (path_of elem)) ≤ 11
few_names elem =
    let few = (both_true (nat_le (length (names_on_way (path_of elem))) 11)
    (list_all is_plain (names_on_way (path_of elem))) (lawful elem)).0 in
    grind (arith, nat_tests, few)

-- and plain ones
plain_names : (elem : ℕ) → list_all is_plain (names_on_way (path_of elem)) ≡ true
plain_names elem =
    (both_true (nat_le (length (names_on_way (path_of elem))) 11)
    (list_all is_plain (names_on_way (path_of elem))) (lawful elem)).1

-- ---- few steps

few_below : (place : Place) (is_swap is_stream : Bool)
    → length (if is_swap then [] else (if is_stream then stream_step place.stream ∷ [] else stream_step place.stream
    ∷ map (step_below place.index) (names_on_way (path_of place.elem)))) ≤ 12
few_below place true is_stream = omega arith
few_below place false true = omega arith
few_below place false false =
    let few = few_names place.elem in
    let same = length-map (names_on_way (path_of place.elem)) (step_below place.index) in
    omega (arith, few, same)

-- the way from the swap down
few_from_swap : (place : Place) → length (below_swap place) ≤ 12
unfolding below_swap
few_from_swap place = few_below place (place.elem == swap) (place.elem == swap_stream)

few_above : (root : List ℕ) (is_swap is_trade : Bool)
    → length (if is_swap then once root ∷ [] else (if is_trade then once root ∷ once (codes "swap") ∷ [] else once root
    ∷ once (codes "trade") ∷ once (codes "swap") ∷ [])) ≤ 3
few_above root true is_trade = omega arith
few_above root false true = omega arith
few_above root false false = omega arith

-- the way to the swap
few_to_swap : (root : List ℕ) → length (to_swap root) ≤ 3
unfolding to_swap
few_to_swap root = few_above root (bytes_eq root (codes "swap")) (bytes_eq root (codes "trade"))

few_by : (root : List ℕ) (place : Place) (is_document : Bool)
    → length (if is_document then once root ∷ [] else to_swap root ++ below_swap place) ≤ 15
few_by root place true = omega arith
few_by root place false =
    let both = length-append (to_swap root) (below_swap place) in
    let above = few_to_swap root in
    let below = few_from_swap place in
    omega (arith, both, above, below)

-- a way has few steps
pub few_steps : (root : List ℕ) (place : Place) → length (way root place) ≤ 15
unfolding way
few_steps root place = few_by root place (place.elem == document)

-- ---- the names of steps

-- whether the name of a step is plain
abbrev is_plain_step : WayStep → Bool
is_plain_step s = is_plain s.name

and_true : (a b : Bool) → a ≡ true → b ≡ true → (a && b) ≡ true
and_true true b h k = k
and_true false b h k = absurd cc

plain_both : (xs ys : List WayStep) → list_all is_plain_step xs ≡ true → list_all is_plain_step ys ≡ true
    → list_all is_plain_step (xs ++ ys) ≡ true
plain_both [] ys h k = k
plain_both (x ∷ xs) ys h k =
    let split = both_true (is_plain_step x) (list_all is_plain_step xs) h in
    and_true (is_plain_step x) (list_all is_plain_step (xs ++ ys)) split.0 (plain_both xs ys split.1 k)

plain_steps : (index : ℕ) (names : List (List ℕ)) → list_all is_plain names ≡ true
    → list_all is_plain_step (map (step_below index) names) ≡ true
plain_steps index [] h = refl
plain_steps index (n ∷ ns) h =
    let split = both_true (is_plain n) (list_all is_plain ns) h in
    and_true (is_plain n) (list_all is_plain_step (map (step_below index) ns)) split.0 (plain_steps index ns split.1)

plain_below : (place : Place) (is_swap is_stream : Bool)
    → list_all is_plain_step (if is_swap then [] else (if is_stream then stream_step place.stream ∷ [] else
    stream_step place.stream ∷ map (step_below place.index) (names_on_way (path_of place.elem)))) ≡ true
plain_below place true is_stream = refl
plain_below place false true = refl
plain_below place false false = plain_steps place.index (names_on_way (path_of place.elem)) (plain_names place.elem)

plain_from_swap : (place : Place) → list_all is_plain_step (below_swap place) ≡ true
unfolding below_swap
plain_from_swap place = plain_below place (place.elem == swap) (place.elem == swap_stream)

plain_above : (root : List ℕ) (is_swap is_trade : Bool) → is_plain root ≡ true
    → list_all is_plain_step (if is_swap then once root ∷ [] else (if is_trade then once root
    ∷ once (codes "swap") ∷ [] else once root ∷ once (codes "trade") ∷ once (codes "swap") ∷ [])) ≡ true
plain_above root true is_trade h = and_true (is_plain root) true h refl
plain_above root false true h = and_true (is_plain root) true h refl
plain_above root false false h = and_true (is_plain root) true h refl

plain_to_swap : (root : List ℕ) → is_plain root ≡ true → list_all is_plain_step (to_swap root) ≡ true
unfolding to_swap
plain_to_swap root h = plain_above root (bytes_eq root (codes "swap")) (bytes_eq root (codes "trade")) h

plain_by : (root : List ℕ) (place : Place) (is_document : Bool) → is_plain root ≡ true
    → list_all is_plain_step (if is_document then once root ∷ [] else to_swap root ++ below_swap place) ≡ true
plain_by root place true h = and_true (is_plain root) true h refl
plain_by root place false h =
    plain_both (to_swap root) (below_swap place) (plain_to_swap root h) (plain_from_swap place)

plain_way : (root : List ℕ) (place : Place) → is_plain root ≡ true → list_all is_plain_step (way root place) ≡ true
unfolding way
plain_way root place h = plain_by root place (place.elem == document) h

plain_at : (xs : List WayStep) (k : ℕ) (s : WayStep) → list_all is_plain_step xs ≡ true → slice_get xs k ≡ Some s
    → is_plain s.name ≡ true
plain_at [] k s h e = absurd cc
plain_at (x ∷ xs) zero s h e =
    subst (λ (z : WayStep). is_plain z.name ≡ true) (same_Some x s e)
    (both_true (is_plain_step x) (list_all is_plain_step xs) h).0
plain_at (x ∷ xs) (suc k) s h e =
    plain_at xs k s (both_true (is_plain_step x) (list_all is_plain_step xs) h).1 e

ascii : (name : List ℕ) → is_plain name ≡ true → (i : ℕ) → slice_index name i < 128
ascii [] h i = grind arith
ascii (c ∷ cs) h zero =
    let low = (both_true (nat_lt c 128) (is_plain cs) h).0 in
    grind (arith, nat_tests, low)
ascii (c ∷ cs) h (suc i) = ascii cs (both_true (nat_lt c 128) (is_plain cs) h).1 i

-- the name of each step is a text, if the root's is plain
text_at : (root : List ℕ) (place : Place) (k : ℕ) (s : WayStep) → is_plain root ≡ true
    → slice_get (way root place) k ≡ Some s → IsUtf8 s.name
text_at root place k s h e =
    IsUtf8-from_ascii s.name (ascii s.name (plain_at (way root place) k s (plain_way root place h) e))

-- each of the three names of a root is plain
plain_root : (has_swap has_trade : Bool)
    → is_plain (if has_swap then codes "swap" else (if has_trade then codes "trade" else codes "dataDocument")) ≡ true
plain_root true has_trade = refl
plain_root false true = refl
plain_root false false = refl

-- the same for the root of a document
pub text_in : (d : Data) (place : Place) (k : ℕ) (s : WayStep) → slice_get (way (root_in d) place) k ≡ Some s
    → IsUtf8 s.name
text_in d place k s e = text_at (root_in d) place k s (plain_root (has (codes "swap") d) (has (codes "trade") d)) e
