-- The sides of streams as they are found are those of the relations.
use Rattle.std.proofs.Common.{◌≡◌, ◌⊎◌, inl, inr, ℕ, zero, suc, ◌+◌, ◌<◌, ◌≤◌, Bool, true, false, ◌&&◌, ◌≢◌, List, []}
use Rattle.std.proofs.Common.{◌∷◌, length, map, get_or, set, get_or-set_other, get_or-set_same, length-set, Option}
use Rattle.std.proofs.Common.{Some, None, Result, Ok, Err, refl, sym, ap, ap₂, subst, ◌∙◌, arith}
use Rattle.std.specs.Prelude.{IfErr, codes, is_some, option_and_then, slice_get, slice_index_or, if◌then◌else◌}
use Rattle.std.specs.Str.{bytes_eq}
use Rattle.std.proofs.lemmas.Bool.{cases_order}
use Rattle.std.proofs.lemmas.Option.{slice_get_within}
use Rattle.std.proofs.lemmas.Slice.Eq.{bytes_eq-Decides}
use Rattle.serde_json.specs.Data.{Data, null, boolean, number, string, array, object}
use Rattle.serde_json.specs.Find.{as_str}
use Rattle.serde_json.specs.View.{view}
use Rattle.serde_json.specs.declared.value.Value.{Value}
use Rattle.irs_terms.proofs.FaultOrder.{broken_ties}
use Rattle.irs_base.proofs.Firsts.{level_later, level_same, one_first}
use Rattle.irs_base.proofs.MemberLemmas.{some_is}
use Rattle.irs_base.specs.Limits.{most_streams}
use Rattle.irs_base.specs.Outcomes.{First}
use Rattle.irs_terms.specs.Faults.{is_before}
use Rattle.irs_terms.specs.declared.places.Broken.{Broken}
use Rattle.irs_terms.specs.declared.places.Rule.TheVariants.{K3}
use Rattle.irs_elements.specs.Elements.{own, own_rule, values_in}
use Rattle.irs_elements.specs.declared.table.Choice.TheVariants.{Free}
use Rattle.irs_elements.specs.declared.table.Kind.TheVariants.{Object}
use Rattle.irs_json.specs.Leaves.{child_of, element_names}
use Rattle.irs_read.specs.Documents.{DocumentFault, Way, the_swap, below, no_stream, many_streams}
use Rattle.irs_read.specs.Readings.{streams_in}
use Rattle.irs_net.specs.Private.FoundParties.{href_in, pair_of, parties_in, party_in, side_by, side_in, SidesTo}
use Rattle.irs_net.specs.Parties.{AreSides, BreaksK8, BreaksK8Of, IsBackward, IsForward, IsPaidBy, IsSide, RefersTo}
use Rattle.irs_net.specs.Parties.{SidesOf, broken_at}
use Rattle.irs_net.specs.declared.sides.Sides.{Sides}

-- ---- references

string_at : (o : Option Data) (p : List ℕ) → option_and_then as_str o ≡ Some p → o ≡ Some (string p)
string_at None p e = absurd (cc)
string_at (Some null) p e = absurd (cc)
string_at (Some (boolean b)) p e = absurd (cc)
string_at (Some (number n)) p e = absurd (cc)
string_at (Some (string s)) p e = ap (λ (t : List ℕ). Some (string t)) (some_is s p e)
string_at (Some (array ds)) p e = absurd (cc)
string_at (Some (object ms)) p e = absurd (cc)

refers_by : (name : List ℕ) (d : Data) (vs : List Data) (p : List ℕ) → values_in name (Some d) ≡ vs
    → href_in vs ≡ Some p → RefersTo name d p
refers_by name d [] p e h = absurd (cc)
refers_by name d (x ∷ []) p e h = record { reference = x; one = e; href = string_at (child_of (codes "@href") x) p h }
refers_by name d (x ∷ y ∷ rest) p e h = absurd (cc)

refers : (name : List ℕ) (d : Data) (p : List ℕ) → party_in name d ≡ Some p → RefersTo name d p
refers name d p h = refers_by name d (values_in name (Some d)) p refl h

party_is : (name : List ℕ) (d : Data) (p : List ℕ) → RefersTo name d p → party_in name d ≡ Some p
party_is name d p r = ap href_in r.one ∙ ap (option_and_then as_str) r.href

-- ---- two parties

-- the payer and the receiver of a stream
abbrev Pair : Type 0
Pair = List ℕ × List ℕ

same_text : (a b : List ℕ) → bytes_eq a b ≡ true → a ≡ b
same_text a b e = (bytes_eq-Decides a b).0 e

text_itself : (a : List ℕ) → bytes_eq a a ≡ true
text_itself a = (bytes_eq-Decides a a).1 refl

paid_if : (d : Data) (p r : List ℕ) (t : Bool) (pair : Pair) → bytes_eq p r ≡ t
    → party_in (codes "payerPartyReference") d ≡ Some p → party_in (codes "receiverPartyReference") d ≡ Some r
    → (if t then None else Some (p, r)) ≡ Some pair → IsPaidBy d pair.0 pair.1
paid_if d p r true pair t e f h = absurd (cc)
paid_if d p r false pair t e f h =
    let is : IsPaidBy d p r = record {
      by = refers (codes "payerPartyReference") d p e;
      to = refers (codes "receiverPartyReference") d r f;
      apart = λ same. let s : bytes_eq p r ≡ true = (bytes_eq-Decides p r).1 same in absurd (cc);
    } in
    subst (λ (q : Pair). IsPaidBy d q.0 q.1) (some_is (p, r) pair h) is

paid_by : (d : Data) (a b : Option (List ℕ)) (pair : Pair) → party_in (codes "payerPartyReference") d ≡ a
    → party_in (codes "receiverPartyReference") d ≡ b → pair_of a b ≡ Some pair → IsPaidBy d pair.0 pair.1
paid_by d None b pair e f h = absurd (cc)
paid_by d (Some p) None pair e f h = absurd (cc)
paid_by d (Some p) (Some r) pair e f h = paid_if d p r (bytes_eq p r) pair refl e f h

paid : (d : Data) (pair : Pair) → parties_in d ≡ Some pair → IsPaidBy d pair.0 pair.1
paid d pair h =
    paid_by d (party_in (codes "payerPartyReference") d) (party_in (codes "receiverPartyReference") d) pair refl refl h

-- the two parties where both are found
abbrev some_pair : List ℕ → List ℕ → Option Pair
some_pair p r = Some (p, r)

pair_if : (p r : List ℕ) (t : Bool) → bytes_eq p r ≡ t → (p ≡ r → ⊥)
    → (if t then None else some_pair p r) ≡ some_pair p r
pair_if p r true e apart = absurd (apart (same_text p r e))
pair_if p r false e apart = refl

parties_are : (d : Data) (p r : List ℕ) → IsPaidBy d p r → parties_in d ≡ some_pair p r
parties_are d p r h =
    ap₂ pair_of (party_is (codes "payerPartyReference") d p h.by) (party_is (codes "receiverPartyReference") d r h.to)
    ∙ pair_if p r (bytes_eq p r) refl h.apart

-- ---- sides

both_of : (x y : Bool) → (x && y) ≡ true → (x ≡ true) × (y ≡ true)
both_of true true e = (refl, refl)
both_of true false e = absurd (cc)
both_of false y e = absurd (cc)

-- the two streams have the same payer and the same receiver
abbrev same_order : Pair → Pair → Bool
same_order a b = bytes_eq b.0 a.0 && bytes_eq b.1 a.1

-- the payer of each stream is the receiver of the other
abbrev other_order : Pair → Pair → Bool
other_order a b = bytes_eq b.0 a.1 && bytes_eq b.1 a.0

side_if : (f s : Data) (a b : Pair) (t u : Bool) (r : Bool) → same_order a b ≡ t → other_order a b ≡ u
    → IsPaidBy f a.0 a.1 → IsPaidBy s b.0 b.1
    → (if t then Some true else (if u then Some false else None)) ≡ Some r → IsSide f s r
side_if f s a b true u r e o first second h =
    let same = both_of (bytes_eq b.0 a.0) (bytes_eq b.1 a.1) e in
    let moved : IsPaidBy s a.0 a.1 =
    subst (λ (x : List ℕ). IsPaidBy s x a.1) (same_text b.0 a.0 same.0)
    (subst (λ (x : List ℕ). IsPaidBy s b.0 x) (same_text b.1 a.1 same.1) second) in
    let forward : IsForward f s = record { payer = a.0; receiver = a.1; first_paid = first; paid = moved } in
    subst (IsSide f s) (some_is true r h) forward
side_if f s a b false true r e o first second h =
    let same = both_of (bytes_eq b.0 a.1) (bytes_eq b.1 a.0) o in
    let moved : IsPaidBy s a.1 a.0 =
    subst (λ (x : List ℕ). IsPaidBy s x a.0) (same_text b.0 a.1 same.0)
    (subst (λ (x : List ℕ). IsPaidBy s b.0 x) (same_text b.1 a.0 same.1) second) in
    let backward : IsBackward f s = record { payer = a.0; receiver = a.1; first_paid = first; paid = moved } in
    subst (IsSide f s) (some_is false r h) backward
side_if f s a b false false r e o first second h = absurd (cc)

side_for : (f s : Data) (a b : Option Pair) (r : Bool) → parties_in f ≡ a → parties_in s ≡ b → side_by a b ≡ Some r
    → IsSide f s r
side_for f s None b r e k h = absurd (cc)
side_for f s (Some a) None r e k h = absurd (cc)
side_for f s (Some a) (Some b) r e k h =
    side_if f s a b (same_order a b) (other_order a b) r refl refl (paid f a e) (paid s b k) h

-- a side that is found is the stream's
pub side_is : (f s : Data) (r : Bool) → side_in f s ≡ Some r → IsSide f s r
side_is f s r h = side_for f s (parties_in f) (parties_in s) r refl refl h

same_found : (t u : Bool) → t ≡ true → (if t then Some true else (if u then Some false else None)) ≡ None → ⊥
same_found true u e h = absurd (cc)
same_found false u e h = absurd (cc)

other_found : (t u : Bool) → u ≡ true → (if t then Some true else (if u then Some false else None)) ≡ None → ⊥
other_found true u e h = absurd (cc)
other_found false true e h = absurd (cc)
other_found false false e h = absurd (cc)

both_true : (a b : List ℕ) → (bytes_eq a a && bytes_eq b b) ≡ true
both_true a b = let x = text_itself a in let y = text_itself b in rw (x, y) refl

-- where none is found the stream isn't forward
pub not_forward : (f s : Data) → side_in f s ≡ None → IsForward f s → ⊥
not_forward f s h w =
    let a : Pair = (w.payer, w.receiver) in
    let e : side_by (Some a) (Some a) ≡ None =
    sym (ap₂ side_by (parties_are f w.payer w.receiver w.first_paid)
    (parties_are s w.payer w.receiver w.paid)) ∙ h in
    same_found (same_order a a) (other_order a a) (both_true w.payer w.receiver) e

-- a stream that has no side isn't backward
pub not_backward : (f s : Data) → side_in f s ≡ None → IsBackward f s → ⊥
not_backward f s h w =
    let a : Pair = (w.payer, w.receiver) in
    let b : Pair = (w.receiver, w.payer) in
    let e : side_by (Some a) (Some b) ≡ None =
    sym (ap₂ side_by (parties_are f w.payer w.receiver w.first_paid)
    (parties_are s w.receiver w.payer w.paid)) ∙ h in
    other_found (same_order a b) (other_order a b) (both_true w.receiver w.payer) e

-- ---- all streams

-- sides for each stream are those of the swap
pub are_sides : (streams : List Data) (sides : Sides) → sides.count ≡ length streams
    → SidesTo streams (length streams) sides.forward → AreSides streams sides
are_sides streams sides count to = record {
  eight = to.count;
  count = count;
  each = λ first begins i stream there. side_is first stream (slice_index_or sides.forward i false)
      (to.each first stream i (slice_get_within streams i stream there) begins there);
  past = to.past;
}

-- a stream of the code is one of the document
pub seen_at : (vs : List Value) (i : ℕ) (v : Value) → i < length vs → v ≡ get_or vs i v
    → slice_get (map view vs) i ≡ Some (view v)
seen_at [] i v low e = absurd (omega (arith, low))
seen_at (w ∷ ws) zero v low e = ap (λ (x : Value). Some (view x)) (sym e)
seen_at (w ∷ ws) (suc i) v low e = seen_at ws i v (omega (arith, low)) e

side_at : (streams : List Data) (i : ℕ) (forward : List Bool) (f s : Data) (v : Bool) → slice_get streams 0 ≡ Some f
    → slice_get streams i ≡ Some s → i < 8 → side_in f s ≡ Some v → SidesTo streams i forward
    → (first stream : Data) (j : ℕ) → j < i + 1 → slice_get streams 0 ≡ Some first → slice_get streams j ≡ Some stream
    → side_in first stream ≡ Some (slice_index_or (set forward i v) j false)
side_at streams i forward f s v begins there low found to first stream j within b t = elim (cases_order j i) [
  | inl same ↦
      let eight = to.count in
      let lt : i < length forward = omega (arith, eight, low) in
      let e : first ≡ f = some_is first f (sym b ∙ begins) in
      let k : stream ≡ s = some_is stream s (sym t ∙ ap (slice_get streams) same ∙ there) in
      let is : get_or (set forward i v) i false ≡ v = rw get_or-set_same refl in
      rw same (ap₂ side_in e k ∙ found ∙ ap (λ (x : Bool). Some x) (sym is))
  | inr (inl less) ↦
      let ne : j ≢ i = λ e. omega (arith, e, less) in
      rw get_or-set_other (to.each first stream j less b t)
  | inr (inr more) ↦ absurd (omega (arith, more, within))
]

-- one stream more adds its side
pub sides_more : (streams : List Data) (i : ℕ) (forward : List Bool) (f s : Data) (v : Bool)
    → slice_get streams 0 ≡ Some f → slice_get streams i ≡ Some s → i < 8 → side_in f s ≡ Some v
    → SidesTo streams i forward → SidesTo streams (i + 1) (set forward i v)
sides_more streams i forward f s v begins there low found to = record {
  count = length-set forward i v ∙ to.count;
  each = side_at streams i forward f s v begins there low found to;
  past = λ j behind. let ne : j ≢ i = λ e. omega (arith, e, behind) in
      rw get_or-set_other (to.past j (omega (arith, behind)));
}

-- after the last stream the sides are those of the swap
pub sides_done : (streams : List Data) (i n : ℕ) (forward : List Bool) → i ≡ n → n ≡ length streams
    → SidesTo streams i forward → AreSides streams (record { forward = forward; count = n })
sides_done streams i n forward e k to =
    are_sides streams (record { forward = forward; count = n }) k
    (subst (λ (m : ℕ). SidesTo streams m forward) (e ∙ k) to)

-- ---- the first that breaks K8

not_side : (f s : Data) (r : Bool) → IsSide f s r → (IsForward f s → ⊥) → (IsBackward f s → ⊥) → ⊥
not_side f s true h a b = a h
not_side f s false h a b = b h

not_before : (i j : ℕ) → i ≤ j → is_before (broken_at (j + 1)) (broken_at (i + 1)) ≡ false
not_before i j h = elim (cases_order j i) [
  | inl same ↦ level_same (j + 1) (i + 1) false (omega (arith, same)) refl
  | inr (inl less) ↦ absurd (omega (arith, less, h))
  | inr (inr more) ↦ level_later (j + 1) (i + 1) false (omega (arith, more))
]

le_or_lt : (i j : ℕ) → (j < i) ⊎ (i ≤ j)
le_or_lt i j = elim (cases_order j i) [
  | inl same ↦ inr (omega (arith, same))
  | inr (inl less) ↦ inl less
  | inr (inr more) ↦ inr (omega (arith, more))
]

-- the first stream without a side is the first to break K8
pub first_k8 : (streams : List Data) (i : ℕ) (forward : List Bool) (first stream : Data)
    → slice_get streams 0 ≡ Some first → slice_get streams i ≡ Some stream → side_in first stream ≡ None
    → SidesTo streams i forward
    → First is_before (BreaksK8 streams) (broken_at (i + 1))
first_k8 streams i forward first stream begins there none to = (
  record {
    first = first;
    begins = begins;
    place = i;
    stream = stream;
    there = there;
    not_forward =
        not_forward first stream none;
    not_backward = not_backward first stream none;
    is = refl;
  },
  λ y b. elim (le_or_lt i b.place) [
    | inl before ↦
        absurd (not_side b.first b.stream (slice_index_or forward b.place false)
        (side_is b.first b.stream (slice_index_or forward b.place false)
        (to.each b.first b.stream b.place before b.begins b.there)) b.not_forward b.not_backward)
    | inr behind ↦
        subst (λ (x : Broken). is_before x (broken_at (i + 1)) ≡ false) (sym b.is) (not_before i b.place behind)
  ],
)

-- ---- the streams of a document that breaks no rule

few_if : (d s : Data) (b : Bool) → is_some (element_names s) ≡ b → ((f : Broken) → DocumentFault d f → ⊥) → the_swap d ≡ Ok s
    → (0 < length (streams_in s)) × (length (streams_in s) ≤ most_streams)
few_if d s true e clean found =
    let none : length (streams_in s) ≡ 0 → ⊥ = λ h. clean _ (below s _ found (inr (e, no_stream h))) in
    let many : most_streams < length (streams_in s) → ⊥ = λ h. clean _ (below s _ found (inr (e, many_streams h))) in
    (omega (arith, none), omega (arith, many))
few_if d s false e clean found =
    let kind : own_rule (Object Free) s ≡ Some K3 = rw e refl in
    absurd (clean _ (below s _ found (inl (own 0 0 K3 (Object Free) s kind))))

-- a document without faults has at least one stream and at most the most
pub streams_few : (d s : Data) → ((f : Broken) → DocumentFault d f → ⊥) → the_swap d ≡ Ok s
    → (0 < length (streams_in s)) × (length (streams_in s) ≤ most_streams)
streams_few d s clean found = few_if d s (is_some (element_names s)) refl clean found

-- ---- of a document

-- the way to an element that was found
abbrev led_to : Data → Way
led_to a = Ok a

ok_is : (a b : Data) → led_to a ≡ led_to b → a ≡ b
ok_is a b e = cc

-- the first K8 of the streams is that of the document
pub first_of : (d s : Data) (vs : List Data) (x : Broken) → the_swap d ≡ Ok s → vs ≡ streams_in s
    → First is_before (BreaksK8 vs) x → First is_before (BreaksK8Of d) x
first_of d s vs x found are h = (
  record { swap = s; found = found; breaks = subst (λ (ds : List Data). BreaksK8 ds x) are h.0 },
  λ y b.
      let same : b.swap ≡ s = ok_is b.swap s (sym b.found ∙ found) in
      h.1 y (subst (λ (ds : List Data). BreaksK8 ds y) (ap streams_in same ∙ sym are) b.breaks),
)

-- what follows from an error holds of each error
pub if_err : {A E : Type 0} (r : Result A E) (P Q : E → Type 0) → ((e : E) → P e → Q e) → IfErr r P → IfErr r Q
if_err (Ok x) P Q to h = tt
if_err (Err e) P Q to h = to e h

-- ---- only one

one_pair : (d : Data) (a b : Pair) → parties_in d ≡ Some a → parties_in d ≡ Some b → a ≡ b
one_pair d a b e h = some_is a b (sym e ∙ h)

not_both : (f s : Data) → IsForward f s → IsBackward f s → ⊥
not_both f s a b =
    let first = one_pair f (a.payer, a.receiver) (
      b.payer,
      b.receiver,
    ) (parties_are f a.payer a.receiver a.first_paid) (parties_are f b.payer b.receiver b.first_paid) in
    let second =
    one_pair s (a.payer, a.receiver) (
      b.receiver,
      b.payer,
    ) (parties_are s a.payer a.receiver a.paid) (parties_are s b.receiver b.payer b.paid) in
    let payer : a.payer ≡ b.receiver = ap (λ (p : Pair). p.0) second in
    let receiver : a.receiver ≡ b.receiver = ap (λ (p : Pair). p.1) first in
    a.paid.apart (payer ∙ sym receiver)

one_side : (f s : Data) (a b : Bool) → IsSide f s a → IsSide f s b → a ≡ b
one_side f s true true h k = refl
one_side f s true false h k = absurd (not_both f s h k)
one_side f s false true h k = absurd (not_both f s k h)
one_side f s false false h k = refl

same_flags : (xs ys : List Bool) → length xs ≡ length ys → ((i : ℕ) → get_or xs i false ≡ get_or ys i false) → xs ≡ ys
same_flags [] [] e h = refl
same_flags [] (y ∷ ys) e h = absurd (omega (arith, e))
same_flags (x ∷ xs) [] e h = absurd (omega (arith, e))
same_flags (x ∷ xs) (y ∷ ys) e h = ap₂ ◌∷◌ (h zero) (same_flags xs ys (omega (arith, e)) (λ i. h (suc i)))

there_is : (xs : List Data) (i : ℕ) → i < length xs → (x : Data) × (slice_get xs i ≡ Some x)
there_is [] i low = absurd (omega (arith, low))
there_is (x ∷ xs) zero low = (x, refl)
there_is (x ∷ xs) (suc i) low = there_is xs i (omega (arith, low))

same_within : (streams : List Data) (a b : Sides) (i : ℕ) → AreSides streams a → AreSides streams b → i < length streams
    → get_or a.forward i false ≡ get_or b.forward i false
same_within streams a b i h k low =
    let first = there_is streams 0 (omega (arith, low)) in
    let own = there_is streams i low in
    one_side first.0 own.0 (get_or a.forward i false) (get_or b.forward i false) (h.each first.0 first.1 i own.0 own.1)
    (k.each first.0 first.1 i own.0 own.1)

same_at : (streams : List Data) (a b : Sides) (i : ℕ) → AreSides streams a → AreSides streams b
    → get_or a.forward i false ≡ get_or b.forward i false
same_at streams a b i h k = elim (le_or_lt (length streams) i) [
  | inl low ↦ same_within streams a b i h k low
  | inr behind ↦ h.past i behind ∙ sym (k.past i behind)
]

-- sides made of their parts
abbrev make_sides : List Bool → ℕ → Sides
make_sides forward count = record { forward = forward; count = count }

-- the streams have one list of sides
pub one_sides : (streams : List Data) (a b : Sides) → AreSides streams a → AreSides streams b → a ≡ b
one_sides streams a b h k =
    ap₂ make_sides (same_flags a.forward b.forward (h.eight ∙ sym k.eight) (λ i. same_at streams a b i h k)) (h.count
    ∙ sym k.count)

-- a document has one list of sides
pub one_sides_of : (d : Data) (a b : Sides) → SidesOf d a → SidesOf d b → a ≡ b
one_sides_of d a b h k =
    let same : h.swap ≡ k.swap = ok_is h.swap k.swap (sym h.found ∙ k.found) in
    one_sides (streams_in k.swap) a b (subst (λ (s : Data). AreSides (streams_in s) a) same h.are) k.are

-- a document has one first K8
pub one_k8 : (d : Data) (x y : Broken) → First is_before (BreaksK8Of d) x → First is_before (BreaksK8Of d) y → x ≡ y
one_k8 d x y h k = one_first is_before broken_ties (BreaksK8Of d) x y h k
