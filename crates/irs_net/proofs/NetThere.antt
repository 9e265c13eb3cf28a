-- There is a net of any parts: their dates and currencies in order, each with its sums.
use Rattle.std.proofs.Common.{◌≡◌, ◌⊎◌, inl, inr, List, [], ◌∷◌, map, Contains, refl, sym, ap, subst, ◌∙◌}
use Rattle.std.specs.List.{AllByRecursion}
use Rattle.std.specs.List.Sorted.{IsStrictlySortedBy}
use Rattle.std.specs.Ordering.{ordering_reverse}
use Rattle.std.specs.declared.cmp.Ordering.{Ordering}
use Rattle.std.specs.declared.cmp.Ordering.TheVariants.{Less, Equal, Greater}
use Rattle.std.proofs.lemmas.Map.Keys.{sorted_head, sorted_tail}
use Rattle.irs_base.specs.Lists.{Every}
use Rattle.irs_net.specs.Nets.{IsNet, IsSumOf, key_order, part_key, row_key}
use Rattle.irs_net.specs.declared.parts.NetPart.{NetPart}
use Rattle.irs_net.specs.declared.table.NetRow.{NetRow}
use Rattle.irs_net.specs.declared.totals.NetKey.{NetKey}
use Rattle.irs_net.proofs.KeyLemmas.{cons_cases, head_in, keys_total, none_in, read_all, tail_in, tied_keys}
use Rattle.irs_net.proofs.NetLemmas.{row_at}

-- what holds of each member, holds all along the list
all_of : (P : NetKey → Type 0) (ks : List NetKey) → ((q : NetKey) → Contains ks q → P q) → AllByRecursion P ks
all_of P [] each = tt
all_of P (k ∷ ks) each = (each k (head_in k ks), all_of P ks (λ q c. each q (tail_in k ks q c)))

put_before : (k : NetKey) (ks : List NetKey) → ((q : NetKey) → Contains ks q → key_order k q ≡ Less)
    → IsStrictlySortedBy key_order ks → IsStrictlySortedBy key_order (k ∷ ks)
unfolding IsStrictlySortedBy
put_before k ks below sorted = (all_of (λ q. key_order k q ≡ Less) ks below, sorted)

-- keys in order, with one more at its place
record Placed (k : NetKey) (ks : List NetKey) : Type 0 where
  keys : List NetKey
  sorted : IsStrictlySortedBy key_order keys
  holds : Contains keys k
  keeps : (q : NetKey) → Contains ks q → Contains keys q
  only : (q : NetKey) → Contains keys q → (k ≡ q) ⊎ Contains ks q

after_head : (x : NetKey) (xs : List NetKey) → IsStrictlySortedBy key_order (x ∷ xs) → (q : NetKey) → Contains xs q
    → key_order x q ≡ Less
after_head x xs sorted q c = read_all (λ y. key_order x y ≡ Less) xs q c (sorted_head key_order x xs sorted)

from_greater : (k x : NetKey) → key_order k x ≡ Greater → key_order x k ≡ Less
from_greater k x e = keys_total.antisymm x k ∙ ap ordering_reverse e

in_front : (k x : NetKey) (xs : List NetKey) → IsStrictlySortedBy key_order (x ∷ xs) → key_order k x ≡ Less
    → (q : NetKey) → Contains (x ∷ xs) q → key_order k q ≡ Less
in_front k x xs sorted low q c = elim (cons_cases x xs q c) [
  | inl same ↦ subst (λ (y : NetKey). key_order k y ≡ Less) same low
  | inr later ↦ keys_total.trans k x q low (after_head x xs sorted q later)
]

placed_by : (k x : NetKey) (xs : List NetKey) (o : Ordering) → key_order k x ≡ o → IsStrictlySortedBy key_order (x ∷ xs)
    → Placed k xs → Placed k (x ∷ xs)
placed_by k x xs Less e sorted rest = record {
  keys = k ∷ x ∷ xs;
  sorted = put_before k (x ∷ xs) (in_front k x xs sorted e) sorted;
  holds = head_in k (x ∷ xs);
  keeps = λ q c. tail_in k (x ∷ xs) q c;
  only = λ q c. cons_cases k (x ∷ xs) q c;
}
placed_by k x xs Equal e sorted rest = record {
  keys = x ∷ xs;
  sorted = sorted;
  holds = subst (Contains (x ∷ xs)) (sym (tied_keys k x e)) (head_in x xs);
  keeps = λ q c. c;
  only = λ q c. inr c;
}
placed_by k x xs Greater e sorted rest = record {
  keys = x ∷ rest.keys;
  sorted = put_before x rest.keys (λ q c. elim (rest.only q c) [
    | inl same ↦ subst (λ (y : NetKey). key_order x y ≡ Less) same (from_greater k x e)
    | inr later ↦ after_head x xs sorted q later
  ]) rest.sorted;
  holds = tail_in x rest.keys k rest.holds;
  keeps = λ q c. elim (cons_cases x xs q c) [
    | inl same ↦ subst (Contains (x ∷ rest.keys)) same (head_in x rest.keys)
    | inr later ↦ tail_in x rest.keys q (rest.keeps q later)
  ];
  only = λ q c. elim (cons_cases x rest.keys q c) [
    | inl same ↦ inr (subst (Contains (x ∷ xs)) same (head_in x xs))
    | inr behind ↦ elim (rest.only q behind) [ inl same ↦ inl same | inr later ↦ inr (tail_in x xs q later) ]
  ];
}

alone : (k : NetKey) → IsStrictlySortedBy key_order (k ∷ [])
unfolding IsStrictlySortedBy
alone k = (tt, tt)

placed : (k : NetKey) (ks : List NetKey) → IsStrictlySortedBy key_order ks → Placed k ks
placed k [] sorted = record {
  keys = k ∷ [];
  sorted = alone k;
  holds = head_in k [];
  keeps = λ q c. absurd (none_in q c);
  only = λ q c. cons_cases k [] q c;
}
placed k (x ∷ xs) sorted =
    placed_by k x xs (key_order k x) refl sorted (placed k xs (sorted_tail key_order x xs sorted))

-- the dates and currencies of parts, in order
record Keyed (parts : List NetPart) : Type 0 where
  keys : List NetKey
  sorted : IsStrictlySortedBy key_order keys
  sound : (q : NetKey) → Contains keys q → Contains (map part_key parts) q
  complete : (q : NetKey) → Contains (map part_key parts) q → Contains keys q

no_keys : IsStrictlySortedBy key_order []
unfolding IsStrictlySortedBy
no_keys = tt

keyed : (parts : List NetPart) → Keyed parts
keyed [] = record { keys = []; sorted = no_keys; sound = λ q c. c; complete = λ q c. c }
keyed (p ∷ ps) =
    let rest = keyed ps in
    let own = placed (part_key p) rest.keys rest.sorted in
    record {
      keys = own.keys;
      sorted = own.sorted;
      sound = λ q c. elim (own.only q c) [
        | inl same ↦ subst (Contains (part_key p ∷ map part_key ps)) same (head_in (part_key p) (map part_key ps))
        | inr later ↦ tail_in (part_key p) (map part_key ps) q (rest.sound q later)
      ];
      complete = λ q c. elim (cons_cases (part_key p) (map part_key ps) q c) [
        | inl same ↦ subst (Contains own.keys) same own.holds
        | inr later ↦ own.keeps q (rest.complete q later)
      ];
    }

-- the rows of keys have these keys, and are sums
keys_back : (parts : List NetPart) (ks : List NetKey) → map row_key (map (row_at parts) ks) ≡ ks
keys_back parts [] = refl
keys_back parts (k ∷ ks) = ap (λ (qs : List NetKey). k ∷ qs) (keys_back parts ks)

are_sums : (parts : List NetPart) (ks : List NetKey) → Every (IsSumOf parts) (map (row_at parts) ks)
are_sums parts [] = tt
are_sums parts (k ∷ ks) = (record { amount = refl; unknown = refl }, are_sums parts ks)

-- the parts of a schedule have a net
pub net_there : (parts : List NetPart) → (rows : List NetRow) × IsNet parts rows
net_there parts =
    let k = keyed parts in
    let e = keys_back parts k.keys in (
      map (row_at parts) k.keys,
      record {
        rising = subst (IsStrictlySortedBy key_order) (sym e) k.sorted;
        sound = λ q c. k.sound q (subst (λ (qs : List NetKey). Contains qs q) e c);
        complete = λ q c. subst (λ (qs : List NetKey). Contains qs q) (sym e) (k.complete q c);
        sums = are_sums parts k.keys;
      },
    )
