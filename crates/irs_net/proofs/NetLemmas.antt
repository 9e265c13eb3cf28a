-- The rows of totals are the net, and a net is the only one.
use Rattle.std.proofs.Common.{◌≡◌, ℕ, Bool, true, false, List, [], ◌∷◌, map, Option, Some, None, IsSome, refl, sym, ap}
use Rattle.std.proofs.Common.{ap₂, subst, ◌∙◌, arith}
use Rattle.std.specs.Prelude.{unwrap_or, if◌then◌else◌}
use Rattle.std.specs.List.{All, list_any}
use Rattle.std.specs.List.Sorted.{IsStrictlySortedBy}
use Rattle.std.specs.Map.{keys_of}
use Rattle.std.specs.BTreeMap.{BTreeMap, get, IsOrdered}
use Rattle.std.proofs.lemmas.List.Elements.{All-head, All-tail, All-weaker}
use Rattle.std.proofs.lemmas.Map.Views.{All-found, Contains-from_any, Contains-keys_from_lookup}
use Rattle.std.proofs.lemmas.Map.Views.{IsSome-lookup_from_Contains, list_any-from_Contains}
use Rattle.irs_base.specs.Lists.{Every}
use Rattle.irs_base.specs.declared.line.Dec.{Dec}
use Rattle.irs_terms.specs.Lawful.{decimals_of}
use Rattle.irs_schedule.specs.Schedules.{dec_of}
use Rattle.irs_schedule.proofs.PlaceLemmas.{decimals_few}
use Rattle.irs_net.specs.Nets.{NetRowHasPlaces, IsNet, IsSumOf, key_order, same_key, part_key, row_key, known_sum}
use Rattle.irs_net.specs.Nets.{unknown_count}
use Rattle.irs_net.specs.Private.FoundParties.{row_of, total_at}
use Rattle.irs_net.specs.declared.parts.NetPart.{NetPart}
use Rattle.irs_net.specs.declared.table.NetRow.{NetRow}
use Rattle.irs_net.specs.declared.totals.NetKey.{NetKey}
use Rattle.irs_net.specs.declared.totals.NetTotal.{NetTotal}
use Rattle.irs_net.proofs.KeyLemmas.{keys_total, keys_equiv, same_keys, same_sorted}
use Rattle.irs_net.proofs.TotalLemmas.{make_total}

-- the keys of rows are those of their totals
row_keys : (es : List (NetKey × NetTotal)) → map row_key (map row_of es) ≡ keys_of es
row_keys [] = refl
row_keys (e ∷ es) = ap (λ (ks : List NetKey). e.0 ∷ ks) (row_keys es)

-- what a total says where there is one
total_of : (b : Bool) (t u : NetTotal) → (if b then Some t else None) ≡ Some u → (b ≡ true) × (u ≡ t)
total_of true t u e = (refl, sym (ap (λ (o : Option NetTotal). unwrap_or o t) e))
total_of false t u e = absurd (cc)

sum_row : (parts : List NetPart) (e : NetKey × NetTotal) → total_at parts e.0 ≡ Some e.1 → IsSumOf parts (row_of e)
sum_row parts e h =
    let t = total_of (list_any (same_key e.0) (map part_key parts))
    (make_total (known_sum e.0 parts) (unknown_count e.0 parts)) e.1 h in
    record {
      amount = ap (λ (u : NetTotal). dec_of (decimals_of e.0.letters) u.known) t.1;
      unknown = ap (λ (u : NetTotal). u.unknown) t.1;
    }

sum_rows : (parts : List NetPart) (es : List (NetKey × NetTotal))
    → All (λ (e : NetKey × NetTotal). total_at parts e.0 ≡ Some e.1) es → Every (IsSumOf parts) (map row_of es)
sum_rows parts [] h = tt
sum_rows parts (e ∷ es) h =
    let P : NetKey × NetTotal → Type 0 = λ e. total_at parts e.0 ≡ Some e.1 in
    (sum_row parts e (All-head P e es h), sum_rows parts es (All-tail P e es h))

some_any : (b : Bool) (t : NetTotal) → IsSome (if b then Some t else None) → b ≡ true
some_any true t h = refl
some_any false t h = absurd (cc)

any_some : (b : Bool) (t : NetTotal) → b ≡ true → IsSome (if b then Some t else None)
any_some true t h = refl
any_some false t h = absurd (cc)

-- the rows of a map that has the totals of the parts are their net
pub net_is : (parts : List NetPart) (m : BTreeMap NetKey NetTotal) → IsOrdered key_order m
    → ((key : NetKey) → get key_order m key ≡ total_at parts key) → IsNet parts (map row_of m.entries)
net_is parts m ordered totals =
    let own : NetKey → NetTotal = λ key. make_total (known_sum key parts) (unknown_count key parts) in
    record {
      rising = subst (IsStrictlySortedBy key_order) (sym (row_keys m.entries)) ordered;
      sound = λ key h.
          let there = IsSome-lookup_from_Contains keys_equiv key m.entries (rw row_keys at h) in
          Contains-from_any same_keys key (map part_key parts)
          (some_any (list_any (same_key key) (map part_key parts)) (own key)
          (subst (λ (o : Option NetTotal). IsSome o) (totals key) there));
      complete = λ key h.
          let any = list_any-from_Contains keys_equiv key (map part_key parts) h in
          let there : IsSome (get key_order m key) =
          subst (λ (o : Option NetTotal). IsSome o) (sym (totals key))
          (any_some (list_any (same_key key) (map part_key parts)) (own key) any) in
          rw row_keys (Contains-keys_from_lookup same_keys key m.entries there);
      sums = sum_rows parts m.entries
          (All-weaker (λ (e : NetKey × NetTotal). get key_order m e.0 ≡ Some e.1)
          (λ (e : NetKey × NetTotal). total_at parts e.0 ≡ Some e.1) (λ e h. sym (totals e.0)
          ∙ h) m.entries (All-found keys_total m ordered));
    }

-- ---- only one

-- the row of a key, with its sum and the number of its unknown amounts
abbrev pub row_at : List NetPart → NetKey → NetRow
row_at parts key = row_of (key, make_total (known_sum key parts) (unknown_count key parts))

-- a row made of its parts
abbrev make_row : NetKey → Dec → ℕ → NetRow
make_row key amount unknown =
    record { date = key.date; currency = record { letters = key.letters }; amount = amount; unknown = unknown }

-- a row is known by its key
pub rows_by_keys : (parts : List NetPart) (rows : List NetRow) → Every (IsSumOf parts) rows
    → rows ≡ map (row_at parts) (map row_key rows)
rows_by_keys parts [] h = refl
rows_by_keys parts (r ∷ rs) h = ap₂ ◌∷◌ (ap₂ (make_row (row_key r)) h.0.amount h.0.unknown) (rows_by_keys parts rs h.1)

-- the parts of a schedule have one net
pub one_net : (parts : List NetPart) (a b : List NetRow) → IsNet parts a → IsNet parts b → a ≡ b
one_net parts a b h k =
    let keys : map row_key a ≡ map row_key b =
    same_sorted (map row_key a) (map row_key b) h.rising k.rising (λ q c. k.complete q (h.sound q c))
    (λ q c. h.complete q (k.sound q c)) in
    rows_by_keys parts a h.sums ∙ ap (map (row_at parts)) keys ∙ sym (rows_by_keys parts b k.sums)

-- the amounts of a net have the decimals of their currency
pub few_places : (parts : List NetPart) (rows : List NetRow) → Every (IsSumOf parts) rows → Every NetRowHasPlaces rows
few_places parts [] h = tt
few_places parts (r ∷ rs) h =
    let e = ap (λ (v : Dec). v.places) h.0.amount in
    let few = decimals_few r.currency.letters in
    (omega (arith, e, few), few_places parts rs h.1)
