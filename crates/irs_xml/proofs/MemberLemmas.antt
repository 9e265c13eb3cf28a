-- Members that are removed, and items that are appended, as the definitions see them.
use Rattle.std.proofs.Common.{◌≡◌, ℕ, Bool, true, false, cond, List, [], ◌∷◌, ◌++◌, string_bytes, nat_cmp, is_eq, refl, ap}
use Rattle.std.specs.BTreeMap.{is_at}
use Rattle.std.specs.Cmp.Lexicographic.{slice_cmp}
use Rattle.std.specs.Map.{remove_entry}
use Rattle.serde_json.specs.Data.{item, Members, member}
use Rattle.serde_json.specs.View.{view, members_view, items_view}
use Rattle.serde_json.specs.declared.value.Value.{Value}
use Rattle.serde_json.proofs.Views.{Entry}
use Rattle.irs_xml.specs.Content.{without, item_last}

apart : (b : Bool) (e : Entry) (es fs : List Entry) (ms : Members) → members_view fs ≡ ms
    → members_view (cond b es (e ∷ fs)) ≡ cond b (members_view es) (member (string_bytes e.0) (view e.1) ms)
apart true e es fs ms h = refl
apart false e es fs ms h = ap (member (string_bytes e.0) (view e.1)) h

-- removing an entry of the map removes the member of that name
pub members_view-remove_entry : (name : List ℕ) (es : List Entry)
    → members_view (remove_entry (is_at (λ k. slice_cmp nat_cmp name (string_bytes k))) es) ≡ without name (members_view es)
members_view-remove_entry name [] = refl
members_view-remove_entry name (e ∷ es) =
    apart (is_eq (slice_cmp nat_cmp name (string_bytes e.0))) e es _ _ (members_view-remove_entry name es)

-- appending a value appends one item
pub items_view-push : (vs : List Value) (v : Value) → items_view (vs ++ v ∷ []) ≡ item_last (items_view vs) (view v)
items_view-push [] v = refl
items_view-push (w ∷ vs) v = ap (item (view w)) (items_view-push vs v)
