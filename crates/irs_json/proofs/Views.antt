-- An array's items, as `View` and as `Carrier` list them.
use Rattle.std.proofs.Common.{◌≡◌, ◌<◌, List, [], ◌∷◌, length, map, Some, Vec, Global, refl, sym, ap, arith}
use Rattle.serde_json.specs.Data.{Data, array}
use Rattle.serde_json.specs.View.{view, items_view, items_of as items_from}
use Rattle.serde_json.specs.declared.value.Value.{Value, Array}
use Rattle.serde_json.proofs.Views.{view-Array}
use Rattle.irs_json.specs.Leaves.{present, list_of, items_of}

list_of-items_from : (ds : List Data) → list_of (items_from ds) ≡ ds
list_of-items_from [] = refl
list_of-items_from (d ∷ ds) = ap (λ r. d ∷ r) (list_of-items_from ds)

-- the values of an array are its items
pub items_of-Array : (v : Value) (l : Vec Value Global) → v ≡ Array l → map view l.items ≡ items_of (view v)
items_of-Array v l is = rw (is, view-Array l) (sym (list_of-items_from (map view l.items)))

present-filled : (vs : List Value) → 0 < length vs → Some (array (items_view vs)) ≡ present (array (items_view vs))
present-filled [] h = absurd (omega arith)
present-filled (v ∷ vs) h = refl

-- an array with items counts as present
pub present-Array : (v : Value) (l : Vec Value Global) → v ≡ Array l → 0 < length l.items
    → Some (view v) ≡ present (view v)
present-Array v l is h = rw (is, view-Array l) (present-filled l.items h)
