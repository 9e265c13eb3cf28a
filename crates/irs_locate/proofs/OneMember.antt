-- The member that K4 or K5 means is one.
use Rattle.std.proofs.Common.{◌≡◌, ℕ, List, Some, sym, ap, ◌∙◌}
use Rattle.std.proofs.lemmas.Option.{same_Some}
use Rattle.irs_terms.specs.Faults.{rule_number}
use Rattle.irs_terms.specs.declared.places.Broken.{Broken}
use Rattle.irs_json.specs.Leaves.{element_names}
use Rattle.irs_locate.proofs.Lies.{one_value}
use Rattle.irs_locate.proofs.OneRow.{one_row}
use Rattle.irs_locate.specs.Ways.{HasOneMember, IsBrokenMember, IsRowOf, IsValueAt, first_odd, root_in, table_of, way}
use Rattle.serde_json.specs.Data.{Data}

-- the member's name is the first that breaks the rule among those of the one object at the place
pub named : (d : Data) (broken : Broken) (held : Data) (names : List (List ℕ)) (row : ℕ) (name : List ℕ)
    → ((e : Data) → IsValueAt d broken.place e → held ≡ e) → element_names held ≡ Some names
    → IsRowOf (table_of broken.place.elem).rows broken.place.elem row → IsBrokenMember d broken name
    → first_odd (rule_number broken.rule) (table_of broken.place.elem) row names ≡ Some name
named d broken held names row name only members is_row m =
    let elem : ℕ = broken.place.elem in
    let k : ℕ = rule_number broken.rule in
    let same_object : held ≡ m.object = only m.object m.lies in
    let same_names : names ≡ m.names =
    same_Some names m.names (sym members ∙ ap element_names same_object ∙ m.members) in
    let same_row : row ≡ m.row = one_row elem row m.row is_row m.is_row in
    ap (λ (r : ℕ). first_odd k (table_of elem) r names) same_row
    ∙ ap (λ (ns : List (List ℕ)). first_odd k (table_of elem) m.row ns) same_names ∙ m.first

-- two members are one
pub member_is_determined : (d : Data) (broken : Broken) → HasOneMember d broken
member_is_determined d broken a b one other =
    let only : (e : Data) → IsValueAt d broken.place e → one.object ≡ e =
    λ e lies. one_value (way (root_in d) broken.place) d one.object e one.lies lies in
    same_Some a b (sym one.first ∙ named d broken one.object one.names one.row b only one.members one.is_row other)
