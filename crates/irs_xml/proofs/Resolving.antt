-- Attributes are compared by their resolved names.
use Rattle.std.proofs.Common.{◌≡◌, ◌&&◌, not, List, [], ◌∷◌, map, refl, ap, sym, ◌∙◌}
use Rattle.std.specs.List.{list_all, list_any}
use Rattle.std.specs.Prelude.{is_some}
use Rattle.irs_xml.specs.Tags.{Setting, Scope, attribute_namespace, is_like, are_unlike}
use Rattle.irs_xml.specs.Private.TagViews.{Resolved, resolve, is_alike, are_distinct}
use Rattle.irs_xml.proofs.MapTests.{list_all-map, list_any-map}

-- attributes are unlike where their resolved names are distinct
pub distinct_unlike : (scope : Scope) (ss : List Setting) → are_distinct (map (resolve scope) ss) ≡ are_unlike scope ss
distinct_unlike scope [] = refl
distinct_unlike scope (s ∷ ss) =
    ap (λ b. not b && are_distinct (map (resolve scope) ss)) (sym (list_any-map (resolve scope) (is_alike (resolve scope s)) ss))
    ∙ ap (λ b. not (list_any (is_like scope s) ss) && b) (distinct_unlike scope ss)

-- the rules for the names of attributes, by their resolved names
pub resolved_apart : (scope : Scope) (ss : List Setting)
    → list_all (λ (r : Resolved). is_some r.1) (map (resolve scope) ss) && are_distinct (map (resolve scope) ss)
    ≡ list_all (λ s. is_some (attribute_namespace scope s)) ss && are_unlike scope ss
resolved_apart scope ss =
    ap (λ b. b && are_distinct (map (resolve scope) ss)) (sym (list_all-map (resolve scope) (λ (r : Resolved). is_some r.1) ss))
    ∙ ap (λ b. list_all (λ s. is_some (attribute_namespace scope s)) ss && b) (distinct_unlike scope ss)
