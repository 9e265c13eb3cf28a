-- Private: no public contract rests on this file.
-- Of private functions: attributes and tags, as the reader keeps and compares them.
use Rattle.std.specs.Prelude.{ℕ, Bool, true, not, ◌&&◌, List, [], ◌∷◌, Option, map, option_map, string_bytes}
use Rattle.std.specs.List.{list_any}
use Rattle.std.specs.Str.{bytes_eq}
use Rattle.irs_xml.specs.Tags.{Setting, Scope, attribute_namespace, is_same_namespace, Opening}
use Rattle.irs_xml.specs.declared.settings.Setting.{Setting as GivenSetting}
use Rattle.irs_xml.specs.declared.settings.Tag.{Tag as GivenTag}
use Rattle.irs_xml.specs.declared.settings.Declaration.{Declaration as GivenDeclaration}
use Rattle.irs_xml.specs.declared.settings.Resolved.{Resolved as GivenResolved}

-- ---- attributes by their resolved names: how the reader compares those of a tag
-- The contracts of this crate's own functions cite them. What a document is and means doesn't rest on them.

-- an attribute by its local part and its namespace, none where its prefix isn't declared
abbrev pub Resolved : Type 0
Resolved = List ℕ × Option (List ℕ)

-- what an attribute is in a scope
abbrev pub resolve : Scope → Setting → Resolved
resolve scope s = (s.local, attribute_namespace scope s)

-- one local part, and one namespace or none both
abbrev pub is_alike : Resolved → Resolved → Bool
is_alike a b = bytes_eq a.0 b.0 && is_same_namespace a.1 b.1

-- no two are alike
abbrev pub are_distinct : List Resolved → Bool
are_distinct [] = true
are_distinct (r ∷ rs) = not (list_any (is_alike r) rs) && are_distinct rs

-- ---- attributes, tags and declarations of the code, as the definitions see them

-- an attribute by its prefix, its local part and its value
abbrev pub setting_view : GivenSetting → Setting
setting_view s = record { prefix = s.prefix.now; local = s.local.now; value = string_bytes s.value }

-- a tag by its name and its attributes
abbrev pub opening_view : GivenTag → Opening
opening_view t = record { prefix = t.prefix.now; local = t.local.now; settings = map setting_view t.settings.items }

-- a tag, and whether it is of an empty element
abbrev pub tag_view : GivenTag → Opening × Bool
tag_view t = (opening_view t, t.is_empty)

-- declarations as pairs of a prefix and the name of its namespace
abbrev pub scope_view : List GivenDeclaration → Scope
scope_view ds = map (λ d. (d.prefix.now, string_bytes d.namespace)) ds

-- an attribute by its local part and its namespace
abbrev pub resolved_view : GivenResolved → Resolved
resolved_view r = (r.local.now, option_map (λ n. n.now) r.namespace)
