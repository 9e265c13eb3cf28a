-- Every rule that is broken by a table of elements is one of K2 to K7.
use Rattle.irs_terms.specs.declared.places.{Broken.Broken, Rule.Rule}
use Rattle.irs_terms.specs.declared.places.Rule.TheVariants.{K3, K5, K6}
use Rattle.irs_elements.specs.Elements.{FaultAt, FaultUnder, ShapeFault, inside, own, own_rule, shape, under, unmet}
use Rattle.irs_elements.specs.{Private.Walk.IsOfTables, declared.table.Choice.Choice, declared.table.Kind.Kind}
use Rattle.irs_elements.specs.{declared.table.Leaf.Leaf as LeafKind, declared.table.Row.Row}
use Rattle.irs_elements.specs.Leaves.{has_value, leaf_rule, out_of_profile, text_of_leaf, text_rule}
use Rattle.irs_elements.specs.declared.table.Kind.TheVariants.{Object, Leaf}
use Rattle.irs_elements.specs.declared.walk.Unmet.TheVariants.{Both, Neither}
use Rattle.irs_json.specs.Leaves.{Leaf as LeafSaid, leaf_of, element_names}
use Rattle.serde_json.specs.Data.{Data}
use Rattle.std.proofs.Common.{ℕ, Bool, true, false, List, Option, Some, None, if◌then◌else◌, subst, ◌≡◌, option_map, ap}
use Rattle.std.specs.{List.list_any, Prelude.is_some, Str.bytes_eq}

-- the rule, if there is one, is one of the tables
abbrev Told : Option Rule → Type 0
Told None = Unit {0}
Told (Some k) = IsOfTables k

-- ---- the rules that a value breaks by itself

by_value : (b c : Bool) → Told (if b then None else (if c then Some K5 else Some K6))
by_value true c = tt
by_value false true = tt
by_value false false = tt

of_text : (k : LeafKind) (s : List ℕ) → Told (text_rule k s)
unfolding text_rule
of_text k s = by_value (has_value k s) (list_any (bytes_eq s) (out_of_profile k))

of_leaf : (k : LeafKind) (o : Option LeafSaid) → Told (leaf_rule k o)
of_leaf k None = tt
of_leaf k (Some says) = of_text k (text_of_leaf says)

by_object : (b : Bool) → Told (if b then None else Some K3)
by_object true = tt
by_object false = tt

of_own : (kind : Kind) (d : Data) → Told (own_rule kind d)
of_own (Object choice) d = by_object (is_some (element_names d))
of_own (Leaf k) d = of_leaf k (leaf_of d)
of_own _ d = tt

-- ---- those of a table

module _ (rows : List Row) (names : List (List ℕ)) (stream : ℕ) where
  of_shape : (r i : ℕ) (choice : Choice) (d : Data) (f : Broken) → ShapeFault rows names stream r choice i d f
      → IsOfTables f.rule
  of_shape r i choice d f (unmet _ _ Both _ _ e) = tt
  of_shape r i choice d f (unmet _ _ Neither _ _ e) = tt
  of_shape r i choice d f _ = tt

  mutual
    -- each rule that a value breaks is one of the tables
    pub of_table : (r i : ℕ) (kind : Kind) (d : Data) (f : Broken) → FaultAt rows names stream r kind i d f
        → IsOfTables f.rule
    of_table r i kind d f (own _ _ k _ _ e) = subst Told e (of_own kind d)
    of_table r i kind d f (shape _ _ choice _ ns _ e s) = of_shape r i choice d f s
    of_table r i kind d f (under _ _ c choice _ ns _ row e m u) = of_member c i row d f u

    of_member : (c i : ℕ) (row : Row) (d : Data) (f : Broken) → FaultUnder rows names stream c row i d f
        → IsOfTables f.rule
    of_member c i row d f (inside _ _ j _ _ m x _ el h le at g) = of_table c _ _ x f g
    of_member c i row d f _ = tt

-- ---- what the text of a leaf breaks

-- the rule of a leaf's text is that of the leaf
pub rule_of : (kind : LeafKind) (o : Option LeafSaid) (s : List ℕ) → Some s ≡ option_map text_of_leaf o
    → text_rule kind s ≡ leaf_rule kind o
rule_of kind None s e = cc
rule_of kind (Some leaf) s e = let same : s ≡ text_of_leaf leaf = cc in ap (text_rule kind) same
