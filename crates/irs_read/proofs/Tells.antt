-- A clean value says one value, and that one lies in its range: for leaves, members and lists.
use Prim.Native.String.{String}
use Rattle.irs_base.proofs.{EveryLemmas.one_partners, EveryLemmas.pairs_length, MemberLemmas.pairs_there}
use Rattle.irs_base.specs.Lists.{Pairs}
use Rattle.irs_elements.specs.Elements.{is_required, member, most, once, values_in}
use Rattle.irs_elements.specs.declared.table.{Count.Count, Leaf.Leaf as LeafKind}
use Rattle.irs_json.specs.Leaves.{child_of}
use Rattle.irs_read.proofs.Clean.{Fine, clean_once, clean_there, fine_values, first_value}
use Rattle.irs_read.proofs.Rows.{At, AtMost, Path, RowIs, is_member, is_named, is_needed}
use Rattle.irs_read.proofs.{Rows.most_of, Rows.row_of, TableLaws.code_names as row_names}
use Rattle.irs_read.specs.{Readings.Says, declared.table.TheConstants.ROWS}
use Rattle.serde_json.specs.Data.{Data}
use Rattle.std.proofs.Common.{None, IfSome, slice_get, All, codes, refl, sym, ap, subst, ◌∙◌, arith, ◌≡◌, ℕ}
use Rattle.std.proofs.Common.{suc, if◌then◌else◌, ◌≤◌, Bool, true, false, List, [], ◌∷◌, length, Option, Some}
use Rattle.std.proofs.lemmas.List.Elements.{All-cons, All-nil}
use Rattle.std.proofs.lemmas.Option.{IfSome_then, slice_get_within}

-- one value of a field is said, and it lies in a range
pub record Gives {S A : Type 0} (field : S → A) (P : S → Type 0) (L : A → Type 0) : Type 0 where
  pub is : A
  pub says : (s : S) → field s ≡ is → P s
  pub only : (s : S) → P s → field s ≡ is
  pub lawful : L is

-- the same of a whole value
abbrev pub Tells : {A : Type 0} → (P L : A → Type 0) → Type 0
Tells P L = Gives (λ a. a) P L

-- every value
abbrev pub Any : {A : Type 0} → A → Type 0
Any a = Unit {0}

-- ---- what may be absent

-- this value alone
pub just : {A : Type 0} {L : A → Type 0} (a : A) → L a → Tells (λ b. b ≡ a) L
just a lawful = record { is = a; says = λ b e. e; only = λ b e. e; lawful = lawful }

-- something is told of what is there, if it is
abbrev pub Told : {A : Type 0} → (Data → A → Type 0) → (A → Type 0) → Option Data → Type 0
Told P L o = IfSome o (λ x. Tells (P x) L)

-- of what is clean at the end of a path
pub told : {A : Type 0} {p : Path} {P : Data → A → Type 0} {L : A → Type 0} → ((d : Data) → At p d → Tells (P d) L)
    → (o : Option Data) → AtMost p o → Told P L o
told tells o clean = IfSome_then o clean tells

-- of a member: what its value says, or another thing where it is absent
pub member_tells : {A B : Type 0} {L : A → Type 0} {M : B → Type 0} (says : Data → A → Type 0) (make : A → B)
    (other : B → Type 0) (o : Option Data) → ((a : A) → L a → M (make a)) → Told says L o
    → (o ≡ None → Tells other M) → Tells (Says o says make other) M
member_tells says make other None lawful t absent = absent refl
member_tells says make other (Some x) lawful t absent = record {
  is = make t.is;
  says = λ b e. (t.is, (e, t.says t.is refl));
  only = λ b (a, (e, h)). e ∙ ap make (t.only a h);
  lawful = lawful t.is t.lawful;
}

-- ---- members

-- a member that must occur has a value
pub there : {kind : Option LeafKind} (p : Path) (name : String) → RowIs p name true kind → (d : Data) → At p d
    → (x : Data) × ((once (codes name) d ≡ Some x) × At (name ∷ p) x)
there p name row d clean =
    let (x, (e, inner)) =
    clean_there ROWS row_names (row_of p) (row_of (name ∷ p)) d (is_member p name row) (is_needed p name row)
    clean.clean in
    (x, (subst (λ (n : List ℕ). once n d ≡ Some x) (is_named p name row) e, record { clean = inner }))

-- a member that may be absent is clean, also below what may be
pub perhaps : {must : Bool} {kind : Option LeafKind} (p : Path) (name : String) → RowIs p name must kind
    → (o : Option Data) → AtMost p o → AtMost (name ∷ p) (member (codes name) o)
perhaps p name row None clean = tt
perhaps p name row (Some d) clean =
    subst (λ (n : List ℕ). AtMost (name ∷ p) (once n d)) (is_named p name row) (IfSome_then _ {Q = At (name ∷ p)}
    (clean_once ROWS row_names (row_of p) (row_of (name ∷ p)) d (is_member p name row) clean.clean)
    (λ x inner. record { clean = inner }))

-- ---- lists

-- what values say of which each says one value, and that one in the range, is in the range
lawful_each : {A : Type 0} {L : A → Type 0} (says : Data → A → Type 0) (xs : List Data)
    → ((j : ℕ) (x : Data) → slice_get xs j ≡ Some x → Tells (says x) L) → (all : List A) → Pairs says xs all → All L all
lawful_each {L = L} says [] t [] h = All-nil L
lawful_each says [] t (a ∷ all) h = absurd h
lawful_each says (x ∷ xs) t [] h = absurd h
lawful_each {L = L} says (x ∷ xs) t (a ∷ all) h =
    let first = t 0 x refl in
    All-cons L a all (subst L (sym (first.only a h.0)) first.lawful)
    (lawful_each says xs (λ j y e. t (suc j) y e) all h.1)

-- each value of a list: as many values as there are, each in the range
pub each_tells : {A : Type 0} {L : A → Type 0} (says : Data → A → Type 0) (xs : List Data)
    → ((j : ℕ) (x : Data) → slice_get xs j ≡ Some x → Tells (says x) L)
    → Tells (Pairs says xs) (λ (all : List A). (length all ≡ length xs) × All L all)
each_tells says xs t =
    let (all, both) = pairs_there says xs (λ j x e. ((t j x e).is, (t j x e).says (t j x e).is refl)) in
    record {
      is = all;
      says = λ b e. subst (Pairs says xs) (sym e) both;
      only = λ b h. one_partners says xs (λ j x e a c p q. (t j x e).only a p ∙ sym ((t j x e).only c q)) b all h both;
      lawful = (pairs_length says xs all both, lawful_each says xs t all both);
    }

-- no more than the table allows, and each of them clean
fine : {must : Bool} {kind : Option LeafKind} (p : Path) (name : String) → RowIs p name must kind → (d : Data)
    → At p d → (length (values_in (codes name) (Some d)) ≤ most_of (name ∷ p))
    × ((j : ℕ) (x : Data) → slice_get (values_in (codes name) (Some d)) j ≡ Some x → At (name ∷ p) x)
unfolding most_of
fine p name row d clean =
    let c = row_of (name ∷ p) in
    let (few, each) =
    subst (λ (n : List ℕ). Fine ROWS row_names c (values_in n (Some d))) (is_named p name row)
    (fine_values ROWS row_names (row_of p) c d (is_member p name row) clean.clean) in
    (few, λ j x e. record { clean = each j x e })

-- and one at least where one is required
least : {kind : Option LeafKind} (must : Bool) (p : Path) (name : String) → RowIs p name must kind → (d : Data) → At p d
    → (if must then 1 else 0) ≤ length (values_in (codes name) (Some d))
least false p name row d clean = omega arith
least true p name row d clean =
    let (x, (e, inner)) = there p name row d clean in
    slice_get_within (values_in (codes name) (Some d)) 0 x (first_value (child_of (codes name) d) x e)

-- as many values as the count allows, each in the range
abbrev pub Many : {A : Type 0} → Count → (A → Type 0) → List A → Type 0
Many often L all = ((if is_required often then 1 else 0) ≤ length all) × (length all ≤ most often) × All L all

-- all values of a repeated member
pub all_tell : {A : Type 0} {L : A → Type 0} {kind : Option LeafKind} (p : Path) (name : String) (often : Count)
    (says : Data → A → Type 0) → RowIs p name (is_required often) kind → most_of (name ∷ p) ≡ most often
    → ((x : Data) → At (name ∷ p) x → Tells (says x) L) → (d : Data) → At p d
    → Tells (Pairs says (values_in (codes name) (Some d))) (Many often L)
all_tell p name often says row top tells d clean =
    let (few, each) = fine p name row d clean in
    let some = least (is_required often) p name row d clean in
    let t = each_tells says (values_in (codes name) (Some d)) (λ j x e. tells x (each j x e)) in
    record {
      is = t.is;
      says = t.says;
      only = t.only;
      lawful = (omega (arith, some, t.lawful.0), omega (arith, few, top, t.lawful.0), t.lawful.1);
    }
