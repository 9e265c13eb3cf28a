-- How content goes on, a piece after another.
use Rattle.std.proofs.Common.{◌≡◌, ℕ, zero, suc, ◌<◌, ◌≤◌, true, false, List, [], ◌∷◌, length, Some, None, refl, sym, ◌∙◌, arith}
use Rattle.irs_xml.specs.Private.Reading.{Got, Inside, Mark, mark_at, piece_at, content_at}
use Rattle.irs_xml.specs.Content.{Child}

-- what is read after what was read gives what is read from the start
pub record ContentGoes (child : List ℕ → Got Child) (i : Inside) (cs : List ℕ) (first : Inside) (all : List ℕ) : Type 0 where
  pub fuel : ℕ
  pub enough : length cs ≤ fuel
  pub same : content_at child fuel i cs ≡ content_at child (length all) first all

-- before the first piece all content is left
pub content_starts : (child : List ℕ → Got Child) (i : Inside) (all : List ℕ) → ContentGoes child i all i all
content_starts child i all = record { fuel = length all; enough = omega arith; same = refl }

-- the same before a piece is read, with one more piece allowed
record Step (child : List ℕ → Got Child) (i : Inside) (cs : List ℕ) (first : Inside) (all : List ℕ) : Type 0 where
  fuel : ℕ
  enough : length cs ≤ suc fuel
  same : content_at child (suc fuel) i cs ≡ content_at child (length all) first all

mark_nothing : mark_at [] ≡ None
unfolding mark_at
mark_nothing = refl

no_marks : (child : List ℕ → Got Child) (n : ℕ) (i : Inside) → content_at child n i [] ≡ None
unfolding content_at
no_marks child zero i = refl
no_marks child (suc n) i = let e = mark_nothing in rw e refl

by_fuel : (child : List ℕ → Got Child) (i : Inside) (cs : List ℕ) (first : Inside) (all : List ℕ) (n : ℕ) → length cs ≤ n
    → content_at child n i cs ≡ content_at child (length all) first all → Step child i cs first all
by_fuel child i [] first all n h e =
    record { fuel = zero; enough = omega arith; same = no_marks child 1 i ∙ sym (no_marks child n i) ∙ e }
by_fuel child i (c ∷ cs) first all zero h e = absurd (omega (arith, h))
by_fuel child i (c ∷ cs) first all (suc n) h e = record { fuel = n; enough = h; same = e }

one_more : {child : List ℕ → Got Child} {i : Inside} {cs : List ℕ} {first : Inside} {all : List ℕ} → ContentGoes child i cs first all
    → Step child i cs first all
one_more {child} {i} {cs} {first} {all} g = by_fuel child i cs first all g.fuel g.enough g.same

-- content isn't read where what comes next is no mark
pub content_wrong : {child : List ℕ → Got Child} {i : Inside} {cs : List ℕ} {first : Inside} {all : List ℕ} → ContentGoes child i cs first all
    → mark_at cs ≡ None → content_at child (length all) first all ≡ None
unfolding content_at
content_wrong {child} {i} {cs} {first} {all} g none = let s = one_more g in sym (rw none at s.same)

-- content isn't read where one of its pieces isn't
pub content_broken : {child : List ℕ → Got Child} {i : Inside} {cs : List ℕ} {first : Inside} {all : List ℕ} (m : Mark) (mid : List ℕ)
    → ContentGoes child i cs first all → mark_at cs ≡ Some (m, mid) → piece_at child i m mid ≡ None
    → content_at child (length all) first all ≡ None
unfolding content_at
content_broken {child} {i} {cs} {first} {all} m mid g is none = let s = one_more g in sym (rw (is, none) at s.same)

-- content that ends here gives what was read of the element
pub content_ends : {child : List ℕ → Got Child} {i : Inside} {cs : List ℕ} {first : Inside} {all : List ℕ} (m : Mark) (mid : List ℕ) (j : Inside)
    (rest : List ℕ) → ContentGoes child i cs first all → mark_at cs ≡ Some (m, mid) → piece_at child i m mid ≡ Some ((true, j), rest)
    → content_at child (length all) first all ≡ Some (j, rest)
unfolding content_at
content_ends {child} {i} {cs} {first} {all} m mid j rest g is piece = let s = one_more g in sym (rw (is, piece) at s.same)

-- after one more piece the rest of the content gives what the whole gives
pub content_more : {child : List ℕ → Got Child} {i : Inside} {cs : List ℕ} {first : Inside} {all : List ℕ} (m : Mark) (mid : List ℕ) (j : Inside)
    (rest : List ℕ) → ContentGoes child i cs first all → mark_at cs ≡ Some (m, mid) → piece_at child i m mid ≡ Some ((false, j), rest)
    → length rest < length cs → ContentGoes child j rest first all
unfolding content_at
content_more {child} {i} {cs} {first} {all} m mid j rest g is piece less =
    let s = one_more g in
    let same : content_at child s.fuel j rest ≡ content_at child (length all) first all = rw (is, piece) at s.same in
    record { fuel = s.fuel; enough = omega (arith, less, s.enough); same = same }
