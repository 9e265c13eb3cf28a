-- The first field of a table that departs is the first field that departs.
use Rattle.std.proofs.Common.{◌≡◌, ℕ, ◌≤◌, List, [], ◌∷◌, Bool, true, false, IsTrue, ◌↔◌, Option, ◌⊎◌, inl, inr}
use Rattle.std.proofs.Common.{arith, subst, sym, refl, true≢false}
use Rattle.irs_audit.specs.declared.departures.Field.{Field}
use Rattle.irs_audit.specs.Verdicts.{field_place, field_before}
use Rattle.irs_audit.specs.Private.Comparisons.{first_true}
use Rattle.irs_audit.proofs.OrderLemmas.{not_lower}
use Rattle.irs_base.specs.Outcomes.{IsFirst}
use Rattle.irs_base.proofs.Firsts.{first_same}

-- the table says of each of its fields whether it departs
abbrev pub Decides : (Field → Type 0) → List (Field × Bool) → Type 0
Decides P [] = Unit {0}
Decides P (t ∷ ts) = (IsTrue t.1 ↔ P t.0) × Decides P ts

-- the fields of the table are in order, none before place n
abbrev pub InOrder : ℕ → List (Field × Bool) → Type 0
InOrder n [] = Unit {0}
InOrder n (t ∷ ts) = (n ≤ field_place t.0) × InOrder (field_place t.0) ts

-- f is a field of the table
abbrev pub Stands : Field → List (Field × Bool) → Type 0
Stands f [] = ⊥
Stands f (t ∷ ts) = (f ≡ t.0) ⊎ Stands f ts

-- f is a field of the table and departs
abbrev StandsWith : (Field → Type 0) → List (Field × Bool) → Field → Type 0
StandsWith P ts f = Stands f ts × P f

moved : (n : ℕ) (f g : Field) → g ≡ f → n ≤ field_place f → n ≤ field_place g
moved n f g e h = let Q : Field → Type 0 = λ k. n ≤ field_place k in subst Q (sym e) h

above : (n : ℕ) (ts : List (Field × Bool)) (g : Field) → InOrder n ts → Stands g ts → n ≤ field_place g
above n [] g h s = absurd s
above n (t ∷ ts) g h (inl e) = moved n t.0 g e h.0
above n (t ∷ ts) g h (inr s) = let k = above (field_place t.0) ts g h.1 s in omega (arith, h.0, k)

-- a field that doesn't depart may come before the table and changes nothing
passed : (P : Field → Type 0) (f : Field) (ts : List (Field × Bool)) (o : Option Field) → (P f → ⊥)
    → IsFirst field_before (StandsWith P ts) o → IsFirst field_before (StandsWith P ((f, false) ∷ ts)) o
passed P f ts o never h =
    first_same field_before (StandsWith P ts) (StandsWith P ((f, false) ∷ ts)) o (λ g s. (inr s.0, s.1))
    (λ g s. elim s.0 [ inl e ↦ absurd (never (subst P e s.1)) | inr t ↦ (t, s.1) ]) h

standing : (P : Field → Type 0) (n : ℕ) (ts : List (Field × Bool)) → Decides P ts → InOrder n ts
    → IsFirst field_before (StandsWith P ts) (first_true ts)
standing P n [] d o = λ f s. s.0
standing P n ((f, true) ∷ ts) d o = (
  (inl refl, d.0.0 refl),
  λ g s. not_lower f g (above (field_place f) ((f, true) ∷ ts) g (omega arith, o.1) s.0),
)
standing P n ((f, false) ∷ ts) d o =
    passed P f ts (first_true ts) (λ p. true≢false (sym (d.0.1 p))) (standing P (field_place f) ts d.1 o.1)

-- in an ordered table of every field that can depart, the first true field is the first that departs
pub table_first : (P : Field → Type 0) (ts : List (Field × Bool)) → Decides P ts → InOrder 0 ts
    → ((f : Field) → P f → Stands f ts) → IsFirst field_before P (first_true ts)
table_first P ts d o all =
    first_same field_before (StandsWith P ts) P (first_true ts) (λ f s. s.1) (λ f p. (all f p, p)) (standing P 0 ts d o)
