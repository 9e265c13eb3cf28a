-- What follows where nothing breaks and nothing is unstated.
use Rattle.std.proofs.Common.{◌≡◌, inl, inr, ℕ, zero, suc, ◌+◌, ◌<◌, false, List, [], ◌∷◌, ◌++◌}
use Rattle.std.proofs.Common.{Option, Some, None, ℤ, arith, refl, sym, subst, ap, ◌∙◌}
use Rattle.std.specs.Prelude.{sum_by}
use Rattle.std.proofs.lemmas.Bool.{cases_Bool, cases_lt}
use Rattle.std.proofs.lemmas.List.Sums.{sum_by-append}
use Rattle.std.proofs.lemmas.Option.{none-some}
use Rattle.irs_base.specs.Lists.{Every}
use Rattle.irs_base.specs.declared.line.Dec.{Dec}
use Rattle.irs_breaks.specs.Findings.{AreBreaks, number_of, same_standing, Findings, Then, UpTo, one_pair}
use Rattle.irs_breaks.specs.Findings.{joined_findings, one_break, Differ, standing_of}
use Rattle.irs_breaks.specs.BreakLists.{AreFieldBreaks, IsRow, unpaired, break_at, field_breaks, ours_alone}
use Rattle.irs_breaks.specs.BreakLists.{theirs_alone}
use Rattle.irs_breaks.specs.declared.counting.Counts.{Counts}
use Rattle.irs_breaks.specs.declared.findings.Break.{Break}
use Rattle.irs_breaks.specs.declared.findings.BreakPlace.{BreakPlace}
use Rattle.irs_breaks.specs.declared.findings.What.TheVariants as what
use Rattle.irs_breaks.specs.declared.values.FieldValues.{FieldValues}
use Rattle.irs_breaks.specs.declared.values.Standing.TheVariants.{Unstated}
use Rattle.irs_breaks.proofs.RowLemmas.{counted as counted_first, counted_none, counted_one}

-- ---- findings without a break and without an unstated field

-- nothing breaks, and nothing is unstated
pub record IsQuiet (l : Findings) : Type 0 where
  pub unbroken : l.breaks ≡ []
  pub whole : sum_by (λ (c : Counts). c.unstated) l.pairs ≡ 0

-- where two lists together are empty, each of them is
append_none : {X : Type 0} (xs ys : List X) → xs ++ ys ≡ [] → (xs ≡ []) × (ys ≡ [])
append_none [] ys h = (refl, h)
append_none (x ∷ xs) ys h = absurd (cc)

-- parts of quiet findings are quiet
quiet_parts : (a b : Findings) → IsQuiet (joined_findings a b) → IsQuiet a × IsQuiet b
quiet_parts a b q =
    let none = append_none a.breaks b.breaks q.unbroken in
    let sum = sum_by-append (λ (c : Counts). c.unstated) a.pairs b.pairs in
    let whole = q.whole in
    (record { unbroken = none.0; whole = omega (arith, sum, whole) }, record { unbroken = none.1; whole = omega (arith, sum, whole) })

-- so are those of two kinds, one after the other
pub quiet_then : (P Q : Findings → Type 0) (l : Findings) (h : Then P Q l) → IsQuiet l → IsQuiet h.first × IsQuiet h.second
quiet_then P Q l h q = quiet_parts h.first h.second (subst IsQuiet h.is q)

-- and those of each place
pub quiet_up_to : (Is : ℕ → Findings → Type 0) (n : ℕ) (l : Findings) → UpTo Is n l → IsQuiet l → (k : ℕ) → k < n
    → (a : Findings) × Is k a × IsQuiet a
quiet_up_to Is zero l h q k low = absurd (omega (arith, low))
quiet_up_to Is (suc n) l h q k low =
    let parts = quiet_then (UpTo Is n) (Is n) l h q in
    elim (cases_lt k n) [
      | inl less ↦ quiet_up_to Is n h.first h.is_first parts.0 k less
      | inr more ↦
          let same : n ≡ k = omega (arith, low, more) in
          (h.second, subst (λ (j : ℕ). Is j h.second) same h.is_second, parts.1)
    ]

-- a break isn't quiet
pub told_loud : (b : Break) (a : Findings) → a ≡ one_break b → IsQuiet a → ⊥
told_loud b a is q =
    let none : b ∷ [] ≡ [] = sym (ap (λ (l : Findings). l.breaks) is) ∙ q.unbroken in
    absurd (cc)

-- a quiet pair leaves no field unstated
pub quiet_counted : (c : Counts) (a : Findings) → a ≡ one_pair c → IsQuiet a → c.unstated ≡ 0
quiet_counted c a is q =
    let quiet = subst IsQuiet is q in
    let whole = quiet.whole in
    omega (arith, whole)

-- ---- fields

-- a field isn't stated otherwise and isn't left unstated
pub record IsSettled (f : FieldValues) : Type 0 where
  pub same : ¬ (Differ f.values)
  pub told : same_standing (standing_of f.values) Unstated ≡ false

-- fields are settled where none of them breaks and none is unstated
settled_each : (fields breaks : List FieldValues) → AreBreaks fields breaks → breaks ≡ []
    → number_of Unstated fields ≡ 0 → Every IsSettled fields
settled_each [] breaks h none zeros = tt
settled_each (f ∷ fs) breaks (inl h) none zeros =
    let some : f ∷ h.1.0 ≡ [] = sym h.1.1 ∙ none in absurd (cc)
settled_each (f ∷ fs) breaks (inr h) none zeros =
    elim (cases_Bool (same_standing (standing_of f.values) Unstated)) [
      | inl holds ↦
          let one = counted_one (λ (g : FieldValues). same_standing (standing_of g.values) Unstated) f fs holds in
          absurd (omega (arith, one, zeros))
      | inr fails ↦
          let rest = counted_none (λ (g : FieldValues). same_standing (standing_of g.values) Unstated) f fs fails in
          (record { same = h.0; told = fails }, settled_each fs breaks h.1 none (sym rest ∙ zeros))
    ]

-- no field breaks where none is listed
no_fields : (place : BreakPlace) (fields : List FieldValues) → field_breaks place fields ≡ [] → fields ≡ []
no_fields place [] h = refl
no_fields place (f ∷ fs) h = absurd (cc)

-- fields are settled where their findings are quiet and none is unstated
pub settled : (place : BreakPlace) (fields : List FieldValues) (a : Findings) → AreFieldBreaks place fields a → IsQuiet a
    → number_of Unstated fields ≡ 0 → Every IsSettled fields
settled place fields a h q zeros =
    let none = no_fields place h.0 (sym (ap (λ (l : Findings). l.breaks) h.2) ∙ q.unbroken) in
    settled_each fields h.0 h.1 none zeros

-- the unstated fields of two lists are counted together
number_of_append : (xs ys : List FieldValues)
    → number_of Unstated (xs ++ ys) ≡ number_of Unstated xs + number_of Unstated ys
number_of_append [] ys = omega arith
number_of_append (f ∷ fs) ys =
    let rest = number_of_append fs ys in
    let whole = counted_first (λ (g : FieldValues). same_standing (standing_of g.values) Unstated) f (fs ++ ys) in
    let part = counted_first (λ (g : FieldValues). same_standing (standing_of g.values) Unstated) f fs in
    omega (arith, rest, whole, part)

-- where none of two lists is unstated, none of either is
pub unstated_append : (xs ys : List FieldValues) → number_of Unstated (xs ++ ys) ≡ 0
    → (number_of Unstated xs ≡ 0) × (number_of Unstated ys ≡ 0)
unstated_append xs ys zeros =
    let sum = number_of_append xs ys in (omega (arith, sum, zeros), omega (arith, sum, zeros))

-- ---- rows in no pair

-- a row of ours alone breaks
pub missing_loud : {X Y : Type 0} (Both : X → Y → Findings → Type 0) (place : BreakPlace) (value : X → Option Dec)
    (theirs : Y → Findings) (o : Option X) (x : X) (a : Findings) → o ≡ Some x
    → IsRow Both (λ z. ours_alone place (value z)) theirs o None a → IsQuiet a → ⊥
missing_loud Both place value theirs None x a at h q = absurd (none-some x at)
missing_loud Both place value theirs (Some z) x a at h q = told_loud (break_at place (what.Missing (value z))) a h q

-- so does a row of theirs alone
pub extra_loud : {X Y : Type 0} (Both : X → Y → Findings → Type 0) (ours : X → Findings) (place : BreakPlace) (places : ℕ)
    (value : Y → Option ℤ) (o : Option Y) (y : Y) (a : Findings) → o ≡ Some y
    → IsRow Both ours (λ z. theirs_alone place places (value z)) None o a → IsQuiet a → ⊥
extra_loud Both ours place places value None y a at h q = absurd (none-some y at)
extra_loud Both ours place places value (Some z) y a at h q =
    told_loud (break_at place (unpaired place.day places (value z))) a h q
