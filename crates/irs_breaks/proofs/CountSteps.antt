-- One more field in the counts and in the breaks.
use Rattle.std.proofs.Common.{◌≡◌, inl, inr, ℕ, ◌+◌, ◌<◌, List, [], ◌∷◌, ◌++◌, length, take, get_or, cond, refl, sym, subst, ap, ◌∙◌}
use Rattle.std.proofs.lemmas.List.{take_more}
use Rattle.std.proofs.lemmas.List.Sums.{sum_by_more}
use Rattle.irs_breaks.specs.Findings.{AreBreaks, number_of, same_standing, Differ, standing_of}
use Rattle.irs_breaks.specs.declared.values.FieldValues.{FieldValues}
use Rattle.irs_breaks.specs.declared.values.Standing.{Standing}

-- one more field adds one to the count of its own kind
pub number_more : (way : Standing) (fields : List FieldValues) (i : ℕ) (d : FieldValues) → i < length fields
    → number_of way (take (i + 1) fields)
    ≡ number_of way (take i fields) + cond (same_standing (standing_of (get_or fields i d).values) way) 1 0
number_more way fields i d h = sum_by_more (λ f. cond (same_standing (standing_of f.values) way) 1 0) fields i d h

-- no fields count zero
pub number_none : (way : Standing) (fields : List FieldValues) → number_of way (take 0 fields) ≡ 0
number_none way fields = refl

-- a field that differs is one more break
pub break_push : (fs bs : List FieldValues) (f : FieldValues) → AreBreaks fs bs → Differ f.values
    → AreBreaks (fs ++ f ∷ []) (bs ++ f ∷ [])
break_push [] bs f h differs = inl (differs, ([], ap (λ (z : List FieldValues). z ++ f ∷ []) h, refl))
break_push (g ∷ fs) bs f (inl h) differs =
    inl (h.0, (h.1.0 ++ f ∷ [], ap (λ (z : List FieldValues). z ++ f ∷ []) h.1.1, break_push fs h.1.0 f h.1.2 differs))
break_push (g ∷ fs) bs f (inr h) differs = inr (h.0, break_push fs bs f h.1 differs)

-- a field that doesn't differ leaves the breaks as they are
pub same_push : (fs bs : List FieldValues) (f : FieldValues) → AreBreaks fs bs → ¬ (Differ f.values)
    → AreBreaks (fs ++ f ∷ []) bs
same_push [] bs f h same = inr (same, h)
same_push (g ∷ fs) bs f (inl h) same = inl (h.0, (h.1.0, h.1.1, same_push fs h.1.0 f h.1.2 same))
same_push (g ∷ fs) bs f (inr h) same = inr (h.0, same_push fs bs f h.1 same)

-- the next field of a list is one more break where it differs
pub break_more : (fields bs : List FieldValues) (i : ℕ) (d : FieldValues) → i < length fields → AreBreaks (take i fields) bs
    → Differ (get_or fields i d).values → AreBreaks (take (i + 1) fields) (bs ++ get_or fields i d ∷ [])
break_more fields bs i d within h differs =
    subst (λ (z : List FieldValues). AreBreaks z (bs ++ get_or fields i d ∷ [])) (sym (take_more fields i d within))
    (break_push (take i fields) bs (get_or fields i d) h differs)

-- the next field of a list leaves the breaks as they are where it doesn't differ
pub same_more : (fields bs : List FieldValues) (i : ℕ) (d : FieldValues) → i < length fields → AreBreaks (take i fields) bs
    → ¬ (Differ (get_or fields i d).values) → AreBreaks (take (i + 1) fields) bs
same_more fields bs i d within h same =
    subst (λ (z : List FieldValues). AreBreaks z bs) (sym (take_more fields i d within))
    (same_push (take i fields) bs (get_or fields i d) h same)

-- the next field of a list adds one to the count of the way in which it is counted
pub standing_more : (way : Standing) (fields : List FieldValues) (i : ℕ) (d : FieldValues) (s : Standing) → i < length fields
    → standing_of (get_or fields i d).values ≡ s
    → number_of way (take (i + 1) fields) ≡ number_of way (take i fields) + cond (same_standing s way) 1 0
standing_more way fields i d s within is =
    number_more way fields i d within
    ∙ ap (λ (z : Standing). number_of way (take i fields) + cond (same_standing z way) 1 0) is

-- ---- for a field that was read

-- a field that was read and differs is one more break
pub break_read : (fields bs : List FieldValues) (i : ℕ) (f : FieldValues) → i < length fields → f ≡ get_or fields i f
    → AreBreaks (take i fields) bs → Differ f.values → AreBreaks (take (i + 1) fields) (bs ++ f ∷ [])
break_read fields bs i f within is h differs =
    subst (λ (g : FieldValues). AreBreaks (take (i + 1) fields) (bs ++ g ∷ [])) (sym is)
    (break_more fields bs i f within h (subst (λ (g : FieldValues). Differ g.values) is differs))

-- a field that was read and doesn't differ leaves the breaks as they are
pub same_read : (fields bs : List FieldValues) (i : ℕ) (f : FieldValues) → i < length fields → f ≡ get_or fields i f
    → AreBreaks (take i fields) bs → ¬ (Differ f.values) → AreBreaks (take (i + 1) fields) bs
same_read fields bs i f within is h same =
    same_more fields bs i f within h (λ differs. same (subst (λ (g : FieldValues). Differ g.values) (sym is) differs))
