-- The findings of a row of the pairing, by its members on both sides.
use Rattle.std.proofs.Common.{◌≡◌, ℕ, ◌+◌, ◌<◌, ◌≤◌, List, [], ◌∷◌, ◌++◌, length, take, get_or, Option, Some, None}
use Rattle.std.proofs.Common.{ℤ, refl, sym, subst, ap, ◌∙◌}
use Rattle.std.proofs.lemmas.List.{map-append, take_all}
use Rattle.irs_breaks.specs.Findings.{EachRow, Exactly, Findings, Then, joined_findings, no_findings, one_break, Differ}
use Rattle.irs_breaks.specs.Private.Findings.{Adds}
use Rattle.std.proofs.lemmas.Option.{none-some}
use Rattle.irs_terms.specs.declared.results.Exchange.{Exchange}
use Rattle.irs_schedule.specs.Parts.{KeepsBounds, Part}
use Rattle.irs_audit.proofs.BoundLemmas.{exchange_decimals}
use Rattle.irs_breaks.specs.BreakLists.{AreFieldBreaks, FindsRows, IsRow, break_at, field_breaks, member_at}
use Rattle.irs_breaks.specs.Pairing.{IsPairing}
use Rattle.irs_breaks.specs.declared.dated.PairedRow.{PairedRow}
use Rattle.irs_breaks.specs.declared.findings.Break.{Break}
use Rattle.irs_breaks.specs.declared.findings.BreakPlace.{BreakPlace}
use Rattle.irs_breaks.specs.declared.findings.What.TheVariants as what
use Rattle.irs_breaks.specs.declared.values.FieldValues.{FieldValues}
use Rattle.irs_breaks.proofs.CountSteps.{break_read, same_read}
use Rattle.irs_breaks.proofs.Joining.{adds_then, joined_assoc, joined_nothing}

-- ---- rows that both sides have, or one side, or neither

-- where both sides have the row, the findings of the pair are added
pub adds_both : {X Y : Type 0} (Both : X → Y → Findings → Type 0) (ours : X → Findings) (theirs : Y → Findings)
    (o : Option X) (q : Option Y) (x : X) (y : Y) (a b : Findings) → Some x ≡ o → Some y ≡ q → Adds (Both x y) a b
    → Adds (IsRow Both ours theirs o q) a b
adds_both Both ours theirs o q x y a b e f h =
    subst (λ o. Adds (IsRow Both ours theirs o q) a b) e (subst (λ q. Adds (IsRow Both ours theirs (Some x) q) a b) f h)

-- where only ours has the row, its finding is added
pub adds_ours : {X Y : Type 0} (Both : X → Y → Findings → Type 0) (ours : X → Findings) (theirs : Y → Findings)
    (o : Option X) (q : Option Y) (x : X) (a b : Findings) → Some x ≡ o → None ≡ q → b ≡ joined_findings a (ours x)
    → Adds (IsRow Both ours theirs o q) a b
adds_ours Both ours theirs o q x a b e f h =
    subst (λ o. Adds (IsRow Both ours theirs o q) a b) e
    (subst (λ q. Adds (IsRow Both ours theirs (Some x) q) a b) f (ours x, refl, h))

-- where only theirs has the row, its finding is added
pub adds_theirs : {X Y : Type 0} (Both : X → Y → Findings → Type 0) (ours : X → Findings) (theirs : Y → Findings)
    (o : Option X) (q : Option Y) (y : Y) (a b : Findings) → None ≡ o → Some y ≡ q → b ≡ joined_findings a (theirs y)
    → Adds (IsRow Both ours theirs o q) a b
adds_theirs Both ours theirs o q y a b e f h =
    subst (λ o. Adds (IsRow Both ours theirs o q) a b) e
    (subst (λ q. Adds (IsRow Both ours theirs None q) a b) f (theirs y, refl, h))

-- where neither side has the row, nothing is added
pub adds_neither : {X Y : Type 0} (Both : X → Y → Findings → Type 0) (ours : X → Findings) (theirs : Y → Findings)
    (o : Option X) (q : Option Y) (a : Findings) → None ≡ o → None ≡ q → Adds (IsRow Both ours theirs o q) a a
adds_neither Both ours theirs o q a e f =
    subst (λ o. Adds (IsRow Both ours theirs o q) a a) e
    (subst (λ q. Adds (IsRow Both ours theirs None q) a a) f (no_findings, refl, sym (joined_nothing a)))

-- ---- fields

-- no fields add nothing
pub fields_none : (place : BreakPlace) (a : Findings) → Adds (AreFieldBreaks place []) a a
fields_none place a = (no_findings, ([], refl, refl), sym (joined_nothing a))

-- each of these fields breaks at the place
abbrev broken : BreakPlace → List FieldValues → Findings
broken place fields = record { breaks = field_breaks place fields; pairs = [] }

broken_more : (place : BreakPlace) (fields : List FieldValues) (f : FieldValues)
    → joined_findings (broken place fields) (one_break (break_at place (what.Field f))) ≡ broken place (fields ++ f ∷ [])
broken_more place fields f =
    ap (λ (z : List Break). record { breaks = z; pairs = [] })
    (sym (map-append (λ (g : FieldValues). break_at place (what.Field g)) fields (f ∷ [])))

-- one more field that differs is a break
pub field_more : (place : BreakPlace) (fields : List FieldValues) (i : ℕ) (f : FieldValues) (a b c : Findings) → i < length fields
    → f ≡ get_or fields i f → Adds (AreFieldBreaks place (take i fields)) a b → Differ f.values
    → c ≡ joined_findings b (one_break (break_at place (what.Field f))) → Adds (AreFieldBreaks place (take (i + 1) fields)) a c
field_more place fields i f a b c within is h differs e =
    let new = one_break (break_at place (what.Field f)) in (
      broken place (h.1.0 ++ f ∷ []),
      (h.1.0 ++ f ∷ [], break_read fields h.1.0 i f within is h.1.1 differs, refl),
      e ∙ (ap (λ (z : Findings). joined_findings z new) h.2 ∙ (joined_assoc a h.0 new
          ∙ ap (joined_findings a) (ap (λ (z : Findings). joined_findings z new) h.1.2 ∙ broken_more place h.1.0 f))),
    )

-- one more field that doesn't differ adds nothing
pub field_same : (place : BreakPlace) (fields : List FieldValues) (i : ℕ) (f : FieldValues) (a b : Findings) → i < length fields
    → f ≡ get_or fields i f → Adds (AreFieldBreaks place (take i fields)) a b → ¬ (Differ f.values)
    → Adds (AreFieldBreaks place (take (i + 1) fields)) a b
field_same place fields i f a b within is h same =
    (h.0, (h.1.0, same_read fields h.1.0 i f within is h.1.1 same, h.1.2), h.2)

-- the breaks of all fields have been added
pub fields_all : (place : BreakPlace) (fields : List FieldValues) (i : ℕ) (a b : Findings) → length fields ≤ i
    → Adds (AreFieldBreaks place (take i fields)) a b → Adds (AreFieldBreaks place fields) a b
fields_all place fields i a b h k =
    subst (λ (z : List FieldValues). Adds (AreFieldBreaks place z) a b) (take_all i fields h) k

-- known findings, followed by others that were added
pub counted_then : (wanted : Findings) (Q : Findings → Type 0) (a b c : Findings) → b ≡ joined_findings a wanted → Adds Q b c
    → Adds (Then (Exactly wanted) Q) a c
counted_then wanted Q a b c e h = adds_then (Exactly wanted) Q a b c (wanted, refl, e) h

-- the amount of an exchange of the schedule has at most twelve decimals
pub exchange_few : (p : Part) (place : Option ℕ) (x : Exchange) → KeepsBounds p → Some x ≡ member_at p.exchanges place
    → x.amount.places ≤ 12
exchange_few p None x h e = absurd (none-some x (sym e))
exchange_few p (Some n) x h e = exchange_decimals p n x h (sym e)

-- the findings of all rows of a pairing have been added
pub adds_told : (from : ℤ) (ours theirs : List (Option ℤ)) (Told : PairedRow → Findings → Type 0) (rows : List PairedRow)
    (a b : Findings) → IsPairing from ours theirs rows → Adds (EachRow Told rows) a b → Adds (FindsRows from ours theirs Told) a b
adds_told from ours theirs Told rows a b paired h = (h.0, record { rows = rows; paired = paired; each = h.1 }, h.2)
