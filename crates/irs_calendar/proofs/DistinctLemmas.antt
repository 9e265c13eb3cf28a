-- Reading keeps names apart.
use Rattle.std.proofs.Common.{◌≡◌, inl, inr, ℕ, ◌+◌, Bool, true, false, ◌||◌, List, [], ◌∷◌, ◌++◌, Result, Ok, Err}
use Rattle.std.proofs.Common.{nat_le, length, refl, sym, ap, subst, ℤ, IfOk}
use Rattle.std.specs.Str.{bytes_eq}
use Rattle.std.proofs.lemmas.Slice.Eq.{bytes_eq-Decides}
use Rattle.std.proofs.lemmas.Bool.{cases_Bool}
use Rattle.irs_calendar.specs.declared.sections.Section.{Section}
use Rattle.irs_calendar.specs.declared.part.Part.{Part}
use Rattle.irs_calendar.specs.declared.part.Part.TheVariants.{Between, Named, Covered, Open}
use Rattle.irs_calendar.specs.declared.part.State.{State}
use Rattle.irs_base.specs.Limits.{most_holidays}
use Rattle.irs_calendar.specs.declared.machine.Fault.{Fault}
use Rattle.irs_calendar.specs.declared.calendars.CalErr.{CalErr}
use Rattle.irs_calendar.specs.Grammar.{Said, Nothing, Center, Cover, Weekend, Holiday, Wrong, line_said, seen_lines}
use Rattle.irs_calendar.specs.Grammar.{Spot}
use Rattle.irs_calendar.specs.Private.Files.{begun, after_center, after_cover, after_weekend, after_holiday, after_line}
use Rattle.irs_calendar.specs.Private.Files.{at_end, fits_section, Place, numbered, then_read, sections_in, sections_of}
use Rattle.irs_calendar.specs.Private.Files.{in_file, then_file, calendars_in, GivesAll}
use Rattle.irs_calendar.specs.Sections.{is_named, AreDistinct}
use Rattle.irs_calendar.proofs.RisingLemmas.{not_true}

-- where neither is, both are false
pub or_false : (a b : Bool) → (a || b) ≡ false → (a ≡ false) × (b ≡ false)
or_false true b h = absurd (cc)
or_false false b h = (refl, h)

both_false : (a b : Bool) → a ≡ false → b ≡ false → (a || b) ≡ false
both_false a b h k = rw (h, k) refl

-- names differ in either order
pub turned : (n m : List ℕ) → bytes_eq n m ≡ false → bytes_eq m n ≡ false
turned n m h =
    not_true (bytes_eq m n) (λ t. let e = (bytes_eq-Decides m n).0 t in let u = (bytes_eq-Decides n m).1 (sym e) in
    cc (u, h))

-- a name that is in no section is in none after a section of another name is added
pub named_behind : (n : List ℕ) (ss : List Section) (s : Section) → is_named n ss ≡ false → bytes_eq s.name n ≡ false
    → is_named n (ss ++ s ∷ []) ≡ false
named_behind n [] s h k = both_false (bytes_eq s.name n) false k refl
named_behind n (t ∷ ts) s h k = let p = or_false (bytes_eq t.name n) (is_named n ts) h in
    both_false (bytes_eq t.name n) (is_named n (ts ++ s ∷ [])) p.0 (named_behind n ts s p.1 k)

-- a section with a new name at the end
pub distinct_push : (ss : List Section) (s : Section) → AreDistinct ss → is_named s.name ss ≡ false
    → AreDistinct (ss ++ s ∷ [])
distinct_push [] s h k = (refl, tt)
distinct_push (t ∷ ts) s h k =
    let p = or_false (bytes_eq t.name s.name) (is_named s.name ts) k in
    (named_behind t.name ts s h.0 (turned t.name s.name p.0), distinct_push ts s h.1 p.1)

-- the section at hand has a new name
abbrev pub IsNew : List Section → Part → Type 0
IsNew done Between = Unit {0}
IsNew done (Named n) = is_named n done ≡ false
IsNew done (Covered n a b) = is_named n done ≡ false
IsNew done (Open s) = is_named s.name done ≡ false

-- the centres of the sections so far differ, and so does that of the section at hand
pub record Apart (s : State) : Type 0 where
  pub done : AreDistinct s.done
  pub part : IsNew s.done s.part

begun_apart : (done : List Section) (n : List ℕ) (t : State) → AreDistinct done → begun done n ≡ Ok t → Apart t
begun_apart done n t h e = elim (cases_Bool (is_named n done)) [
  | inl yes' ↦ absurd (let k = rw yes' at e in cc k)
  | inr new ↦ subst Apart (same_ok (rw new at e)) (record { done = h; part = new })
]
  where
    same_ok : {A E : Type 0} {x y : A} → ◌≡◌ {A = Result A E} (Ok x) (Ok y) → x ≡ y
    same_ok e = cc e

center_apart : (done : List Section) (part : Part) (n : List ℕ) (t : State) → AreDistinct done → IsNew done part
    → after_center done part n ≡ Ok t → Apart t
center_apart done Between n t h k e = begun_apart done n t h e
center_apart done (Named m) n t h k e = absurd (cc e)
center_apart done (Covered m a b) n t h k e = absurd (cc e)
center_apart done (Open s) n t h k e = begun_apart (done ++ s ∷ []) n t (distinct_push done s h k) e

-- two results with the same state have one state
pub same_state : {E : Type 0} {x y : State} → ◌≡◌ {A = Result State E} (Ok x) (Ok y) → x ≡ y
same_state e = cc e

cover_apart : (done : List Section) (part : Part) (a b : ℤ) (t : State) → AreDistinct done → IsNew done part
    → after_cover done part a b ≡ Ok t → Apart t
cover_apart done Between a b t h k e = absurd (cc e)
cover_apart done (Named m) a b t h k e = subst Apart (same_state e) (record { done = h; part = k })
cover_apart done (Covered m c d) a b t h k e = absurd (cc e)
cover_apart done (Open s) a b t h k e = absurd (cc e)

weekend_apart : (done : List Section) (part : Part) (w : List Bool) (t : State) → AreDistinct done → IsNew done part
    → after_weekend done part w ≡ Ok t → Apart t
weekend_apart done Between w t h k e = absurd (cc e)
weekend_apart done (Named m) w t h k e = absurd (cc e)
weekend_apart done (Covered m c d) w t h k e = subst Apart (same_state e) (record { done = h; part = k })
weekend_apart done (Open s) w t h k e = absurd (cc e)

holiday_apart : (done : List Section) (part : Part) (d : ℤ) (t : State) → AreDistinct done → IsNew done part
    → after_holiday done part d ≡ Ok t → Apart t
holiday_apart done Between d t h k e = absurd (cc e)
holiday_apart done (Named m) d t h k e = absurd (cc e)
holiday_apart done (Covered m a b) d t h k e = absurd (cc e)
holiday_apart done (Open s) d t h k e = elim (cases_Bool (fits_section s d)) [
  | inl fits ↦
      let e' = rw fits at e in
      elim (cases_Bool (nat_le most_holidays (length s.holidays))) [
        | inl full ↦ absurd (let x = rw full at e' in cc x)
        | inr room ↦ subst Apart (same_state (rw room at e')) (record { done = h; part = k })
      ]
  | inr not ↦ absurd (let x = rw not at e in cc x)
]

line_apart : (s t : State) (said : Said) → Apart s → after_line s said ≡ Ok t → Apart t
line_apart s t Nothing h e = subst Apart (same_state e) h
line_apart s t (Center n) h e = center_apart s.done s.part n t h.done h.part e
line_apart s t (Cover a b) h e = cover_apart s.done s.part a b t h.done h.part e
line_apart s t (Weekend w) h e = weekend_apart s.done s.part w t h.done h.part e
line_apart s t (Holiday d) h e = holiday_apart s.done s.part d t h.done h.part e
line_apart s t Wrong h e = absurd (cc e)

end_apart : (done : List Section) (part : Part) (ss : List Section) → AreDistinct done → IsNew done part
    → at_end done part ≡ Ok ss → AreDistinct ss
end_apart done Between ss h k e = subst AreDistinct (same_list e) h
  where
    same_list : {E : Type 0} {x y : List Section} → ◌≡◌ {A = Result (List Section) E} (Ok x) (Ok y) → x ≡ y
    same_list e = cc e
end_apart done (Named m) ss h k e = absurd (cc e)
end_apart done (Covered m a b) ss h k e = absurd (cc e)
end_apart done (Open s) ss h k e = subst AreDistinct (same_list e) (distinct_push done s h k)
  where
    same_list : {E : Type 0} {x y : List Section} → ◌≡◌ {A = Result (List Section) E} (Ok x) (Ok y) → x ≡ y
    same_list e = cc e

-- a step that succeeds with its line number succeeds without it
pub numbered_ok : {A : Type 0} (n : ℕ) (r : Result A Fault) (x : A) → numbered n r ≡ Ok x → r ≡ Ok x
numbered_ok n (Ok y) x e = ap (λ z. Ok z) (cc e)
numbered_ok n (Err f) x e = absurd (cc e)

-- where two steps succeed, so does the first
pub then_ok : {A B : Type 0} (r : Result A Place) (f : A → Result B Place) (y : B) → then_read r f ≡ Ok y
    → (x : A) × (r ≡ Ok x) × (f x ≡ Ok y)
then_ok (Ok x) f y e = (x, refl, e)
then_ok (Err p) f y e = absurd (cc e)

-- the centres of a file that is read differ
pub sections_apart : (n : ℕ) (s : State) (ls : List (List ℕ)) (ss : List Section) → Apart s → sections_in n s ls ≡ Ok ss
    → AreDistinct ss
unfolding sections_in
sections_apart n s [] ss h e = end_apart s.done s.part ss h.done h.part (numbered_ok n (at_end s.done s.part) ss e)
sections_apart n s (l ∷ ls) ss h e =
    let p = then_ok (numbered n (after_line s (line_said l))) (λ t. sections_in (n + 1) t ls) ss e in
    sections_apart (n + 1) p.0 ls ss
    (line_apart s p.0 (line_said l) h (numbered_ok n (after_line s (line_said l)) p.0 p.1)) p.2

-- a step that succeeds with its file number succeeds without it
pub file_ok : {A : Type 0} (k : ℕ) (r : Result A Place) (x : A) → in_file k r ≡ Ok x → r ≡ Ok x
file_ok k (Ok y) x e = ap (λ z. Ok z) (cc e)
file_ok k (Err f) x e = absurd (cc e)

-- where two files are read, so is the first
pub then_file_ok : {A B : Type 0} (r : Result A Spot) (f : A → Result B Spot) (y : B) → then_file r f ≡ Ok y
    → (x : A) × (r ≡ Ok x) × (f x ≡ Ok y)
then_file_ok (Ok x) f y e = (x, refl, e)
then_file_ok (Err p) f y e = absurd (cc e)

-- the centres of all files that are read differ
pub calendars_apart : (k : ℕ) (done : List Section) (fs : List (List ℕ)) (ss : List Section) → AreDistinct done
    → calendars_in k done fs ≡ Ok ss → AreDistinct ss
unfolding calendars_in
calendars_apart k done [] ss h e = subst AreDistinct (same_list e) h
  where
    same_list : {E : Type 0} {x y : List Section} → ◌≡◌ {A = Result (List Section) E} (Ok x) (Ok y) → x ≡ y
    same_list e = cc e
calendars_apart k done (f ∷ fs) ss h e =
    let p = then_file_ok (in_file k (sections_of done f)) (λ d. calendars_in (k + 1) d fs) ss e in
    let apart = sections_apart 1 (record { done = done; part = Between }) (seen_lines f) p.0
    (record { done = h; part = tt }) (file_ok k (sections_of done f) p.0 p.1) in
    calendars_apart (k + 1) p.0 fs ss apart p.2

-- the centres of a result that gives all sections differ
pub given_apart : (r : Result (List Section) CalErr) (fs : List (List ℕ)) → GivesAll r (calendars_in 1 [] fs)
    → IfOk r (λ ss. AreDistinct ss)
given_apart (Ok ss) fs h = calendars_apart 1 [] fs ss tt h
given_apart (Err e) fs h = tt
