-- Reading file by file, and picking name by name.
use Rattle.std.proofs.Common.{◌≡◌, inl, inr, Bool, true, false, is_some, if◌then◌else◌, ℕ, zero, suc, ◌+◌, ◌<◌}
use Rattle.std.proofs.Common.{◌≤◌, List, [], ◌∷◌, ◌++◌, map, drop, length, get_or, Option, Some, None, Result, Ok, Vec}
use Rattle.std.proofs.Common.{Global, append_assoc, arith, refl, sym, ◌∙◌, ap, subst}
use Rattle.std.proofs.Math.Seq.{drop-cons}
use Rattle.std.proofs.lemmas.List.{append-nil}
use Rattle.std.proofs.lemmas.Bool.{cases_Bool}
use Rattle.irs_calendar.specs.declared.sections.Section.{Section}
use Rattle.irs_calendar.specs.Private.Files.{sections_of, in_file, then_file, calendars_in, SpotFails}
use Rattle.std.specs.Str.{bytes_eq}
use Rattle.irs_calendar.specs.Sections.{is_named, section_named, with_found, sections_named, first_missing}
use Rattle.irs_calendar.specs.Grammar.{Spot}

-- past the end of a list nothing is left
pub drop_all : {A : Type 0} (xs : List A) (i : ℕ) → length xs ≤ i → drop i xs ≡ []
drop_all [] zero h = refl
drop_all [] (suc i) h = refl
drop_all (x ∷ xs) zero h = absurd (omega (arith, h))
drop_all (x ∷ xs) (suc i) h = drop_all xs i (omega (arith, h))

-- the texts of the files
abbrev pub texts : List (Vec ℕ Global) → List (List ℕ)
texts files = map {A = Vec ℕ Global} {B = List ℕ} (λ f. f.items) files

next_text : (files : List (Vec ℕ Global)) (i : ℕ) (f : Vec ℕ Global) (text : List ℕ) → i < length files
    → f ≡ get_or files i f → text ≡ f.items → texts (drop i files) ≡ text ∷ texts (drop (i + 1) files)
next_text files i f text within is t =
    let k : i + 1 ≡ suc i = omega arith in
    rw (k, t) (ap texts (drop-cons files i f within ∙ ap (λ (g : Vec ℕ Global). g ∷ drop (suc i) files) (sym is)))

-- a file that is read hands its sections to the rest of the files
pub file_read : (k : ℕ) (done d : List Section) (files : List (Vec ℕ Global)) (i : ℕ) (f : Vec ℕ Global) (text : List ℕ)
    (whole : Result (List Section) Spot) → calendars_in k done (texts (drop i files)) ≡ whole → i < length files
    → f ≡ get_or files i f → text ≡ f.items → in_file k (sections_of done text) ≡ Ok d
    → calendars_in (k + 1) d (texts (drop (i + 1) files)) ≡ whole
unfolding calendars_in
file_read k done d files i f text whole kept within is t read =
    let a = subst (λ (ts : List (List ℕ)). calendars_in k done ts ≡ whole)
    (next_text files i f text within is t) kept in
    subst (λ (r : Result (List Section) Spot). then_file r (λ e. calendars_in (k + 1) e (texts (drop (i + 1) files)))
    ≡ whole) read a

-- a fault in a file is the fault of all
pub file_fails : (k : ℕ) (done : List Section) (files : List (Vec ℕ Global)) (i : ℕ) (f : Vec ℕ Global) (text : List ℕ)
    (whole : Result (List Section) Spot) (o : Option Spot) → calendars_in k done (texts (drop i files)) ≡ whole
    → i < length files → f ≡ get_or files i f → text ≡ f.items → SpotFails o (in_file k (sections_of done text))
    → SpotFails o whole
unfolding calendars_in
file_fails k done files i f text whole None kept within is t read = tt
file_fails k done files i f text whole (Some s) kept within is t read =
    let a = subst (λ (ts : List (List ℕ)). calendars_in k done ts ≡ whole)
    (next_text files i f text within is t) kept in
    sym (subst (λ (r : Result (List Section) Spot).
    then_file r (λ e. calendars_in (k + 1) e (texts (drop (i + 1) files))) ≡ whole) read a)

-- after the last file the sections so far are the result
pub files_end : (k : ℕ) (done : List Section) (files : List (Vec ℕ Global)) (i : ℕ) (whole : Result (List Section) Spot)
    → calendars_in k done (texts (drop i files)) ≡ whole → length files ≤ i → whole ≡ Ok done
unfolding calendars_in
files_end k done files i whole kept past =
    sym (subst (λ (fs : List (Vec ℕ Global)). calendars_in k done (texts fs) ≡ whole) (drop_all files i past) kept)

next_name : (names : List (List ℕ)) (i : ℕ) (n : List ℕ) → i < length names → n ≡ get_or names i n
    → drop i names ≡ n ∷ drop (i + 1) names
next_name names i n within is =
    let k : i + 1 ≡ suc i = omega arith in
    rw k (drop-cons names i n within ∙ ap (λ (l : List ℕ). l ∷ drop (suc i) names) (sym is))

-- a section with that name is found where one has it
pub found_is : (ss : List Section) (n : List ℕ) → is_named n ss ≡ is_some (section_named ss n)
found_is [] n = refl
found_is (s ∷ ss) n = elim (cases_Bool (bytes_eq s.name n)) [
  | inl t ↦ rw t refl
  | inr f ↦ rw f (found_is ss n)
]

-- what is picked so far, and what the names that are left pick
pub record Picks (ss front : List Section) (k : ℕ) (left names : List (List ℕ)) : Type 0 where
  pub missing : first_missing ss k left ≡ first_missing ss 1 names
  pub sections : front ++ sections_named ss left ≡ sections_named ss names

-- a centre that is found adds its section
pub name_found : (ss front : List Section) (k : ℕ) (names : List (List ℕ)) (i : ℕ) (n : List ℕ) (s : Section)
    → Picks ss front k (drop i names) names → i < length names → n ≡ get_or names i n → section_named ss n ≡ Some s
    → Picks ss (front ++ s ∷ []) (k + 1) (drop (i + 1) names) names
name_found ss front k names i n s picks within is found =
    let left = next_name names i n within is in
    let p = subst (λ (ns : List (List ℕ)). Picks ss front k ns names) left picks in
    let named : is_named n ss ≡ true = found_is ss n ∙ ap is_some found in
    record {
      missing = subst (λ (b : Bool). (if b then first_missing ss (k + 1) (drop (i + 1) names) else Some k)
          ≡ first_missing ss 1 names) named p.missing;
      sections = append_assoc front (s ∷ []) (sections_named ss (drop (i + 1) names))
          ∙ subst (λ (o : Option Section). front ++ with_found o (sections_named ss (drop (i + 1) names))
          ≡ sections_named ss names) found p.sections;
    }

-- a centre that isn't found is the first one missing
pub name_missing : (ss front : List Section) (k : ℕ) (names : List (List ℕ)) (i : ℕ) (n : List ℕ)
    → Picks ss front k (drop i names) names → i < length names → n ≡ get_or names i n → section_named ss n ≡ None
    → first_missing ss 1 names ≡ Some k
name_missing ss front k names i n picks within is missing =
    let left = next_name names i n within is in
    let p = subst (λ (ns : List (List ℕ)). Picks ss front k ns names) left picks in
    let named : is_named n ss ≡ false = found_is ss n ∙ ap is_some missing in
    sym (subst (λ (b : Bool). (if b then first_missing ss (k + 1) (drop (i + 1) names) else Some k)
    ≡ first_missing ss 1 names) named p.missing)

-- where each centre was found, the sections are those of the names
pub names_end : (ss front : List Section) (k : ℕ) (names : List (List ℕ)) (i : ℕ)
    → Picks ss front k (drop i names) names → length names ≤ i
    → (first_missing ss 1 names ≡ None) × (front ≡ sections_named ss names)
names_end ss front k names i picks past =
    let p = subst (λ (ns : List (List ℕ)). Picks ss front k ns names) (drop_all names i past) picks in
    (sym p.missing, sym (append-nil front) ∙ p.sections)
