-- What is read of the common files is also read of these with a trade's own files after them.
use Rattle.std.proofs.Common.{◌≡◌, ℕ, List, [], ◌∷◌, ◌++◌, Option, Some, None, Bool, true, false, refl, subst, sym}
use Rattle.std.proofs.Common.{Bor, Ok, Vec, String, ap, ◌∙◌}
use Rattle.std.proofs.lemmas.List.{append-nil}
use Rattle.std.specs.declared.alloc.Global.{Global}
use Rattle.std.specs.Prelude.{if◌then◌else◌, IfOk, IfSome, take}
use Rattle.std.specs.Str.{bytes_eq}
use Rattle.irs_answers.specs.Forms.{files_given_by, no_files, too_many}
use Rattle.irs_answers.specs.declared.common.Common.{Common}
use Rattle.irs_outside.specs.Outside.{IsFrontUnder}
use Rattle.irs_cli.specs.Commands.{Words, word_texts}
use Rattle.irs_cli.specs.Given.{Holds, IsGiven, files_with}
use Rattle.irs_cli.proofs.FetchLemmas.{front_whole}
use Rattle.irs_cli.proofs.SharingLemmas.{gathers_as}
use Rattle.irs_c.specs.Private.Each.{IsCommonIn, Made}
use Rattle.irs_c.specs.Each.{file_in, gives_in}
use Rattle.irs_c.specs.declared.given.File.{File}

first_of : (b : Bool) (x : List ℕ) (o p : Option (List ℕ)) (whole : List ℕ) → (o ≡ Some whole → p ≡ Some whole)
    → (if b then Some x else o) ≡ Some whole → (if b then Some x else p) ≡ Some whole
first_of true x o p whole more e = e
first_of false x o p whole more e = more e

-- a file that is there is the first of its name with more files after it
pub still_in : (fs own : List File) (name whole : List ℕ) → file_in fs name ≡ Some whole
    → file_in (fs ++ own) name ≡ Some whole
still_in [] own name whole e = absurd (cc)
still_in (f ∷ fs) own name whole e =
    first_of (bytes_eq f.name.at.now name) f.bytes.at.now (file_in fs name) (file_in (fs ++ own) name) whole
    (still_in fs own name whole) e

other_of : (b : Bool) (x : List ℕ) (o p q : Option (List ℕ)) → (o ≡ None → p ≡ q)
    → (if b then Some x else o) ≡ None → (if b then Some x else p) ≡ q
other_of true x o p q more e = absurd (cc)
other_of false x o p q more e = more e

-- a name that isn't there is looked for in the files after
pub looked_after : (fs own : List File) (name : List ℕ) → file_in fs name ≡ None
    → file_in (fs ++ own) name ≡ file_in own name
looked_after [] own name e = refl
looked_after (f ∷ fs) own name e =
    other_of (bytes_eq f.name.at.now name) f.bytes.at.now (file_in fs name) (file_in (fs ++ own) name)
    (file_in own name) (looked_after fs own name) e

front_still : (fs own : List File) (name : List ℕ) (most : ℕ) (bytes : List ℕ) (o : Option (List ℕ))
    → file_in fs name ≡ o → IsFrontUnder o most bytes → IsFrontUnder (file_in (fs ++ own) name) most bytes
front_still fs own name most bytes None e h = absurd h
front_still fs own name most bytes (Some whole) e h =
    subst (λ (p : Option (List ℕ)). IsFrontUnder p most bytes) (sym (still_in fs own name whole e)) h

given_still : (fs own : List File) (name bytes : List ℕ) → IsGiven (gives_in fs) name bytes
    → IsGiven (gives_in (fs ++ own)) name bytes
given_still fs own name bytes h = (front_still fs own name too_many bytes (file_in fs name) refl h.0, h.1)

front_if : (o : Option (List ℕ)) (most : ℕ) (bytes : List ℕ) → IsFrontUnder o most bytes
    → IfSome o (λ xs. bytes ≡ take most xs)
front_if None most bytes h = tt
front_if (Some whole) most bytes h = h

held_still : (fs own : List File) (name bytes : List ℕ) → IsGiven (gives_in fs) name bytes
    → Holds (file_in (fs ++ own)) name bytes
held_still fs own name bytes h =
    let o = file_in (fs ++ own) name in
    let front = front_still fs own name too_many bytes (file_in fs name) refl h.0 in
    (front_whole too_many o bytes (front_if o too_many bytes front) h.1, h.1)

-- what was read of the common files was read of them with a trade's own files after them
pub common_still : (ws : Words) (fs own : List File) (c : Common) → IsCommonIn ws fs c → IsCommonIn ws (fs ++ own) c
common_still ws fs own c h =
    let ns = files_with false h.asked.files in
    record {
      asked = h.asked;
      asks = h.asks;
      held = gathers_as (IsGiven (gives_in fs)) (Holds (file_in (fs ++ own))) (held_still fs own) ns no_files
          (files_given_by c.files) h.given;
      given = gathers_as (IsGiven (gives_in fs)) (IsGiven (gives_in (fs ++ own))) (given_still fs own) ns no_files
          (files_given_by c.files) h.given;
      read = h.read;
    }

-- what was read of the common files serves a source that has these files and then the trade's own
pub common_for : (ws : Words) (fs own gs go : List File) (o : Option (Bor Common)) → gs ≡ fs → go ≡ own
    → IfSome o (λ c. IsCommonIn ws fs c.now) → IfSome o (λ c. IsCommonIn ws (gs ++ go) c.now)
common_for ws fs own gs go None e k h = tt
common_for ws fs own gs go (Some c) e k h = rw (e, k) (common_still ws fs own c.now h)

-- what is read of a source that has the common files alone is read of these
pub common_read : (words : Made) (v : Vec (String Global) Global) (ws : List (String Global)) (fs gs go : List File)
    (o : Option Common) → words ≡ Ok v → ws ≡ v.items → gs ≡ fs → go ≡ [] → IfSome o (IsCommonIn (word_texts ws) (gs ++ go))
    → IfSome o (λ c. IfOk words (λ u. IsCommonIn (word_texts u.items) fs c))
common_read words v ws fs gs go None is same e k h = tt
common_read words v ws fs gs go (Some c) is same e k h =
    let all : gs ++ go ≡ fs = ap (λ (l : List File). gs ++ l) k ∙ append-nil gs ∙ e in
    let by_words : IsCommonIn (word_texts v.items) (gs ++ go) c =
    subst (λ (l : List (String Global)). IsCommonIn (word_texts l) (gs ++ go) c) same h in
    subst (λ (r : Made). IfOk r (λ u. IsCommonIn (word_texts u.items) fs c)) (sym is)
    (subst (λ (l : List File). IsCommonIn (word_texts v.items) l c) all by_words)
