-- What the fetch of files says of the files that the source states.
use Rattle.std.proofs.Common.{◌≡◌, inl, inr, ℕ, zero, suc, ◌+◌, ◌<◌, ◌≤◌, List, [], ◌∷◌, ◌++◌, length, map, take, drop}
use Rattle.std.proofs.Common.{get_or, Option, Some, None, refl, sym, ◌∙◌, ap, subst, arith}
use Rattle.std.specs.Prelude.{IfSome, IsErr, Result, Ok, Err}
use Rattle.std.specs.Result.{IsErrAnd}
use Rattle.std.proofs.lemmas.Bool.{cases_lt}
use Rattle.std.proofs.lemmas.List.{take_all, length-take-le, map_more, map-append}
use Rattle.irs_outside.specs.Outside.{Rose}
use Rattle.irs_answers.specs.declared.forms.Form.{Form}
use Rattle.irs_cli.specs.Commands.{form_of, Wanted}
use Rattle.irs_cli.specs.declared.commands.Named.{Named}
use Rattle.irs_cli.specs.declared.commands.Role.{Role}
use Rattle.irs_answers.specs.declared.files.TaskFiles.{TaskFiles}
use Rattle.irs_answers.specs.Forms.{Given, no_files, too_many}
use Rattle.irs_cli.specs.declared.fetching.Unfetched.{Unfetched}
use Rattle.irs_cli.specs.declared.fetching.Unfetched.TheVariants.{NoFile, TooLong, Memory}
use Rattle.irs_cli.specs.Private.Fetching.{wanted_by, OverAt, Stops, StopsOne, FetchesAll}
use Rattle.irs_cli.specs.Given.{Told, Gathers, ReachesFile, text_as, with_file, Holds, NotLong, FailedAt}
use Rattle.irs_cli.proofs.FileLemmas.{gathers_reach, gathers_more}

-- ---- the source states the same at a later call

-- a source states the same later as before
abbrev Same : Told → Told → Type 0
Same told later = (n : List ℕ) → later n ≡ told n

-- what a source holds later it held before
pub holds_before : (told later : Told) (name bytes : List ℕ) → Same told later → Holds later name bytes
    → Holds told name bytes
holds_before told later name bytes e h =
    (subst (λ (o : Option (List ℕ)). IfSome o (λ xs. bytes ≡ xs)) (e name) h.0, h.1)

-- what ended a later fetch would have ended an earlier one
pub stops_before : (told later : Told) (failed : Option (List ℕ)) (before mid now : ℕ) (name : List ℕ) (place : ℕ)
    (u : Unfetched) → Same told later → mid ≡ before → StopsOne later failed mid now name place u
    → StopsOne told failed before now name place u
stops_before told later failed before mid now name place (NoFile p) e q h =
    (h.0, h.1, subst (λ (n : ℕ). Rose n now) q h.2)
stops_before told later failed before mid now name place (TooLong p) e q h =
    (h.0, subst (λ (o : Option (List ℕ)). IfSome o (λ xs. too_many ≤ length xs)) (e name) h.1, h.2 ∙ q)
stops_before told later failed before mid now name place Memory e q h = tt

-- ---- a file that is held isn't too long

short_by : (o : Option (List ℕ)) (bytes : List ℕ) → IfSome o (λ xs. bytes ≡ xs) → length bytes < too_many
    → IfSome o (λ xs. length xs < too_many)
short_by None bytes h k = tt
short_by (Some xs) bytes h k = subst (λ (l : List ℕ). length l < too_many) h k

-- a file that was read is not too long
pub held_short : (told : Told) (w : Wanted) (bytes : List ℕ) → Holds told w.name bytes → NotLong told w
held_short told w bytes h = short_by (told w.name) bytes h.0 h.1

-- ---- the list of files, at one of them

split_suc : (xs : List Named) (i : ℕ) (n : Named) → i < length xs → n ≡ get_or xs i n
    → xs ≡ take i xs ++ n ∷ drop (suc i) xs
split_suc [] i n less e = absurd (omega (arith, less))
split_suc (x ∷ xs) zero n less e = ap (λ (y : Named). y ∷ xs) (sym e)
split_suc (x ∷ xs) (suc i) n less e = ap (λ (l : List Named). x ∷ l) (split_suc xs i n (omega (arith, less)) e)

split : (xs : List Named) (i : ℕ) (n : Named) → i < length xs → n ≡ get_or xs i n
    → xs ≡ take i xs ++ n ∷ drop (i + 1) xs
split xs i n less e = let k : suc i ≡ i + 1 = omega arith in
    split_suc xs i n less e ∙ ap (λ (j : ℕ). take i xs ++ n ∷ drop j xs) k

get_or_any : (xs : List Named) (i : ℕ) (d e : Named) → i < length xs → get_or xs i d ≡ get_or xs i e
get_or_any [] i d e less = absurd (omega (arith, less))
get_or_any (x ∷ xs) zero d e less = refl
get_or_any (x ∷ xs) (suc i) d e less = get_or_any xs i d e (omega (arith, less))

wanted_at : (xs : List Named) (i : ℕ) (n : Named) → i < length xs → n ≡ get_or xs i n
    → map wanted_by xs ≡ map wanted_by (take i xs) ++ wanted_by n ∷ map wanted_by (drop (i + 1) xs)
wanted_at xs i n less e =
    ap (λ (l : List Named). map wanted_by l) (split xs i n less e)
    ∙ map-append wanted_by (take i xs) (n ∷ drop (i + 1) xs)

reach_at : (told : Told) (Q : Wanted → Type 0) (xs : List Named) (i : ℕ) (n : Named) (g : Given) → i < length xs
    → n ≡ get_or xs i n → Gathers (Holds told) (map wanted_by (take i xs)) no_files g → Q (wanted_by n)
    → ReachesFile (NotLong told) Q (map wanted_by xs)
reach_at told Q xs i n g less e h q =
    subst (λ (l : List Wanted). ReachesFile (NotLong told) Q l) (sym (wanted_at xs i n less e))
    (gathers_reach (Holds told) (NotLong told) Q (map wanted_by (take i xs)) (map wanted_by (drop (i + 1) xs))
    (wanted_by n) no_files g (held_short told) h q)

-- a fetch that ends is at the place of its file
pub stops_at : (told : Told) (xs : List Named) (i : ℕ) (d : Named) (g : Given) (failed : Option (List ℕ))
    (before now : ℕ) (u : Unfetched) → i < length xs → Gathers (Holds told) (map wanted_by (take i xs)) no_files g
    → StopsOne told failed before now (get_or xs i d).name.now (get_or xs i d).place u
    → Stops told (map wanted_by xs) failed before now u
stops_at told xs i d g failed before now (NoFile p) less h s = (
  reach_at told (FailedAt failed p) xs i (get_or xs i d) g less (get_or_any xs i d (get_or xs i d) less) h
      (record { at = sym s.0; is_failed = s.1 }),
  s.2,
)
stops_at told xs i d g failed before now (TooLong p) less h s = (
  reach_at told (OverAt told p) xs i (get_or xs i d) g less (get_or_any xs i d (get_or xs i d) less) h
      (record { at = sym s.0; long = s.1 }),
  s.2,
)
stops_at told xs i d g failed before now Memory less h s = tt

-- a file is kept in the form that its name says
pub stored_as : (g h : Given) (role : Role) (name bytes : List ℕ) (form : Form)
    → h ≡ with_file g role (record { form = form; bytes = bytes }) → form ≡ form_of name
    → h ≡ with_file g role (text_as name bytes)
stored_as g h role name bytes form e k = e ∙ ap (λ (f : Form). with_file g role (record { form = f; bytes = bytes })) k

-- R holds of the next file too
pub gathered_more : (R : List ℕ → List ℕ → Type 0) (xs : List Named) (i : ℕ) (d : Named) (g h : Given) (bytes : List ℕ)
    → i < length xs → Gathers R (map wanted_by (take i xs)) no_files g → R (get_or xs i d).name.now bytes
    → h ≡ with_file g (get_or xs i d).role (text_as (get_or xs i d).name.now bytes)
    → Gathers R (map wanted_by (take (i + 1) xs)) no_files h
gathered_more R xs i d g h bytes less k held e =
    let n = get_or xs i d in
    let next = with_file g n.role (text_as n.name.now bytes) in
    let more : Gathers R (map wanted_by (take i xs) ++ wanted_by n ∷ []) no_files next =
    gathers_more R (map wanted_by (take i xs)) (wanted_by n) bytes no_files g k held in
    subst (λ (l : List Wanted). Gathers R l no_files h) (sym (map_more wanted_by xs i d less))
    (subst (λ (x : Given). Gathers R (map wanted_by (take i xs) ++ wanted_by n ∷ []) no_files x) (sym e) more)

-- the next file is held too
pub held_more : (told : Told) (xs : List Named) (i : ℕ) (d : Named) (g h : Given) (bytes : List ℕ) → i < length xs
    → Gathers (Holds told) (map wanted_by (take i xs)) no_files g → Holds told (get_or xs i d).name.now bytes
    → h ≡ with_file g (get_or xs i d).role (text_as (get_or xs i d).name.now bytes)
    → Gathers (Holds told) (map wanted_by (take (i + 1) xs)) no_files h
held_more told = gathered_more (Holds told)

-- an error of one fetch is that of all
pub all_by : (told : Told) (failed : Option (List ℕ)) (before now : ℕ) (ws : List Wanted)
    (r : Result TaskFiles Unfetched) (e : Unfetched) → IsErr r → IsErrAnd r (λ x. x ≡ e)
    → Stops told ws failed before now e → FetchesAll told failed before now ws r
all_by told failed before now ws (Ok f) e h k s = absurd k
all_by told failed before now ws (Err x) e h k s =
    subst (λ (u : Unfetched). Stops told ws failed before now u) (sym k) s

-- ---- the first bytes of a file

-- fewer bytes than requested are the whole file
pub front_whole : (n : ℕ) (o : Option (List ℕ)) (b : List ℕ) → IfSome o (λ xs. b ≡ take n xs) → length b < n
    → IfSome o (λ xs. b ≡ xs)
front_whole n None b h short = tt
front_whole n (Some xs) b h short = elim (cases_lt (length xs) n) [
  | inl less ↦ h ∙ take_all n xs (omega arith)
  | inr more ↦ let l : length (take n xs) ≡ n = length-take-le n xs more in
      let k : length b ≡ length (take n xs) = ap (λ (x : List ℕ). length x) h in absurd (omega arith)
]

-- as many bytes as requested mean a long file
pub front_long : (n : ℕ) (o : Option (List ℕ)) (b : List ℕ) → IfSome o (λ xs. b ≡ take n xs) → n ≤ length b
    → IfSome o (λ xs. n ≤ length xs)
front_long n None b h long = tt
front_long n (Some xs) b h long = elim (cases_lt (length xs) n) [
  | inl less ↦ let l : take n xs ≡ xs = take_all n xs (omega arith) in
      let k : length b ≡ length xs = ap (λ (x : List ℕ). length x) (h ∙ l) in absurd (omega arith)
  | inr more ↦ more
]
