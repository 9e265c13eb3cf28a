-- Reading line by line.
use Rattle.std.proofs.Common.{◌≡◌, ℕ, ◌+◌, ◌≤◌, List, [], ◌∷◌, length, Result, Ok, Err, arith, sym, subst}
use Rattle.irs_calendar.specs.declared.sections.Section.{Section}
use Rattle.irs_calendar.specs.declared.part.State.{State}
use Rattle.irs_calendar.specs.declared.files.FileErr.{FileErr}
use Rattle.irs_calendar.specs.declared.files.FileErr.TheVariants as errors
use Rattle.irs_calendar.specs.Private.Files.{after_line, at_end, Place, numbered, then_read, sections_in, FileFails}
use Rattle.irs_calendar.specs.Grammar.{line_said, seen_from}
use Rattle.irs_base.specs.Texts.{lines_of}

-- a line that is read hands its state to the next line
pub goes_on : (n : ℕ) (s t : State) (line : List ℕ) (lines more : List (List ℕ)) (whole : Result (List Section) Place)
    → sections_in n s lines ≡ whole → lines ≡ line ∷ more → numbered n (after_line s (line_said line)) ≡ Ok t
    → sections_in (n + 1) t more ≡ whole
unfolding sections_in
goes_on n s t line lines more whole kept split read =
    let k = subst (λ (ls : List (List ℕ)). sections_in n s ls ≡ whole) split kept in
    subst (λ (r : Result State Place). then_read r (λ u. sections_in (n + 1) u more) ≡ whole) read k

-- a line at fault ends the file with its fault
pub stops : (n : ℕ) (s : State) (line : List ℕ) (lines more : List (List ℕ)) (whole : Result (List Section) Place)
    (e : Place) → sections_in n s lines ≡ whole → lines ≡ line ∷ more → numbered n (after_line s (line_said line)) ≡ Err e
    → whole ≡ Err e
unfolding sections_in
stops n s line lines more whole e kept split read =
    let k = subst (λ (ls : List (List ℕ)). sections_in n s ls ≡ whole) split kept in
    sym (subst (λ (r : Result State Place). then_read r (λ u. sections_in (n + 1) u more) ≡ whole) read k)

-- a line that fails ends the file so
pub fails : (n : ℕ) (s : State) (line : List ℕ) (lines more : List (List ℕ)) (whole : Result (List Section) Place)
    (e : FileErr) → sections_in n s lines ≡ whole → lines ≡ line ∷ more
    → FileFails e (numbered n (after_line s (line_said line))) → FileFails e whole
fails n s line lines more whole errors.Memory kept split read = tt
fails n s line lines more whole (errors.Fault f k) kept split read =
    stops n s line lines more whole (f, k) kept split read

-- after the last line the state at the end is the result
pub ended : (n before : ℕ) (s : State) (rest : List ℕ) (whole : Result (List Section) Place)
    → sections_in n s (seen_from before (lines_of rest)) ≡ whole → length rest ≤ 0 → numbered n (at_end s.done s.part) ≡ whole
unfolding sections_in
ended n before s [] whole kept none = kept
ended n before s (b ∷ bs) whole kept none = absurd (omega (arith, none))
