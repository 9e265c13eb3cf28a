-- The list of centres is visible ASCII.
use Rattle.std.proofs.Common.{◌≡◌, ℕ, ◌<◌, ◌^◌, ◌==◌, Bool, true, false, List, [], ◌∷◌, ◌++◌, codes, length, refl, take}
use Rattle.std.proofs.Common.{arith, if◌then◌else◌}
use Rattle.std.proofs.lemmas.Bool.{and_parts}
use Rattle.std.specs.Prelude.{◌&&◌, nat_le, nat_lt, decimal}
use Rattle.irs_base.proofs.EveryLemmas.{every_both}
use Rattle.irs_base.proofs.VisibleTexts.{spells_decimal}
use Rattle.irs_base.specs.Texts.{AreDigits}
use Rattle.irs_base.specs.Lists.{Every}
use Rattle.irs_main.specs.Shown.{count_text, name_after, names_text, other_name, names_after_first, more_text}
use Rattle.irs_main.specs.Shown.{IsVisible, dots, most_shown, shown_front}
use Rattle.irs_main.proofs.VisibleLaws.{bytes_visible}

-- ---- texts of the program

abbrev is_seen : ℕ → Bool
is_seen b = nat_le 32 b && nat_le b 126

abbrev are_seen : List ℕ → Bool
are_seen [] = true
are_seen (b ∷ bs) = is_seen b && are_seen bs

seen : (b : ℕ) → is_seen b ≡ true → IsVisible b
seen b is = grind arith

all_seen : (bytes : List ℕ) → are_seen bytes ≡ true → Every IsVisible bytes
all_seen [] is = tt
all_seen (b ∷ bs) is = let both = and_parts (is_seen b) (are_seen bs) is in (seen b both.0, all_seen bs both.1)

-- ---- a name

dots_by : (long : Bool) → Every IsVisible (if long then codes "..." else [])
dots_by true = all_seen (codes "...") refl
dots_by false = tt

name_visible : (before name : List ℕ) → Every IsVisible before → Every IsVisible (name_after before name)
name_visible before name h =
    let shown = shown_front name in
    let end = dots name ++ [] in
    every_both IsVisible before (shown ++ end) h
    (every_both IsVisible shown end (bytes_visible (take most_shown name))
    (every_both IsVisible (dots name) [] (dots_by (nat_lt most_shown (length name))) tt))

others_visible : (names : List (List ℕ)) → Every IsVisible (names_after_first names)
others_visible [] = tt
others_visible (name ∷ names) =
    every_both IsVisible (other_name name) (names_after_first names)
    (name_visible (codes ", ") name (all_seen (codes ", ") refl)) (others_visible names)

-- ---- how many more there are

digits_visible : (ds : List ℕ) → AreDigits ds → Every IsVisible ds
digits_visible [] h = tt
digits_visible (d ∷ ds) h = ((omega (arith, h.0), omega (arith, h.1)), digits_visible ds h.2)

count_visible : (more : ℕ) → more < 2 ^ 64 → Every IsVisible (count_text more)
count_visible more small =
    let digits = decimal more in
    let end = codes " more" ++ [] in
    every_both IsVisible (codes " and ") (digits ++ end) (all_seen (codes " and ") refl)
    (every_both IsVisible digits end (digits_visible digits (spells_decimal more small).0)
    (all_seen end refl))

more_by : (none : Bool) (more : ℕ) → more < 2 ^ 64 → Every IsVisible (if none then [] else count_text more)
more_by true more small = tt
more_by false more small = count_visible more small

-- ---- the list

-- each byte of a list is visible ASCII
pub list_visible : (names : List (List ℕ)) (more : ℕ) → more < 2 ^ 64 → Every IsVisible (names_text names more)
list_visible [] more small = all_seen (codes "; the calendar files have no centre") refl
list_visible (name ∷ names) more small =
    let intro = codes "; the calendar files have " in
    let others = names_after_first names in
    every_both IsVisible (name_after intro name) (others ++ more_text more)
    (name_visible intro name (all_seen intro refl))
    (every_both IsVisible others (more_text more) (others_visible names) (more_by (more == 0) more small))
