-- The lines of a file as they are read.
use Rattle.std.proofs.Common.{◌≡◌, inl, inr, ℕ, ◌+◌, ◌==◌, Bool, true, false, ◌&&◌, List, [], ◌∷◌, length}
use Rattle.std.proofs.Common.{refl, ap, arith}
use Rattle.std.proofs.lemmas.Bool.{cases_Bool}
use Rattle.irs_base.specs.Texts.{begins_feed, lines_of, with_byte}
use Rattle.irs_calendar.specs.Grammar.{bad_line, is_none, seen_from, Wrong, line_said}
use Rattle.irs_calendar.specs.Private.Files.{EndsTruly}

some_with : (b : ℕ) (ls : List (List ℕ)) → is_none (with_byte b ls) ≡ false
some_with b [] = refl
some_with b (l ∷ ls) = refl

feed_first : (bs : List ℕ) → begins_feed bs ≡ true → is_none (lines_of bs) ≡ false
feed_first [] h = absurd (cc)
feed_first (b ∷ bs) h = rw h refl

-- where there are bytes, there is a line
some_lines : (b : ℕ) (bs : List ℕ) → is_none (lines_of (b ∷ bs)) ≡ false
some_lines b bs = elim (cases_Bool (b == 10)) [
  | inl feed ↦ rw feed refl
  | inr other ↦ elim (cases_Bool (b == 13 && begins_feed bs)) [
    | inl return ↦ rw (other, return) (behind b bs return)
    | inr byte ↦ rw (other, byte) (some_with b (lines_of bs))
  ]
]
  where
    fed : (c d : Bool) → (c && d) ≡ true → d ≡ true
    fed true d h = h
    fed false d h = absurd (cc)

    behind : (b : ℕ) (bs : List ℕ) → (b == 13 && begins_feed bs) ≡ true → is_none (lines_of bs) ≡ false
    behind b bs h = feed_first bs (fed (b == 13) (begins_feed bs) h)

-- the last line is the one with no bytes after it
pub last_line : (last : Bool) (more : List ℕ) → last ≡ (length more == 0) → is_none (lines_of more) ≡ last
last_line last [] h = cc
last_line last (b ∷ bs) h = grind (arith, h, some_lines b bs)

-- lines with a true end line, or with none, are read as they are
pub truly_seen : (before : ℕ) (ls : List (List ℕ)) → EndsTruly before ls → seen_from before ls ≡ ls
truly_seen before [] h = refl
truly_seen before (l ∷ ls) h =
    rw h.0 (ap (λ (x : List (List ℕ)). l ∷ x) (truly_seen (before + 1) ls h.1))

-- a false end line is outside the grammar
pub bad_is_wrong : line_said bad_line ≡ Wrong
bad_is_wrong = refl
