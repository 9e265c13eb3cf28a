-- The characters of a text, one after another.
use Rattle.std.proofs.Common.{◌≡◌, ◌≢◌, ◌<◌, ℕ, Bool, true, false, cond, ◌&&◌, List, [], ◌∷◌, ◌++◌, length, drop, Some, None, nat_eq, refl, sym, ap, subst, ◌∙◌, arith}
use Rattle.std.proofs.lemmas.Bool.Decides.{nat_tests}
use Rattle.std.proofs.lemmas.Str.{chars_past_char, chars-nil, chars-append, encode_ascii, encodes-chars, IsCharBoundary-after_ascii, IsUtf8-drop}
use Rattle.std.specs.List.{slice_get}
use Rattle.std.specs.Str.{chars, encode_utf8_all, IsUtf8, IsCharBoundary}
use Rattle.std.specs.Char.{encode_utf8}
use Rattle.irs_xml.specs.Characters.{ends_after, rest_after, seen}
use Rattle.irs_xml.proofs.Steps.{after_complete}

other : (b : Bool) (c : ℕ) (cs : List ℕ) → c ≢ 13 → (b ≡ true → c ≢ 10) → ends_after b (c ∷ cs) ≡ c ∷ ends_after false cs
unfolding ends_after
other b c cs h k = grind (arith, nat_tests)

-- an empty text has no characters
pub seen_nothing : (bs : List ℕ) → length bs ≡ 0 → seen bs ≡ []
unfolding seen ends_after
seen_nothing [] e = rw chars-nil refl
seen_nothing (b ∷ bs) e = absurd (omega arith)

-- a character other than CR is seen as it is
pub seen_other : (bs rest : List ℕ) (c : ℕ) → IsUtf8 bs → bs ≡ encode_utf8 c ++ rest → c ≢ 13 → seen bs ≡ c ∷ seen rest
unfolding seen
seen_other bs rest c u e h = ap (ends_after false) (chars_past_char bs rest c u e) ∙ other false c (chars rest) h (λ t. cc)

-- the first byte of a text: there is none
pub seen_none : (bs : List ℕ) → None ≡ slice_get bs 0 → seen bs ≡ []
seen_none [] e = seen_nothing [] refl
seen_none (b ∷ bs) e = absurd (cc e)

-- it is ASCII, so a text may be cut after it
pub cut_ascii : (bs : List ℕ) (b : ℕ) → IsUtf8 bs → Some b ≡ slice_get bs 0 → b < 128 → IsCharBoundary bs 1
cut_ascii [] b u e l = absurd (cc e)
cut_ascii (x ∷ bs) b u e l =
    let same : b ≡ x = cc e in
    IsCharBoundary-after_ascii (x ∷ bs) 0 u (omega arith) (subst (λ y. y < 128) same l)

-- it is ASCII, so the text begins with it as a character
pub front_ascii : (text : List ℕ) (b : ℕ) → Some b ≡ slice_get text 0 → b < 128 → text ≡ encode_utf8 b ++ drop 1 text
front_ascii [] b e l = absurd (cc e)
front_ascii (x ∷ bs) b e l =
    let same : x ≡ b = cc e in
    ap (λ y. y ∷ bs) same ∙ ap (λ t. t ++ bs) (sym (encode_ascii b l))

-- it is ASCII, so it is the first character
pub seen_ascii : (bs : List ℕ) (b : ℕ) → IsUtf8 bs → Some b ≡ slice_get bs 0 → b < 128 → b ≢ 13 → seen bs ≡ b ∷ seen (drop 1 bs)
seen_ascii [] b u e l n = absurd (cc e)
seen_ascii (x ∷ bs) b u e l n =
    let same : x ≡ b = cc e in
    seen_other (x ∷ bs) bs b u (ap (λ y. y ∷ bs) same ∙ ap (λ t. t ++ bs) (sym (encode_ascii b l))) n

returned : (cs : List ℕ) → ends_after false (13 ∷ cs) ≡ 10 ∷ ends_after true cs
unfolding ends_after
returned cs = refl

fed : (cs : List ℕ) → ends_after true (10 ∷ cs) ≡ ends_after false cs
unfolding ends_after
fed cs = refl

-- CR is seen as LF
pub seen_return : (bs rest : List ℕ) → IsUtf8 bs → bs ≡ encode_utf8 13 ++ rest → seen bs ≡ 10 ∷ ends_after true (chars rest)
unfolding seen
seen_return bs rest u e = ap (ends_after false) (chars_past_char bs rest 13 u e) ∙ returned (chars rest)

-- LF after CR isn't seen again
pub behind_feed : (rest more : List ℕ) → IsUtf8 rest → rest ≡ encode_utf8 10 ++ more → ends_after true (chars rest) ≡ seen more
unfolding seen
behind_feed rest more u e = ap (ends_after true) (chars_past_char rest more 10 u e) ∙ fed (chars more)

alone : (cs : List ℕ) → ((more : List ℕ) → cs ≡ 10 ∷ more → ⊥) → ends_after true cs ≡ ends_after false cs
unfolding ends_after
alone [] h = refl
alone (c ∷ cs) h =
    let apart : c ≢ 10 = λ e. h cs (ap (λ x. x ∷ cs) e) in
    grind (arith, nat_tests)

encode_feed : (more : List ℕ) → encode_utf8 10 ++ more ≡ 10 ∷ more
unfolding encode_utf8
encode_feed more = refl

-- after CR anything but LF is seen as it is
pub behind_alone : (rest : List ℕ) → IsUtf8 rest → ((more : List ℕ) → rest ≡ 10 ∷ more → ⊥) → ends_after true (chars rest) ≡ seen rest
unfolding seen
behind_alone rest u h = alone (chars rest) (λ more e.
    h (encode_utf8_all more) (sym (encodes-chars rest u) ∙ ap encode_utf8_all e ∙ encode_feed (encode_utf8_all more)))

joined : (s t : Bool) (x : ℕ) (a b p q r : List ℕ) → a ≡ p ++ r → b ≡ q ++ r
    → cond s (10 ∷ a) (cond t b (x ∷ b)) ≡ cond s (10 ∷ p) (cond t q (x ∷ q)) ++ r
joined true t x a b p q r e f = ap (λ l. 10 ∷ l) e
joined false true x a b p q r e f = f
joined false false x a b p q r e f = ap (λ l. x ∷ l) f

ends_split : (b : Bool) (xs cs : List ℕ) → ends_after true cs ≡ ends_after false cs
    → ends_after b (xs ++ cs) ≡ ends_after b xs ++ ends_after false cs
unfolding ends_after
ends_split true [] cs h = h
ends_split false [] cs h = refl
ends_split b (x ∷ xs) cs h =
    joined (nat_eq x 13) (b && nat_eq x 10) x (ends_after true (xs ++ cs)) (ends_after false (xs ++ cs)) (ends_after true xs) (ends_after false xs)
    (ends_after false cs) (ends_split true xs cs h) (ends_split false xs cs h)

seen_split : (xs rest : List ℕ) → IsUtf8 xs → ends_after true (chars rest) ≡ seen rest → seen (xs ++ rest) ≡ seen xs ++ seen rest
unfolding seen
seen_split xs rest u h = ap (ends_after false) (chars-append xs rest u) ∙ ends_split false (chars xs) (chars rest) h

behind_word : (text word rest : List ℕ) → text ≡ word ++ rest → IsUtf8 word → IsUtf8 rest → ((more : List ℕ) → rest ≡ 10 ∷ more → ⊥)
    → rest_after (seen word) (seen text) ≡ Some (seen rest)
behind_word text word rest e u v h =
    ap (λ t. rest_after (seen word) (seen t)) e ∙ ap (rest_after (seen word)) (seen_split word rest u (behind_alone rest v h))
    ∙ after_complete (seen word) (seen rest)

-- a name in front is taken, where no LF follows it
pub behind_cut : (text word rest : List ℕ) (n : ℕ) → n ≡ length word → text ≡ word ++ drop n text → IsCharBoundary text (length word)
    → rest ≡ drop n text → IsUtf8 text → IsUtf8 word → ((more : List ℕ) → rest ≡ 10 ∷ more → ⊥)
    → rest_after (seen word) (seen text) ≡ Some (seen rest)
behind_cut text word rest n k e b r u w h =
    let utf8 : IsUtf8 rest = subst IsUtf8 (sym (r ∙ ap (λ i. drop i text) k)) (IsUtf8-drop text (length word) u b) in
    behind_word text word rest (e ∙ ap (λ t. word ++ t) (sym r)) w utf8 h
