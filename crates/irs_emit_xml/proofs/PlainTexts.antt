-- The texts of leaves are of characters that are plain in XML, since irs_emit says that they are plain in JSON and XML.
use Rattle.std.proofs.Common.{◌≡◌, ℕ, ◌^◌, ◌<◌, ◌≤◌, true, List, ℤ, unsigned_abs, arith}
use Rattle.std.proofs.lemmas.Bool.Decides.{nat_tests}
use Rattle.std.specs.Fmt.{signed_decimal}
use Rattle.std.specs.List.{All, list_all}
use Rattle.irs_base.specs.Days.{IsDay}
use Rattle.irs_base.specs.Texts.{day_text, dec_text}
use Rattle.irs_emit.proofs.PlainTexts as plain
use Rattle.irs_emit.specs.Private.Texts.{is_leaf_char}
use Rattle.irs_emit_xml.specs.Trees.{is_unescaped}
use Rattle.irs_emit_xml.proofs.Rules.{all_then}

-- all characters are plain
abbrev pub ArePlain : List ℕ → Type 0
ArePlain cs = list_all is_unescaped cs ≡ true

plain_char : (c : ℕ) → is_leaf_char c ≡ true → is_unescaped c ≡ true
unfolding is_leaf_char is_unescaped
plain_char c h = grind (arith, nat_tests)

in_xml : (cs : List ℕ) → list_all is_leaf_char cs ≡ true → ArePlain cs
in_xml cs h = all_then is_leaf_char is_unescaped cs plain_char h

-- the text of a day is plain
pub day_plain : (d : ℤ) → IsDay d → ArePlain (day_text d)
day_plain d h = in_xml (day_text d) (plain.day_plain d h)

-- the text of a number is plain
pub dec_plain : (z : ℤ) (places : ℕ) → unsigned_abs z < 2 ^ 128 → ArePlain (dec_text z places)
dec_plain z places h = in_xml (dec_text z places) (plain.dec_plain z places h)

-- the text of a whole number is plain
pub whole_plain : (z : ℤ) → unsigned_abs z < 2 ^ 128 → ArePlain (signed_decimal z)
whole_plain z h = in_xml (signed_decimal z) (plain.whole_plain z h)

-- capital letters are plain
pub capitals_plain : (s : List ℕ) → All (λ c. (65 ≤ c) × (c ≤ 90)) s → ArePlain s
capitals_plain s h = in_xml s (plain.capitals_plain s h)
