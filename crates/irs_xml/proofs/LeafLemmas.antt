-- The value of an element without children.
use Rattle.std.proofs.Common.{◌≡◌, ◌≢◌, ℕ, true, false, List, [], ◌∷◌, length, refl, arith}
use Rattle.std.specs.Prelude.{codes}
use Rattle.serde_json.specs.Data.{object, string, put}
use Rattle.serde_json.specs.View.{members_view}
use Rattle.serde_json.proofs.Views.{Entry}
use Rattle.irs_xml.specs.Characters.{is_white}
use Rattle.irs_xml.specs.Content.{leaf_value}

-- an element without members is its text
pub leaf_bare : (text : List ℕ) (es : List Entry) → length es ≡ 0 → leaf_value text (members_view es) ≡ string text
leaf_bare text [] e = refl
leaf_bare text (x ∷ es) e = absurd (omega (arith, e))

-- an element with members and only white space has no text
pub leaf_white : (text : List ℕ) (es : List Entry) → length es ≢ 0 → is_white text ≡ true → leaf_value text (members_view es) ≡ object (members_view es)
leaf_white text [] n w = absurd (n refl)
leaf_white text (x ∷ es) n w = rw w refl

-- an element with members and a text has its text as `#text`
pub leaf_text : (text : List ℕ) (es : List Entry) → length es ≢ 0 → is_white text ≡ false
    → leaf_value text (members_view es) ≡ object (put (codes "#text") (string text) (members_view es))
leaf_text text [] n w = absurd (n refl)
leaf_text text (x ∷ es) n w = rw w refl
