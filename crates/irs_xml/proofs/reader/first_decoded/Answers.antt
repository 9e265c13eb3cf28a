use Rattle.std.proofs.Common.{◌∷◌, ◌++◌, None, Some, sym, ap, ◌∙◌, lit<}
use Rattle.std.proofs.lemmas.Str.{encode_ascii}
use Rattle.std.proofs.lemmas.Str.Pattern.{strip_prefix_char}
use Rattle.std.specs.Char.{encode_utf8}
use Rattle.irs_xml.specs.Characters.{seen}
use Rattle.irs_xml.proofs.Seeing.{seen_nothing, seen_other, seen_return, behind_feed, behind_alone}
use Rattle.irs_xml.proofs.reader.first_decoded.Goals as goal

pub returns-in_err-first : goal.returns-in_err-first
returns-in_err-first c =
    rw (c.from_residual.ensures) (ap seen (sym c.chars-rest.ensures.rest) ∙ seen_nothing _ c.in_err-first.ensures.steps.0.0)

pub returns-then-first-ne13 : goal.returns-then-first-ne13
returns-then-first-ne13 c =
    seen_other _ _ _ c.utf8.text (sym c.chars-rest.ensures.rest ∙ c.in_ok-first.ensures.steps.0) c.if-first-ne13.true
    ∙ ap (λ t. c.in_ok-first.first ∷ seen t) (sym c.as_str.ensures)

pub returns-in-None : goal.returns-in-None
returns-in-None c =
    let starts = sym c.chars-rest.ensures.rest ∙ c.in_ok-first.ensures.steps.0
    ∙ ap (λ x. encode_utf8 x ++ c.next.new.self.rest.now) c.if-first-ne13.false in
    let no_feed = strip_prefix_char 10 c.as_str-2.result.now None c.in-None.ensures.cases (lit< tt) in
    seen_return _ _ c.utf8.text (starts ∙ ap (λ t. encode_utf8 13 ++ t) (sym c.as_str-2.ensures))
    ∙ ap (λ t. 10 ∷ t) (behind_alone _ c.as_str-2.utf8 no_feed)
    ∙ ap (λ t. 10 ∷ seen t) (c.as_str-2.ensures ∙ sym c.as_str-in-None.ensures)

pub returns-in-Some : goal.returns-in-Some
returns-in-Some c =
    let starts = sym c.chars-rest.ensures.rest ∙ c.in_ok-first.ensures.steps.0
    ∙ ap (λ x. encode_utf8 x ++ c.next.new.self.rest.now) c.if-first-ne13.false in
    let feed = strip_prefix_char 10 c.as_str-2.result.now (Some c.in-Some.behind) c.in-Some.ensures.cases (lit< tt) in
    let spelt = feed ∙ ap (λ e. e ++ c.in-Some.behind.now) (sym (encode_ascii 10 (lit< tt))) in
    seen_return _ _ c.utf8.text (starts ∙ ap (λ t. encode_utf8 13 ++ t) (sym c.as_str-2.ensures))
    ∙ ap (λ t. 10 ∷ t) (behind_feed _ _ c.as_str-2.utf8 spelt)
