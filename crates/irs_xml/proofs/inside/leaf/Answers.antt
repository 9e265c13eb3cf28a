use Rattle.std.proofs.Common.{◌≡◌, true, false, string_bytes, sym, ap, ◌∙◌}
use Rattle.std.proofs.lemmas.Result.{IfOk-weaker}
use Rattle.serde_json.proofs.Views.{view-Object}
use Rattle.irs_xml.specs.Characters.{is_white}
use Rattle.irs_xml.proofs.LeafLemmas.{leaf_white, leaf_text}
use Rattle.irs_xml.proofs.inside.leaf.Goals as goal

pub returns-then-is_white : goal.returns-then-is_white
returns-then-is_white c =
    let white : is_white (string_bytes c.args.text) ≡ true = ap is_white (sym c.as_str.ensures.value) ∙ sym c.is_white.ensures ∙ c.if-is_white.true in
    view-Object c.args.members ∙ sym (leaf_white (string_bytes c.args.text) c.args.members.entries (λ e. absurd (cc (c.if-is_empty.ensures.1 e))) white)

pub returns : goal.returns
returns c =
    let black : is_white (string_bytes c.args.text) ≡ false = ap is_white (sym c.as_str.ensures.value) ∙ sym c.is_white.ensures ∙ c.if-is_white.false in
    IfOk-weaker c.with_text.result _ _ (λ v is. is ∙ sym (leaf_text (string_bytes c.args.text) c.args.members.entries (λ e. absurd (cc (c.if-is_empty.ensures.1 e))) black)) c.with_text.ensures
