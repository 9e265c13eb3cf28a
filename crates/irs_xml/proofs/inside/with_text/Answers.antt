use Rattle.std.proofs.Common.{◌≡◌, string_bytes, ap, ◌∙◌, rules}
use Rattle.std.specs.Prelude.{codes}
use Rattle.serde_json.specs.Data.{object, put, string}
use Rattle.serde_json.specs.View.{view, members_view}
use Rattle.serde_json.specs.declared.value.Value.{String, the_lemmas}
use Rattle.serde_json.proofs.Views.{members_view-insert_entry, view-Object}
use Rattle.irs_xml.proofs.inside.with_text.Goals as goal

pub returns : goal.returns
returns c =
    let old = c.args.members.entries in
    let key : string_bytes c.in_ok-from_str.field-0 ≡ codes "#text" = c.in_ok-from_str.ensures.ok in
    let says : view (String c.args.text) ≡ string (string_bytes c.args.text) = search (rules, the_lemmas) in
    view-Object c.insert.new.self ∙ ap object (ap members_view c.in_ok-insert.ensures.entries
    ∙ members_view-insert_entry old c.in_ok-from_str.field-0 (String c.args.text)
    ∙ ap (λ k. put k (view (String c.args.text)) (members_view old)) key
    ∙ ap (λ d. put (codes "#text") d (members_view old)) says)
