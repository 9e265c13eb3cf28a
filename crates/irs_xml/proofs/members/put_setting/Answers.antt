use Rattle.std.proofs.Common.{◌≡◌, ◌∷◌, string_bytes, ap, ◌∙◌, rules}
use Rattle.serde_json.specs.Data.{put, string}
use Rattle.serde_json.specs.View.{view, members_view}
use Rattle.serde_json.proofs.Views.{members_view-insert_entry}
use Rattle.irs_xml.proofs.members.put_setting.Goals as goal

pub returns : goal.returns
returns c =
    let old = c.args.members.now.entries in
    let spelt : string_bytes c.push_str.new.self ≡ 64 ∷ c.args.setting.now.local.now = search rules in
    let says : view c.in_ok-value.value ≡ string (string_bytes c.args.setting.now.value) = search rules in
    ap members_view c.in_ok-insert.ensures.entries ∙ members_view-insert_entry old c.push_str.new.self c.in_ok-value.value
    ∙ ap (λ k. put k (view c.in_ok-value.value) (members_view old)) spelt
    ∙ ap (λ d. put (64 ∷ c.args.setting.now.local.now) d (members_view old)) says
