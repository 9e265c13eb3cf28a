use Rattle.std.proofs.Common.{◌≡◌, string_bytes, ap, ◌∙◌, option_map}
use Rattle.serde_json.specs.Data.{put}
use Rattle.serde_json.specs.Find.{get_member}
use Rattle.serde_json.specs.View.{view, members_view}
use Rattle.serde_json.proofs.Views.{members_view-insert_entry, view-lookup}
use Rattle.irs_xml.specs.Content.{joined_values, without}
use Rattle.irs_xml.proofs.MemberLemmas.{members_view-remove_entry}
use Rattle.irs_xml.proofs.members.put_child.Goals as goal

pub returns : goal.returns
returns c =
    let old = c.args.members.now.entries in
    let name = string_bytes c.args.name in
    let named : c.as_str.result.now ≡ name = c.as_str.ensures.value in
    let left : members_view c.remove-first.new.self.entries ≡ without name (members_view old) =
    ap members_view c.remove-first.ensures.entries ∙ members_view-remove_entry c.as_str.result.now old
    ∙ ap (λ n. without n (members_view old)) named in
    let found : option_map view c.remove-first.result ≡ get_member name (members_view old) =
    ap (option_map view) c.remove-first.ensures.value ∙ view-lookup c.as_str.result.now old
    ∙ ap (λ n. get_member n (members_view old)) named in
    ap members_view c.in_ok-insert.ensures.entries
    ∙ members_view-insert_entry c.remove-first.new.self.entries c.args.name c.in_ok-joined.joined
    ∙ ap (λ ms. put name (view c.in_ok-joined.joined) ms) left
    ∙ ap (λ d. put name d (without name (members_view old))) (c.in_ok-joined.ensures
    ∙ ap (λ o. joined_values o (view c.args.value)) found)
