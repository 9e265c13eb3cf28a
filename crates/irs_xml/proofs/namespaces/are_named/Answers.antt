use Rattle.std.proofs.Common.{◌&&◌, List, map, ap, ◌∙◌}
use Rattle.std.specs.List.{list_all}
use Rattle.std.specs.Prelude.{is_some}
use Rattle.irs_xml.specs.Private.TagViews.{Resolved, are_distinct, resolved_view, scope_view, setting_view}
use Rattle.irs_xml.proofs.Resolving.{resolved_apart}
use Rattle.irs_xml.proofs.namespaces.are_named.Goals as goal

pub returns : goal.returns
returns c =
    c.are_apart.ensures
    ∙ ap (λ (rs : List Resolved). list_all (λ (r : Resolved). is_some r.1) rs && are_distinct rs)
    (ap (map resolved_view) c.as_slice.ensures.value ∙ c.in_ok-names.ensures)
    ∙ resolved_apart (scope_view c.args.scope.now) (map setting_view c.args.settings.now)
