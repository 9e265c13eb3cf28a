use Rattle.std.proofs.Common.{◌≡◌, drop, map}
use Rattle.std.specs.List.{list_any}
use Rattle.irs_xml.specs.Private.TagViews.{is_alike, resolved_view}
use Rattle.irs_xml.proofs.namespaces.is_like_any.Given as goal

-- some name is like this one just where some name that is left is
abbrev pub invariant-loop-other : goal.invariant-loop-other
invariant-loop-other l =
    list_any (is_alike (resolved_view l.name)) (map resolved_view (drop l.other-index l.others))
    ≡ list_any (is_alike (resolved_view l.name)) (map resolved_view l.others)
