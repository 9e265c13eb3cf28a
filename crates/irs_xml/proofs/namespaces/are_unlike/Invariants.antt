use Rattle.std.proofs.Common.{◌≡◌, drop, map}
use Rattle.irs_xml.specs.Private.TagViews.{are_distinct, resolved_view}
use Rattle.irs_xml.proofs.namespaces.are_unlike.Given as goal

-- all names are distinct just where those that are left are
abbrev pub invariant-loop-index : goal.invariant-loop-index
invariant-loop-index l = are_distinct (map resolved_view (drop l.index l.names)) ≡ are_distinct (map resolved_view l.names)
