use Rattle.std.proofs.Common.{◌≡◌, drop, map}
use Rattle.std.specs.List.{list_all}
use Rattle.std.specs.Prelude.{is_some}
use Rattle.irs_xml.specs.Private.TagViews.{resolved_view}
use Rattle.irs_xml.proofs.namespaces.have_namespaces.Given as goal

-- all prefixes are declared just where those that are left are
abbrev pub invariant-loop-name : goal.invariant-loop-name
invariant-loop-name l =
    list_all (λ r. is_some r.1) (map resolved_view (drop l.name-index l.names)) ≡ list_all (λ r. is_some r.1) (map resolved_view l.names)
