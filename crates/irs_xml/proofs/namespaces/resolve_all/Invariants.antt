use Rattle.std.proofs.Common.{◌≡◌, ◌++◌, drop, map}
use Rattle.irs_xml.specs.Private.TagViews.{resolve, resolved_view, scope_view, setting_view}
use Rattle.irs_xml.proofs.namespaces.resolve_all.Given as goal

-- the names so far, with those of the attributes that are left, are the names of all attributes
abbrev pub invariant-loop-setting : goal.invariant-loop-setting
invariant-loop-setting l =
    map resolved_view l.names.items ++ map (resolve (scope_view l.scope)) (map setting_view (drop l.setting-index l.settings))
    ≡ map (resolve (scope_view l.scope)) (map setting_view l.settings)
