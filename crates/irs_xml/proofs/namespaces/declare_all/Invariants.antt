use Rattle.std.proofs.Common.{◌≡◌, ◌++◌, drop, map}
use Rattle.irs_xml.specs.Tags.{declarations}
use Rattle.irs_xml.specs.Private.TagViews.{scope_view, setting_view}
use Rattle.irs_xml.proofs.namespaces.declare_all.Given as goal

-- the declarations so far, with those that are left, are all of them
abbrev pub invariant-loop-setting : goal.invariant-loop-setting
invariant-loop-setting l =
    scope_view l.scope.items ++ declarations (map setting_view (drop l.setting-index l.settings))
    ≡ scope_view l.initial.scope.items ++ declarations (map setting_view l.settings)
