use Rattle.std.proofs.Common.{◌≡◌, drop, map}
use Rattle.std.specs.List.{list_all}
use Rattle.irs_xml.specs.Tags.{is_lawful}
use Rattle.irs_xml.specs.Private.TagViews.{setting_view}
use Rattle.irs_xml.proofs.namespaces.are_lawful.Given as goal

-- all attributes may declare what they declare just where those that are left may
abbrev pub invariant-loop-setting : goal.invariant-loop-setting
invariant-loop-setting l =
    list_all is_lawful (map setting_view (drop l.setting-index l.settings)) ≡ list_all is_lawful (map setting_view l.settings)
