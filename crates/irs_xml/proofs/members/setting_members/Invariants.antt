use Rattle.std.proofs.Common.{◌≡◌, drop, map}
use Rattle.serde_json.specs.Data.{no_members}
use Rattle.serde_json.specs.View.{members_view}
use Rattle.irs_xml.specs.Private.TagViews.{setting_view}
use Rattle.irs_xml.specs.Content.{with_settings}
use Rattle.irs_xml.proofs.members.setting_members.Given as goal

-- the attributes that are left, added to the members so far, give what all of them give
abbrev pub invariant-loop-setting : goal.invariant-loop-setting
invariant-loop-setting l =
    with_settings (map setting_view (drop l.setting-index l.settings)) (members_view l.members.entries)
    ≡ with_settings (map setting_view l.settings) no_members
