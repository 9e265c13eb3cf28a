use Rattle.std.proofs.Common.{◌≡◌, [], map}
use Rattle.irs_xml.specs.Content.{most_attributes}
use Rattle.irs_xml.specs.Private.Reading.{settings_at}
use Rattle.irs_xml.specs.Private.TagViews.{setting_view}
use Rattle.irs_xml.proofs.tags.settings.Given as goal

-- what is left, after the attributes so far, gives what the whole gives
abbrev pub invariant-attributes : goal.invariant-attributes
invariant-attributes l = settings_at l.left (map setting_view l.settings.items) l.reader ≡ settings_at most_attributes [] l.initial.reader

-- each attribute that is read leaves one less to be allowed
abbrev pub decreases-attributes : goal.decreases-attributes
decreases-attributes l = l.left
