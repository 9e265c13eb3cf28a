use Rattle.std.proofs.Common.{ap, ◌∙◌}
use Rattle.serde_json.specs.Data.{array}
use Rattle.serde_json.specs.View.{items_view}
use Rattle.serde_json.proofs.Views.{view-Array}
use Rattle.irs_xml.proofs.MemberLemmas.{items_view-push}
use Rattle.irs_xml.proofs.members.longer.Goals as goal

pub returns : goal.returns
returns c =
    view-Array c.push.new.self ∙ ap (λ vs. array (items_view vs)) c.in_ok-push.ensures.items
    ∙ ap array (items_view-push c.args.items.items c.args.next)
