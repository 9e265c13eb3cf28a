use Rattle.std.proofs.Common.{ap, ◌∙◌, map}
use Rattle.serde_json.specs.View.{view}
use Rattle.irs_json.proofs.Views.{items_of-Array}
use Rattle.irs_json.proofs.values.listed.Goals as goal

pub returns-in-Array : goal.returns-in-Array
returns-in-Array c = ap (map view) c.as_slice.ensures.value ∙ items_of-Array _ _ c.in-Array.is
