use Rattle.std.proofs.Common.{refl, ◌∙◌}
use Rattle.irs_main.proofs.sentences.no_flows.Goals as goal

pub returns : goal.returns
returns c = c.unread_as.ensures ∙ rw (c.row_of_shape.ensures, c.file_name-name.ensures) refl
