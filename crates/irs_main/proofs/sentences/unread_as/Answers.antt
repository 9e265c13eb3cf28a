use Rattle.std.proofs.Common.{refl, ◌∙◌}
use Rattle.irs_main.proofs.sentences.unread_as.Goals as goal

pub returns : goal.returns
returns c =
    c.of_parts.ensures
    ∙ rw c.column_stopped.ensures
    (rw c.line_stopped.ensures (rw c.after_in.ensures (rw c.name_words.ensures (rw c.path_in.ensures
    (rw c.before-2.ensures refl)))))
