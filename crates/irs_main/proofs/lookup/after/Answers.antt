use Rattle.std.proofs.Common.{ℕ, List, ap, codes, ◌∙◌}
use Rattle.irs_main.proofs.TableLaws.{after_are}
use Rattle.irs_main.specs.Rules.{text_at}
use Rattle.irs_main.proofs.lookup.after.Goals as goal

pub returns : goal.returns
returns c =
    c.text_at.ensures ∙ ap (λ (list : List (List ℕ)). text_at list c.args.row (codes " breaks this rule")) after_are
