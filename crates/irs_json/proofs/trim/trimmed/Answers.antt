use Rattle.irs_json.proofs.Trims.{past_first, past_last, trim_stays}
use Rattle.irs_json.proofs.trim.trimmed.Goals as goal
use Rattle.std.proofs.Common.{ℕ, List, length, ◌-◌, ap, sym, ◌∙◌}
use Rattle.std.specs.Prelude.{slice_get}

pub returns-then-is_past_space-2 : goal.returns-then-is_past_space-2
returns-then-is_past_space-2 c =
    let text = c.args.text.now in
    let first = c.first.ensures.value ∙ ap (λ (l : List ℕ). slice_get l 0) c.as_bytes-bytes.ensures.value in
    let last = c.last.ensures.value
    ∙ ap (λ (l : List ℕ). slice_get l (length l - 1)) c.as_bytes-bytes.ensures.value in
    sym (trim_stays text
    (past_first text _ first (sym c.is_past_space.ensures ∙ c.if-is_past_space.true))
    (past_last text _ last (sym c.is_past_space-then-is_past_space.ensures ∙ c.if-is_past_space-2.true)))
