-- Where no rule is broken, the text that is due for `schedule` is that of every list in the relations.
use Rattle.std.proofs.Common.{◌≡◌, inl, inr, ℕ, List, sym, ◌∙◌, ap}
use Rattle.irs_schedule.specs.Parts.{Part}
use Rattle.irs_schedule.specs.RowsOf.{schedule_text}
use Rattle.irs_answers.specs.declared.tasks.Task.TheVariants.{Schedule}
use Rattle.irs_answers.specs.Due.{DueFor, Facts, IsTextOfEach, PassesEachStep}
use Rattle.irs_answers.specs.Forms.{Given}
use Rattle.irs_answers.specs.Messages.{Answer}
use Rattle.irs_answers.proofs.DueLemmas.{passes_due}

-- the files pass every step, so the status is 0, and the text is that of each list
pub printed : (g : Given) (f : Facts) (status : ℕ) (text : List ℕ) → PassesEachStep Schedule g f
    → DueFor Schedule g status text → (status ≡ 0) × IsTextOfEach f text
printed g f status text passes due = elim (passes_due Schedule g f passes status text due) [
  | inl told ↦ (
    ap (λ (a : Answer). a.0) told,
    λ s is. ap (λ (a : Answer). a.1) told ∙ ap schedule_text (sym (passes.schedule.only s is)),
  )
  | inr none ↦ absurd none
]
