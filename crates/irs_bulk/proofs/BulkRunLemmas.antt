-- A run of `bulk` gives the sums, or the first document without a schedule; one answer is due.
use Rattle.std.proofs.Common.{◌≡◌, inl, inr, ℕ, zero, suc, ◌<◌, List, [], ◌∷◌, Bool, true, false, None}
use Rattle.std.proofs.Common.{Result, Ok, Err, refl, subst, arith}
use Rattle.std.proofs.lemmas.Bool.{cases_lt}
use Rattle.std.proofs.lemmas.Option.{IfSome_then}
use Rattle.irs_schedule.specs.Parts.{Part}
use Rattle.irs_calendar.specs.Grammar.{CalFiles}
use Rattle.irs_calendar.specs.declared.sections.Section.{Section}
use Rattle.irs_resets.specs.Rates.{RateTable}
use Rattle.irs_terms.specs.declared.stream_list.Swap.{Swap}
use Rattle.irs_audit.specs.StatedFlows.{stated_flows}
use Rattle.irs_audit.proofs.VerdictLemmas.{one_verdict}
use Rattle.irs_answers.specs.declared.tasks.Task.TheVariants.{Schedule}
use Rattle.irs_answers.specs.declared.refusals.Refusal.{Refusal}
use Rattle.irs_answers.specs.Forms.{json_text}
use Rattle.irs_answers.specs.Due.{SpellsTask, facts, found_of, one_schedule_of, MeetsTask, RefusedBy, answer_of}
use Rattle.irs_answers.specs.Messages.{Answer}
use Rattle.irs_answers.proofs.Agreement.{IsOne, Same, answer_agree, given_agree, one_given, then_agree, then_one}
use Rattle.irs_answers.proofs.DueLemmas.{AreSameFacts, found_agree, passes_by, passes_found, refuse_rules}
use Rattle.irs_bulk.specs.BulkRuns.{calendar_text, both_totals, no_totals, DueBulk, bulk_of, files_of}
use Rattle.irs_bulk.specs.BulkRuns.{schedule_at, total_at, totals_to}
use Rattle.irs_bulk.specs.Documents.{bulk_document_text}
use Rattle.irs_bulk.specs.declared.totals.Totals.{Totals}

-- ---- the schedule that is made is that of the document

-- a refusal of a step is that of the document
pub refused_at : (plain : Bool) (k : ℕ) (r : Refusal) → RefusedBy (found_of Schedule (files_of plain k)) r
    → RefusedBy (schedule_at plain k) r
refused_at plain k r h = IfSome_then (answer_of r) h (λ a x. inl x)

module _ (plain : Bool) (k : ℕ) (swap : Swap) (cal : List Section) (table : RateTable)
    (spells : SpellsTask Schedule (json_text (bulk_document_text plain k)) swap None) (files : CalFiles (calendar_text ∷ []) cal)
    (without : table ≡ []) where
  -- a schedule over the swap, the calendar and the fixings is that of document k, and so is a refusal
  pub schedule_by : (r : Result (List Part) Refusal) → MeetsTask (one_schedule_of swap cal table) r
      → MeetsTask (schedule_at plain k) r
  schedule_by (Ok s) h =
      let g = files_of plain k in
      let f = facts swap None cal table s in
      (f, passes_found Schedule g f (passes_by Schedule g swap None spells cal files table s without h), refl)
  schedule_by (Err e) h =
      refused_at plain k e (refuse_rules Schedule (files_of plain k) swap None spells cal files table e without h)

-- ---- the first document without a schedule

-- the first document that is refused decides the run
pub stops_at : (n k : ℕ) (t : Totals) (a : Answer) → k < n → (totals_to k).Answers t → (total_at (suc k)).Refuses a
    → (totals_to n).Refuses a
unfolding totals_to
stops_at zero k t a below sums stop = absurd (omega (arith, below))
stops_at (suc n) k t a below sums stop = elim (cases_lt k n) [
  | inl less ↦ inl (stops_at n k t a less sums stop)
  | inr no_less ↦ let same : k ≡ n = omega (arith, below, no_less) in
      inr (
        t,
        subst (λ (i : ℕ). (totals_to i).Answers t) same sums,
        inl (subst (λ (i : ℕ). (total_at (suc i)).Refuses a) same stop),
      )
]

-- no document
pub no_sums : (totals_to 0).Answers no_totals
unfolding totals_to
no_sums = refl

-- the sums up to k and those of document k + 1 are the sums up to k + 1
pub sums_more : (k : ℕ) (t u : Totals) → (totals_to k).Answers t → (total_at (suc k)).Answers u
    → (totals_to (suc k)).Answers (both_totals t u)
unfolding totals_to
sums_more k t u h a = (t, h, (u, a, refl))

-- ---- one outcome

one_schedule_at : (plain : Bool) (k : ℕ) → IsOne (schedule_at plain k)
one_schedule_at plain k =
    then_agree AreSameFacts Same _ _ _ _ (found_agree Schedule (files_of plain k)) (λ f h _ _ same.
    answer_agree Same f.parts h.parts same.parts)

one_total_at : (k : ℕ) → IsOne (total_at k)
one_total_at k =
    then_one Same _ _ (one_schedule_at false k) (λ s _.
    then_one Same _ _ (one_schedule_at true k) (λ p _.
    then_one Same _ _ (given_agree Same _ _ (one_verdict (stated_flows p) s)) (λ v _.
    answer_agree Same _ _ refl)))

one_totals : (n : ℕ) → IsOne (totals_to n)
unfolding totals_to
one_totals zero = answer_agree Same _ _ refl
one_totals (suc k) =
    then_one Same _ _ (one_totals k) (λ before _.
    then_one Same _ _ (one_total_at (suc k)) (λ more _.
    answer_agree Same _ _ refl))

one_run : (n : ℕ) → IsOne (bulk_of n)
one_run n = then_one Same _ _ (one_totals n) (λ totals _. answer_agree Same _ _ refl)

-- one status and one text are due for a run
pub one_bulk : (s u : ℕ) (t v : List ℕ) (n : ℕ) → DueBulk n s t → DueBulk n u v → (s ≡ u) × (t ≡ v)
one_bulk s u t v n h k = one_given (bulk_of n) (one_run n) s u t v h k
