-- Something is due for each task and its files: it can't be otherwise.
use Rattle.std.proofs.Common.{◌⊎◌, inl, inr, ℕ, ℤ, List, [], ◌∷◌, Option, Some, None, Bool, true, false, refl}
use Rattle.serde_json.specs.Data.{Data}
use Rattle.irs_base.specs.Outcomes.{Determined, answered, refused}
use Rattle.irs_terms.specs.Faults.{is_before}
use Rattle.irs_terms.specs.declared.places.Broken.{Broken}
use Rattle.irs_read.specs.Documents.{DocumentFault, Means, swap_of_document}
use Rattle.irs_read.proofs.Outcomes.{faultless_means}
use Rattle.irs_flows.specs.FlowFaults.{FlowFault}
use Rattle.irs_flows.specs.FlowReading.{flows_of_document}
use Rattle.irs_flows.proofs.EachFlows.{faultless_flows}
use Rattle.irs_terms.specs.Lawful.{IsLawfulSwap}
use Rattle.irs_terms.specs.declared.stream_list.Swap.{Swap}
use Rattle.irs_calendar.specs.Grammar.{seen_lines}
use Rattle.irs_calendar.specs.declared.sections.Section.{Section}
use Rattle.irs_calendar.proofs.FaultLemmas.{spelt_or_faulty}
use Rattle.irs_resets.specs.Rates.{RateTable, SameRates}
use Rattle.irs_resets.specs.Resets.{DeterminedUpTo, answered as answered_up_to, fixings_of, refused as refused_up_to}
use Rattle.irs_resets.specs.Private.FixingFiles.{IsSpelt}
use Rattle.irs_resets.proofs.FileOutcomes.{EachDecided, file_determined}
use Rattle.irs_rules.specs.TermsRules.{BreaksTerms, terms_of}
use Rattle.irs_schedule.specs.Parts.{Part}
use Rattle.irs_schedule.specs.Schedules.{schedule_of}
use Rattle.irs_schedule.proofs.OnePart.{schedule_determined, schedule_is}
use Rattle.irs_net.specs.Nets.{parts_of}
use Rattle.irs_net.specs.declared.sides.Sides.{Sides}
use Rattle.irs_net.proofs.NetLemmas.{one_net}
use Rattle.irs_net.proofs.NetThere.{net_there}
use Rattle.irs_net.proofs.SidesThere.{sides_or_broken}
use Rattle.irs_audit.specs.Verdicts.{IsVerdict}
use Rattle.irs_audit.proofs.VerdictLemmas.{one_verdict}
use Rattle.irs_audit.proofs.VerdictThere.{verdict_there}
use Rattle.irs_breaks.specs.BreakLists.{HasBreak, IsBreakList}
use Rattle.irs_breaks.proofs.ListThere.{list_there}
use Rattle.irs_breaks.proofs.OneList.{one_list}
use Rattle.irs_answers.specs.Due.{BreaksSidesIf, Facts, IsCertain, KeepsTerms, PassesEachStep, SidesIf, answer_for, due}
use Rattle.irs_answers.specs.Due.{facts, found_of, one_schedule_of, rates_for, rates_of}
use Rattle.irs_answers.specs.Due.{sections_of, sides_of, told_by}
use Rattle.irs_answers.specs.Forms.{Given, IsReadable, SourceText, value_of, xml_text}
use Rattle.irs_answers.specs.Messages.{broken_rule}
use Rattle.irs_answers.specs.Private.Outcomes.{IsAccruing, IsUnfixedSchedule}
use Rattle.irs_answers.specs.Tasks.{AreRowsIn, DailyStream, IsDailyAt, IsLawfulTask, IsStatusOf, TellsNet}
use Rattle.irs_answers.specs.Tasks.{Accruing, accruing, audit_of, breaks_of, carrier_of, daily_of, flows_in, net_page}
use Rattle.irs_answers.specs.Tasks.{nets}
use Rattle.irs_answers.specs.Tasks.{observations_of}
use Rattle.irs_answers.specs.declared.tasks.Task.{Task}
use Rattle.irs_answers.specs.declared.tasks.Task.TheVariants.{Accrue, Audit, Average, Breaks, Check, Emit, EmitXml}
use Rattle.irs_answers.specs.declared.tasks.Task.TheVariants.{Interpolate}
use Rattle.irs_answers.specs.declared.tasks.Task.TheVariants.{Net as OfNet, Observations, Overnight, Schedule}
use Rattle.irs_average.specs.Interpolations.{stub_asked}
use Rattle.irs_answers.proofs.AccruedThere.{page_there}
use Rattle.irs_answers.proofs.Certain.{AlwaysComes, Comes, answer_comes, answers, broken_founded, certain, certain_both}
use Rattle.irs_answers.proofs.Certain.{certain_determined, certain_either, certain_first, certain_map, given_comes}
use Rattle.irs_answers.proofs.Certain.{only_comes, refused_as_comes, refuses, then_comes}
use Rattle.irs_answers.proofs.DerivedThere.{averaged_comes, compounded_comes, stream_comes, stub_comes}
use Rattle.irs_answers.proofs.DueLemmas.{found_passes, made_schedule, means_lawful}
use Rattle.irs_answers.proofs.ObservedLemmas.{one_rows}
use Rattle.irs_answers.proofs.ObservedThere.{rows_there}
use Rattle.irs_answers.proofs.OneAnswer.{one_carried, one_outcome}

-- ---- what the files say

-- a text has a reading, or none
value_comes : (w : SourceText) → AlwaysComes (value_of w)
value_comes w = certain_map (λ c. elim c [
  | inl v ↦ answers v.0 v.1
  | inr none ↦ refuses tt none
]) (certain_either (IsReadable w))

-- a document means a swap, or breaks a first rule
swap_comes : (v : Data) → AlwaysComes (swap_of_document v)
swap_comes v = certain_map (λ c. elim c [
  | inl first ↦ refuses first.0 first.1
  | inr none ↦ let s = faultless_means v none in answers s.0 s.1
]) (certain_first is_before broken_founded (DocumentFault v))

sides_by : (b : Bool) (v : Data) (swap : Swap) → Means v swap
    → ((s : Option Sides) × SidesIf b v s) ⊎ ((x : Broken) × BreaksSidesIf b v x)
sides_by true v swap means = elim (sides_or_broken v swap means) [
  | inl s ↦ inl (Some s.0, s.1)
  | inr broken ↦ inr broken
]
sides_by false v swap means = inl (None, refl)

-- the streams have sides, or one is the first whose parties aren't those of the first stream
sides_come : (t : Task) (v : Data) (swap : Swap) → Means v swap → AlwaysComes (sides_of t v)
sides_come t v swap means = elim (sides_by (nets t) v swap means) [
  | inl s ↦ certain (answers s.0 s.1)
  | inr broken ↦ certain (refuses broken.0 broken.1)
]

-- calendar files have sections, or a first line at fault
sections_come : (files : List (List ℕ)) → AlwaysComes (sections_of files)
sections_come files = elim (spelt_or_faulty files) [
  | inl s ↦ certain (answers s.0 s.1)
  | inr fault ↦ certain (refuses fault.0 fault.1)
]

-- each line spells a fixing, or doesn't
lines_decided : (lines : List (List ℕ)) → IsCertain (EachDecided lines)
lines_decided [] = certain tt
lines_decided (line ∷ lines) = certain_both (certain_either (IsSpelt line)) (lines_decided lines)

rates_by : (bytes : List ℕ) → DeterminedUpTo SameRates (fixings_of bytes) → Comes (rates_of (Some bytes))
rates_by bytes (answered_up_to table are same none) = answers table are
rates_by bytes (refused_up_to f only none) = refuses f only.is

-- a file of fixings gives rates, or has a first line at fault
rates_come : (file : Option (List ℕ)) → AlwaysComes (rates_of file)
rates_come None = certain (answers [] refl)
rates_come (Some bytes) =
    certain_map (λ decided. rates_by bytes (file_determined bytes decided)) (lines_decided (seen_lines bytes))

-- the terms of a swap keep the rules, or break a first one
terms_come : (swap : Swap) (cal : List Section) → AlwaysComes (terms_of swap cal)
terms_come swap cal = certain_map (λ c. elim c [
  | inl first ↦ refuses first.0 first.1
  | inr none ↦ answers tt none
]) (certain_first is_before broken_founded (BreaksTerms swap cal))

module _ (swap : Swap) (cal : List Section) (table : RateTable) (lawful : IsLawfulSwap swap) where
  -- the dates and the amounts keep the rules, and there is the one schedule; or a first rule is broken
  dated_by : (keeps : KeepsTerms swap cal) → Determined (schedule_of swap cal table)
      → Comes (one_schedule_of swap cal table)
  dated_by keeps (answered parts only none) =
      answers parts
      (made_schedule swap cal table lawful keeps parts only.is
      (schedule_is swap cal table lawful keeps parts only.is))
  dated_by keeps (refused b only none) = refuses (broken_rule b) (inr (tt, keeps, inl (b, only.is, refl)))

  terms_by : Comes (terms_of swap cal) → Comes (one_schedule_of swap cal table)
  terms_by (answers _ keeps) = dated_by keeps (schedule_determined swap cal table lawful keeps)
  terms_by (refuses b first) = refuses (broken_rule b) (inl (b, first, refl))

  -- a lawful swap has one schedule, or a first rule that it breaks
  schedule_comes : AlwaysComes (one_schedule_of swap cal table)
  schedule_comes = certain_map terms_by (terms_come swap cal)

-- the files of a task pass every step, or one is the first that fails
found_comes : (t : Task) (g : Given) → AlwaysComes (found_of t g)
unfolding found_of
found_comes t g =
    then_comes _ _ (refused_as_comes _ _ (value_comes g.document)) (λ v _.
    then_comes _ _ (refused_as_comes _ _ (swap_comes v)) (λ swap means.
    then_comes _ _ (refused_as_comes _ _ (sides_come t v swap means)) (λ sides _.
    then_comes _ _ (refused_as_comes _ _ (sections_come g.calendars)) (λ cal _.
    then_comes _ _ (refused_as_comes _ _ (rates_come g.fixings)) (λ table _.
    then_comes _ _ (schedule_comes swap cal (rates_for t table) (means_lawful v swap means)) (λ parts _.
    answer_comes (facts swap sides cal table parts)))))))

-- ---- the last step of each task

-- a value states flows, or has a first fault
statement_comes : (v : Data) → AlwaysComes (flows_of_document v)
statement_comes v = certain_map (λ c. elim c [
  | inl first ↦ refuses first.0 first.1
  | inr none ↦ let f = faultless_flows v none in answers f.0 f.1
]) (certain_first is_before broken_founded (FlowFault v))

flows_come : (w : SourceText) → AlwaysComes (flows_in w)
flows_come w =
    then_comes _ _ (refused_as_comes _ _ (value_comes w)) (λ v _. refused_as_comes _ _ (statement_comes v))

audit_comes : (s : List Part) (w : SourceText) → AlwaysComes (audit_of s w)
audit_comes s w =
    then_comes _ _ (flows_come w) (λ flows _.
    then_comes _ _
    (only_comes (IsVerdict flows s) (λ no. verdict_there flows s (λ v is. no (v, is)))
    (λ a b h k. one_verdict flows s b a k h)) (λ v _.
    answer_comes _))

breaks_come : (from : Option ℤ) (s : List Part) (w : SourceText) → AlwaysComes (breaks_of from s w)
breaks_come from s w =
    then_comes _ _ (flows_come w) (λ flows _.
    then_comes _ _
    (only_comes (IsBreakList from s flows) (λ no. list_there from s flows (λ l is. no (l, is)))
    (λ a b h k. one_list from s flows b a k h)) (λ list _.
    then_comes _ _
    (given_comes (IsStatusOf list) (certain_map (λ c. elim c [
      | inl has ↦ (1, inl (has, refl))
      | inr none ↦ (0, inr (none, refl))
    ]) (certain_either (HasBreak list)))) (λ status _.
    answer_comes _)))

told_comes : (P : List ℕ → Type 0) → (text : List ℕ) × P text → AlwaysComes (told_by P)
told_comes P there = given_comes _ (certain ((0, there.0), (refl, there.1)))

net_by : (v : Data) (read : Option Sides) (parts : List Part) → SidesIf true v read
    → (text : List ℕ) × TellsNet read parts text
net_by v None parts h = absurd h
net_by v (Some sides) parts h =
    let own = parts_of parts sides.forward in
    let rows = net_there own in (
      net_page rows.0,
      (
        sides,
        refl,
        (rows.0, record { is = rows.1; only = λ b is. one_net own b rows.0 is rows.1 }, refl),
      ),
    )

daily_comes : (swap : Swap) (n : ℕ) → AlwaysComes (daily_of swap n)
daily_comes swap n = certain_map (λ c. elim c [
  | inl y ↦ answers y.0 y.1
  | inr none ↦ refuses _ ((λ y at. none (y, at)), refl)
]) (certain_either ((y : DailyStream) × IsDailyAt swap n y))

observations_come : (n : ℕ) (x : Accruing) (parts : List Part) → IsAccruing x parts
    → AlwaysComes (observations_of n x parts)
observations_come n x parts h =
    then_comes _ _ (refused_as_comes _ _ (daily_comes x.swap n)) (λ y is.
    then_comes _ _
    (only_comes (AreRowsIn n x parts y) (certain (rows_there x parts h n y is)) (one_rows n x parts y)) (λ rows _.
    answer_comes _))

module _ (t : Task) (g : Given) (f : Facts) (p : PassesEachStep t g f) where
  abbrev table : RateTable
  table = rates_for t f.table

  -- a lawful swap that breaks no rule, with its schedule
  is_accruing : IsAccruing (accruing f.swap f.cal table) f.parts
  is_accruing = record {
    lawful = means_lawful p.document.value f.swap p.document.means;
    terms = p.terms;
    dated = p.dated;
    schedule = p.schedule.is;
  }

answer_comes_for : (t : Task) (g : Given) (f : Facts) → IsLawfulTask t → PassesEachStep t g f
    → AlwaysComes (answer_for t g f)
answer_comes_for Check g f lawful p = answer_comes _
answer_comes_for Schedule g f lawful p = answer_comes _
answer_comes_for Audit g f lawful p = audit_comes f.parts g.flows
answer_comes_for (Breaks from) g f lawful p = breaks_come from f.parts g.flows
answer_comes_for Emit g f lawful p = answer_comes _
answer_comes_for EmitXml g f lawful p = answer_comes _
answer_comes_for (Accrue date) g f lawful p =
    told_comes _ (page_there (accruing f.swap f.cal f.table) f.parts (is_accruing (Accrue date) g f p) date)
answer_comes_for OfNet g f lawful p = told_comes _ (net_by p.document.value f.sides f.parts p.document.has_sides)
answer_comes_for (Observations stream) g f lawful p =
    observations_come stream (accruing f.swap f.cal f.table) f.parts (is_accruing (Observations stream) g f p)
answer_comes_for (Overnight stream) g f lawful p =
    let h = is_accruing (Overnight stream) g f p in
    let unfixed : IsUnfixedSchedule f.swap f.cal f.parts =
    record { lawful = h.lawful; terms = h.terms; dated = h.dated; schedule = h.schedule } in
    then_comes _ _ (refused_as_comes _ _ (stream_comes f.swap stream)) (λ x at.
    compounded_comes f.swap f.cal f.parts unfixed stream x at f.table)
answer_comes_for (Average stream mean step) g f lawful p =
    let h = is_accruing (Average stream mean step) g f p in
    let unfixed : IsUnfixedSchedule f.swap f.cal f.parts =
    record { lawful = h.lawful; terms = h.terms; dated = h.dated; schedule = h.schedule } in
    then_comes _ _ (refused_as_comes _ _ (stream_comes f.swap stream)) (λ x at.
    averaged_comes f.swap f.cal f.parts unfixed stream x at f.table mean step lawful.0)
answer_comes_for (Interpolate stream side low high) g f lawful p =
    then_comes _ _ (refused_as_comes _ _ (stream_comes f.swap stream)) (λ x at.
    stub_comes (stub_asked f.swap stream side low high f.parts f.table))

-- ---- a task and its files

due_comes : (t : Task) (g : Given) → IsLawfulTask t → AlwaysComes (due t g)
unfolding due
due_comes t g lawful =
    then_comes _ _ (found_comes t g) (λ f found. answer_comes_for t g f lawful (found_passes t g f found))

-- one answer and no refusal is due for a task and its files, or one refusal and no answer
pub always_due : (t : Task) (g : Given) → IsLawfulTask t → IsCertain (Determined (due t g))
always_due t g lawful = certain_determined (due t g) (one_outcome t g) (due_comes t g lawful)

-- so it is for the carrier of bytes
pub always_carried : (bytes : List ℕ) → IsCertain (Determined (carrier_of bytes))
always_carried bytes =
    certain_determined (carrier_of bytes) (one_carried bytes)
    (then_comes _ _ (refused_as_comes _ _ (value_comes (xml_text bytes))) (λ v _. answer_comes _))
