-- One status and one text are due for a task and its files.
use Rattle.std.proofs.Common.{◌≡◌, inl, inr, ℕ, ℤ, List, [], ◌∷◌, Option, refl, sym, ◌∙◌, ap, subst}
use Rattle.std.proofs.lemmas.Option.{same_Some}
use Rattle.irs_base.specs.Outcomes.{Determined, refused_as}
use Rattle.irs_terms.specs.declared.places.Broken.{Broken}
use Rattle.irs_audit.specs.Verdicts.{IsVerdict}
use Rattle.irs_breaks.specs.BreakLists.{IsBreakList}
use Rattle.irs_breaks.specs.Findings.{Findings}
use Rattle.irs_calendar.specs.declared.sections.Section.{Section}
use Rattle.irs_resets.specs.Rates.{RateTable}
use Rattle.irs_schedule.specs.DaySets.{reset_days}
use Rattle.irs_schedule.specs.Parts.{Part}
use Rattle.irs_terms.specs.declared.amounts.FloatTerms.{FloatTerms}
use Rattle.irs_terms.specs.declared.frequency.Frequency.{Frequency}
use Rattle.irs_terms.specs.declared.stream_list.Swap.{Swap}
use Rattle.irs_net.specs.declared.sides.Sides.{Sides}
use Rattle.irs_net.specs.declared.table.NetRow.{NetRow}
use Rattle.irs_overnight.specs.Texts.{file_text}
use Rattle.irs_overnight.specs.Overnight.{IsFirstDerived, IsOvernight, OvernightKept, asked}
use Rattle.irs_overnight.specs.declared.derived.DerivedRow.{DerivedRow}
use Rattle.irs_overnight.proofs.SourceLemmas.{one_broken as one_derived_broken}
use Rattle.irs_average.specs.Averages.{AverageKept, IsAverage, IsFirstOfAverage, averaged}
use Rattle.irs_average.specs.Interpolations.{IsInterpolated, IsStubBroken, StubKept, StubAsked, stub_asked}
use Rattle.irs_average.specs.declared.means.Mean.{Mean}
use Rattle.irs_average.specs.declared.stubs.Side.{Side}
use Rattle.irs_average.proofs.AverageLemmas.{one_average_broken}
use Rattle.irs_average.proofs.StubLemmas.{one_stub_broken}
use Rattle.irs_answers.specs.Tasks.{Accruing, accruing, DueCarrier, carrier_of, IsStatusOf, audit_of, breaks_of}
use Rattle.irs_answers.specs.Tasks.{TellsNet, TellsNetOf, net_page, AreRowsIn, observations_of}
use Rattle.irs_answers.specs.Derived.{PrintsStub, average_of, interpolate_of, overnight_of, printed, stub_of}
use Rattle.irs_answers.specs.Due.{DueFor, Facts, answer_for, due, told_by}
use Rattle.irs_answers.specs.Forms.{SourceText, xml_text, Given}
use Rattle.irs_answers.specs.Messages.{Answer, broken_rule, keeping}
use Rattle.irs_answers.specs.declared.tasks.Task.{Task}
use Rattle.irs_answers.specs.declared.tasks.Task.TheVariants.{Check, Schedule, Audit, Emit, Accrue, Net as OfNet}
use Rattle.irs_answers.specs.declared.tasks.Task.TheVariants.{Overnight, Average, Breaks, EmitXml, Interpolate, Observations}
use Rattle.irs_answers.proofs.AccrueLemmas.{one_page}
use Rattle.irs_answers.proofs.Agreement.{IsOne, Same, answer_agree, determined_by, given_agree, keeping_one, one_given, only_one}
use Rattle.irs_answers.proofs.Agreement.{refused_as_agree, then_agree, then_one, within_agree}
use Rattle.irs_answers.proofs.DerivedLemmas.{one_stream}
use Rattle.irs_answers.proofs.DueLemmas.{AreSameFacts, answers_within, found_agree, one_value}
use Rattle.irs_answers.proofs.FlowLemmas.{one_flows}
use Rattle.irs_answers.proofs.ObservedLemmas.{one_observed}
use Rattle.irs_answers.proofs.StubLemmas.{one_index}

-- ---- the last step of each task

one_audit : (s : List Part) (w : SourceText) → IsOne (audit_of s w)
one_audit s w =
    then_one Same _ _ (one_flows w) (λ flows _.
    then_one Same _ _ (only_one (IsVerdict flows s)) (λ v _.
    answer_agree Same _ _ refl))

one_status : (list : Findings) (s u : ℕ) → IsStatusOf list s → IsStatusOf list u → s ≡ u
one_status list s u (inl h) (inl k) = h.1 ∙ sym k.1
one_status list s u (inl h) (inr k) = absurd (k.0 h.0)
one_status list s u (inr h) (inl k) = absurd (h.0 k.0)
one_status list s u (inr h) (inr k) = h.1 ∙ sym k.1

one_list : (from : Option ℤ) (s : List Part) (w : SourceText) → IsOne (breaks_of from s w)
one_list from s w =
    then_one Same _ _ (one_flows w) (λ flows _.
    then_one Same _ _ (only_one (IsBreakList from s flows)) (λ list _.
    then_one Same _ _ (given_agree Same _ _ (one_status list)) (λ status _.
    answer_agree Same _ _ refl)))

one_told : (P : List ℕ → Type 0) → ((t v : List ℕ) → P t → P v → t ≡ v) → IsOne (told_by P)
one_told P one =
    given_agree Same _ _ (λ a b h k.
    let status = h.0 ∙ sym k.0 in
    let text = one a.1 b.1 h.1 k.1 in
    λ i. (status i, text i))

one_netted : (sides : Option Sides) (p : List Part) (t v : List ℕ) → TellsNet sides p t → TellsNet sides p v → t ≡ v
one_netted sides p t v h k =
    let same : k.0 ≡ h.0 = same_Some k.0 h.0 (sym k.1 ∙ h.1) in
    let n : TellsNetOf h.0 p v = subst (λ (x : Sides). TellsNetOf x p v) same k.2 in
    h.2.2 ∙ sym (ap (λ (rows : List NetRow). net_page rows) (h.2.1.only n.0 n.1.is)) ∙ sym n.2

one_observations : (n : ℕ) (x : Accruing) (parts : List Part) → IsOne (observations_of n x parts)
one_observations n x parts =
    then_one Same _ _ (refused_as_agree Same _ _ _ (one_observed x.swap n)) (λ y _.
    then_one Same _ _ (only_one (AreRowsIn n x parts y)) (λ rows _.
    answer_agree Same _ _ refl))

-- rules that are kept, or of which one is the first broken
one_rule : (K : Type 0) (P : Broken → Type 0) → (K → (b : Broken) → P b → ⊥)
    → ((b c : Broken) → P b → P c → b ≡ c) → IsOne (refused_as broken_rule (keeping K P))
one_rule K P never one = refused_as_agree Same broken_rule _ _ (keeping_one K P never one)

one_printed : (P : List DerivedRow → Type 0) (float : FloatTerms) → IsOne (printed P float)
one_printed P float = then_one Same _ _ (only_one P) (λ rows _. answer_agree Same _ _ refl)

module _ (n : ℕ) (swap : Swap) where
  one_overnight : (cal : List Section) (rates : RateTable) (parts : List Part) → IsOne (overnight_of n swap cal rates parts)
  one_overnight cal rates parts =
      then_one Same _ _ (refused_as_agree Same _ _ _ (one_stream swap n)) (λ x _.
      let a = asked swap n parts (reset_days cal x.stream) rates in
      then_one Same _ _ (one_rule (OvernightKept a) (IsFirstDerived a) (λ k b f. k f.fault f.first.0) (one_derived_broken a)) (λ _ _.
      one_printed (IsOvernight a) x.float))

  one_average : (mean : Mean) (step : ℕ) (cal : List Section) (rates : RateTable) (parts : List Part)
      → IsOne (average_of n mean step swap cal rates parts)
  one_average mean step cal rates parts =
      then_one Same _ _ (refused_as_agree Same _ _ _ (one_stream swap n)) (λ x _.
      let a = averaged (asked swap n parts (reset_days cal x.stream) rates) mean step in
      then_one Same _ _ (one_rule (AverageKept a) (IsFirstOfAverage a) (λ k b f. k f.fault f.first.0) (one_average_broken a)) (λ _ _.
      one_printed (IsAverage a) x.float))

one_text : (a : StubAsked) (row : DerivedRow) (x y : Answer) → PrintsStub a row x → PrintsStub a row y → x ≡ y
one_text a row x y h k =
    let named = one_index a.swap a.number a.side k.0 h.0 k.1.0 h.1.0 k.1.1 h.1.1 in
    h.1.2 ∙ (λ i. (0, file_text (row ∷ []) (named.1 i) (named.0 i))) ∙ sym k.1.2

one_stub : (a : StubAsked) → IsOne (stub_of a)
one_stub a =
    then_one Same _ _ (one_rule (StubKept a) (IsStubBroken a) (λ k b f. k f.fault f.breaks) (one_stub_broken a)) (λ _ _.
    then_one Same _ _ (only_one (IsInterpolated a)) (λ row _.
    given_agree Same _ _ (one_text a row)))

one_interpolate : (n : ℕ) (side : Side) (low high : Frequency) (swap : Swap) (rates : RateTable) (parts : List Part)
    → IsOne (interpolate_of n side low high swap rates parts)
one_interpolate n side low high swap rates parts =
    then_one Same _ _ (refused_as_agree Same _ _ _ (one_stream swap n)) (λ x _.
    one_stub (stub_asked swap n side low high parts rates))

one_answer_for : (task : Task) (g : Given) (f : Facts) → IsOne (answer_for task g f)
one_answer_for Check g f = answer_agree Same _ _ refl
one_answer_for Schedule g f = answer_agree Same _ _ refl
one_answer_for Audit g f = one_audit f.parts g.flows
one_answer_for (Breaks from) g f = one_list from f.parts g.flows
one_answer_for Emit g f = answer_agree Same _ _ refl
one_answer_for EmitXml g f = answer_agree Same _ _ refl
one_answer_for (Accrue date) g f = one_told _ (one_page (accruing f.swap f.cal f.table) date f.parts)
one_answer_for OfNet g f = one_told _ (one_netted f.sides f.parts)
one_answer_for (Observations stream) g f = one_observations stream (accruing f.swap f.cal f.table) f.parts
one_answer_for (Overnight stream) g f = one_overnight stream f.swap f.cal f.table f.parts
one_answer_for (Average stream mean step) g f = one_average stream f.swap mean step f.cal f.table f.parts
one_answer_for (Interpolate stream side low high) g f =
    one_interpolate stream side low high f.swap f.table f.parts

-- ---- a task, and a carrier

-- a task and its files have one outcome
pub one_outcome : (task : Task) (g : Given) → IsOne (due task g)
unfolding due
one_outcome task g =
    then_agree AreSameFacts Same _ _ _ _ (found_agree task g) (λ f h _ _ same.
    within_agree _ _ (answers_within task g f h same) (one_answer_for task g h))

-- one status and one text are due for a task and its files
pub one_due : (task : Task) (g : Given) (s u : ℕ) (t v : List ℕ) → DueFor task g s t → DueFor task g u v
    → (s ≡ u) × (t ≡ v)
one_due task g s u t v h k = one_given (due task g) (one_outcome task g) s u t v h k

-- and what is due for them is all that is
pub due_determined : (task : Task) (g : Given) (status : ℕ) (text : List ℕ) → DueFor task g status text
    → Determined (due task g)
due_determined task g status text h = determined_by (due task g) (one_outcome task g) (status, text) h

-- a carrier has one outcome
pub one_carried : (bytes : List ℕ) → IsOne (carrier_of bytes)
one_carried bytes =
    then_one Same _ _ (refused_as_agree Same _ _ _ (one_value (xml_text bytes))) (λ v _. answer_agree Same _ _ refl)

-- one status and one text are due for a carrier
pub one_carrier : (s u : ℕ) (t v : List ℕ) (bytes : List ℕ) → DueCarrier bytes s t → DueCarrier bytes u v
    → (s ≡ u) × (t ≡ v)
one_carrier s u t v bytes h k = one_given (carrier_of bytes) (one_carried bytes) s u t v h k
