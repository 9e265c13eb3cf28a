-- What is due for the files of a task: one outcome of each step, and of all of them in turn.
use Rattle.std.proofs.Common.{◌≡◌, inl, inr, ℕ, List, [], Option, Some, None, Bool, true, false, Result, Ok, refl, sym}
use Rattle.std.proofs.Common.{◌∙◌, ap, subst}
use Rattle.std.specs.Prelude.{IfSome, if◌then◌else◌, option_map, slice_get}
use Rattle.std.proofs.lemmas.Option.{IfSome_then, same_Some}
use Rattle.serde_json.specs.Data.{Data}
use Rattle.irs_base.specs.Outcomes.{IfStopped, First}
use Rattle.irs_terms.specs.Faults.{is_before}
use Rattle.irs_base.proofs.Outcomes.{answered_free}
use Rattle.irs_terms.specs.declared.places.Broken.{Broken}
use Rattle.irs_base.specs.declared.stopped.Stopped.{Stopped}
use Rattle.irs_base.specs.declared.stopped.Stopped.TheVariants as stopped
use Rattle.irs_xml.proofs.TextLaws.{reads_one}
use Rattle.irs_answers.specs.Forms.{ReadsAs, TextReads, SourceText, value_of, Given}
use Rattle.irs_answers.specs.declared.forms.Form.{Form}
use Rattle.irs_answers.specs.declared.forms.Form.TheVariants.{Json, Xml}
use Rattle.irs_answers.specs.declared.forms.ReadErr.{ReadErr}
use Rattle.irs_answers.specs.declared.forms.ReadErr.TheVariants as reading
use Rattle.irs_read.specs.Documents.{DocumentFault, swap_of_document, Means}
use Rattle.irs_read.proofs.LawfulSwaps.{document_lawful}
use Rattle.irs_read.proofs.Outcomes.{one_meaning as meant_once}
use Rattle.irs_read.specs.Readings.{streams_in}
use Rattle.irs_rules.specs.TermsRules.{terms_of, BreaksTerms}
use Rattle.irs_terms.specs.Lawful.{IsLawfulSwap}
use Rattle.irs_terms.specs.declared.stream_list.Swap.{Swap}
use Rattle.irs_calendar.specs.Grammar.{Spot, spot_of, IsFirstCalendarFault, CalFiles}
use Rattle.irs_calendar.specs.declared.calendars.CalErr.{CalErr}
use Rattle.irs_calendar.specs.declared.sections.Section.{Section}
use Rattle.irs_calendar.proofs.FaultLemmas.{faulty_spell_none, one_first_fault}
use Rattle.irs_calendar.proofs.GrammarLemmas.{spelt_is_read}
use Rattle.irs_resets.specs.Rates.{RateTable}
use Rattle.irs_resets.specs.declared.fixings.FixErr.{FixErr}
use Rattle.irs_resets.specs.declared.fixings.FixErr.TheVariants as fixing
use Rattle.irs_schedule.proofs.OnePart.{one_broken, one_schedule, schedule_determined}
use Rattle.irs_schedule.specs.Schedules.{DatedKept, DatedBroken, schedule_of, IsSchedule}
use Rattle.irs_schedule.specs.Parts.{Part}
use Rattle.irs_net.specs.Parties.{BreaksK8Of, IsBackward, IsForward, IsSide, SidesOf}
use Rattle.irs_net.specs.declared.sides.Sides.{Sides}
use Rattle.irs_net.proofs.SideLemmas.{one_sides_of}
use Rattle.irs_answers.specs.declared.tasks.Task.{Task}
use Rattle.irs_answers.specs.declared.tasks.Task.TheVariants.{Check, Schedule, Audit, Emit, Accrue, Net, Overnight}
use Rattle.irs_answers.specs.declared.tasks.Task.TheVariants.{Average, Breaks, EmitXml, Interpolate, Observations}
use Rattle.irs_answers.specs.declared.refusals.Refusal.{Refusal}
use Rattle.irs_answers.specs.declared.refusals.Refusal.TheVariants.{Rule, Calendars, Fixings}
use Rattle.irs_answers.specs.declared.replies.Reply.{Reply}
use Rattle.irs_answers.specs.Tasks.{nets, uses_rates}
use Rattle.irs_answers.specs.Messages.{reply_status, reply_text, Answer, Gives, keeping}
use Rattle.irs_answers.specs.Due.{SpellsTask, AreGivenFixings, BreaksSides, BreaksSidesIf, HasSides, KeepsTerms}
use Rattle.irs_answers.specs.Due.{SidesIf, Facts, facts, DueFor, PassesEachStep, answer_for, rates_for, found_of, due}
use Rattle.irs_answers.specs.Due.{one_schedule_of, rates_of, sections_of, sides_of, faulty_calendar, answer_of, of_read}
use Rattle.irs_answers.specs.Due.{of_stopped, Ends, FixingsFail, RefusedBy, ReadFails}
use Rattle.irs_answers.specs.Private.Outcomes.{IfRefused, IsCarriedOut}
use Rattle.irs_answers.proofs.AccrueSame.{accrued_same}
use Rattle.irs_answers.proofs.Agreement.{Agree, IsOne, Same, Within, answer_agree, given_agree, given_within, refused_as_agree}
use Rattle.irs_answers.proofs.Agreement.{same_within, then_agree, then_one}
use Rattle.irs_answers.proofs.FirstLemmas.{one_first, one_fixings_fault, no_fixings}
use Rattle.irs_answers.proofs.SameRates.{SameRates, same_back, same_file, schedule_same, first_same_table}
use Rattle.irs_answers.proofs.DerivedSame.{average_within, interpolate_within, overnight_within}
use Rattle.irs_answers.proofs.ObservedLemmas.{observations_within}
use Rattle.irs_answers.proofs.StepLemmas.{carried_low, refusal_ends}

-- ---- the files say one thing

one_as : (form : Form) (bytes : List ℕ) (v w : Data) → ReadsAs form bytes v → ReadsAs form bytes w → w ≡ v
one_as Json bytes v w h k = same_Some w v (sym k.1 ∙ h.1)
one_as Xml bytes v w h k = reads_one bytes w v k h

-- a text has one reading
pub one_reading : (t : SourceText) (v w : Data) → TextReads t v → TextReads t w → w ≡ v
one_reading t v w h k = one_as t.form t.bytes v w h k

same_ok : {A E : Type 0} (x y : A) → (let r : Result A E = Ok x in r ≡ Ok y) → x ≡ y
same_ok x y e = cc

-- a value means one swap
pub one_meaning : (v : Data) (s t : Swap) → Means v s → Means v t → t ≡ s
one_meaning v s t h k = meant_once v t s k h

-- ---- the sides of the streams

sides_one : (b : Bool) (v : Data) (s t : Option Sides) → SidesIf b v s → SidesIf b v t → t ≡ s
sides_one true v None t h k = absurd h
sides_one true v (Some x) None h k = absurd k
sides_one true v (Some x) (Some y) h k = ap Some (one_sides_of v y x k h)
sides_one false v s t h k = k ∙ sym h

one_sided : (t : Task) (v : Data) (s u : Option Sides) → HasSides t v s → HasSides t v u → u ≡ s
one_sided t v s u h k = sides_one (nets t) v s u h k

no_side : (first stream : Data) (b : Bool) → IsSide first stream b → (IsForward first stream → ⊥)
    → (IsBackward first stream → ⊥) → ⊥
no_side first stream true h forward backward = forward h
no_side first stream false h forward backward = backward h

-- a document whose parties break K8 has no sides
no_sides_of : (v : Data) (x : Broken) (s : Sides) → BreaksK8Of v x → SidesOf v s → ⊥
no_sides_of v x s h k =
    let swap : h.swap ≡ k.swap = same_ok h.swap k.swap (sym h.found ∙ k.found) in
    let b = h.breaks in
    let at = λ (d : Data). slice_get (streams_in d) 0 ≡ Some b.first in
    let there = λ (d : Data). slice_get (streams_in d) b.place ≡ Some b.stream in
    no_side b.first b.stream _ (k.are.each b.first (subst at swap b.begins) b.place b.stream (subst there swap b.there))
    b.not_forward b.not_backward

no_sides : (b : Bool) (v : Data) (x : Broken) (s : Option Sides) → BreaksSidesIf b v x → SidesIf b v s → ⊥
no_sides true v x None h k = k
no_sides true v x (Some s) h k = no_sides_of v x s h.0 k
no_sides false v x s h k = h

sides_first : (b : Bool) (v : Data) (x y : Broken) → BreaksSidesIf b v x → BreaksSidesIf b v y → y ≡ x
sides_first true v x y h k = one_first (BreaksK8Of v) x y h k
sides_first false v x y h k = absurd h

-- files spell one list of sections
pub one_calendars : (files : List (List ℕ)) (s t : List Section) → CalFiles files s → CalFiles files t → t ≡ s
one_calendars files s t h k = same_ok t s (sym (spelt_is_read files t k) ∙ spelt_is_read files s h)

-- a file gives one set of rates
pub one_fixings : (o : Option (List ℕ)) (t u : RateTable) → AreGivenFixings o t → AreGivenFixings o u → SameRates t u
one_fixings None t u h k = λ index slot. rw (h, k) refl
one_fixings (Some bytes) t u h k = same_file bytes t u h k

-- ---- tables with the same rates

-- the rates that a task uses are the same if the rates are
pub same_if : (b : Bool) (t u : RateTable) → SameRates t u → SameRates (if b then t else []) (if b then u else [])
same_if true t u e = e
same_if false t u e = λ index slot. refl

-- the rates alone decide what a task answers
tables_within : (t : Task) (g : Given) (swap : Swap) (sides : Option Sides) (cal : List Section) (r q : RateTable)
    (s : List Part) → SameRates r q
    → Within (answer_for t g (facts swap sides cal r s)) (answer_for t g (facts swap sides cal q s))
tables_within Check g swap sides cal r q s e = same_within _
tables_within Schedule g swap sides cal r q s e = same_within _
tables_within Audit g swap sides cal r q s e = same_within _
tables_within (Breaks from) g swap sides cal r q s e = same_within _
tables_within Emit g swap sides cal r q s e = same_within _
tables_within EmitXml g swap sides cal r q s e = same_within _
tables_within (Accrue date) g swap sides cal r q s e =
    given_within _ _ (λ a h. (h.0, accrued_same r q e swap cal date s a.1 h.1))
tables_within Net g swap sides cal r q s e = same_within _
tables_within (Observations stream) g swap sides cal r q s e = observations_within r q e swap cal s stream
tables_within (Overnight stream) g swap sides cal r q s e = overnight_within r q e swap cal s stream
tables_within (Average stream mean step) g swap sides cal r q s e = average_within r q e swap cal s stream mean step
tables_within (Interpolate stream side low high) g swap sides cal r q s e =
    interpolate_within r q e swap s stream side low high

-- ---- each step has one outcome

-- a text has one reading, or none
pub one_value : (w : SourceText) → IsOne (value_of w)
one_value w = record {
  answers = λ u v h k. one_reading w v u k h;
  refuses = λ _ _ _ _. refl;
  apart = λ v _ h none. none (v, h);
  back = λ v _ none h. none (v, h);
}

one_swap : (v : Data) → IsOne (swap_of_document v)
one_swap v = record {
  answers = λ s u h k. one_meaning v u s k h;
  refuses = λ b c h k. one_first (DocumentFault v) c b k h;
  apart = λ s b means first. means.clean b first.0;
  back = λ s b first means. means.clean b first.0;
}

-- a document means a lawful swap
pub means_lawful : (v : Data) (s : Swap) → Means v s → IsLawfulSwap s
means_lawful v s m = document_lawful v m.at s m.clean m.found m.says

one_side : (t : Task) (v : Data) → IsOne (sides_of t v)
one_side t v = record {
  answers = λ s u h k. one_sided t v u s k h;
  refuses = λ b c h k. sides_first (nets t) v c b k h;
  apart = λ s b has first. no_sides (nets t) v b s first has;
  back = λ s b first has. no_sides (nets t) v b s first has;
}

one_list : (files : List (List ℕ)) → IsOne (sections_of files)
one_list files = record {
  answers = λ s u h k. one_calendars files u s k h;
  refuses = λ x y h k. one_first_fault files x y h k;
  apart = λ s x spelt first. faulty_spell_none files x s first spelt;
  back = λ s x first spelt. faulty_spell_none files x s first spelt;
}

-- a file of fixings has one outcome, up to tables with the same rates
rates_agree : (file : Option (List ℕ)) → Agree SameRates (rates_of file) (rates_of file)
rates_agree file = record {
  answers = λ t u h k. one_fixings file t u h k;
  refuses = λ e f h k. one_fixings_fault file f e k h;
  apart = λ t f are fault. no_fixings file f t fault are;
  back = λ t f fault are. no_fixings file f t fault are;
}

one_terms : (swap : Swap) (cal : List Section) → IsOne (terms_of swap cal)
one_terms swap cal = record {
  answers = λ _ _ _ _. refl;
  refuses = λ b c h k. one_first (BreaksTerms swap cal) c b k h;
  apart = λ _ b keeps first. keeps b first.0;
  back = λ _ b first keeps. keeps b first.0;
}

module _ (swap : Swap) (cal : List Section) (r q : RateTable) (e : SameRates r q) (lawful : IsLawfulSwap swap) where
  dates_agree : KeepsTerms swap cal → Agree Same (keeping (DatedKept swap cal r) (DatedBroken swap cal r))
      (keeping (DatedKept swap cal q) (DatedBroken swap cal q))
  dates_agree keeps = let there = first_same_table r q e swap cal in
      let back = first_same_table q r (same_back r q e) swap cal in record {
        answers = λ _ _ _ _. refl;
        refuses = λ b c h k. one_broken swap cal r lawful keeps b c h (back c k);
        apart = λ _ b kept first. kept b (back b first);
        back = λ _ b first kept. kept b (there b first);
      }

  -- a lawful swap has one schedule or one first broken rule, whichever table has the rates
  schedules_agree : Agree Same (one_schedule_of swap cal r) (one_schedule_of swap cal q)
  schedules_agree =
      then_agree Same Same _ _ _ _ (refused_as_agree Same _ _ _ (one_terms swap cal)) (λ _ _ keeps _ _.
      then_agree Same Same _ _ _ _ (refused_as_agree Same _ _ _ (dates_agree keeps)) (λ _ _ _ _ _.
      given_agree Same _ _ (λ s u h k.
      sym (h.only u (schedule_same q r (same_back r q e) swap cal u k.is)))))

-- ---- all steps in turn

-- the same facts, with tables of the same rates
pub record AreSameFacts (f h : Facts) : Type 0 where
  pub swap : f.swap ≡ h.swap
  pub sides : f.sides ≡ h.sides
  pub cal : f.cal ≡ h.cal
  pub table : SameRates f.table h.table
  pub parts : f.parts ≡ h.parts

-- the files of a task give one set of facts, or one refusal
pub found_agree : (t : Task) (g : Given) → Agree AreSameFacts (found_of t g) (found_of t g)
unfolding found_of
found_agree t g =
    then_one AreSameFacts _ _ (refused_as_agree Same _ _ _ (one_value g.document)) (λ v _.
    then_one AreSameFacts _ _ (refused_as_agree Same _ _ _ (one_swap v)) (λ swap means.
    then_one AreSameFacts _ _ (refused_as_agree Same _ _ _ (one_side t v)) (λ sides _.
    then_one AreSameFacts _ _ (refused_as_agree Same _ _ _ (one_list g.calendars)) (λ cal _.
    then_agree SameRates AreSameFacts _ _ _ _ (refused_as_agree SameRates _ _ _ (rates_agree g.fixings)) (λ r q _ _ e.
    then_agree Same AreSameFacts _ _ _ _
    (schedules_agree swap cal (rates_for t r) (rates_for t q) (same_if (uses_rates t) r q e) (means_lawful v swap means))
    (λ p s _ _ same. answer_agree AreSameFacts (facts swap sides cal r p) (facts swap sides cal q s)
    (record { swap = refl; sides = refl; cal = refl; table = e; parts = same })))))))

-- the same facts give the same answers of a task
pub answers_within : (t : Task) (g : Given) (f h : Facts) → AreSameFacts f h → Within (answer_for t g f) (answer_for t g h)
answers_within t g f h e =
    subst (λ (x : Facts). Within (answer_for t g f) (answer_for t g x))
    (λ i. facts (e.swap i) (e.sides i) (e.cal i) h.table (e.parts i))
    (tables_within t g f.swap f.sides f.cal f.table h.table f.parts e.table)

-- a text spells a task
pub spells_by : (t : Task) (w : SourceText) (v : Data) (swap : Swap) (sides : Option Sides) → TextReads w v → Means v swap
    → HasSides t v sides → SpellsTask t w swap sides
spells_by t w v swap sides reads means has = record { value = v; reads = reads; means = means; has_sides = has }

-- the answer of a spot meets Q where the spot meets P
some_spot : (o : Option Spot) {P : Spot → Type 0} (Q : Answer → Type 0) → ((s : Spot) → P s → Q (faulty_calendar s))
    → IfSome o P → IfSome (option_map faulty_calendar o) Q
some_spot None Q f h = tt
some_spot (Some s) Q f h = f s h

module _ (t : Task) (g : Given) where
  -- files that pass each step give these facts
  pub passes_found : (f : Facts) → PassesEachStep t g f → (found_of t g).Answers f
  unfolding found_of
  passes_found f p =
      let d = p.document in (
        d.value,
        d.reads,
        (
          f.swap,
          d.means,
          (
            f.sides,
            d.has_sides,
            (
              f.cal,
              p.calendars,
              (
                f.table,
                p.fixings,
                (f.parts, (tt, p.terms, (tt, p.dated, p.schedule)), refl),
              ),
            ),
          ),
        ),
      )

  -- and only they do
  pub found_passes : (f : Facts) → (found_of t g).Answers f → PassesEachStep t g f
  unfolding found_of
  found_passes f (value, reads, (swap, means, (sides, has, (cal, files, (table, rates, (parts, made, same)))))) =
      subst (PassesEachStep t g) (sym same) (record {
        document = record { value = value; reads = reads; means = means; has_sides = has };
        calendars = files;
        fixings = rates;
        terms = made.1;
        dated = made.2.1;
        schedule = made.2.2;
      })

  module _ (f : Facts) (p : PassesEachStep t g f) where
    same_as : (h : Facts) → (found_of t g).Answers h → Within (answer_for t g h) (answer_for t g f)
    same_as h found = answers_within t g h f ((found_agree t g).answers h f found (passes_found f p))

    -- what is due for files that pass is what the task answers
    pub passes_due : (status : ℕ) (text : List ℕ) → DueFor t g status text → Gives (answer_for t g f) status text
    unfolding due
    passes_due status text (inl (h, found, told)) = inl ((same_as h found).answers (status, text) told)
    passes_due status text (inr (inl stopped)) = absurd ((found_agree t g).apart f (status, text) (passes_found f p) stopped)
    passes_due status text (inr (inr (h, found, told))) = inr ((same_as h found).refuses (status, text) told)

    -- and what it answers is due
    pub passed_reply : (o : Reply) → IsCarriedOut o → (answer_for t g f).Answers (reply_status o, reply_text o)
        → Ends (DueFor t g) (reply_status o) (reply_text o)
    unfolding due
    passed_reply o carried h = record { due = inl (f, passes_found f p, h); verdict = carried_low o carried }

    -- so is what it refuses
    pub passed_refusal : (r : Refusal) → RefusedBy (answer_for t g f) r → IfRefused r (Ends (DueFor t g))
    unfolding due
    passed_refusal r h =
        refusal_ends r (answer_for t g f).Refuses (DueFor t g) (λ status text k. inr (inr (f, passes_found f p, k))) h

  -- what is refused at a step is due
  pub refused_due : (r : Refusal) → RefusedBy (found_of t g) r → IfRefused r (Ends (DueFor t g))
  unfolding due
  refused_due r h = refusal_ends r (found_of t g).Refuses (DueFor t g) (λ status text k. inr (inl k)) h

  -- ---- the step that fails

  -- a text without a reading is refused
  pub refuse_text : (e : ReadErr) → ReadFails g.document e → RefusedBy (found_of t g) (of_read e)
  unfolding found_of
  refuse_text (reading.Unreadable u) h = inl (tt, h.none, refl)
  refuse_text reading.Memory h = tt

  -- a document that breaks a rule is refused
  pub refuse_read : (v : Data) (e : Stopped Broken) → TextReads g.document v
      → IfStopped e (First is_before (DocumentFault v)) → RefusedBy (found_of t g) (of_stopped e)
  unfolding found_of
  refuse_read v (stopped.Broken b) reads first = inr (v, reads, inl (b, first, refl))
  refuse_read v stopped.Memory reads first = tt

  -- parties that break a rule are refused
  pub refuse_sides : (v : Data) (swap : Swap) (b : Broken) → TextReads g.document v → Means v swap → BreaksSides t v b
      → RefusedBy (found_of t g) (Rule b)
  unfolding found_of
  refuse_sides v swap b reads means first = inr (v, reads, inr (swap, means, inl (b, first, refl)))

  module _ (swap : Swap) (sides : Option Sides) (d : SpellsTask t g.document swap sides) where
    -- a faulty calendar file is refused
    pub refuse_calendars : (e : CalErr) → IfSome (spot_of e) (IsFirstCalendarFault g.calendars)
        → RefusedBy (found_of t g) (Calendars e)
    unfolding found_of
    refuse_calendars e h = some_spot (spot_of e) (found_of t g).Refuses (λ s first.
        inr (d.value, d.reads, inr (swap, d.means, inr (sides, d.has_sides, inl (s, first, refl))))) h

    module _ (cal : List Section) (files : CalFiles g.calendars cal) where
      -- a faulty file of fixings is refused
      pub refuse_fixings : (e : FixErr) → FixingsFail g.fixings e → RefusedBy (found_of t g) (Fixings e)
      unfolding found_of
      refuse_fixings (fixing.Syntax line) h =
          inr (d.value, d.reads, inr (swap, d.means, inr (sides, d.has_sides, inr (cal, files, inl (_, h, refl)))))
      refuse_fixings (fixing.Repeat line) h =
          inr (d.value, d.reads, inr (swap, d.means, inr (sides, d.has_sides, inr (cal, files, inl (_, h, refl)))))
      refuse_fixings fixing.Memory h = tt

      -- a broken rule of the swap is refused
      pub refuse_rules : (table : RateTable) (r : Refusal) → AreGivenFixings g.fixings table
          → RefusedBy (one_schedule_of swap cal (rates_for t table)) r → RefusedBy (found_of t g) r
      unfolding found_of
      refuse_rules table r rates h = IfSome_then (answer_of r) h (λ a k.
          inr (
            d.value,
            d.reads,
            inr (
              swap,
              d.means,
              inr (
                sides,
                d.has_sides,
                inr (
                  cal,
                  files,
                  inr (table, rates, inl k),
                ),
              ),
            ),
          ))

      -- files that pass, from what was read and made
      pub passes_by : (table : RateTable) (parts : List Part) → AreGivenFixings g.fixings table
          → (one_schedule_of swap cal (rates_for t table)).Answers parts
          → PassesEachStep t g (facts swap sides cal table parts)
      passes_by table parts rates made = record {
        document = d;
        calendars = files;
        fixings = rates;
        terms = made.1;
        dated = made.2.1;
        schedule = made.2.2;
      }

-- the schedule that was made is the one schedule
pub made_schedule : (swap : Swap) (cal : List Section) (table : RateTable) → IsLawfulSwap swap → KeepsTerms swap cal
    → (parts : List Part) → (schedule_of swap cal table).Answers parts → IsSchedule swap cal table parts
    → (one_schedule_of swap cal table).Answers parts
made_schedule swap cal table lawful keeps parts made is =
    let dated = answered_free (schedule_determined swap cal table lawful keeps) parts made in (
      tt,
      keeps,
      (
        tt,
        dated,
        record {
          is = is;
          only = λ t h. one_schedule swap cal table lawful keeps dated t parts h is;
        },
      ),
    )

-- a schedule that cannot be made is refused
pub refuse_making : (swap : Swap) (cal : List Section) (table : RateTable) (e : Stopped Broken) → KeepsTerms swap cal
    → IfStopped e (DatedBroken swap cal table) → RefusedBy (one_schedule_of swap cal table) (of_stopped e)
refuse_making swap cal table (stopped.Broken b) keeps h = inr (tt, keeps, inl (b, h, refl))
refuse_making swap cal table stopped.Memory keeps h = tt

-- a refusal's answer, where its reply has been made
pub ends_by : (r : Refusal) (reply : Reply) (P : ℕ → List ℕ → Type 0)
    → answer_of r ≡ Some (reply_status reply, reply_text reply) → IfRefused r P
    → P (reply_status reply) (reply_text reply)
ends_by r reply P e h = subst (λ (o : Option Answer). IfSome o (λ a. P a.0 a.1)) e h
