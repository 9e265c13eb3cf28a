-- What `overnight`, `average` and `interpolate` print is used by `schedule`.
use Rattle.std.proofs.Common.{◌≡◌, inl, inr, ℕ, ◌-◌, ◌^◌, ◌<◌, List, [], ◌∷◌, length, Option, Some, None, IfSome}
use Rattle.std.proofs.Common.{ℤ, refl, sym, ap, subst, ◌∙◌, arith}
use Rattle.std.proofs.lemmas.Option.{same_Some}
use Rattle.irs_base.specs.Days.{IsDay}
use Rattle.irs_base.specs.Outcomes.{Only, Spec, ◌>>=◌, given_by, refused_as}
use Rattle.irs_terms.specs.declared.places.Broken.{Broken}
use Rattle.irs_terms.specs.declared.places.Fault.{Fault}
use Rattle.serde_json.specs.Data.{Data}
use Rattle.irs_terms.specs.Lawful.{IsLawfulSwap, IsLawfulFloat, IsLawfulLeg, IsRate}
use Rattle.irs_terms.specs.declared.amounts.FloatTerms.{FloatTerms}
use Rattle.irs_terms.specs.declared.frequency.Frequency.{Frequency}
use Rattle.irs_terms.specs.declared.stream.Stream.{Stream}
use Rattle.irs_terms.specs.declared.stream_list.Swap.{Swap}
use Rattle.irs_calendar.specs.declared.sections.Section.{Section}
use Rattle.irs_read.specs.Documents.{Means}
use Rattle.irs_resets.specs.FixingFiles.{IsFixingFile}
use Rattle.irs_resets.specs.Rates.{AreSmall, RateTable, rate_at}
use Rattle.irs_resets.specs.Resets.{IsPeriod}
use Rattle.irs_rules.proofs.Kept.{lawful_stream}
use Rattle.irs_schedule.specs.Schedules.{IsSchedule}
use Rattle.irs_overnight.specs.Overnight.{DerivedSource, derived_source, fixing_at, AreDerived, BreaksDerived}
use Rattle.irs_overnight.specs.Overnight.{OvernightAsked, HasSource, IsFirstDerived, IsOvernight, OvernightKept}
use Rattle.irs_overnight.specs.Texts.{AreFixings, file_text, IsLawfulLine}
use Rattle.irs_overnight.specs.declared.derived.DerivedRow.{DerivedRow}
use Rattle.irs_overnight.proofs.FileRead.{are_fixings}
use Rattle.irs_average.proofs.StubReading.{lawful_on}
use Rattle.irs_average.specs.Averages.{AverageAsked, AverageKept, HasMeanSource, IsAverage, IsFirstOfAverage, averaged}
use Rattle.irs_average.specs.Averages.{AreMeans, BreaksMeans, MeanSource, averaging_by, mean_source, own_lines}
use Rattle.irs_average.specs.Interpolations.{IsInterpolated, IsStubBroken, StubKept, IsStubRow, StubSource}
use Rattle.irs_average.specs.Interpolations.{HasStub, IsStubOn, Stub, StubAsked, stub_asked}
use Rattle.irs_average.specs.declared.means.Mean.{Mean}
use Rattle.irs_average.specs.declared.stubs.Side.{Side}
use Rattle.irs_answers.specs.Derived.{FloatingStream, IsFloatingAt, PrintsStub, averaged_of, compounded_of, floating_of}
use Rattle.irs_answers.specs.Derived.{printed, stub_of, IsMadeWith}
use Rattle.irs_answers.specs.Due.{AreGivenFixings as FixingsGive, Facts, PassesEachStep, SpellsTask}
use Rattle.irs_answers.specs.Forms.{Given}
use Rattle.irs_answers.specs.PrintedRates.{IsKeptSchedule, AveragePrints, InterpolatePrints, OvernightPrints, asked_of}
use Rattle.irs_answers.specs.PrintedRates.{with_fixings}
use Rattle.irs_answers.specs.Messages.{Answer, Gives, broken_rule, keeping}
use Rattle.irs_answers.specs.declared.tasks.Task.{Task}
use Rattle.irs_answers.specs.declared.tasks.Task.TheVariants.{Schedule, Overnight, Average, Interpolate}
use Rattle.irs_answers.proofs.DerivedSchedules.{average_used, overnight_used, own_part, stub_period, stub_used}
use Rattle.irs_answers.proofs.DueLemmas.{means_lawful, one_calendars, one_meaning, one_reading, passes_due}
use Rattle.irs_answers.proofs.KeptDerived.{derived_kept, fixing_is_day, means_kept, stub_kept}
use Rattle.irs_answers.proofs.StubLemmas.{one_index}

-- ---- what the files say

-- a document spells one swap, whatever the task needs
one_swap : (t r : Task) (g h : Given) (f u : Facts) → g.document ≡ h.document → SpellsTask t g.document f.swap f.sides
    → SpellsTask r h.document u.swap u.sides → u.swap ≡ f.swap
one_swap t r g h f u e p q =
    let again : SpellsTask r g.document u.swap u.sides = subst (λ w. SpellsTask r w u.swap u.sides) (sym e) q in
    let same : again.value ≡ p.value = one_reading g.document p.value again.value p.reads again.reads in
    one_meaning p.value f.swap u.swap p.means (subst (λ (v : Data). Means v u.swap) same again.means)

-- the rates of a file of fixings are at most 10 in size
small_option : (o : Option ℤ) → ((x : ℤ) → o ≡ Some x → IsRate x) → IfSome o IsRate
small_option None h = tt
small_option (Some x) h = h x refl

file_small : (bytes : List ℕ) (table : RateTable) → IsFixingFile bytes table → AreSmall table
file_small bytes table is index slot =
    small_option (rate_at table index slot) (λ x e. ((is.holds index slot x).0 e).1.spelt.rate_text.small)

fixings_small : (o : Option (List ℕ)) (table : RateTable) → FixingsGive o table → AreSmall table
fixings_small None table h index slot = rw h tt
fixings_small (Some bytes) table h index slot = file_small bytes table h index slot

-- with a text as the file of fixings, `schedule` makes a schedule with the rates of that file
made_with : (t : Task) (g : Given) (f u : Facts) (text other : List ℕ) → PassesEachStep t g f
    → PassesEachStep Schedule (with_fixings g text) u → text ≡ other → IsMadeWith f.swap f.cal other u.parts
made_with t g f u text other p q same =
    let swap = one_swap t Schedule g (with_fixings g text) f u refl p.document q.document in
    let cal = one_calendars g.calendars f.cal u.cal p.calendars q.calendars in
    let by_swap : IsSchedule f.swap u.cal u.table u.parts =
    subst (λ (s : Swap). IsSchedule s u.cal u.table u.parts) swap q.schedule.is in
    record {
      table = u.table;
      file = subst (λ (bytes : List ℕ). IsFixingFile bytes u.table) same q.fixings;
      schedule = subst (λ (c : List Section). IsSchedule f.swap c u.table u.parts) cal by_swap;
    }

-- ---- the stream and its lines

own_line : (swap : Swap) (number : ℕ) (x : FloatingStream) → IsLawfulSwap swap → IsFloatingAt swap number x
    → IsLawfulLine x.float.index x.float.tenor
own_line swap number x lawful at =
    let stream = lawful_stream swap lawful (number - 1) x.stream at.at in
    let float : IsLawfulFloat x.float = subst IsLawfulLeg at.pays stream.leg in
    record { named = float.index; lasting = float.tenor }

-- ---- what is printed with status 0

-- what is printed with status 0 is no refusal
not_broken : {A : Type 0} (spec : Spec A Broken) (text : List ℕ) → (refused_as broken_rule spec).Refuses (0, text) → ⊥
not_broken spec text (b, is, e) = let low : 0 ≡ 2 = ap (λ (a : Answer). a.0) e in absurd (omega (arith, low))

-- the stream is there, and what comes after it is printed
floated : (swap : Swap) (number : ℕ) (next : FloatingStream → Spec Answer Answer) (text : List ℕ)
    → Gives (refused_as broken_rule (floating_of swap number) >>= next) 0 text
    → (x : FloatingStream) × IsFloatingAt swap number x × Gives (next x) 0 text
floated swap number next text (inl (x, at, told)) = (x, at, inl told)
floated swap number next text (inr (inl none)) = absurd (not_broken (floating_of swap number) text none)
floated swap number next text (inr (inr (x, at, told))) = (x, at, inr told)

-- the rules are kept, and what comes after them is answered
kept_next : (Keeps : Type 0) (P : Broken → Type 0) (spec : Spec Answer Answer) (text : List ℕ)
    → ((a : Answer) → spec.Refuses a → ⊥) → Gives (refused_as broken_rule (keeping Keeps P) >>= λ _. spec) 0 text
    → Keeps × spec.Answers (0, text)
kept_next Keeps P spec text free (inl (_, keeps, told)) = (keeps, told)
kept_next Keeps P spec text free (inr (inl broken)) = absurd (not_broken (keeping Keeps P) text broken)
kept_next Keeps P spec text free (inr (inr (_, keeps, told))) = absurd (free (0, text) told)

-- printing rows refuses nothing
printed_free : (P : List DerivedRow → Type 0) (float : FloatTerms) (a : Answer) → (printed P float).Refuses a → ⊥
printed_free P float a (inl none) = none
printed_free P float a (inr (rows, is, none)) = none

module _ (t : Task) (g : Given) (f : Facts) (p : PassesEachStep t g f) (kept : IsKeptSchedule f.swap f.cal [] f.parts)
    (number : ℕ) (x : FloatingStream) (at : IsFloatingAt f.swap number x) where
  -- rows of daily rates print a fixing file
  overnight_file : (rows : List DerivedRow) → OvernightKept (asked_of f number x)
      → IsOvernight (asked_of f number x) rows → AreFixings rows x.float.tenor x.float.index
  overnight_file rows keeps over =
      let a : OvernightAsked = asked_of f number x in
      let has = over.has in
      let facts = own_part f.swap f.cal f.parts kept number x at has.part has.at in
      let source : DerivedSource = derived_source has.part has.float.index a.days a.rates in
      let own : HasSource a source =
      record { float = has.float; pays = has.pays; part = has.part; at = has.at; is = refl } in
      let derived : AreDerived source rows = subst (λ (z : DerivedSource). AreDerived z rows) has.is over.derived in
      let unbroken : (b : Fault) → BreaksDerived source b → ⊥ =
      λ b breaks. keeps b (record { source = source; has = own; breaks = breaks }) in
      are_fixings x.float.tenor x.float.index rows (own_line f.swap number x kept.lawful at)
      (derived_kept source rows derived unbroken facts.many facts.few facts.days)

  -- so do averages
  average_file : (mean : Mean) (step : ℕ) (rows : List DerivedRow) → AreSmall f.table
      → AverageKept (averaged (asked_of f number x) mean step)
      → IsAverage (averaged (asked_of f number x) mean step) rows → AreFixings rows x.float.tenor x.float.index
  average_file mean step rows small keeps average =
      let a : AverageAsked = averaged (asked_of f number x) mean step in
      let has = average.has in
      let facts = own_part f.swap f.cal f.parts kept number x at has.part has.at in
      let source : MeanSource =
      mean_source has.part (averaging_by mean step a.of.days (own_lines f.table has.float)) in
      let own : HasMeanSource a source =
      record { float = has.float; pays = has.pays; part = has.part; at = has.at; is = refl } in
      let means : AreMeans source rows = subst (λ (z : MeanSource). AreMeans z rows) has.is average.are in
      let unbroken : (b : Fault) → BreaksMeans source b → ⊥ =
      λ b breaks. keeps b (record { source = source; has = own; breaks = breaks }) in
      are_fixings x.float.tenor x.float.index rows (own_line f.swap number x kept.lawful at)
      (means_kept source rows means unbroken facts.many facts.few facts.days facts.rises
      (λ d. small has.float.index (record { date = d; tenor = has.float.tenor })))

  -- and so does the row of a stub
  stub_file : (side : Side) (low high : Frequency) (row : DerivedRow) (stub : Stub) → AreSmall f.table
      → HasStub (stub_asked f.swap number side low high f.parts f.table) stub
      → IsStubRow stub.source stub.period row → AreFixings (row ∷ []) stub.tenor stub.source.index
  stub_file side low high row stub small has own =
      let q = has.part in
      let facts = own_part f.swap f.cal f.parts kept number x at q has.at in
      let i = stub.period in
      let gives = has.gives in
      let same : gives.stream ≡ x.stream = same_Some gives.stream x.stream (sym gives.at ∙ at.at) in
      let is_stub : IsStubOn side x.stream has.span (length q.adjusted - 1) i =
      subst (λ (s : Stream). IsStubOn side s has.span (length q.adjusted - 1) i) same has.is_stub in
      let period : IsPeriod q.adjusted i = stub_period side x.stream has.span q.adjusted i facts.some is_stub in
      let fixing : stub.source.fixing ≡ fixing_at q.resets i = ap (λ (z : StubSource). z.fixing) has.is in
      let table : stub.source.rates ≡ f.table = ap (λ (z : StubSource). z.rates) has.is in
      let few = facts.few in
      let day : IsDay stub.source.fixing =
      subst IsDay (sym fixing) (fixing_is_day q.adjusted q.resets facts.many facts.days i period) in
      let short : i < 2 ^ 32 = omega (arith, period.1, few) in
      let stream = lawful_stream f.swap kept.lawful (number - 1) gives.stream gives.at in
      are_fixings stub.tenor stub.source.index (row ∷ [])
      (lawful_on side gives.stream.stubs stub.source.index stub.tenor stream.stubs gives.gives)
      (stub_kept stub.source i row (subst AreSmall (sym table) small) day short own)

-- ---- the tasks

pub overnight_prints : (number : ℕ) (g : Given) (f : Facts) (text : List ℕ) → OvernightPrints number g f text
overnight_prints number g f text p due =
    let t = Overnight number in
    let kept : IsKeptSchedule f.swap f.cal [] f.parts = record {
      lawful = means_lawful p.document.value f.swap p.document.means;
      terms = p.terms;
      dated = p.dated;
      schedule = p.schedule.is;
    } in
    let x = floated f.swap number (λ y. compounded_of (asked_of f number y) y.float) text (passes_due t g f p 0 text due) in
    let a = asked_of f number x.0 in
    let told = kept_next (OvernightKept a) (IsFirstDerived a) (printed (IsOvernight a) x.0.float) text
    (printed_free (IsOvernight a) x.0.float) x.2 in
    let rows = told.1 in
    let text_is = ap (λ (a : Answer). a.1) rows.2 in
    let file = overnight_file t g f p kept number x.0 x.1 rows.0 told.0 rows.1.is in
    record {
      stream = x.0;
      floats = x.1;
      rows = rows.0;
      only = rows.1;
      printed = text_is;
      file = file;
      used = λ u q. overnight_used f.swap f.cal f.parts kept number x.0 x.1 f.table rows.0 told.0 rows.1.is
          file u.parts (made_with t g f u text (file_text rows.0 x.0.float.tenor x.0.float.index) p q text_is);
    }

pub average_prints : (number : ℕ) (mean : Mean) (step : ℕ) (g : Given) (f : Facts) (text : List ℕ)
    → AveragePrints number mean step g f text
average_prints number mean step g f text p due =
    let t = Average number mean step in
    let kept : IsKeptSchedule f.swap f.cal [] f.parts = record {
      lawful = means_lawful p.document.value f.swap p.document.means;
      terms = p.terms;
      dated = p.dated;
      schedule = p.schedule.is;
    } in
    let x = floated f.swap number (λ y. averaged_of (averaged (asked_of f number y) mean step) y.float) text
    (passes_due t g f p 0 text due) in
    let a = averaged (asked_of f number x.0) mean step in
    let told = kept_next (AverageKept a) (IsFirstOfAverage a) (printed (IsAverage a) x.0.float) text
    (printed_free (IsAverage a) x.0.float) x.2 in
    let rows = told.1 in
    let text_is = ap (λ (a : Answer). a.1) rows.2 in
    let small = fixings_small g.fixings f.table p.fixings in
    let file = average_file t g f p kept number x.0 x.1 mean step rows.0 small told.0 rows.1.is in
    record {
      stream = x.0;
      floats = x.1;
      rows = rows.0;
      only = rows.1;
      printed = text_is;
      file = file;
      used = λ u q. average_used f.swap f.cal f.parts kept number x.0 x.1 f.table mean step rows.0 told.0
          rows.1.is file u.parts (made_with t g f u text (file_text rows.0 x.0.float.tenor x.0.float.index) p q text_is);
    }

pub interpolate_prints : (number : ℕ) (side : Side) (low high : Frequency) (g : Given) (f : Facts) (text : List ℕ)
    → InterpolatePrints number side low high g f text
interpolate_prints number side low high g f text p due =
    let t = Interpolate number side low high in
    let kept : IsKeptSchedule f.swap f.cal [] f.parts = record {
      lawful = means_lawful p.document.value f.swap p.document.means;
      terms = p.terms;
      dated = p.dated;
      schedule = p.schedule.is;
    } in
    let a : StubAsked = stub_asked f.swap number side low high f.parts f.table in
    let x = floated f.swap number (λ y. stub_of a) text (passes_due t g f p 0 text due) in
    let told = kept_next (StubKept a) (IsStubBroken a) (given_by (Only (IsInterpolated a)) >>= λ r. given_by (PrintsStub a r)) text
    (λ b none. elim none [
      | inl refused ↦ refused
      | inr then ↦ then.2
    ]) x.2 in
    let row = told.1 in
    let is : IsInterpolated a row.0 = row.1.is in
    let stub = is.stub in
    let said = one_index f.swap number side row.2.0 stub.source.index row.2.1.0 stub.tenor row.2.1.1 is.has.gives in
    let text_is : text ≡ file_text (row.0 ∷ []) stub.tenor stub.source.index =
    ap (λ (b : Answer). b.1) row.2.1.2 ∙ (λ i. file_text (row.0 ∷ []) (sym said.1 i) (sym said.0 i)) in
    let small = fixings_small g.fixings f.table p.fixings in
    let file = stub_file t g f p kept number x.0 x.1 side low high row.0 stub small is.has is.is in
    record {
      row = row.0;
      only = row.1;
      stub = stub;
      has = is.has;
      printed = text_is;
      file = file;
      used = λ u q. stub_used f.swap f.cal f.parts kept number x.0 x.1 f.table side low high row.0 stub is
          is.has file u.parts (made_with t g f u text (file_text (row.0 ∷ []) stub.tenor stub.source.index) p q text_is);
    }
