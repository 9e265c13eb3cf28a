-- There are derived rates where no rule of theirs is broken; where one is, one comes first. It can't be otherwise.
use Rattle.std.proofs.Common.{◌≡◌, inl, inr, ℕ, ◌-◌, ◌≤◌, List, [], Option, Some, None, ℤ, ◌-ℤ◌, ◌+ℤ◌, ◌*ℤ◌}
use Rattle.std.proofs.Common.{◌<ℤ◌, refl, subst, arith}
use Rattle.std.specs.Prelude.{slice_get}
use Rattle.jiff_core.proofs.SignedLemmas.{signed_arith}
use Rattle.irs_base.proofs.Firsts.{IsFounded, level_founded, rank_founded}
use Rattle.irs_base.proofs.RoundingLaws.{nearest_exists}
use Rattle.irs_base.specs.Outcomes.{First}
use Rattle.irs_terms.specs.Faults.{in_stream, rule_number}
use Rattle.irs_terms.specs.declared.places.Broken.{Broken}
use Rattle.irs_terms.specs.declared.places.Fault.{Fault}
use Rattle.irs_terms.specs.declared.amounts.FloatTerms.{FloatTerms}
use Rattle.irs_terms.specs.declared.stream_list.Swap.{Swap}
use Rattle.irs_calendar.specs.declared.sections.Section.{Section}
use Rattle.irs_resets.specs.Rates.{RateTable}
use Rattle.irs_schedule.specs.DaySets.{reset_days}
use Rattle.irs_schedule.specs.Parts.{Part, Rises}
use Rattle.irs_overnight.specs.Overnight.{AreDerived, BreaksDerivedRule, DerivedSource, HasSource, IsAsked}
use Rattle.irs_overnight.specs.Overnight.{IsFirstDerived, IsOvernight}
use Rattle.irs_overnight.specs.Overnight.{OvernightAsked, OvernightKept, asked, derived_before, derived_source}
use Rattle.irs_overnight.specs.Overnight.{derived_turn}
use Rattle.irs_overnight.specs.Observations.{basis_of}
use Rattle.irs_overnight.specs.declared.derived.DerivedRow.{DerivedRow}
use Rattle.irs_overnight.specs.declared.derived.Found.{Found}
use Rattle.irs_overnight.specs.declared.derived.Found.TheVariants.{Missing, Rate}
use Rattle.irs_overnight.proofs.RowLemmas.{one_derived}
use Rattle.irs_overnight.proofs.SourceLemmas.{asked_part, has_source, one_source}
use Rattle.irs_overnight.proofs.ThereLemmas.{rows_there}
use Rattle.irs_average.specs.Averages.{AreMeans, AverageAsked, AverageKept, BreaksAverage, HasMeanSource, IsAverage}
use Rattle.irs_average.specs.Averages.{IsFirstOfAverage, MeanSource, averaged}
use Rattle.irs_average.specs.Interpolations.{BreaksStub, HasStub, IsFoundBetween, IsInterpolated, IsStubBroken}
use Rattle.irs_average.specs.Interpolations.{LiesBetween}
use Rattle.irs_average.specs.Interpolations.{Stub, StubAsked, StubKept, no_stub, outside_at, tenor_rate}
use Rattle.irs_average.proofs.AverageLemmas.{has_mean_source, one_mean_source, source_with}
use Rattle.irs_average.proofs.MeanRowLemmas.{means_there, one_means}
use Rattle.irs_average.proofs.StubLemmas.{one_interpolated}
use Rattle.irs_average.specs.declared.means.Mean.{Mean}
use Rattle.irs_answers.specs.Derived.{FloatingStream, IsFloatingAt, PrintsStub, averaged_of, compounded_of, floating_of}
use Rattle.irs_answers.specs.Derived.{printed, stub_of}
use Rattle.irs_answers.specs.Due.{IsCertain}
use Rattle.irs_answers.specs.Messages.{broken_rule, keeping}
use Rattle.irs_answers.specs.Private.Outcomes.{IsAccruing, IsUnfixedSchedule}
use Rattle.irs_answers.specs.Tasks.{accruing}
use Rattle.irs_accrue.proofs.Periods.{HasBoundaries}
use Rattle.irs_answers.proofs.AccruedThere.{part_boundaries}
use Rattle.irs_answers.proofs.Certain.{AlwaysComes, answer_comes, answers, certain, certain_either, certain_first}
use Rattle.irs_answers.proofs.Certain.{certain_map, certain_then, given_comes, only_comes, refused_as_comes, refuses}
use Rattle.irs_answers.proofs.Certain.{then_comes}
use Rattle.irs_answers.proofs.DerivedLemmas.{overnight_asked}

-- ---- the stream

-- a number names a floating stream, or none
pub stream_comes : (swap : Swap) (n : ℕ) → AlwaysComes (floating_of swap n)
stream_comes swap n = certain_map (λ c. elim c [
  | inl x ↦ answers x.0 x.1
  | inr none ↦ refuses _ ((λ x at. none (x, at)), refl)
]) (certain_either ((x : FloatingStream) × IsFloatingAt swap n x))

-- ---- rules that are kept, or of which one comes first

-- the faults of derived rates don't come before one another without end
derived_founded : IsFounded derived_before
derived_founded =
    level_founded (λ (f : Fault). derived_turn f.rule) _
    (level_founded (λ (f : Fault). f.index) _
    (level_founded (λ (f : Fault). rule_number f.rule) _ (rank_founded (λ (f : Fault). f.elem))))

-- rules that are kept, or of which one is the first broken
pub rules_come : (Breaks : Fault → Type 0) (IsFirst : Broken → Type 0)
    → ((f : Fault) → First derived_before Breaks f → (b : Broken) × IsFirst b)
    → AlwaysComes (keeping ((f : Fault) → Breaks f → ⊥) IsFirst)
rules_come Breaks IsFirst say = certain_map (λ c. elim c [
  | inl first ↦ let b = say first.0 first.1 in refuses b.0 b.1
  | inr none ↦ answers tt none
]) (certain_first derived_before derived_founded Breaks)

-- the only rows of a task are printed
printed_comes : (P : List DerivedRow → Type 0) (float : FloatTerms) → (rows : List DerivedRow) × P rows
    → ((a b : List DerivedRow) → P a → P b → b ≡ a) → AlwaysComes (printed P float)
printed_comes P float there one =
    then_comes _ _ (only_comes P (certain there) one) (λ rows _. answer_comes _)

-- ---- compounded daily rates, and averages

module _ (swap : Swap) (cal : List Section) (parts : List Part) (h : IsUnfixedSchedule swap cal parts) (n : ℕ)
    (x : FloatingStream) (k : IsFloatingAt swap n x) (rates : RateTable) where
  abbrev request : OvernightAsked
  request = asked swap n parts (reset_days cal x.stream) rates

  is_asked : IsAsked request
  is_asked = overnight_asked swap cal parts h n x k (reset_days cal x.stream) rates refl

  bounds : (p : Part) → slice_get parts (n - 1) ≡ Some p → HasBoundaries p
  bounds p there =
      let is : IsAccruing (accruing swap cal []) parts =
      record { lawful = h.lawful; terms = h.terms; dated = h.dated; schedule = h.schedule } in
      part_boundaries (accruing swap cal []) parts is (n - 1) x.stream k.at p there

  overnight_rises : (source : DerivedSource) → HasSource request source → Rises source.adjusted
  overnight_rises source has =
      let is = has.is in
      let rises = (bounds has.part has.at).adjusted_rises in
      rw is rises

  overnight_one : (a b : List DerivedRow) → IsOvernight request a → IsOvernight request b → b ≡ a
  overnight_one a b p q =
      let same = one_source request q.source p.source q.has p.has in
      one_derived p.source (overnight_rises p.source p.has) b a
      (subst (λ (s : DerivedSource). AreDerived s b) same q.derived) p.derived

  overnight_there : OvernightKept request → (rows : List DerivedRow) × IsOvernight request rows
  overnight_there kept =
      let part = asked_part request is_asked in
      let float = is_asked.floats.0 in
      let source : DerivedSource = derived_source part.0 float.index request.days request.rates in
      let has : HasSource request source = has_source request is_asked float is_asked.floats.1 part.0 part.1 in
      let long = (bounds part.0 part.1).adjusted in
      let rows = rows_there source (overnight_rises source has) (omega (arith, long))
      (λ f breaks. kept f (record { source = source; has = has; breaks = breaks })) (basis_of source.day_count) refl in
      (rows.0, record { source = source; has = has; derived = rows.1 })

  -- a stream has its compounded rates, or a first rule that is broken
  pub compounded_comes : AlwaysComes (compounded_of request x.float)
  compounded_comes =
      then_comes _ _
      (refused_as_comes broken_rule _
      (rules_come (BreaksDerivedRule request) (IsFirstDerived request) (λ f first.
      (in_stream n f, record { fault = f; first = first; is = refl }))))
      (λ _ kept. printed_comes (IsOvernight request) x.float (overnight_there kept) overnight_one)

  module _ (mean : Mean) (step : ℕ) (some : 1 ≤ step) where
    abbrev means : AverageAsked
    means = averaged request mean step

    average_rises : (source : MeanSource) → HasMeanSource means source → Rises source.adjusted
    average_rises source has =
        let is = has.is in
        let rises = (bounds has.part has.at).adjusted_rises in
        rw is rises

    average_one : (a b : List DerivedRow) → IsAverage means a → IsAverage means b → b ≡ a
    average_one a b p q =
        let same = one_mean_source means q.source p.source q.has p.has in
        one_means p.source (average_rises p.source p.has) b a
        (subst (λ (s : MeanSource). AreMeans s b) same q.are) p.are

    average_there : AverageKept means → (rows : List DerivedRow) × IsAverage means rows
    average_there kept =
        let part = asked_part request is_asked in
        let float = is_asked.floats.0 in
        let source : MeanSource = source_with means part.0 float in
        let has : HasMeanSource means source = has_mean_source means float is_asked.floats.1 part.0 part.1 in
        let long = (bounds part.0 part.1).adjusted in
        let rows = means_there source (average_rises source has) some (omega (arith, long))
        (λ f breaks. kept f (record { source = source; has = has; breaks = breaks })) in
        (rows.0, record { source = source; has = has; are = rows.1 })

    -- a stream has its averages, or a first rule that is broken
    pub averaged_comes : AlwaysComes (averaged_of means x.float)
    averaged_comes =
        then_comes _ _
        (refused_as_comes broken_rule _
        (rules_come (BreaksAverage means) (IsFirstOfAverage means) (λ f first.
        (in_stream n f, record { fault = f; first = first; is = refl }))))
        (λ _ kept. printed_comes (IsAverage means) x.float (average_there kept) average_one)

-- ---- the rate of a stub

found_between : (low high : Option ℤ) (near far end fixing : ℤ) → near <ℤ far
    → (found : Found) × IsFoundBetween low high near far end fixing found
found_between None high near far end fixing order = (Missing fixing, (refl, inl refl))
found_between (Some l) None near far end fixing order = (Missing fixing, (refl, inr refl))
found_between (Some l) (Some g) near far end fixing order =
    let x = nearest_exists (l *ℤ (far -ℤ near) +ℤ (g -ℤ l) *ℤ (end -ℤ near)) (far -ℤ near)
    (omega (arith, signed_arith, order)) in
    (Rate x.0, record { low_rate = l; is_low = refl; high_rate = g; is_high = refl; rounded = x.1 })

module _ (a : StubAsked) where
  stub_there : StubKept a → IsCertain ((stub : Stub) × HasStub a stub)
  stub_there kept = λ no. kept no_stub (inl ((λ stub has. no (stub, has)), refl))

  -- the days on which the two tenors of a stub end
  abbrev Between : Stub → Type 0
  Between stub =
      (near : ℤ) × ((far : ℤ) × LiesBetween stub.source.start stub.source.end stub.source.low stub.source.high near far)

  between_there : StubKept a → (stub : Stub) → HasStub a stub → IsCertain (Between stub)
  between_there kept stub has = λ no.
      kept (outside_at stub.period)
      (inr (record { stub = stub; has = has; outside = λ near far lies. no (near, (far, lies)); is = refl }))

  row_by : (stub : Stub) → HasStub a stub → Between stub → (row : DerivedRow) × IsInterpolated a row
  row_by stub has (near, (far, lies)) =
      let source = stub.source in
      let found = found_between (tenor_rate source source.low) (tenor_rate source source.high) near far source.end
      source.fixing lies.order in (
        record { period = stub.period; fixing = source.fixing; found = found.0 },
        record {
          stub = stub;
          has = has;
          is = record {
            near = near;
            far = far;
            between = lies;
            number = refl;
            fixing = refl;
            found = found.1;
          };
        },
      )

  row_there : StubKept a → IsCertain ((row : DerivedRow) × IsInterpolated a row)
  row_there kept =
      certain_then (stub_there kept) (λ s. certain_map (row_by s.0 s.1) (between_there kept s.0 s.1))

  -- the rules of a stub are kept, or one is broken
  stub_rules : AlwaysComes (keeping (StubKept a) (IsStubBroken a))
  stub_rules = certain_map (λ c. elim c [
    | inl broken ↦
        refuses (in_stream a.number broken.0) (record { fault = broken.0; breaks = broken.1; is = refl })
    | inr none ↦ answers tt (λ f breaks. none (f, breaks))
  ]) (certain_either ((f : Fault) × BreaksStub a f))

  -- a stub has its rate, or a rule of it is broken
  pub stub_comes : AlwaysComes (stub_of a)
  stub_comes =
      then_comes _ _ (refused_as_comes broken_rule _ stub_rules) (λ _ kept.
      then_comes _ _
      (only_comes (IsInterpolated a) (row_there kept) (λ p q h k. one_interpolated a q p k h))
      (λ row only.
      let has = only.is.has in
      given_comes (PrintsStub a row) (certain (_, (only.is.stub.source.index, (only.is.stub.tenor, has.gives, refl))))))
