-- A stream that breaks no rule of the terms keeps what the calls of a schedule need.
use Rattle.std.proofs.Common.{◌≡◌, inl, inr, ℕ, zero, suc, ◌+◌, ◌≤ℤ◌, ◌<ℤ◌, List, [], ◌∷◌, Option, Some, None, IfSome}
use Rattle.std.proofs.Common.{slice_get, unwrap_or, ℤ, refl, subst}
use Rattle.std.proofs.lemmas.Option.{slice_get_within, get_or_from_slice_get}
use Rattle.irs_terms.specs.declared.places.Rule.{Rule}
use Rattle.irs_terms.specs.declared.places.Rule.TheVariants.{K12, K13, K14, K17, K18, K19, K47}
use Rattle.irs_terms.specs.declared.places.Fault.{Fault}
use Rattle.irs_terms.specs.Elements as elements
use Rattle.irs_terms.specs.Faults.{fault_at, in_stream}
use Rattle.irs_base.specs.Private.Order.{IsDecided}
use Rattle.irs_calendar.specs.declared.sections.Section.{Section}
use Rattle.irs_calendar.specs.Sections.{first_missing}
use Rattle.irs_terms.specs.declared.adjustments.AdjustableDate.{AdjustableDate}
use Rattle.irs_terms.specs.declared.amounts.Leg.{Leg}
use Rattle.irs_terms.specs.declared.amounts.Leg.TheVariants.{Fixed, Floating}
use Rattle.irs_terms.specs.declared.step_list.Step.{Step}
use Rattle.irs_terms.specs.declared.stream.Stream.{Stream}
use Rattle.irs_terms.specs.declared.stream_list.Swap.{Swap}
use Rattle.irs_terms.specs.Centers.{IsSaid, IsSaidReset, names_by, names_with, reset_names, fixing_names}
use Rattle.irs_terms.specs.TermDates.{first_day_of, StepsRise, LegStepsRise, StepStands, IsStepInside, FrequencySuits}
use Rattle.irs_terms.specs.TermDates.{DatesInOrder, EndsAfterStart, StartsBefore, FirstRegularInside, LastRegularInside}
use Rattle.irs_terms.specs.TermDates.{termination_of}
use Rattle.irs_terms.specs.Lawful.{IsLawfulSwap, IsLawfulStream, FitsLeg, FitsResets, FitsStubs}
use Rattle.irs_rules.specs.TermsRules.{Breaks, BreaksItem, BreaksK12, BreaksK13, BreaksK14, BreaksK17, BreaksK18}
use Rattle.irs_rules.specs.TermsRules.{BreaksK18InLeg, BreaksK19, BreaksK47, TermsKept, BreaksNone, BreaksStream}
use Rattle.irs_rules.specs.Parameters.{AreFound, IsFoundAt, start_names, DayCountFits, FinalStubFits, FitsParameters}
use Rattle.irs_rules.specs.Parameters.{InitialRateFits, InitialStubFits, TenorFits, applicable_names}
use Rattle.irs_rules.specs.Private.TermsKept.{AllKept}
use Rattle.irs_rules.proofs.Decisions.{holds, decides_both, decides_given, decides_less, decides_upto, decides_said}
use Rattle.irs_rules.proofs.Decisions.{decides_said_fixing, decides_resets, decides_stubs, decides_found}
use Rattle.irs_rules.proofs.Decisions.{frequency_holds, stands_holds}
use Rattle.irs_rules.proofs.ParameterDecisions.{decides_day_count, decides_final_stub, decides_initial_rate}
use Rattle.irs_rules.proofs.ParameterDecisions.{decides_initial_stub, decides_tenor}

-- what an element keeps can't fail, where the rule isn't broken there
not_broken : (rule : Rule) (elem : ℕ) (Kept : Type 0) → ((f : Fault) → Breaks rule elem Kept f → ⊥) → (Kept → ⊥) → ⊥
not_broken rule elem Kept never fails = never (fault_at rule elem 0) (record { place = refl; broken = fails })

-- nor what an item of a repeated element keeps
no_item_broken : (rule : Rule) (elem : ℕ) (Kept : ℕ → Type 0) → ((f : Fault) → BreaksItem rule elem Kept f → ⊥)
    → (i : ℕ) → (Kept i → ⊥) → ⊥
no_item_broken rule elem Kept never i fails =
    never (fault_at rule elem (i + 1)) (record { item = i; place = refl; broken = fails })

-- what is decided is kept, where the rule isn't broken
kept_at : (rule : Rule) (elem : ℕ) (Kept : Type 0) → IsDecided Kept → ((f : Fault) → Breaks rule elem Kept f → ⊥) → Kept
kept_at rule elem Kept decides never = holds decides (not_broken rule elem Kept never)

-- ---- K13

decides_inside : (from to : ℤ) (day : Option ℤ) → IsDecided (IfSome day (λ d. (from ≤ℤ d) × (d ≤ℤ to)))
decides_inside from to day = decides_given _ day (λ d. decides_both (decides_upto from d) (decides_upto d to))

dates_in_order : (s : Stream) → ((f : Fault) → BreaksK13 s f → ⊥) → DatesInOrder s
dates_in_order s never = record {
  ends = kept_at K13 elements.termination_date (EndsAfterStart s) (decides_less s.effective.day (termination_of s))
      (λ f h. never f (inl h));
  starts = kept_at K13 elements.first_period_start_date (StartsBefore s)
      (decides_given _ s.first_start (λ start. decides_less start.day s.effective.day)) (λ f h. never f (inr (inl h)));
  first = kept_at K13 elements.first_regular_period_start_date (FirstRegularInside s)
      (decides_inside (first_day_of s) (termination_of s) s.first_regular) (λ f h. never f (inr (inr (inl h))));
  last = kept_at K13 elements.last_regular_period_end_date (LastRegularInside s)
      (decides_inside (unwrap_or s.first_regular (first_day_of s)) (termination_of s) s.last_regular)
      (λ f h. never f (inr (inr (inr h))));
}

-- ---- K17, K19

is_said : (s : Stream) → ((f : Fault) → BreaksK17 s f → ⊥) → IsSaid s.pay.offset
is_said s never =
    kept_at K17 elements.payment_days_offset (IsSaid s.pay.offset) (decides_said s.pay.offset) (λ f h. never f (inl h))

is_said_reset : (s : Stream) → ((f : Fault) → BreaksK17 s f → ⊥) → IsSaidReset s
is_said_reset s never =
    kept_at K17 elements.fixing_dates (IsSaidReset s)
    (decides_given _ s.reset (λ terms. decides_said_fixing terms.fixing)) (λ f h. never f (inr h))

fits_leg : (s : Stream) → ((f : Fault) → BreaksK19 s f → ⊥) → FitsLeg s
fits_leg s never = record {
  resets = kept_at K19 elements.reset_dates (FitsResets s.leg s.reset) (decides_resets s.leg s.reset)
      (λ f h. never f (inl h));
  stubs = kept_at K19 elements.stub_amount (FitsStubs s.leg s.stubs) (decides_stubs s.leg s.stubs)
      (λ f h. never f (inr h));
}

-- ---- K47

fits_parameters : (s : Stream) → ((f : Fault) → BreaksK47 s f → ⊥) → FitsParameters s
fits_parameters s never = record {
  tenor = kept_at K47 elements.index_tenor (TenorFits s.leg) (decides_tenor s.leg) (λ f h. never f (inl h));
  initial_rate = kept_at K47 elements.initial_rate (InitialRateFits s.leg) (decides_initial_rate s.leg)
      (λ f h. never f (inr (inl h)));
  day_count = kept_at K47 elements.day_count_fraction (DayCountFits s) (decides_day_count s)
      (λ f h. never f (inr (inr (inl h))));
  initial_stub = kept_at K47 elements.initial_stub_floating_rate (InitialStubFits s) (decides_initial_stub s)
      (λ f h. never f (inr (inr (inr (inl h)))));
  final_stub = kept_at K47 elements.final_stub_floating_rate (FinalStubFits s) (decides_final_stub s)
      (λ f h. never f (inr (inr (inr (inr h)))));
}

-- ---- K18

-- steps that each lie inside the term rise
pub steps_rise : (from to : ℤ) (steps : List Step) → ((i : ℕ) → StepStands from to steps i) → StepsRise steps
steps_rise from to steps stands = rise steps (λ i s t here next. in_order i s t here next)
  where
    rise : (steps : List Step)
        → ((i : ℕ) (s t : Step) → slice_get steps i ≡ Some s → slice_get steps (suc i) ≡ Some t → s.day <ℤ t.day)
        → StepsRise steps
    rise [] ordered = tt
    rise (s ∷ []) ordered = tt
    rise (s ∷ t ∷ ss) ordered =
        (ordered zero s t refl refl, rise (t ∷ ss) (λ i a b here next. ordered (suc i) a b here next))

    in_order : (i : ℕ) (s t : Step) → slice_get steps i ≡ Some s → slice_get steps (suc i) ≡ Some t → s.day <ℤ t.day
    in_order i s t here next =
        let inside : IsStepInside from to steps (suc i) t =
        subst (λ (o : Option Step). IfSome o (IsStepInside from to steps (suc i))) next (stands (suc i)) in
        subst (λ (o : Option Step). IfSome o (λ before. before.day <ℤ t.day)) here inside.in_order

rise_at : (elem : ℕ) (from to : ℤ) (steps : List Step)
    → ((f : Fault) → BreaksItem K18 elem (StepStands from to steps) f → ⊥) → StepsRise steps
rise_at elem from to steps never =
    steps_rise from to steps
    (λ i. stands_holds from to steps i (no_item_broken K18 elem (StepStands from to steps) never i))

leg_rises : (from to : ℤ) (leg : Leg) → ((f : Fault) → BreaksK18InLeg from to leg f → ⊥) → LegStepsRise leg
leg_rises from to (Fixed rates) never = rise_at elements.fixed_rate_step_date from to rates.steps never
leg_rises from to (Floating float) never = (
  rise_at elements.multiplier_step_date from to float.multiplier.steps (λ f h. never f (inl h)),
  rise_at elements.spread_step_date from to float.spread.steps (λ f h. never f (inr h)),
)

-- ---- K12

none_missing : (cal : List Section) (k : ℕ) (names : List (List ℕ)) → ((i : ℕ) → IsFoundAt cal (Some names) i)
    → first_missing cal k names ≡ None
none_missing cal k [] found = refl
none_missing cal k (n ∷ ns) found = rw (found zero) (none_missing cal (k + 1) ns (λ i. found (suc i)))

all_found : (cal : List Section) (names : Option (List (List ℕ))) → ((i : ℕ) → IsFoundAt cal names i)
    → AreFound cal names
all_found cal None found = tt
all_found cal (Some names) found = none_missing cal 1 names found

found_at : (elem : ℕ) (cal : List Section) (names : Option (List (List ℕ)))
    → ((f : Fault) → BreaksItem K12 elem (IsFoundAt cal names) f → ⊥) → AreFound cal names
found_at elem cal names never =
    all_found cal names (λ i. holds (decides_found cal names i) (no_item_broken K12 elem (IsFoundAt cal names) never i))

-- the first boundary's adjustments are those of firstPeriodStartDate, else of the effective date
found_at_first : (cal : List Section) (start : Option AdjustableDate) (effective : AdjustableDate) → AreFound cal (start_names start)
    → AreFound cal (names_by effective.adj)
    → AreFound cal (names_by (unwrap_or start effective).adj)
found_at_first cal None effective first rest = rest
found_at_first cal (Some date) effective first rest = first

-- ---- all rules together

-- a lawful stream that breaks no rule of the terms keeps them
pub stream_keeps : (cal : List Section) (s : Stream) → IsLawfulStream s → ((f : Fault) → BreaksStream cal s f → ⊥)
    → TermsKept cal s
stream_keeps cal s lawful never =
    let no12 : (f : Fault) → BreaksK12 cal s f → ⊥ = λ f h. never f (inl (inr (inr h))) in
    let no13 : (f : Fault) → BreaksK13 s f → ⊥ = λ f h. never f (inr (inl (inl h))) in
    let no14 : (f : Fault) → BreaksK14 s f → ⊥ = λ f h. never f (inr (inl (inr (inl h)))) in
    let no17 : (f : Fault) → BreaksK17 s f → ⊥ = λ f h. never f (inr (inr (inl (inl h)))) in
    let no18 : (f : Fault) → BreaksK18 s f → ⊥ = λ f h. never f (inr (inr (inl (inr (inl h))))) in
    let no19 : (f : Fault) → BreaksK19 s f → ⊥ = λ f h. never f (inr (inr (inl (inr (inr (inl h)))))) in
    let no47 : (f : Fault) → BreaksK47 s f → ⊥ = λ f h. never f (inr (inr (inr h))) in
    record {
      dates = dates_in_order s no13;
      frequency = frequency_holds s lawful.roll
          (not_broken K14 elements.calculation_period_frequency (FrequencySuits s) no14);
      said = is_said s no17;
      said_reset = is_said_reset s no17;
      legs = fits_leg s no19;
      parameters = fits_parameters s no47;
      notional_rises =
          rise_at elements.notional_step_date s.effective.day (termination_of s) s.notional.steps
          (λ f h. no18 f (inl h));
      leg_rises = leg_rises s.effective.day (termination_of s) s.leg (λ f h. no18 f (inr h));
      start_found = found_at_first cal s.first_start s.effective
          (found_at elements.first_period_start_adjustments cal (start_names s.first_start)
          (λ f h. no12 f (inr (inr (inr (inl h))))))
          (found_at elements.effective_date_adjustments cal (names_by s.effective.adj) (λ f h. no12 f (inl h)));
      end_found = found_at elements.termination_date_adjustments cal (names_by s.termination.adj)
          (λ f h. no12 f (inr (inl h)));
      middle_found =
          found_at elements.period_dates_adjustments cal (names_by s.period_adj) (λ f h. no12 f (inr (inr (inl h))));
      payment_found =
          found_at elements.payment_dates_adjustments cal (names_with s.pay.offset s.pay.adj)
          (λ f h. no12 f (inr (inr (inr (inr (inl h))))));
      reset_found =
          found_at elements.reset_dates_adjustments cal (reset_names s.reset)
          (λ f h. no12 f (inr (inr (inr (inr (inr (inr (inl h))))))));
      fixing_found =
          found_at elements.fixing_dates cal (fixing_names s.reset)
          (λ f h. no12 f (inr (inr (inr (inr (inr (inl h)))))));
      applicable_found =
          found_at elements.applicable_business_days cal (applicable_names s.leg)
          (λ f h. no12 f (inr (inr (inr (inr (inr (inr (inr h))))))));
    }

-- each stream of a lawful swap is lawful
pub lawful_stream : (swap : Swap) → IsLawfulSwap swap → (i : ℕ) (s : Stream) → slice_get swap.streams i ≡ Some s
    → IsLawfulStream s
lawful_stream swap lawful i s there =
    subst IsLawfulStream (get_or_from_slice_get swap.streams i s s there)
    (lawful.2 i s (slice_get_within swap.streams i s there))

-- each stream of a lawful swap that breaks no rule of the terms keeps them
pub terms_kept : (swap : Swap) (cal : List Section) → IsLawfulSwap swap → BreaksNone swap cal → AllKept swap cal
terms_kept swap cal lawful never i s there =
    stream_keeps cal s (lawful_stream swap lawful i s there)
    (λ f h. never (in_stream (i + 1) f) (record {
      position = i;
      stream = s;
      there = there;
      fault = f;
      numbered =
          refl;
      breaks = h;
    }))
