-- What the rules of the terms ask is decided, so what isn't broken is kept.
use Rattle.std.proofs.Common.{◌≡◌, inl, inr, ℕ, zero, suc, Bool, true, false, List, Option, Some, None, IfSome}
use Rattle.std.proofs.Common.{slice_get, ℤ, pos, ◌≤ℤ◌, ◌<ℤ◌, refl, arith}
use Rattle.std.specs.Prelude.{IsTrue}
use Rattle.jiff_core.proofs.SignedLemmas.{signed_arith}
use Rattle.irs_base.specs.Private.Order.{IsDecided}
use Rattle.irs_base.proofs.Decided.{order_of, decides_same}
use Rattle.irs_calendar.specs.declared.sections.Section.{Section}
use Rattle.irs_calendar.specs.Sections.{is_named}
use Rattle.irs_terms.specs.declared.adjustments.Offset.{Offset}
use Rattle.irs_terms.specs.declared.amounts.Leg.{Leg}
use Rattle.irs_terms.specs.declared.amounts.Leg.TheVariants.{Fixed, Floating}
use Rattle.irs_terms.specs.declared.amounts.StubTerms.{StubTerms}
use Rattle.irs_terms.specs.declared.codes.DayKind.{DayKind}
use Rattle.irs_terms.specs.declared.codes.DayKind.TheVariants.{Business, Calendar, Unsaid}
use Rattle.irs_terms.specs.declared.codes.RollCode.{RollCode}
use Rattle.irs_terms.specs.declared.codes.RollCode.TheVariants.{Eom, Dom, Imm, OnWeekday, NoRoll}
use Rattle.irs_terms.specs.declared.dates.FixTerms.{FixTerms}
use Rattle.irs_terms.specs.declared.dates.ResetTerms.{ResetTerms}
use Rattle.irs_terms.specs.declared.frequency.Unit.{Unit as FrequencyUnit}
use Rattle.irs_terms.specs.declared.frequency.Unit.TheVariants.{D, W, M, Y, T}
use Rattle.irs_terms.specs.declared.step_list.Step.{Step}
use Rattle.irs_terms.specs.declared.stream.Stream.{Stream}
use Rattle.irs_terms.specs.Centers.{IsSaid, IsSaidFixing}
use Rattle.irs_terms.specs.Lawful.{IsLawfulRoll, FitsResets, FitsStubs}
use Rattle.irs_terms.specs.TermDates.{IsStepInside, StepStands, step_before, FrequencySuits, RollsMonths, RollsWeeks}
use Rattle.irs_terms.specs.TermDates.{SuitsBy}
use Rattle.irs_rules.specs.Parameters.{IsFoundAt}

-- what can't fail to hold holds, where it is decided
pub holds : {A : Type 0} → IsDecided A → ((A → ⊥) → ⊥) → A
holds (inl a) never = a
holds (inr fails) never = absurd (never fails)

-- both are decided
pub decides_both : {A B : Type 0} → IsDecided A → IsDecided B → IsDecided (A × B)
decides_both (inl a) (inl b) = inl (a, b)
decides_both (inl a) (inr fails) = inr (λ both. fails both.1)
decides_both (inr fails) b = inr (λ both. fails both.0)

-- of a value that may be absent
pub decides_given : {A : Type 0} (P : A → Type 0) (o : Option A) → ((x : A) → IsDecided (P x)) → IsDecided (IfSome o P)
decides_given P None decides = inl tt
decides_given P (Some x) decides = decides x

-- whether a number is less is decided
pub decides_less : (a b : ℤ) → IsDecided (a <ℤ b)
decides_less a b = elim (order_of a b) [
  | inl below ↦ inl below
  | inr (inl above) ↦ inr (λ h. omega (arith, signed_arith, above, h))
  | inr (inr same) ↦ inr (λ h. omega (arith, signed_arith, same, h))
]

-- whether a number is at most another is decided
pub decides_upto : (a b : ℤ) → IsDecided (a ≤ℤ b)
decides_upto a b = elim (order_of a b) [
  | inl below ↦ inl (omega (arith, signed_arith, below))
  | inr (inl above) ↦ inr (λ h. omega (arith, signed_arith, above, h))
  | inr (inr same) ↦ inl (omega (arith, signed_arith, same))
]

-- whether there is nothing is decided
pub decides_absent : {A : Type 0} (o : Option A) → IsDecided (o ≡ None)
decides_absent None = inl refl
decides_absent (Some x) = inr (λ e. cc)

-- ---- frequencies

decides_no_roll : (roll : RollCode) → IsDecided (roll ≡ NoRoll)
decides_no_roll Eom = inr (λ e. cc)
decides_no_roll (Dom number) = inr (λ e. cc)
decides_no_roll Imm = inr (λ e. cc)
decides_no_roll (OnWeekday name) = inr (λ e. cc)
decides_no_roll NoRoll = inl refl

decides_months : (roll : RollCode) → IsLawfulRoll roll → IsDecided (RollsMonths roll)
decides_months Eom lawful = inl tt
decides_months (Dom number) lawful = inl lawful
decides_months Imm lawful = inl tt
decides_months (OnWeekday name) lawful = inr (λ h. h)
decides_months NoRoll lawful = inr (λ h. h)

decides_weeks : (roll : RollCode) → IsDecided (RollsWeeks roll)
decides_weeks Eom = inr (λ h. h)
decides_weeks (Dom number) = inr (λ h. h)
decides_weeks Imm = inr (λ h. h)
decides_weeks (OnWeekday name) = inl tt
decides_weeks NoRoll = inl tt

decides_suits : (unit : FrequencyUnit) (roll : RollCode) → IsLawfulRoll roll → IsDecided (SuitsBy unit roll)
decides_suits D roll lawful = decides_no_roll roll
decides_suits W roll lawful = decides_weeks roll
decides_suits M roll lawful = decides_months roll lawful
decides_suits Y roll lawful = decides_months roll lawful
decides_suits T roll lawful = inl tt

-- whether a count is 1 is decided
pub decides_once : (count : ℕ) → IsDecided (count ≡ 1)
decides_once zero = inr (λ e. cc)
decides_once (suc zero) = inl refl
decides_once (suc (suc n)) = inr (λ e. omega (arith, e))

-- a frequency that is not unsuited suits
pub frequency_holds : (s : Stream) → IsLawfulRoll s.roll → ((FrequencySuits s → ⊥) → ⊥) → FrequencySuits s
frequency_holds s lawful never = record {
  suits = holds (decides_suits s.freq.unit s.roll lawful) (λ fails. never (λ h. fails h.suits));
  once = λ is. holds (decides_once s.freq.count) (λ fails. never (λ h. fails (h.once is)));
  no_first = λ is. holds (decides_absent s.first_regular) (λ fails. never (λ h. fails (h.no_first is)));
  no_last = λ is. holds (decides_absent s.last_regular) (λ fails. never (λ h. fails (h.no_last is)));
}

-- ---- offsets

decides_kind : (kind : DayKind) → IsDecided (kind ≡ Unsaid → ⊥)
decides_kind Business = inl (λ e. cc)
decides_kind Calendar = inl (λ e. cc)
decides_kind Unsaid = inr (λ h. h refl)

-- whether an offset says its kind of days is decided
pub decides_said : (offset : Offset) → IsDecided (IsSaid offset)
decides_said offset = elim (decides_same offset.days (pos 0)) [
  | inl none ↦ inl (inl none)
  | inr some ↦ elim (decides_kind offset.kind) [
    | inl said ↦ inl (inr said)
    | inr unsaid ↦ inr (λ h. elim h [ inl none ↦ some none | inr said ↦ unsaid said ])
  ]
]

-- the same for the offset of fixing dates
pub decides_said_fixing : (fixing : Option FixTerms) → IsDecided (IsSaidFixing fixing)
decides_said_fixing None = inl tt
decides_said_fixing (Some fixing) = decides_said fixing.offset

-- ---- legs

-- whether resets fit the leg is decided
pub decides_resets : (leg : Leg) (reset : Option ResetTerms) → IsDecided (FitsResets leg reset)
decides_resets (Fixed rates) reset = decides_absent reset
decides_resets (Floating float) None = inr (λ e. cc)
decides_resets (Floating float) (Some terms) = inl refl

-- whether stubs fit the leg is decided
pub decides_stubs : (leg : Leg) (stubs : Option StubTerms) → IsDecided (FitsStubs leg stubs)
decides_stubs (Fixed rates) stubs = decides_absent stubs
decides_stubs (Floating float) stubs = inl tt

-- ---- steps

step_holds : (from to : ℤ) (steps : List Step) (i : ℕ) (step : Step) → ((IsStepInside from to steps i step → ⊥) → ⊥)
    → IsStepInside from to steps i step
step_holds from to steps i step never = record {
  after_start = holds (decides_less from step.day) (λ fails. never (λ h. fails h.after_start));
  before_end = holds (decides_less step.day to) (λ fails. never (λ h. fails h.before_end));
  in_order = holds (decides_given _ (step_before steps i) (λ before. decides_less before.day step.day))
      (λ fails. never (λ h. fails h.in_order));
}

given_holds : {A : Type 0} (P : A → Type 0) (o : Option A) → ((x : A) → ((P x → ⊥) → ⊥) → P x) → ((IfSome o P → ⊥) → ⊥)
    → IfSome o P
given_holds P None holds_at never = tt
given_holds P (Some x) holds_at never = holds_at x never

-- a step that is not out of place is in its place
pub stands_holds : (from to : ℤ) (steps : List Step) (i : ℕ) → ((StepStands from to steps i → ⊥) → ⊥)
    → StepStands from to steps i
stands_holds from to steps i never =
    given_holds (IsStepInside from to steps i) (slice_get steps i) (step_holds from to steps i) never

-- ---- centres

decides_true : (b : Bool) → IsDecided (IsTrue b)
decides_true true = inl refl
decides_true false = inr (λ e. cc)

-- whether a centre is in the calendars is decided
pub decides_found : (cal : List Section) (names : Option (List (List ℕ))) (i : ℕ) → IsDecided (IsFoundAt cal names i)
decides_found cal None i = inl tt
decides_found cal (Some names) i = decides_given _ (slice_get names i) (λ name. decides_true (is_named name cal))
