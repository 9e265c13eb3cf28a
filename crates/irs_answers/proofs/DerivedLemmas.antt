-- What is due for derived rates, from what the calls answer.
use Rattle.std.proofs.Common.{◌≡◌, inr, ℕ, ◌≤◌, List, length, Option, Some, None, refl, sym, ◌∙◌, ap, ap₂, subst}
use Rattle.std.specs.Prelude.{IfSome}
use Rattle.std.proofs.lemmas.Option.{same_Some}
use Rattle.irs_base.specs.Outcomes.{IfStopped, Spec, ◌>>=◌, refused_as}
use Rattle.irs_base.specs.Limits.{most_index}
use Rattle.irs_terms.specs.declared.places.Broken.{Broken}
use Rattle.irs_base.specs.declared.stopped.Stopped.{Stopped}
use Rattle.irs_base.specs.declared.stopped.Stopped.TheVariants as stopped
use Rattle.irs_terms.specs.Lawful.{IsLawfulSwap, IsLawfulFloat, IsLawfulIndex, IsLawfulLeg, IsLawfulStream}
use Rattle.irs_terms.specs.Lawful.{IsLawfulStubRate, IsLawfulStubs, IsLawfulTenor}
use Rattle.irs_terms.specs.declared.amounts.FloatTerms.{FloatTerms}
use Rattle.irs_terms.specs.declared.amounts.Leg.{Leg}
use Rattle.irs_terms.specs.declared.amounts.Leg.TheVariants.{Floating}
use Rattle.irs_terms.specs.declared.frequency.Frequency.{Frequency}
use Rattle.irs_terms.specs.declared.stream.Stream.{Stream}
use Rattle.irs_terms.specs.declared.stream_list.Swap.{Swap}
use Rattle.irs_calendar.specs.GoodDays.{DaySet, SameDays}
use Rattle.irs_calendar.specs.declared.sections.Section.{Section}
use Rattle.irs_resets.specs.Rates.{RateTable}
use Rattle.irs_rules.proofs.Kept.{lawful_stream, terms_kept}
use Rattle.irs_rules.specs.TermsRules.{TermsKept}
use Rattle.irs_schedule.specs.DaySets.{reset_days}
use Rattle.irs_schedule.specs.Parts.{Part}
use Rattle.irs_overnight.specs.Texts.{file_text}
use Rattle.irs_overnight.specs.Overnight.{IsAsked, asked}
use Rattle.irs_overnight.specs.Observations.{Floats}
use Rattle.irs_overnight.specs.declared.derived.DerivedRow.{DerivedRow}
use Rattle.irs_average.specs.Interpolations.{GivesIndex, GivesOn, IsStubAsked, stub_asked}
use Rattle.irs_average.specs.declared.stubs.Side.{Side}
use Rattle.irs_average.specs.declared.stubs.Side.TheVariants.{Initial, Last}
use Rattle.irs_terms.specs.declared.amounts.StubRate.{StubRate}
use Rattle.irs_terms.specs.declared.amounts.StubRate.TheVariants.{Index}
use Rattle.irs_terms.specs.declared.amounts.StubTerms.{StubTerms}
use Rattle.irs_answers.specs.Derived.{FloatingStream, IsFloatingAt, floating_of, printed}
use Rattle.irs_answers.specs.Private.Outcomes.{IsUnfixedSchedule}
use Rattle.irs_answers.specs.Due.{RefusedBy, of_stopped}
use Rattle.irs_answers.specs.Messages.{Answer, broken_rule}
use Rattle.irs_answers.proofs.Agreement.{IsOne}

-- ---- the stream

-- floating legs that are equal have equal terms
pub same_leg : (f g : FloatTerms) → (let l : Leg = Floating f in l ≡ Floating g) → f ≡ g
same_leg f g e = cc

-- a number names one floating stream
pub one_floating : (swap : Swap) (n : ℕ) (x y : FloatingStream) → IsFloatingAt swap n x → IsFloatingAt swap n y → y ≡ x
one_floating swap n x y h k =
    let s : y.stream ≡ x.stream = same_Some y.stream x.stream (sym k.at ∙ h.at) in
    let f : y.float ≡ x.float = same_leg y.float x.float (sym k.pays ∙ ap (λ (z : Stream). z.leg) s ∙ h.pays) in
    ap₂ (λ (z : Stream) (w : FloatTerms). record { stream = z; float = w }) s f

-- a swap has a floating stream with that number exactly where it floats there
pub floats_by : (swap : Swap) (n : ℕ) (x : FloatingStream) → IsFloatingAt swap n x → Floats swap n
floats_by swap n x k =
    (x.float, record { from_one = k.from_one; stream = x.stream; at = k.at; pays = k.pays; plain = k.plain })

module _ (swap : Swap) (cal : List Section) (parts : List Part) (h : IsUnfixedSchedule swap cal parts) (n : ℕ)
    (x : FloatingStream) (k : IsFloatingAt swap n x) where
  -- the stream is lawful
  pub stream_lawful : IsLawfulStream x.stream
  stream_lawful = lawful_stream swap h.lawful _ x.stream k.at

  -- the terms of the stream keep the rules
  pub stream_kept : TermsKept cal x.stream
  stream_kept = terms_kept swap cal h.lawful h.terms _ x.stream k.at

  -- the floating leg of the stream is lawful
  pub float_lawful : IsLawfulFloat x.float
  float_lawful = subst IsLawfulLeg k.pays stream_lawful.leg

  -- the request for compounded daily rates is lawful
  pub overnight_asked : (days : DaySet) (rates : RateTable) → days ≡ reset_days cal x.stream
      → IsAsked (asked swap n parts days rates)
  overnight_asked days rates e = record {
    lawful = h.lawful;
    floats =
        (x.float, record { from_one = k.from_one; stream = x.stream; at = k.at; pays = k.pays; plain = k.plain });
    calendars = cal;
    terms = h.terms;
    dates = h.dated;
    schedule = h.schedule;
    reset_set =
        subst (SameDays days) e (record { first = refl; last = refl; test = λ d inside. refl });
  }

  -- the request for the rate of a stub is lawful
  pub stub_is_asked : (side : Side) (low high : Frequency) (rates : RateTable) → IsLawfulTenor low → IsLawfulTenor high
      → IsStubAsked (stub_asked swap n side low high parts rates)
  stub_is_asked side low high rates l m = record {
    lawful = h.lawful;
    floats =
        (x.float, record { from_one = k.from_one; stream = x.stream; at = k.at; pays = k.pays; plain = k.plain });
    calendars = cal;
    terms = h.terms;
    dates = h.dated;
    schedule = h.schedule;
    low = l;
    high = m;
  }

-- ---- the stream, and what is due after it is found

module _ (swap : Swap) (n : ℕ) (next : FloatingStream → Spec Answer Answer) (x : FloatingStream)
    (k : IsFloatingAt swap n x) where
  -- an error of the task is refused
  pub refuse_stopped : (P : Broken → Type 0) (e : Stopped Broken) → IfStopped e P
      → ((b : Broken) → P b → (next x).Refuses (broken_rule b))
      → RefusedBy (refused_as broken_rule (floating_of swap n) >>= next) (of_stopped e)
  refuse_stopped P (stopped.Broken b) h due = inr (x, k, due b h)
  refuse_stopped P stopped.Memory h due = tt

-- a number names one floating stream, or none
pub one_stream : (swap : Swap) (n : ℕ) → IsOne (floating_of swap n)
one_stream swap n = record {
  answers = λ x y h k. one_floating swap n y x k h;
  refuses = λ b c h k. h.1 ∙ sym k.1;
  apart = λ x b at none. none.0 x at;
  back = λ x b none at. none.0 x at;
}

-- the only rows of a task, with their text
pub printed_by : (P : List DerivedRow → Type 0) (float : FloatTerms) (rows : List DerivedRow) (text : List ℕ) → P rows
    → ((x y : List DerivedRow) → P x → P y → x ≡ y) → text ≡ file_text rows float.tenor float.index
    → (printed P float).Answers (0, text)
printed_by P float rows text are one e =
    (rows, record { is = are; only = λ y is. one y rows is are }, (λ i. (0, e i)))

-- ---- the index of a stub

stub_named : (o : Option StubTerms) (side : Side) (index : List ℕ) (tenor : Option Frequency) → IfSome o IsLawfulStubs
    → GivesOn side o index tenor → IsLawfulIndex index
stub_named None side index tenor h k = absurd k
stub_named (Some stubs) Initial index tenor h k = let r : IfSome (Some (Index index tenor)) IsLawfulStubRate =
    subst (λ (z : Option StubRate). IfSome z IsLawfulStubRate) k h.0 in r.0
stub_named (Some stubs) Last index tenor h k = let r : IfSome (Some (Index index tenor)) IsLawfulStubRate =
    subst (λ (z : Option StubRate). IfSome z IsLawfulStubRate) k h.1 in r.0

-- the index of a stub is no longer than an index may be
pub stub_short : (swap : Swap) (n : ℕ) (side : Side) (index : List ℕ) (tenor : Option Frequency) → IsLawfulSwap swap
    → GivesIndex swap n side index tenor → length index ≤ most_index
stub_short swap n side index tenor lawful gives =
    let s = lawful_stream swap lawful _ gives.stream gives.at in
    (stub_named gives.stream.stubs side index tenor s.stubs gives.gives).1

-- ---- a floating stream in the sense of K40

-- the number of a floating stream names one stream
pub stream_by : (swap : Swap) (n : ℕ) → Floats swap n → (x : FloatingStream) × IsFloatingAt swap n x
stream_by swap n f = (
  record { stream = f.1.stream; float = f.0 },
  record { from_one = f.1.from_one; at = f.1.at; pays = f.1.pays; plain = f.1.plain },
)
