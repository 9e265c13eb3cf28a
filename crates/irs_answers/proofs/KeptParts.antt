-- Each part of a schedule that breaks no rule is what the stages of its stream answer.
use Rattle.std.proofs.Common.{◌≡◌, ℕ, zero, suc, ◌+◌, ◌<◌, List, [], ◌∷◌, length, Some, refl, subst, arith}
use Rattle.std.specs.Prelude.{slice_get}
use Rattle.std.proofs.lemmas.Option.{same_Some, slice_get_within}
use Rattle.irs_base.specs.Outcomes.{Spec, each_in_turn, refused_as}
use Rattle.irs_terms.specs.Faults.{in_stream}
use Rattle.irs_base.proofs.Outcomes.{answer_there}
use Rattle.irs_terms.specs.Lawful.{IsLawfulStream}
use Rattle.irs_terms.specs.declared.stream.Stream.{Stream}
use Rattle.irs_terms.specs.declared.stream_list.Swap.{Swap}
use Rattle.irs_calendar.specs.declared.sections.Section.{Section}
use Rattle.irs_resets.specs.Rates.{RateTable}
use Rattle.irs_rules.proofs.Kept.{lawful_stream, terms_kept}
use Rattle.irs_rules.specs.TermsRules.{TermsKept}
use Rattle.irs_schedule.specs.DaySets.{stream_sets}
use Rattle.irs_schedule.specs.Schedules.{schedule_of, stream_of}
use Rattle.irs_schedule.specs.Parts.{Part}
use Rattle.irs_schedule.proofs.OnePart.{one_schedule, schedule_determined, schedule_is}
use Rattle.irs_answers.specs.PrintedRates.{IsKeptSchedule}

-- ---- lists

-- a list has a member at each of its places
pub member_at : {X : Type 0} (xs : List X) (k : ℕ) → k < length xs → (x : X) × (slice_get xs k ≡ Some x)
member_at [] k low = absurd (omega (arith, low))
member_at (x ∷ xs) zero low = (x, refl)
member_at (x ∷ xs) (suc k) low = member_at xs k (omega (arith, low))

-- the item of an answer, with its specification
pub record AnsweredItem {X A R : Type 0} (spec : ℕ → X → Spec A R) (n : ℕ) (xs : List X) (i : ℕ) (a : A) : Type 0 where
  pub item : X
  pub at : slice_get xs i ≡ Some item
  pub answers : (spec (n + i) item).Answers a

-- each answer of a list in turn is the answer of an item, at the same place
pub item_of : {X A R : Type 0} (spec : ℕ → X → Spec A R) (n : ℕ) (xs : List X) (given : List A)
    → (each_in_turn spec n xs).Answers given → (i : ℕ) (a : A) → slice_get given i ≡ Some a → AnsweredItem spec n xs i a
unfolding each_in_turn
item_of {A = A} spec n [] given h i a at =
    let none : slice_get [] i ≡ Some a = subst (λ (given : List A). slice_get given i ≡ Some a) h at in
    absurd (omega (arith, slice_get_within [] i a none))
item_of {A = A} spec n (x ∷ xs) given h zero a at =
    let first : slice_get (h.0 ∷ h.2.0) 0 ≡ Some a = subst (λ (given : List A). slice_get given 0 ≡ Some a) h.2.2 at in
    let here : n ≡ n + 0 = omega arith in
    record {
      item = x;
      at = refl;
      answers = subst (λ (k : ℕ). (spec k x).Answers a) here
          (subst (λ (b : A). (spec n x).Answers b) (same_Some h.0 a first) h.1);
    }
item_of {A = A} spec n (x ∷ xs) given h (suc i) a at =
    let later : slice_get (h.0 ∷ h.2.0) (suc i) ≡ Some a =
    subst (λ (given : List A). slice_get given (suc i) ≡ Some a) h.2.2 at in
    let there = item_of spec (n + 1) xs h.2.0 h.2.1 i a later in
    let moved : (n + 1) + i ≡ n + suc i = omega arith in
    record {
      item = there.item;
      at = there.at;
      answers = subst (λ (k : ℕ). (spec k there.item).Answers a) moved there.answers;
    }

-- ---- the parts of a schedule

-- the stream of the part at a place, with what its stages answer
pub record StagedAt (swap : Swap) (cal : List Section) (fix : RateTable) (place : ℕ) (p : Part) : Type 0 where
  pub stream : Stream
  pub at : slice_get swap.streams place ≡ Some stream
  pub lawful : IsLawfulStream stream
  pub kept : TermsKept cal stream
  pub answers : (stream_of (stream_sets cal stream) fix stream).Answers p

module _ (swap : Swap) (cal : List Section) (fix : RateTable) (parts : List Part)
    (h : IsKeptSchedule swap cal fix parts) where
  -- the schedule is what the stages answer
  parts_answer : (schedule_of swap cal fix).Answers parts
  parts_answer =
      let made = answer_there (schedule_determined swap cal fix h.lawful h.terms) h.dated in
      let is = schedule_is swap cal fix h.lawful h.terms made.0 made.1 in
      subst (λ (ps : List Part). (schedule_of swap cal fix).Answers ps)
      (one_schedule swap cal fix h.lawful h.terms h.dated made.0 parts is h.schedule) made.1

  -- so is each of its parts
  pub staged_at : (place : ℕ) (p : Part) → slice_get parts place ≡ Some p → StagedAt swap cal fix place p
  unfolding schedule_of
  staged_at place p at =
      let one = item_of (λ n s. refused_as (in_stream n) (stream_of (stream_sets cal s) fix s)) 1 swap.streams parts
      parts_answer place p at in
      record {
        stream = one.item;
        at = one.at;
        lawful = lawful_stream swap h.lawful place one.item one.at;
        kept = terms_kept swap cal h.lawful h.terms place one.item one.at;
        answers = one.answers;
      }
