-- The parts of a swap's streams, made one after another.
use Rattle.std.proofs.Common.{◌≡◌, ℕ, ◌+◌, ◌≤◌, List, [], ◌∷◌, ◌++◌, length, length-append, take, Some, refl, ap, ◌∙◌, arith, subst}
use Rattle.std.specs.Prelude.{slice_get}
use Rattle.std.proofs.lemmas.List.{take_all}
use Rattle.irs_base.specs.Outcomes.{Spec, each_in_turn, refused_as}
use Rattle.irs_terms.specs.Faults.{in_stream}
use Rattle.irs_base.specs.Lists.{Every}
use Rattle.irs_terms.specs.declared.places.Broken.{Broken}
use Rattle.irs_base.proofs.EveryLemmas.{every_both}
use Rattle.irs_base.proofs.Outcomes.{each_begins, each_ends, each_goes_on}
use Rattle.irs_terms.specs.declared.stream.Stream.{Stream}
use Rattle.irs_terms.specs.declared.stream_list.Swap.{Swap}
use Rattle.irs_calendar.specs.declared.sections.Section.{Section}
use Rattle.irs_resets.specs.Rates.{RateTable}
use Rattle.irs_schedule.specs.DaySets.{StreamSets, stream_sets}
use Rattle.irs_schedule.specs.Schedules.{schedule_of, stream_of}
use Rattle.irs_schedule.specs.Parts.{Part, KeepsBounds}

-- a stream with its number
abbrev numbered : List Section → RateTable → ℕ → Stream → Spec Part Broken
numbered cal fix n s = refused_as (in_stream n) (stream_of (stream_sets cal s) fix s)

-- the parts of the streams before the place i
pub record Made (swap : Swap) (cal : List Section) (fix : RateTable) (i : ℕ) (parts : List Part) : Type 0 where
  pub count : length parts ≡ i
  pub answers : (each_in_turn (numbered cal fix) 1 (take i swap.streams)).Answers parts
  pub each : Every KeepsBounds parts

module _ (swap : Swap) (cal : List Section) (fix : RateTable) where
  -- no part
  pub made_none : Made swap cal fix 0 []
  made_none = record { count = refl; answers = each_begins (numbered cal fix) 1; each = tt }

  -- a part of each stream is the schedule
  pub made_all : (i : ℕ) (parts : List Part) → length swap.streams ≤ i → Made swap cal fix i parts
      → (schedule_of swap cal fix).Answers parts
  unfolding schedule_of
  made_all i parts all made =
      subst (λ (ss : List Stream). (each_in_turn (numbered cal fix) 1 ss).Answers parts) (take_all i swap.streams all)
      made.answers

  module _ (i : ℕ) (parts : List Part) (s : Stream) (at : slice_get swap.streams i ≡ Some s)
      (made : Made swap cal fix i parts) (sets : StreamSets) (same : sets ≡ stream_sets cal s) where
    -- one part more
    pub made_more : (p : Part) → (stream_of sets fix s).Answers p → KeepsBounds p
        → Made swap cal fix (i + 1) (parts ++ p ∷ [])
    made_more p is bounds = record {
      count = let grown : length (parts ++ p ∷ []) ≡ length parts + 1 = simp length-append in
          grown ∙ ap (λ (n : ℕ). n + 1) made.count;
      answers = each_goes_on (numbered cal fix) 1 swap.streams i parts s at made.answers p
          (subst (λ (u : StreamSets). (stream_of u fix s).Answers p) same is);
      each = every_both KeepsBounds parts (p ∷ []) made.each (bounds, tt);
    }

    -- a rule that the stream at the place i breaks
    pub made_broken : (x : Broken) → (refused_as (in_stream (i + 1)) (stream_of sets fix s)).Refuses x
        → (schedule_of swap cal fix).Refuses x
    unfolding schedule_of
    made_broken x h =
        let number : i + 1 ≡ 1 + i = omega arith in
        each_ends (numbered cal fix) 1 swap.streams i parts s at made.answers x
        (subst (λ (n : ℕ). (numbered cal fix n s).Refuses x) number
        (subst (λ (u : StreamSets). (refused_as (in_stream (i + 1)) (stream_of u fix s)).Refuses x) same h))

-- the sets of a stream by its elements
pub sets_same : (a b : StreamSets) → a.boundaries.start ≡ b.boundaries.start → a.boundaries.end ≡ b.boundaries.end
    → a.boundaries.middle ≡ b.boundaries.middle → a.payment ≡ b.payment → a.reset ≡ b.reset
    → a.fixing ≡ b.fixing → a.applicable ≡ b.applicable → a ≡ b
sets_same a b start end middle payment reset fixing applicable = λ i. record {
  boundaries = record { start = start i; end = end i; middle = middle i };
  payment = payment i;
  reset = reset i;
  fixing = fixing i;
  applicable = applicable i;
}
