-- In a swap that breaks no rule of dates and amounts, no stream breaks a rule of its resets.
use Rattle.std.proofs.Common.{◌≡◌, ℕ, zero, suc, ◌+◌, List, [], ◌∷◌, Some, subst, arith}
use Rattle.std.specs.Prelude.{slice_get}
use Rattle.std.proofs.lemmas.Option.{same_Some, slice_get_within}
use Rattle.irs_base.specs.Outcomes.{Spec, each_in_turn, refused_as}
use Rattle.irs_terms.specs.Faults.{in_stream}
use Rattle.irs_terms.specs.declared.places.Fault.{Fault}
use Rattle.irs_base.proofs.Outcomes.{answer_there}
use Rattle.irs_terms.specs.Lawful.{IsLawfulSwap}
use Rattle.irs_terms.specs.declared.stream.Stream.{Stream}
use Rattle.irs_terms.specs.declared.stream_list.Swap.{Swap}
use Rattle.irs_calendar.specs.declared.sections.Section.{Section}
use Rattle.irs_resets.specs.Rates.{RateTable}
use Rattle.irs_resets.specs.Resets.{BreaksResets}
use Rattle.irs_rules.specs.TermsRules.{BreaksNone}
use Rattle.irs_schedule.specs.Schedules.{DatedKept, resets_over, schedule_of, stream_of, IsPart}
use Rattle.irs_schedule.specs.DaySets.{StreamSets, stream_sets}
use Rattle.irs_schedule.specs.Parts.{Part}
use Rattle.irs_schedule.proofs.LayoutRules.{layout_is, layout_kept, one_layout}
use Rattle.irs_schedule.proofs.OnePart.{schedule_determined}
use Rattle.irs_schedule.proofs.RateLemmas.{resets_free}

-- each item that is answered has its answer
answered_at : {X A R : Type 0} (spec : ℕ → X → Spec A R) (n : ℕ) (xs : List X) (given : List A)
    → (each_in_turn spec n xs).Answers given → (i : ℕ) (x : X) → slice_get xs i ≡ Some x
    → (a : A) × (spec (n + i) x).Answers a
unfolding each_in_turn
answered_at spec n [] given h i x at = absurd (omega (arith, slice_get_within [] i x at))
answered_at {X = X} spec n (y ∷ ys) given h zero x at =
    let here : n ≡ n + 0 = omega arith in
    (h.0, subst (λ (k : ℕ). (spec k x).Answers h.0) here (subst (λ (z : X). (spec n z).Answers h.0) (same_Some y x at) h.1))
answered_at spec n (y ∷ ys) given h (suc i) x at =
    let there = answered_at spec (n + 1) ys h.2.0 h.2.1 i x at in
    let moved : (n + 1) + i ≡ n + suc i = omega arith in
    (there.0, subst (λ (k : ℕ). (spec k x).Answers there.0) moved there.1)

-- a stream that has an answer breaks no rule of its resets over the layout of its part
stream_resets : (sets : StreamSets) (fix : RateTable) (s : Stream) (p : Part) → (stream_of sets fix s).Answers p
    → (q : Part) (is : IsPart sets fix s q) (f : Fault) → BreaksResets (resets_over sets s is.layout) f → ⊥
unfolding stream_of
stream_resets sets fix s p h q is f breaks =
    let kept = layout_kept sets s h.0 h.1 in
    let same : is.layout ≡ h.0 = one_layout sets s is.layout h.0 is.is_layout (layout_is sets s h.0 kept) in
    resets_free (resets_over sets s h.0) sets.applicable fix s.leg h.2.1.2.2.0 h.2.1.2.2.1 f
    (subst (λ m. BreaksResets (resets_over sets s m) f) same breaks)

-- a schedule of dates that break no rule breaks none on resets
pub no_resets_broken : (swap : Swap) (cal : List Section) (fix : RateTable) → IsLawfulSwap swap → BreaksNone swap cal
    → DatedKept swap cal fix → (i : ℕ) (s : Stream) → slice_get swap.streams i ≡ Some s → (q : Part)
    (is : IsPart (stream_sets cal s) fix s q) (f : Fault)
    → BreaksResets (resets_over (stream_sets cal s) s is.layout) f → ⊥
unfolding schedule_of
no_resets_broken swap cal fix lawful terms kept i s at q is f breaks =
    let made = answer_there (schedule_determined swap cal fix lawful terms) kept in
    let part = answered_at (λ n t. refused_as (in_stream n) (stream_of (stream_sets cal t) fix t)) 1 swap.streams
    made.0 made.1 i s at in
    stream_resets (stream_sets cal s) fix s part.0 part.1 q is f breaks
