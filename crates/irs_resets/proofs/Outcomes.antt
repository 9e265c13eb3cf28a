-- Each call of this crate has one outcome.
use Rattle.std.proofs.Common.{inl, inr}
use Rattle.irs_base.specs.Outcomes.{Determined, Spec, ◌>>=◌, answered, refused}
use Rattle.irs_terms.specs.Faults.{comes_before}
use Rattle.irs_terms.proofs.FaultOrder.{one_fault}
use Rattle.irs_base.proofs.Outcomes.{unless_broken_determined}
use Rattle.irs_terms.specs.Centers.{IsSaidReset}
use Rattle.irs_terms.specs.Lawful.{FitsLeg}
use Rattle.irs_resets.specs.Resets.{DeterminedUpTo, answered as answered_up_to, refused as refused_up_to, resets_of}
use Rattle.irs_resets.specs.Resets.{BreaksResets, IsResets, ResetSource}
use Rattle.irs_resets.specs.Rates.{RateTable}
use Rattle.irs_resets.proofs.ResetsThere.{InDays, resets_decided, resets_there}
use Rattle.irs_resets.proofs.RowLemmas.{one_resets}

-- a stream has one list of resets, or one first broken rule
pub resets_determined : (source : ResetSource) (rates : RateTable) → FitsLeg source.stream → IsSaidReset source.stream
    → InDays source.days → Determined (resets_of source rates)
resets_determined source rates fits said range =
    unless_broken_determined comes_before (BreaksResets source) (IsResets source rates)
    (resets_decided source said range) (resets_there source rates range fits said) (one_resets source rates)
    (one_fault (BreaksResets source))

-- a chain over answers that are the same in some sense, where the next step gives the same for each of them
module _ {A B R : Type 0} (Same : A → A → Type 0) (spec : Spec A R) (next : A → Spec B R)
    (answers : (a b : A) → Same a b → (x : B) → (next b).Answers x → (next a).Answers x)
    (refuses : (a b : A) → Same a b → (r : R) → (next b).Refuses r → (next a).Refuses r) where
  over_same : (a : A) → spec.Answers a → ((b : A) → spec.Answers b → Same a b) → ((r : R) → spec.Refuses r → ⊥)
      → Determined (next a) → Determined (spec >>= next)
  over_same a is same none (answered x only free) =
      answered x
      (record { is = (a, is, only.is); only = λ y h. only.only y (answers a h.0 (same h.0 h.1) y h.2) })
      (λ r h. elim h [
        | inl first ↦ none r first
        | inr then ↦ free r (refuses a then.0 (same then.0 then.1) r then.2)
      ])
  over_same a is same none (refused r only free) =
      refused r
      (record {
        is = inr (a, is, only.is);
        only = λ p h. elim h [
          | inl first ↦ absurd (none p first)
          | inr then ↦ only.only p (refuses a then.0 (same then.0 then.1) p then.2)
        ];
      })
      (λ y h. free y (answers a h.0 (same h.0 h.1) y h.2))

  -- a chain is determined if its first part is up to sameness
  pub then_determined_up_to : DeterminedUpTo Same spec → ((a : A) → spec.Answers a → Determined (next a))
      → Determined (spec >>= next)
  then_determined_up_to (answered_up_to a is same none) over = over_same a is same none (over a is)
  then_determined_up_to (refused_up_to r one none) over =
      refused r
      (record {
        is = inl one.is;
        only = λ p h. elim h [
          | inl first ↦ one.only p first
          | inr then ↦ absurd (none then.0 then.1)
        ];
      })
      (λ y h. none h.0 h.1)
