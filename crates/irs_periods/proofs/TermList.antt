-- A stream whose frequency is the term has two boundaries.
use Rattle.std.proofs.Common.{inl, inr, ⊎_elim, [], ◌∷◌, ℤ, ◌<ℤ◌}
use Rattle.irs_base.specs.Lists.{Member}
use Rattle.irs_terms.specs.declared.stream.Stream.{Stream}
use Rattle.irs_terms.specs.declared.results.Span.{Span}
use Rattle.irs_roll.specs.Rolls.{OnGrid}
use Rattle.irs_terms.specs.TermDates.{first_day_of, IsWholeTerm, termination_of}
use Rattle.irs_periods.specs.Boundaries.{Boundaries, IsBoundary}

no_grid : (s : Stream) (a d : ℤ) → IsWholeTerm s.freq → OnGrid s.freq s.roll a d → ⊥
no_grid s a d term on = rw term at on

stands : (s : Stream) (span : Span) (d : ℤ) → IsWholeTerm s.freq → IsBoundary s span d
    → Member d (first_day_of s ∷ termination_of s ∷ [])
stands s span d term b =
    ⊎_elim (λ e. inl e) (λ n. ⊎_elim (λ t. inr (inl t)) (λ on. absurd (no_grid s span.anchor d term on.2)) n) b

-- with frequency T the first day and the termination date are the boundaries
pub term_list : (s : Stream) (span : Span) → IsWholeTerm s.freq → first_day_of s <ℤ termination_of s
    → Boundaries s span (first_day_of s ∷ termination_of s ∷ [])
term_list s span term ends = record {
  rising = ((ends, tt), (tt, tt));
  sound = λ d m. ⊎_elim (λ e. inl e) (λ n. ⊎_elim (λ t. inr (inl t)) (λ none. absurd none) n) m;
  complete = λ d b. stands s span d term b;
}
