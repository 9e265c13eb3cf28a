-- The text of `accrue` is one text, and grows stream by stream.
use Rattle.std.proofs.Common.{◌≡◌, ℕ, zero, suc, ◌+◌, ◌-◌, ◌<◌, List, [], ◌∷◌, ◌++◌, length, take, Some, ℤ, refl, sym}
use Rattle.std.proofs.Common.{◌∙◌, ap, subst, arith, append_assoc}
use Rattle.std.specs.Prelude.{slice_get}
use Rattle.std.proofs.lemmas.List.{length-take-le, append-nil}
use Rattle.std.proofs.lemmas.Option.{same_Some, slice_get_within}
use Rattle.irs_base.specs.Outcomes.{Only, Spec, each_in_turn, refused_as}
use Rattle.irs_terms.specs.Faults.{in_stream}
use Rattle.irs_base.proofs.Outcomes.{answer_there}
use Rattle.irs_terms.specs.declared.stream.Stream.{Stream}
use Rattle.irs_schedule.specs.DaySets.{applicable_days, stream_sets}
use Rattle.irs_schedule.specs.Schedules.{schedule_of, stream_of}
use Rattle.irs_schedule.specs.Parts.{Part}
use Rattle.irs_schedule.proofs.OnePart.{schedule_determined}
use Rattle.irs_accrue.specs.Accruals.{accrual_text}
use Rattle.irs_periods.specs.Boundaries.{HasSpan}
use Rattle.irs_accrue.specs.DailyAccruals.{IsAccrualOf}
use Rattle.irs_accrue.specs.declared.accruals.Accrual.{Accrual}
use Rattle.irs_answers.specs.Tasks.{AccruesAt, Accruing, AreAccrued, TellsAccrued, accrued_page}
use Rattle.irs_answers.specs.Private.Outcomes.{IsAccruing}

module _ (x : Accruing) (d : ℤ) where
  one_accrued : (k : ℕ) (ps : List Part) (a b : List ℕ) → AreAccrued x d k ps a → AreAccrued x d k ps b → b ≡ a
  one_accrued k [] a b h i = i ∙ sym h
  one_accrued k (p ∷ ps) a b h i =
      let same : i.0 ≡ h.0 = h.1.only i.0 i.1.is in
      let r : i.2.0 ≡ h.2.0 = one_accrued (k + 1) ps h.2.0 i.2.0 h.2.1 i.2.1 in
      i.2.2 ∙ ap (λ (z : Accrual). accrual_text k z ++ i.2.0) same
      ∙ ap (λ (z : List ℕ). accrual_text k h.0 ++ z) r ∙ sym h.2.2

  -- a schedule has one text of what has accrued on a day
  pub one_page : (ps : List Part) (a b : List ℕ) → TellsAccrued d x ps a → TellsAccrued d x ps b → a ≡ b
  one_page ps a b h k = h.2 ∙ ap (λ (l : List ℕ). accrued_page d l) (one_accrued 1 ps k.0 h.0 k.1 h.1) ∙ sym k.2

  accrued_more : (k n : ℕ) (ps : List Part) (p : Part) (a : Accrual) (lines : List ℕ) → n ≡ k + length ps
      → AreAccrued x d k ps lines → Only (AccruesAt x d n p) a
      → AreAccrued x d k (ps ++ p ∷ []) (lines ++ accrual_text n a)
  accrued_more k n [] p a lines e h only =
      let same : n ≡ k = omega (arith, e) in (
        a,
        subst (λ (i : ℕ). Only (AccruesAt x d i p) a) same only,
        (
          [],
          refl,
          ap (λ (l : List ℕ). l ++ accrual_text n a) h ∙ ap (λ (i : ℕ). accrual_text i a) same
              ∙ sym (append-nil (accrual_text k a)),
        ),
      )
  accrued_more k n (q ∷ qs) p a lines e h only = (
    h.0,
    h.1,
    (
      h.2.0 ++ accrual_text n a,
      accrued_more (k + 1) n qs p a h.2.0 (omega (arith, e)) h.2.1 only,
      ap (λ (l : List ℕ). l ++ accrual_text n a) h.2.2 ∙ append_assoc (accrual_text k h.0) h.2.0 (accrual_text n a),
    ),
  )

  take_at : (ps : List Part) (i : ℕ) (p : Part) → slice_get ps i ≡ Some p → take (suc i) ps ≡ take i ps ++ p ∷ []
  take_at [] i p e = cc
  take_at (q ∷ qs) zero p e = let same : q ≡ p = cc in ap (λ (z : Part). z ∷ []) same
  take_at (q ∷ qs) (suc i) p e = ap (λ (l : List Part). q ∷ l) (take_at qs i p e)

  -- the lines of the first streams, followed by that of the next
  pub accrued_next : (ps : List Part) (i : ℕ) (p : Part) (a : Accrual) (lines : List ℕ) → slice_get ps i ≡ Some p
      → Only (AccruesAt x d (i + 1) p) a → AreAccrued x d 1 (take i ps) lines
      → AreAccrued x d 1 (take (i + 1) ps) (lines ++ accrual_text (i + 1) a)
  accrued_next ps i p a lines at only k =
      let within = slice_get_within ps i p at in
      let more : take (i + 1) ps ≡ take i ps ++ p ∷ [] = let s : i + 1 ≡ suc i = omega arith in
      ap (λ (j : ℕ). take j ps) s ∙ take_at ps i p at in
      let many : length (take i ps) ≡ i = length-take-le i ps (omega (arith, within)) in
      subst (λ (l : List Part). AreAccrued x d 1 l (lines ++ accrual_text (i + 1) a)) (sym more)
      (accrued_more 1 (i + 1) (take i ps) p a lines (omega (arith, many)) k only)

-- a schedule has a part at each place
pub part_at : (ps : List Part) (i : ℕ) → i < length ps → (p : Part) × (slice_get ps i ≡ Some p)
part_at [] i low = absurd (omega (arith, low))
part_at (p ∷ ps) zero low = (p, refl)
part_at (p ∷ ps) (suc i) low = part_at ps i (omega (arith, low))

-- a swap has a stream at each place
pub stream_at : (xs : List Stream) (i : ℕ) → i < length xs → (s : Stream) × (slice_get xs i ≡ Some s)
stream_at [] i low = absurd (omega (arith, low))
stream_at (s ∷ xs) zero low = (s, refl)
stream_at (s ∷ xs) (suc i) low = stream_at xs i (omega (arith, low))

-- ---- what a stream keeps where its swap breaks no rule

-- each item that is answered has its answer
answered_at : {X A R : Type 0} (spec : ℕ → X → Spec A R) (n : ℕ) (xs : List X) (given : List A)
    → (each_in_turn spec n xs).Answers given → (i : ℕ) (z : X) → slice_get xs i ≡ Some z
    → (k : ℕ) × ((a : A) × (spec k z).Answers a)
unfolding each_in_turn
answered_at spec n [] given h i z at = absurd (omega (arith, slice_get_within [] i z at))
answered_at {X = X} spec n (y ∷ ys) given h zero z at =
    (n, (h.0, subst (λ (w : X). (spec n w).Answers h.0) (same_Some y z at) h.1))
answered_at spec n (y ∷ ys) given h (suc i) z at = answered_at spec (n + 1) ys h.2.0 h.2.1 i z at

module _ (x : Accruing) (parts : List Part) (h : IsAccruing x parts) (i : ℕ) (s : Stream)
    (at : slice_get x.swap.streams i ≡ Some s) where
  -- the stream has a regular span
  pub stream_span : HasSpan s
  unfolding schedule_of stream_of
  stream_span =
      let made = answer_there (schedule_determined x.swap x.cal x.table h.lawful h.terms) h.dated in
      let part = answered_at (λ n t. refused_as (in_stream n) (stream_of (stream_sets x.cal t) x.table t)) 1
      x.swap.streams made.0 made.1 i s at in
      let laid = part.1.1.1 in (laid.0, laid.1)

  -- the accrual of the stream is the only one
  pub only_accrual : (d : ℤ) (p : Part) (a : Accrual) → IsAccrualOf s (applicable_days x.cal s) x.table p d a
      → ((b c : Accrual) → IsAccrualOf s (applicable_days x.cal s) x.table p d b
      → IsAccrualOf s (applicable_days x.cal s) x.table p d c → b ≡ c)
      → Only (AccruesAt x d (i + 1) p) a
  only_accrual d p a accrues one =
      let back : i + 1 - 1 ≡ i = omega arith in
      record {
        is = record {
          stream = s;
          at = subst (λ (j : ℕ). slice_get x.swap.streams j ≡ Some s) (sym back) at;
          accrues = accrues;
        };
        only = λ b k.
            let there : slice_get x.swap.streams i ≡ Some k.stream =
            subst (λ (j : ℕ). slice_get x.swap.streams j ≡ Some k.stream) back k.at in
            let same : k.stream ≡ s = same_Some k.stream s (sym there ∙ at) in
            one b a (subst (λ (t : Stream). IsAccrualOf t (applicable_days x.cal t) x.table p d b) same k.accrues) accrues;
      }
