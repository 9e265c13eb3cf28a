-- A schedule has at most one first payment without an amount, and it lacks one fixing.
use Rattle.std.proofs.Common.{◌≡◌, inl, inr, ℕ, ◌-◌, List, [], ◌∷◌, length, Option, Some, None, ℤ, sym, ap, subst, ◌∙◌}
use Rattle.std.specs.Prelude.{IsSome, nat_lt, slice_get}
use Rattle.std.proofs.lemmas.Option.{same_Some}
use Rattle.irs_base.specs.Outcomes.{First}
use Rattle.irs_base.proofs.Firsts.{AreTied, one_first, tied, tied_last}
use Rattle.irs_terms.specs.declared.amounts.FloatTerms.{FloatTerms}
use Rattle.irs_terms.specs.declared.amounts.Leg.{Leg}
use Rattle.irs_terms.specs.declared.amounts.Leg.TheVariants.{Fixed, Floating}
use Rattle.irs_terms.specs.declared.amounts.StubTerms.{StubTerms}
use Rattle.irs_terms.specs.declared.frequency.Frequency.{Frequency}
use Rattle.irs_terms.specs.declared.parameters.CalculationParameters.{CalculationParameters}
use Rattle.irs_terms.specs.declared.results.Reset.{Reset}
use Rattle.irs_terms.specs.declared.results.Span.{Span}
use Rattle.irs_terms.specs.declared.stream.Stream.{Stream}
use Rattle.irs_calendar.specs.declared.sections.Section.{Section}
use Rattle.irs_periods.proofs.OneSpan.{one_span}
use Rattle.irs_resets.specs.Rates.{IsPeriodKind, Line, RateTable}
use Rattle.irs_resets.specs.declared.observed.PeriodKind.{PeriodKind}
use Rattle.irs_resets.proofs.KindLaws.{one_kind}
use Rattle.irs_observed.specs.ObservedRates.{DailyRates, daily_rates}
use Rattle.irs_observed.specs.Observations.{ObservedPeriod}
use Rattle.irs_observed.specs.declared.observation.Observation.{Observation}
use Rattle.irs_observed.proofs.OutcomeLemmas.{one_observations}
use Rattle.irs_schedule.specs.Parts.{Part}
use Rattle.irs_schedule.specs.declared.entries.PaymentEntry.{PaymentEntry}
use Rattle.irs_unfixed.specs.Unfixed.{FirstAbsent, IsAbsentDay, Fixing, FloatsOn, LacksFixing, RestsBy, RestsIn}
use Rattle.irs_unfixed.specs.Unfixed.{RestsOnDays, RestsOnReset, IsFirstLacking, PaymentLacks, MadeFrom, UnfixedAt}
use Rattle.irs_unfixed.specs.Unfixed.{IsUnrated, place_before}
use Rattle.irs_unfixed.specs.declared.places.PaymentPlace.{PaymentPlace}
use Rattle.irs_resets.proofs.ObservedLaws.{source_is}

-- ---- one fixing of a period

no_rate : (o : Option ℤ) → o ≡ None → IsSome o → ⊥
no_rate None e h = cc (h)
no_rate (Some r) e h = cc (e)

one_first_absent : (daily : DailyRates) (os : List Observation) (d e : ℤ) → FirstAbsent daily os d
    → FirstAbsent daily os e → d ≡ e
one_first_absent daily [] d e h k = absurd h
one_first_absent daily (o ∷ os) d e (inl h) (inl k) = h.1 ∙ sym k.1
one_first_absent daily (o ∷ os) d e (inl h) (inr k) = absurd (no_rate (daily o.observed) h.0 k.0)
one_first_absent daily (o ∷ os) d e (inr h) (inl k) = absurd (no_rate (daily o.observed) k.0 h.0)
one_first_absent daily (o ∷ os) d e (inr h) (inr k) = one_first_absent daily os d e h.1 k.1

one_absent_day : (daily : DailyRates) (p : ObservedPeriod) (d e : ℤ) → IsAbsentDay daily p d → IsAbsentDay daily p e
    → d ≡ e
one_absent_day daily p d e h k =
    let same : k.observations ≡ h.observations =
    one_observations p k.observations h.observations k.are_observations h.are_observations in
    one_first_absent daily h.observations d e h.first
    (subst (λ (os : List Observation). FirstAbsent daily os e) same k.first)

line_index : (i j : List ℕ) (t u : Option Frequency) → Line i t ≡ Line j u → i ≡ j
line_index i j t u e = cc

line_tenor : (i j : List ℕ) (t u : Option Frequency) → Line i t ≡ Line j u → t ≡ u
line_tenor i j t u e = cc

-- the same index, tenor and day are the same fixing
same_fixing : (f g : Fixing) → f.index ≡ g.index → f.tenor ≡ g.tenor → f.day ≡ g.day → f ≡ g
same_fixing f g index tenor day = λ i. record { index = index i; tenor = tenor i; day = day i }

one_on_reset : (kind : PeriodKind) (float : FloatTerms) (stubs : Option StubTerms) (resets : List Reset) (n : ℕ)
    (f g : Fixing) → RestsOnReset kind float stubs resets n f → RestsOnReset kind float stubs resets n g → f ≡ g
one_on_reset kind float stubs resets n f g h k =
    let line : Line f.index f.tenor ≡ Line g.index g.tenor =
    source_is float kind stubs (Line f.index f.tenor) h.comes_from
    ∙ sym (source_is float kind stubs (Line g.index g.tenor) k.comes_from) in
    let row : h.fixed_on.member ≡ k.fixed_on.member =
    same_Some h.fixed_on.member k.fixed_on.member (sym h.fixed_on.at ∙ k.fixed_on.at) in
    same_fixing f g (line_index f.index g.index f.tenor g.tenor line) (line_tenor f.index g.index f.tenor g.tenor line)
    (sym h.fixed_on.holds ∙ ap (λ (r : Reset). r.fixing) row ∙ k.fixed_on.holds)

one_on_days : (kind : PeriodKind) (float : FloatTerms) (stubs : Option StubTerms) (rates : RateTable)
    (p : ObservedPeriod) (f g : Fixing) → RestsOnDays kind float stubs rates p f → RestsOnDays kind float stubs rates p g
    → f ≡ g
one_on_days kind float stubs rates p f g h k =
    same_fixing f g (h.index ∙ sym k.index) (h.tenor ∙ sym k.tenor)
    (one_absent_day (daily_rates rates float.index) p f.day g.day h.day k.day)

module _ (cal : List Section) (rates : RateTable) (s : Stream) (p : Part) (n : ℕ) (f g : Fixing) where
  one_by : (parameters : Option CalculationParameters) (float : FloatTerms) (kind : PeriodKind)
      → RestsBy parameters float cal rates s p n kind f → RestsBy parameters float cal rates s p n kind g → f ≡ g
  one_by None float kind h k = one_on_reset kind float s.stubs p.resets n f g h k
  one_by (Some parameters) float kind h k = one_on_days kind float s.stubs rates _ f g h k

  one_floats : (float : FloatTerms) → FloatsOn float cal rates s p n f → FloatsOn float cal rates s p n g → f ≡ g
  one_floats float h k =
      let span : k.span ≡ h.span = one_span s k.span h.span k.regular h.regular in
      let kind : k.kind ≡ h.kind =
      one_kind s h.span (length p.periods) n k.kind h.kind
      (subst (λ (x : Span). IsPeriodKind s x (length p.periods) n k.kind) span k.is_kind) h.is_kind in
      one_by float.parameters float h.kind h.rests
      (subst (λ (x : PeriodKind). RestsBy float.parameters float cal rates s p n x g) kind k.rests)

  one_rests : (leg : Leg) → RestsIn leg cal rates s p n f → RestsIn leg cal rates s p n g → f ≡ g
  one_rests (Fixed values) h k = absurd h
  one_rests (Floating float) h k = one_floats float h k

  -- a period lacks one fixing
  pub one_fixing : LacksFixing cal rates s p n f → LacksFixing cal rates s p n g → f ≡ g
  one_fixing h k = one_rests s.leg h.rests k.rests

-- ---- one first payment

place_ties : AreTied place_before
place_ties u v h k =
    let levels = tied u.stream v.stream (nat_lt u.payment v.payment) (nat_lt v.payment u.payment) h k in
    let payments = tied_last u.payment v.payment levels.1 levels.2 in
    λ i. record { stream = levels.0 i; payment = payments i }

module _ (x : MadeFrom) (parts : List Part) where
  -- the payment at a place lacks one fixing
  one_lacks : (u : PaymentPlace) (f g : Fixing) → PaymentLacks x parts u f → PaymentLacks x parts u g → f ≡ g
  one_lacks u f g h k =
      let stream : k.stream ≡ h.stream = same_Some k.stream h.stream (sym k.is_stream ∙ h.is_stream) in
      let part : k.part ≡ h.part = same_Some k.part h.part (sym k.is_part ∙ h.is_part) in
      let listed : slice_get h.part.payments (u.payment - 1) ≡ Some k.payment =
      subst (λ (q : Part). slice_get q.payments (u.payment - 1) ≡ Some k.payment) part k.is_payment in
      let payment : k.payment ≡ h.payment = same_Some k.payment h.payment (sym listed ∙ h.is_payment) in
      let first : First nat_lt (IsUnrated h.part h.payment) k.period =
      subst (λ (y : PaymentEntry). First nat_lt (IsUnrated h.part y) k.period) payment
      (subst (λ (q : Part). First nat_lt (IsUnrated q k.payment) k.period) part k.is_period) in
      let period : k.period ≡ h.period =
      one_first nat_lt tied_last (IsUnrated h.part h.payment) k.period h.period first h.is_period in
      one_fixing x.cal x.rates h.stream h.part h.period f g h.lacks
      (subst (λ (n : ℕ). LacksFixing x.cal x.rates h.stream h.part n g) period
      (subst (λ (q : Part). LacksFixing x.cal x.rates h.stream q k.period g) part
      (subst (λ (s : Stream). LacksFixing x.cal x.rates s k.part k.period g) stream k.lacks)))

  -- there is one first payment, and it lacks one fixing
  pub one_lacking : (u v : PaymentPlace) (f g : Fixing) → IsFirstLacking x parts u f → IsFirstLacking x parts v g
      → (u ≡ v) × (f ≡ g)
  one_lacking u v f g h k =
      let place : u ≡ v = one_first place_before place_ties (UnfixedAt parts) u v h.first k.first in
      (place, one_lacks u f g h.lacks (subst (λ (w : PaymentPlace). PaymentLacks x parts w g) (sym place) k.lacks))
