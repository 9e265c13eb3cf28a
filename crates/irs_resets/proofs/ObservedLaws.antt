-- The rate of a period comes from one source, which the functions name; so it has one observed rate.
use Rattle.std.proofs.Common.{◌≡◌, inl, inr, ℕ, List, Option, Some, None, ℤ, refl, sym, ap, ◌∙◌}
use Rattle.irs_terms.specs.declared.amounts.FloatTerms.{FloatTerms}
use Rattle.irs_terms.specs.declared.amounts.StubRate.{StubRate}
use Rattle.irs_terms.specs.declared.amounts.StubRate.TheVariants.{Index, Fixed}
use Rattle.irs_terms.specs.declared.amounts.StubTerms.{StubTerms}
use Rattle.irs_resets.specs.declared.observed.PeriodKind.{PeriodKind}
use Rattle.irs_resets.specs.declared.observed.PeriodKind.TheVariants.{InitialStub, FinalStub, FirstRegular}
use Rattle.irs_resets.specs.declared.observed.PeriodKind.TheVariants.{LaterRegular}
use Rattle.irs_resets.specs.declared.store.Slot.{Slot}
use Rattle.irs_resets.specs.Rates.{RateTable, rate_at, RateSource, Stated, Line, GivesStub, ComesFrom, own_rate}
use Rattle.irs_resets.specs.Rates.{own_index, initial_rate, stream_index, rate_from, IsObserved}
use Rattle.irs_resets.specs.Private.Resets.{own_source, index_source, own_or_index, initial_or_index, source_by}
use Rattle.irs_resets.specs.Private.Resets.{observed_rate}

not_first_initial : InitialStub ≡ FirstRegular → ⊥
not_first_initial e = cc (e)

not_first_final : FinalStub ≡ FirstRegular → ⊥
not_first_final e = cc (e)

not_first_later : LaterRegular ≡ FirstRegular → ⊥
not_first_later e = cc (e)

-- nothing is given for a regular period
none_first : (stubs : Option StubTerms) (given : StubRate) → GivesStub FirstRegular stubs given → ⊥
none_first None given h = h
none_first (Some stubs) given (inl h) = cc (h.0)
none_first (Some stubs) given (inr h) = cc (h.0)

none_later : (stubs : Option StubTerms) (given : StubRate) → GivesStub LaterRegular stubs given → ⊥
none_later None given h = h
none_later (Some stubs) given (inl h) = cc (h.0)
none_later (Some stubs) given (inr h) = cc (h.0)

none_initial : (stubs : StubTerms) (given : StubRate) → stubs.initial ≡ None
    → GivesStub InitialStub (Some stubs) given → ⊥
none_initial stubs given e (inl h) = cc (e, h.1)
none_initial stubs given e (inr h) = cc (h.0)

none_final : (stubs : StubTerms) (given : StubRate) → stubs.last ≡ None → GivesStub FinalStub (Some stubs) given → ⊥
none_final stubs given e (inl h) = cc (h.0)
none_final stubs given e (inr h) = cc (e, h.1)

module _ (float : FloatTerms) where
  comes_initial : (stubs : StubTerms) (o : Option StubRate) → stubs.initial ≡ o
      → ComesFrom InitialStub float (Some stubs) (own_or_index o float)
  comes_initial stubs None e =
      stream_index (λ given h. none_initial stubs given e h) (λ k. absurd (not_first_initial k))
  comes_initial stubs (Some (Index index tenor)) e = own_index index tenor (inl (refl, e))
  comes_initial stubs (Some (Fixed rate)) e = own_rate rate (inl (refl, e))

  comes_final : (stubs : StubTerms) (o : Option StubRate) → stubs.last ≡ o
      → ComesFrom FinalStub float (Some stubs) (own_or_index o float)
  comes_final stubs None e = stream_index (λ given h. none_final stubs given e h) (λ k. absurd (not_first_final k))
  comes_final stubs (Some (Index index tenor)) e = own_index index tenor (inr (refl, e))
  comes_final stubs (Some (Fixed rate)) e = own_rate rate (inr (refl, e))

  comes_first : (stubs : Option StubTerms) (o : Option ℤ) → float.initial_rate ≡ o
      → ComesFrom FirstRegular float stubs (initial_or_index o float)
  comes_first stubs None e = stream_index (none_first stubs) (λ k. e)
  comes_first stubs (Some rate) e = initial_rate rate refl e

  -- the source that the functions name is one
  pub comes_by : (kind : PeriodKind) (stubs : Option StubTerms) → ComesFrom kind float stubs (source_by kind float stubs)
  comes_by InitialStub None = stream_index (λ given h. h) (λ k. absurd (not_first_initial k))
  comes_by InitialStub (Some stubs) = comes_initial stubs stubs.initial refl
  comes_by FinalStub None = stream_index (λ given h. h) (λ k. absurd (not_first_final k))
  comes_by FinalStub (Some stubs) = comes_final stubs stubs.last refl
  comes_by FirstRegular stubs = comes_first stubs float.initial_rate refl
  comes_by LaterRegular stubs = stream_index (none_later stubs) (λ k. absurd (not_first_later k))

  -- ---- and there is no other

  given_is : (kind : PeriodKind) (stubs : Option StubTerms) (given : StubRate) → GivesStub kind stubs given
      → own_source given ≡ source_by kind float stubs
  given_is kind None given h = absurd h
  given_is kind (Some stubs) given (inl h) = rw (h.0, h.1) refl
  given_is kind (Some stubs) given (inr h) = rw (h.0, h.1) refl

  index_initial : (stubs : StubTerms) (o : Option StubRate) → stubs.initial ≡ o
      → ((given : StubRate) → GivesStub InitialStub (Some stubs) given → ⊥) → index_source float ≡ own_or_index o float
  index_initial stubs None e none = refl
  index_initial stubs (Some given) e none = absurd (none given (inl (refl, e)))

  index_final : (stubs : StubTerms) (o : Option StubRate) → stubs.last ≡ o
      → ((given : StubRate) → GivesStub FinalStub (Some stubs) given → ⊥) → index_source float ≡ own_or_index o float
  index_final stubs None e none = refl
  index_final stubs (Some given) e none = absurd (none given (inr (refl, e)))

  index_is : (kind : PeriodKind) (stubs : Option StubTerms) → ((given : StubRate) → GivesStub kind stubs given → ⊥)
      → (kind ≡ FirstRegular → float.initial_rate ≡ None) → index_source float ≡ source_by kind float stubs
  index_is InitialStub None none initial = refl
  index_is InitialStub (Some stubs) none initial = index_initial stubs stubs.initial refl none
  index_is FinalStub None none initial = refl
  index_is FinalStub (Some stubs) none initial = index_final stubs stubs.last refl none
  index_is FirstRegular stubs none initial = let e : float.initial_rate ≡ None = initial refl in rw e refl
  index_is LaterRegular stubs none initial = refl

  -- every source is that one
  pub source_is : (kind : PeriodKind) (stubs : Option StubTerms) (source : RateSource) → ComesFrom kind float stubs source
      → source ≡ source_by kind float stubs
  source_is kind stubs source (own_rate rate h) = given_is kind stubs (Fixed rate) h
  source_is kind stubs source (own_index index tenor h) = given_is kind stubs (Index index tenor) h
  source_is kind stubs source (initial_rate rate k e) = rw (k, e) refl
  source_is kind stubs source (stream_index none initial) = index_is kind stubs none initial

  module _ (kind : PeriodKind) (stubs : Option StubTerms) (rates : RateTable) (d : ℤ) where
    -- the rate that the functions give is the observed rate
    pub is_observed : IsObserved kind float stubs rates d (observed_rate kind float stubs rates d)
    is_observed = record { source = source_by kind float stubs; comes_from = comes_by kind stubs; is = refl }

    -- the observed rate is that of the function
    pub observed_is : (rate : Option ℤ) → IsObserved kind float stubs rates d rate
        → rate ≡ observed_rate kind float stubs rates d
    observed_is rate h =
        h.is ∙ ap (λ (source : RateSource). rate_from source rates d) (source_is kind stubs h.source h.comes_from)

    -- a period has one observed rate
    pub one_observed : (x y : Option ℤ) → IsObserved kind float stubs rates d x
        → IsObserved kind float stubs rates d y → x ≡ y
    one_observed x y p q = observed_is x p ∙ sym (observed_is y q)

-- tables with the same rates give the same observed rates
module _ (t u : RateTable) (same : (index : List ℕ) (slot : Slot) → rate_at t index slot ≡ rate_at u index slot) where
  from_same : (source : RateSource) (d : ℤ) → rate_from source t d ≡ rate_from source u d
  from_same (Stated rate) d = refl
  from_same (Line index tenor) d = same index (record { date = d; tenor = tenor })

  -- it depends on the rates alone
  pub observed_same : (kind : PeriodKind) (float : FloatTerms) (stubs : Option StubTerms) (d : ℤ) (rate : Option ℤ)
      → IsObserved kind float stubs t d rate → IsObserved kind float stubs u d rate
  observed_same kind float stubs d rate h =
      record { source = h.source; comes_from = h.comes_from; is = h.is ∙ from_same h.source d }
