-- What is due for derived rates depends on a table of rates by its rates alone.
use Rattle.std.proofs.Common.{ℕ, List}
use Rattle.irs_base.specs.Outcomes.{◌>>=◌, refused_as}
use Rattle.irs_terms.specs.declared.places.Broken.{Broken}
use Rattle.irs_terms.specs.declared.amounts.FloatTerms.{FloatTerms}
use Rattle.irs_terms.specs.declared.frequency.Frequency.{Frequency}
use Rattle.irs_terms.specs.declared.stream_list.Swap.{Swap}
use Rattle.irs_calendar.specs.declared.sections.Section.{Section}
use Rattle.irs_resets.specs.Rates.{RateTable}
use Rattle.irs_schedule.specs.DaySets.{reset_days}
use Rattle.irs_schedule.specs.Parts.{Part}
use Rattle.irs_overnight.specs.declared.derived.DerivedRow.{DerivedRow}
use Rattle.irs_average.specs.declared.means.Mean.{Mean}
use Rattle.irs_average.specs.declared.stubs.Side.{Side}
use Rattle.irs_answers.specs.Derived.{average_of, interpolate_of, overnight_of, printed}
use Rattle.irs_answers.specs.Messages.{broken_rule, keeping}
use Rattle.irs_overnight.proofs.RatesAlone.{overnight_first, overnight_kept, overnight_same}
use Rattle.irs_answers.proofs.Agreement.{Within, only_within, refused_as_within, same_within, then_within}
use Rattle.irs_answers.proofs.SameDerived.{average_first, average_kept, average_same, stub_first, stub_kept, stub_same}
use Rattle.irs_answers.proofs.SameRates.{SameRates, same_back}

-- where rules are kept and broken alike
kept_within : (K L : Type 0) (P Q : Broken → Type 0) → (K → L) → ((b : Broken) → P b → Q b)
    → Within (refused_as broken_rule (keeping K P)) (refused_as broken_rule (keeping L Q))
kept_within K L P Q k p = refused_as_within broken_rule _ _ (record { answers = λ _. k; refuses = p })

-- and rows are the same, so is what is due for them
rows_within : (K L : Type 0) (P Q : Broken → Type 0) (R S : List DerivedRow → Type 0) (float : FloatTerms) → (K → L)
    → ((b : Broken) → P b → Q b) → ((rows : List DerivedRow) → R rows → S rows)
    → ((rows : List DerivedRow) → S rows → R rows)
    → Within (refused_as broken_rule (keeping K P) >>= λ _. printed R float)
    (refused_as broken_rule (keeping L Q) >>= λ _. printed S float)
rows_within K L P Q R S float k p r s =
    then_within _ _ _ _ (kept_within K L P Q k p) (λ _.
    then_within _ _ _ _ (only_within R S r s) (λ rows.
    same_within _))

module _ (t u : RateTable) (e : SameRates t u) (swap : Swap) (cal : List Section) (parts : List Part) where
  -- what is due for compounded rates depends on the rates alone
  pub overnight_within : (n : ℕ) → Within (overnight_of n swap cal t parts) (overnight_of n swap cal u parts)
  overnight_within n = then_within _ _ _ _ (same_within _) (λ x.
      let days = reset_days cal x.stream in
      rows_within _ _ _ _ _ _ x.float (overnight_kept t u e swap n parts days) (overnight_first t u e swap n parts days)
      (overnight_same t u e swap n parts days) (overnight_same u t (same_back t u e) swap n parts days))

  -- what is due for averages depends on the rates alone
  pub average_within : (n : ℕ) (kind : Mean) (step : ℕ)
      → Within (average_of n kind step swap cal t parts) (average_of n kind step swap cal u parts)
  average_within n kind step = then_within _ _ _ _ (same_within _) (λ x.
      let days = reset_days cal x.stream in
      rows_within _ _ _ _ _ _ x.float (average_kept t u e swap n parts days kind step)
      (average_first t u e swap n parts days kind step) (average_same t u e swap n parts days kind step)
      (average_same u t (same_back t u e) swap n parts days kind step))

-- what is due for a stub depends on the rates alone
pub interpolate_within : (t u : RateTable) → SameRates t u → (swap : Swap) (parts : List Part) (n : ℕ) (side : Side)
    (low high : Frequency)
    → Within (interpolate_of n side low high swap t parts) (interpolate_of n side low high swap u parts)
interpolate_within t u e swap parts n side low high = then_within _ _ _ _ (same_within _) (λ x.
    then_within _ _ _ _
    (kept_within _ _ _ _ (stub_kept t u e swap n side low high parts) (stub_first t u e swap n side low high parts)) (λ _.
    then_within _ _ _ _ (only_within _ _ (stub_same t u e swap n side low high parts)
    (stub_same u t (same_back t u e) swap n side low high parts)) (λ row.
    same_within _)))
