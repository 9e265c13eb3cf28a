-- Where each period has its reset and no stub is missing, no rule of resets is broken.
use Rattle.std.proofs.Common.{is_some, false, true≢false, ◌≡◌, inl, inr, ◌+◌, ◌<◌, List, length, Option}
use Rattle.std.proofs.Common.{Some, None, subst, arith}
use Rattle.irs_base.proofs.MemberLemmas.{numbered_has}
use Rattle.irs_base.specs.Outcomes.{IsFirst}
use Rattle.irs_terms.specs.Faults.{comes_before}
use Rattle.irs_terms.specs.declared.places.Fault.{Fault}
use Rattle.irs_terms.specs.declared.amounts.FloatTerms.{FloatTerms}
use Rattle.irs_terms.specs.declared.dates.ResetTerms.{ResetTerms}
use Rattle.irs_terms.specs.declared.results.Reset.{Reset}
use Rattle.irs_resets.specs.Rates.{RateTable}
use Rattle.irs_resets.specs.Resets.{BreaksResetDates, BreaksDatesIn, BreaksResets, BreaksStubs, HasResets, IsReset}
use Rattle.irs_resets.specs.Resets.{ResetSource}
use Rattle.irs_resets.proofs.DateLemmas.{dates_stand, period_of}

dates_kept : (source : ResetSource) (float : FloatTerms) (t : ResetTerms) (rates : RateTable) (rows : List Reset)
    → HasResets source float t rates rows → (f : Fault) → BreaksResetDates t source.days f → ⊥
dates_kept source float t rates rows h f b =
    let p = period_of t source.days b.why b.number b.fails in
    let few : b.number < 1 + length rows = omega (arith, p.0, p.1, h.many) in
    let row = numbered_has (IsReset source float t rates) 1 rows b.number h.each p.0 few in
    dates_stand b.why t source.days b.number row.0.reset row.0.fixing row.1.dates b.fails

-- where each period has its reset no rule is broken
pub listed_unbroken : (source : ResetSource) (float : FloatTerms) (t : ResetTerms) (rates : RateTable)
    (rows : List Reset) → source.stream.reset ≡ Some t
    → IsFirst comes_before (BreaksStubs source.stream source.span) None → HasResets source float t rates rows
    → (f : Fault) → BreaksResets source f → ⊥
listed_unbroken source float t rates rows is stubs h f b = elim b [
  | inl stub ↦ stubs f stub
  | inr dates ↦
      dates_kept source float t rates rows h f
      (subst (λ (o : Option ResetTerms). BreaksDatesIn o source.days f) is dates)
]

-- no stub is missing where none is reported
pub no_stub : (P : Fault → Type 0) (o : Option Fault) → is_some o ≡ false → IsFirst comes_before P o
    → IsFirst comes_before P None
no_stub P None e h = h
no_stub P (Some f) e h = absurd (true≢false e)
