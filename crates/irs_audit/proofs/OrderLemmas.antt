-- The orders of departures and of fields. No two departures share a place. Where one of two sets follows the other, the
-- first of both is known.
use Rattle.std.proofs.Common.{◌≡◌, ℕ, ◌≤◌, false, Option, Some, None, ◌⊎◌, inl, inr, refl, sym, ◌∙◌, ap, arith}
use Rattle.std.proofs.Common.{if◌then◌else◌}
use Rattle.std.specs.Prelude.{◌==◌}
use Rattle.std.specs.Option.{option_or}
use Rattle.irs_audit.specs.declared.departures.Departure.{Departure}
use Rattle.irs_audit.specs.declared.departures.RowKind.{RowKind}
use Rattle.irs_audit.specs.declared.departures.RowKind.TheVariants.{Stream, Exchange, Payment, Period, Reset}
use Rattle.irs_audit.specs.declared.departures.Field.{Field}
use Rattle.irs_audit.specs.declared.departures.Field.TheVariants.{Missing, Extra}
use Rattle.irs_audit.specs.declared.departures.Field.TheVariants.{UnadjustedPrincipalExchangeDate}
use Rattle.irs_audit.specs.declared.departures.Field.TheVariants.{AdjustedPrincipalExchangeDate}
use Rattle.irs_audit.specs.declared.departures.Field.TheVariants.{PrincipalExchangeAmount}
use Rattle.irs_audit.specs.declared.departures.Field.TheVariants.{UnadjustedPaymentDate, AdjustedPaymentDate}
use Rattle.irs_audit.specs.declared.departures.Field.TheVariants.{CalculationPeriod, Currency, Amount}
use Rattle.irs_audit.specs.declared.departures.Field.TheVariants.{UnadjustedStartDate, UnadjustedEndDate}
use Rattle.irs_audit.specs.declared.departures.Field.TheVariants.{AdjustedStartDate, AdjustedEndDate}
use Rattle.irs_audit.specs.declared.departures.Field.TheVariants.{CalculationPeriodNumberOfDays, NotionalAmount, Rate}
use Rattle.irs_audit.specs.declared.departures.Field.TheVariants.{DayCountYearFraction}
use Rattle.irs_audit.specs.declared.departures.Field.TheVariants.{ResetDate, AdjustedFixingDate, ObservedRate}
use Rattle.irs_audit.specs.Verdicts.{kind_place, field_place, field_before, departs_before}
use Rattle.irs_base.specs.Outcomes.{IsFirst}
use Rattle.irs_base.proofs.Firsts.{AreTied, first_same, lt_false, tied, tied_last}

-- the kind at a place
abbrev kind_at : ℕ → RowKind
kind_at n = if n == 0 then Stream else
    (if n == 1 then Exchange else (if n == 2 then Payment else (if n == 3 then Period else Reset)))

kind_is : (k : RowKind) → kind_at (kind_place k) ≡ k
kind_is Stream = refl
kind_is Exchange = refl
kind_is Payment = refl
kind_is Period = refl
kind_is Reset = refl

kind_once : (k l : RowKind) → kind_place k ≡ kind_place l → k ≡ l
kind_once k l e = sym (kind_is k) ∙ ap kind_at e ∙ kind_is l

-- the field at a place
abbrev field_at : ℕ → Field
field_at n =
    if n == 0 then Missing else if n == 1 then Extra
    else if n == 2 then UnadjustedPrincipalExchangeDate else if n == 3 then AdjustedPrincipalExchangeDate else if n == 4
    then PrincipalExchangeAmount
    else if n == 5 then UnadjustedPaymentDate else if n == 6 then AdjustedPaymentDate else if n == 7 then
    CalculationPeriod else if n == 8 then Currency else if n == 9 then Amount
    else if n == 10 then UnadjustedStartDate else if n == 11 then UnadjustedEndDate else if n == 12 then
    AdjustedStartDate else if n == 13 then AdjustedEndDate
    else if n == 14 then CalculationPeriodNumberOfDays else if n == 15 then NotionalAmount else if n == 16 then Rate
    else if n == 17 then DayCountYearFraction
    else if n == 18 then ResetDate else if n == 19 then AdjustedFixingDate else ObservedRate

field_is : (f : Field) → field_at (field_place f) ≡ f
field_is Missing = refl
field_is Extra = refl
field_is UnadjustedPrincipalExchangeDate = refl
field_is AdjustedPrincipalExchangeDate = refl
field_is PrincipalExchangeAmount = refl
field_is UnadjustedPaymentDate = refl
field_is AdjustedPaymentDate = refl
field_is CalculationPeriod = refl
field_is Currency = refl
field_is Amount = refl
field_is UnadjustedStartDate = refl
field_is UnadjustedEndDate = refl
field_is AdjustedStartDate = refl
field_is AdjustedEndDate = refl
field_is CalculationPeriodNumberOfDays = refl
field_is NotionalAmount = refl
field_is Rate = refl
field_is DayCountYearFraction = refl
field_is ResetDate = refl
field_is AdjustedFixingDate = refl
field_is ObservedRate = refl

field_once : (f g : Field) → field_place f ≡ field_place g → f ≡ g
field_once f g e = sym (field_is f) ∙ ap field_at e ∙ field_is g

same_departure : (d e : Departure) → d.stream ≡ e.stream → d.kind ≡ e.kind → d.row ≡ e.row → d.field ≡ e.field → d ≡ e
same_departure d e a b c f = λ i. record { stream = a i; kind = b i; row = c i; field = f i }

-- two departures are the same where neither comes before the other
pub departure_ties : AreTied departs_before
departure_ties d e p q =
    let streams = tied d.stream e.stream _ _ p q in
    let kinds = tied (kind_place d.kind) (kind_place e.kind) _ _ streams.1 streams.2 in
    let rows = tied d.row e.row _ _ kinds.1 kinds.2 in
    let fields : field_place d.field ≡ field_place e.field = tied_last _ _ rows.1 rows.2 in
    same_departure d e streams.0 (kind_once d.kind e.kind kinds.0) rows.0 (field_once d.field e.field fields)

-- a field whose place isn't below that of another doesn't come before it
pub not_lower : (f g : Field) → field_place f ≤ field_place g → field_before g f ≡ false
not_lower f g h = lt_false (field_place g) (field_place f) (λ less. omega (arith, h, less))

-- The first of two sets, where nothing of the second comes before anything of the first. The second is
-- searched only where the first is empty.
pub first_of_both : (P Q : Departure → Type 0) (a b : Option Departure)
    → ((d e : Departure) → P d → Q e → departs_before e d ≡ false) → IsFirst departs_before P a
    → (((d : Departure) → P d → ⊥) → IsFirst departs_before Q b)
    → IsFirst departs_before (λ d. P d ⊎ Q d) (option_or a b)
first_of_both P Q None b order h then_b =
    first_same departs_before Q (λ d. P d ⊎ Q d) b (λ d q. inr q) (λ d x. elim x [ inl p ↦ absurd (h d p) | inr q ↦ q ])
    (then_b h)
first_of_both P Q (Some d) b order h then_b =
    (inl h.0, λ e x. elim x [ inl y ↦ h.1 e y | inr y ↦ order d e h.0 y ])
