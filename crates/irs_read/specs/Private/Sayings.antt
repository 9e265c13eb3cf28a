-- Private: no public contract rests on this file.
-- What the private readers give: each gives what its part of the document says (`StreamElements`). Each is called only
-- where something is said, so none has a value for what must occur and is absent.
use Rattle.irs_base.specs.declared.rounding.Direction.TheVariants.{Nearest}
use Rattle.irs_elements.specs.Elements.{once}
use Rattle.irs_read.specs.Readings.{ReadPart, Says, Value, maybe, one, or, said, ◌also◌, ◌gives◌}
use Rattle.irs_read.specs.StreamElements.{exchanges, notional, rate}
use Rattle.irs_read.specs.StreamElements.{frequency_terms, notional_terms, period_terms, rate_terms, stubs, places_by}
use Rattle.irs_read.specs.StreamElements.{payment_dates, reset_dates, rounding_read}
use Rattle.irs_read.specs.declared.leaf_values.Scale.{Scale, TheVariants.Notionals, TheVariants.Rates}
use Rattle.irs_terms.specs.declared.amounts.{ExchangeFlags.ExchangeFlags, Rounding.Rounding}
use Rattle.irs_terms.specs.declared.stream.Stream.{Stream}
use Rattle.serde_json.specs.Data.{Data}
use Rattle.std.specs.Prelude.{◌≡◌, ℕ, false, List, ℤ, Option, Some, None, codes}

-- something is said
abbrev pub IsSaid : {A : Type 0} → (A → Type 0) → Type 0
IsSaid {A} P = (a : A) × P a

-- the text of a leaf has this value
abbrev pub TextSays : {A : Type 0} → (List ℕ → Option A) → Data → A → Type 0
TextSays at x a = said at (Some x) ≡ Some a

-- what is said of a member that occurs
abbrev pub One : {A : Type 0} → (Data → A → Type 0) → Option Data → A → Type 0
One says o = Says o says (λ a. a) (λ _. ⊥)

-- of one that may be absent
abbrev pub Maybe : {A : Type 0} → (Data → A → Type 0) → Option Data → Option A → Type 0
Maybe says o = Says o says Some (λ a. a ≡ None)

-- of one that has this value where it is absent
abbrev pub Or : {A : Type 0} → (Data → A → Type 0) → A → Option Data → A → Type 0
Or says absent o = Says o says (λ a. a) (λ a. a ≡ absent)

-- the values of a schedule are notionals or rates
abbrev pub number_by : Scale → Value ℤ
number_by Notionals = notional
number_by Rates = rate

-- no principal is exchanged
abbrev pub no_exchange : ExchangeFlags
no_exchange = record { initial = false; intermediate = false; last = false }

-- how the rate of a `floatingRateCalculation` is rounded
abbrev pub RoundingSaid : Data → Rounding → Type 0
RoundingSaid d =
    Or rounding_read.says (record { dir = Nearest; places = places_by (once (codes "calculationParameters") d) })
    (once (codes "finalRateRounding") d)

-- ---- a stream, by the objects that hold its parts

-- the stream itself
abbrev pub whole_terms : List (Option Data) → Option Data → ReadPart Stream
whole_terms lists dates =
    one "paymentDates" (payment_dates lists dates) gives (λ (s : Stream). s.pay)
    also maybe "resetDates" (reset_dates lists dates) gives (λ (s : Stream). s.reset)
    also maybe "stubCalculationPeriodAmount" (stubs dates) gives (λ (s : Stream). s.stubs)
    also or "principalExchanges" exchanges no_exchange gives (λ (s : Stream). s.exchanges)

-- all of it
abbrev pub StreamParts : List (Option Data) → Data → Data → Data → Data → Data → Stream → Type 0
StreamParts lists d dates freq calc notionals s =
    (period_terms lists).says dates s × (frequency_terms.says freq s × (notional_terms.says notionals s
    × (rate_terms.says calc s × (whole_terms lists (Some dates)).says d s)))
