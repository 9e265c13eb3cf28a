-- The rows of a schedule, their text, and walks along them.
use Rattle.std.specs.Prelude.{ℕ, ◌+◌, ◌-◌, Option, option_map, slice_get, ◌*◌, List, [], ◌∷◌, ◌++◌, map, None}
use Rattle.std.specs.Prelude.{slice_index_or, if◌then◌else◌, pos, ◌≤◌, codes, Some, Bool, ℤ, IfSome, ◌≡◌, ◌<◌, length}
use Rattle.std.specs.Prelude.{true, IsTrue}
use Rattle.std.specs.List.{range_with_len, flat_map, enumerate_from}
use Rattle.std.specs.Fmt.{decimal, signed_decimal}
use Rattle.irs_base.specs.Lists.{day_at}
use Rattle.irs_base.specs.Limits.{most_exchanges, most_periods, most_streams}
use Rattle.irs_base.specs.Texts.{day_text, dec_text}
use Rattle.irs_base.specs.declared.line.Dec.{Dec}
use Rattle.irs_terms.specs.declared.results.Exchange.{Exchange}
use Rattle.irs_terms.specs.declared.results.Reset.{Reset}
use Rattle.irs_terms.specs.declared.codes.DayCountCode.{DayCountCode}
use Rattle.irs_terms.specs.declared.codes.DayCountCode.TheVariants.{OneOne, ActActIsda, Act365Fixed, Act360, Thirty360}
use Rattle.irs_terms.specs.declared.codes.DayCountCode.TheVariants.{ThirtyE360, ThirtyE360Isda}
use Rattle.irs_schedule.specs.declared.entries.PeriodEntry.{PeriodEntry}
use Rattle.irs_schedule.specs.declared.views.CalculationPeriod.{CalculationPeriod}
use Rattle.irs_schedule.specs.Parts.{Part, EntriesCover}
use Rattle.irs_schedule.specs.declared.entries.PaymentEntry.{PaymentEntry}
use Rattle.irs_schedule.specs.declared.row.Row.{Row}
use Rattle.irs_schedule.specs.declared.row.Row.TheVariants.{Stream, Exchange as ExchangeRow, Payment, Period}
use Rattle.irs_schedule.specs.declared.row.Row.TheVariants.{Reset as ResetRow}
use Rattle.irs_schedule.specs.declared.walking.StreamRows.TheInside.{Inside}
use Rattle.irs_schedule.specs.declared.row.Row.TheVariants as of_row

-- ---- a calculation period of a part, with its dates

-- period i, from 1, runs from boundary i - 1 to boundary i
abbrev pub dated_period : Part → ℕ → PeriodEntry → CalculationPeriod
dated_period p i e = record {
  start = day_at p.unadjusted (i - 1);
  end = day_at p.unadjusted i;
  adjusted_start = day_at p.adjusted (i - 1);
  adjusted_end = day_at p.adjusted i;
  days = e.days;
  frac = e.frac;
  notional = e.notional;
  rate = e.rate;
}

-- the period at place j, from 0, where there is one
abbrev pub period_at : Part → ℕ → Option CalculationPeriod
period_at p j = option_map (dated_period p (j + 1)) (slice_get p.periods j)

-- ---- the rows of a schedule, in the order of its text

-- the period at a place where there is none
abbrev pub no_period : PeriodEntry
no_period = record { days = pos 0; frac = record { num = pos 0; den = pos 1 }; notional = pos 0; rate = None }

-- the reset at a place where there is none
abbrev pub no_reset : Reset
no_reset = record { reset = pos 0; fixing = pos 0; observed = None }

-- the row of a calculation period with its dates
abbrev pub row_of_period : ℕ → ℕ → CalculationPeriod → Row
row_of_period k i x = Period k i x.start x.«end» x.adjusted_start x.adjusted_end x.days x.frac x.notional x.rate

-- period i, from 1
abbrev pub period_row : ℕ → Part → ℕ → Row
period_row k p i = row_of_period k i (dated_period p i (slice_index_or p.periods (i - 1) no_period))

-- the reset of period i
abbrev pub reset_row : ℕ → Part → ℕ → Row
reset_row k p i = let r = slice_index_or p.resets (i - 1) no_reset in ResetRow k i r.reset r.fixing r.observed

-- a period, and on a floating stream its reset after it
abbrev pub period_rows : ℕ → Part → ℕ → List Row
period_rows k p i = period_row k p i ∷ (if p.floating then reset_row k p i ∷ [] else [])

-- payment j
abbrev pub payment_row : ℕ → ℕ → PaymentEntry → Row
payment_row k j y = Payment k j y.unadjusted y.adjusted y.first_period y.last_period y.amount

-- a payment, and its periods after it
abbrev pub payment_rows : ℕ → Part → ℕ × PaymentEntry → List Row
payment_rows k p y =
    payment_row k y.0 y.1 ∷ flat_map (period_rows k p)
    (range_with_len y.1.first_period (y.1.last_period + 1 - y.1.first_period))

-- an exchange with its number
abbrev pub exchange_row : ℕ → ℕ × Exchange → Row
exchange_row k x = ExchangeRow k x.0 x.1.unadjusted x.1.adjusted x.1.amount

-- the row that begins stream k
abbrev pub stream_row : ℕ → Part → Row
stream_row k p = Stream k p.currency p.day_count p.floating

-- a stream, then its exchanges, then its payments
abbrev pub part_rows : ℕ × Part → List Row
part_rows s =
    stream_row s.0 s.1 ∷ (map (exchange_row s.0) (enumerate_from 1 s.1.exchanges)
    ++ flat_map (payment_rows s.0 s.1) (enumerate_from 1 s.1.payments))

-- the most rows of a stream: its own, and one for each exchange. Each period adds at most three:
-- of a payment, of the period itself and of its reset.
abbrev pub most_stream_rows : ℕ
most_stream_rows = 1 + most_exchanges + 3 * most_periods

-- the most rows that a schedule has
abbrev pub most_schedule_rows : ℕ
most_schedule_rows = most_stream_rows * most_streams

-- the rows of a schedule: stream after stream
unfoldable pub rows_of : List Part → List Row
rows_of s = flat_map part_rows (enumerate_from 1 s)

-- ---- the text of a row, and that of a schedule

-- the codes of FpML
abbrev pub code_text : DayCountCode → List ℕ
code_text OneOne = codes "1/1"
code_text ActActIsda = codes "ACT/ACT.ISDA"
code_text Act365Fixed = codes "ACT/365.FIXED"
code_text Act360 = codes "ACT/360"
code_text Thirty360 = codes "30/360"
code_text ThirtyE360 = codes "30E/360"
code_text ThirtyE360Isda = codes "30E/360.ISDA"

-- whether a stream floats, as text
abbrev pub kind_text : Bool → List ℕ
kind_text floating = if floating then codes "float" else codes "fixed"

-- a decimal, or `-` where there is none
abbrev pub dec_or_dash : Option Dec → List ℕ
dec_or_dash None = codes "-"
dec_or_dash (Some v) = dec_text v.units v.places

-- with 9 decimals, or `-` where there is none
abbrev pub rate_or_dash : Option ℤ → List ℕ
rate_or_dash None = codes "-"
rate_or_dash (Some v) = dec_text v 9

-- the fields of a line, with one space between them
abbrev pub schedule_row_fields : Row → List ℕ
schedule_row_fields (Stream k currency day_count floating) =
    codes "stream" ++ 32 ∷ decimal k ++ 32 ∷ currency.letters ++ 32 ∷ code_text day_count ++ 32 ∷ kind_text floating
schedule_row_fields (of_row.Exchange k j unadjusted adjusted amount) =
    codes "x" ++ 32 ∷ decimal k ++ 32 ∷ decimal j ++ 32 ∷ day_text unadjusted ++ 32 ∷ day_text adjusted
    ++ 32 ∷ dec_text amount.units amount.places
schedule_row_fields (Payment k j unadjusted adjusted first last amount) =
    codes "p" ++ 32 ∷ decimal k ++ 32 ∷ decimal j ++ 32 ∷ day_text unadjusted ++ 32 ∷ day_text adjusted
    ++ 32 ∷ decimal first ++ 32 ∷ decimal last ++ 32 ∷ dec_or_dash amount
schedule_row_fields (Period k i start end adjusted_start adjusted_end days frac notional rate) =
    codes "c" ++ 32 ∷ decimal k ++ 32 ∷ decimal i ++ 32 ∷ day_text start ++ 32 ∷ day_text end
    ++ 32 ∷ day_text adjusted_start ++ 32 ∷ day_text adjusted_end
    ++ 32 ∷ signed_decimal days ++ 32 ∷ signed_decimal frac.num ++ 47 ∷ signed_decimal frac.den
    ++ 32 ∷ dec_text notional 4 ++ 32 ∷ rate_or_dash rate
schedule_row_fields (of_row.Reset k i reset fixing observed) =
    codes "r" ++ 32 ∷ decimal k ++ 32 ∷ decimal i ++ 32 ∷ day_text reset ++ 32 ∷ day_text fixing
    ++ 32 ∷ rate_or_dash observed

-- the line of a row, with its LF
unfoldable pub row_text_of : Row → List ℕ
row_text_of row = schedule_row_fields row ++ codes "\n"

-- at most 12 decimals
abbrev pub IsFew : Dec → Type 0
IsFew v = v.places ≤ 12

-- an amount in the row has at most 12 decimals
abbrev pub RowHasPlaces : Row → Type 0
RowHasPlaces (Stream k currency day_count floating) = Unit {0}
RowHasPlaces (of_row.Exchange k j unadjusted adjusted amount) = IsFew amount
RowHasPlaces (Payment k j unadjusted adjusted first last amount) = IfSome amount IsFew
RowHasPlaces (Period k i start end adjusted_start adjusted_end days frac notional rate) = Unit {0}
RowHasPlaces (of_row.Reset k i reset fixing observed) = Unit {0}

-- the first line
abbrev pub header : List ℕ
header = codes "irs-schedule 2\n"

-- the last line
abbrev pub footer : List ℕ
footer = codes "end\n"

-- the rest of a text, from these rows on
abbrev pub text_from : List Row → List ℕ
text_from rows = flat_map row_text_of rows ++ footer

-- the text of a schedule
abbrev pub schedule_text : List Part → List ℕ
schedule_text s = header ++ text_from (rows_of s)

-- ---- the rows that are still to come of a stream that is walked

-- a reset that is due, the periods from i to before e, the exchanges from number j on, the payments from number m on
abbrev pub walk_left : ℕ → Part → Bool → ℕ → ℕ → ℕ → List Exchange → ℕ → List PaymentEntry → List Row
walk_left k p reset i e j xs m ys =
    (if reset then reset_row k p (i - 1) ∷ [] else [])
    ++ flat_map (period_rows k p) (range_with_len i (e - i))
    ++ map (exchange_row k) (enumerate_from j xs)
    ++ flat_map (payment_rows k p) (enumerate_from m ys)

-- ---- a walk along a stream

-- the rows of a stream that are still to come
abbrev pub stream_left : Inside → List Row
stream_left s = walk_left s.stream s.part.now s.reset s.period s.end s.exchange s.exchanges.now s.payment s.payments.now

-- The payments that are left cover the periods that are left. Numbers stay small.
pub record IsWalk (s : Inside) : Type 0 where
  pub few : length s.part.now.periods ≤ most_periods
  pub low : 0 < s.period
  pub within : s.period ≤ s.end
  pub high : s.end ≤ length s.part.now.periods + 1
  pub reset : s.reset ≡ true → IsTrue s.part.now.floating × (1 < s.period)
  pub covers : EntriesCover s.end s.payments.now (length s.part.now.periods)
  pub exchanges : s.exchange + length s.exchanges.now ≤ most_exchanges + 1
  pub payment : s.payment ≤ s.end
