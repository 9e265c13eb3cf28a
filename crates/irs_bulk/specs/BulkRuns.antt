-- What `bulk N` comes to, with its calendar and its line.
use Rattle.std.specs.Prelude.{ℕ, zero, suc, ◌+◌, List, [], ◌∷◌, ◌++◌, codes, ◌*◌, ◌^◌, ◌≤◌, decimal, pos, ◌+ℤ◌}
use Rattle.std.specs.Prelude.{unsigned_abs, ◌≡◌, Bool, true, false, Option, Some, None, ℤ, length, sum_by}
use Rattle.std.specs.List.{flat_map}
use Rattle.std.specs.Fmt.{signed_decimal}
use Rattle.irs_base.specs.Texts.{date_text, dec_text}
use Rattle.irs_base.specs.Limits.{rounded}
use Rattle.irs_base.specs.declared.line.Dec.{Dec}
use Rattle.irs_base.specs.declared.rounding.Direction.TheVariants.{Nearest}
use Rattle.irs_base.specs.Outcomes.{Spec, ◌>>=◌, answer, given_by}
use Rattle.irs_schedule.specs.Parts.{Part}
use Rattle.irs_schedule.specs.declared.entries.PaymentEntry.{PaymentEntry}
use Rattle.irs_schedule.specs.declared.entries.PeriodEntry.{PeriodEntry}
use Rattle.irs_audit.specs.StatedFlows.{stated_amount, stated_flows}
use Rattle.irs_audit.specs.Verdicts.{IsVerdict}
use Rattle.irs_audit.specs.declared.departures.Verdict.{Verdict}
use Rattle.irs_audit.specs.declared.departures.Verdict.TheVariants.{Yes, No}
use Rattle.irs_answers.specs.declared.tasks.Task.TheVariants.{Schedule}
use Rattle.irs_answers.specs.Due.{found_of}
use Rattle.irs_answers.specs.Forms.{json_text, no_source_text, Given}
use Rattle.irs_answers.specs.Messages.{Answer, Gives}
use Rattle.irs_bulk.specs.Documents.{most_bulk, bulk_document_text}
use Rattle.irs_bulk.specs.declared.summing.Sums.{Sums}
use Rattle.irs_bulk.specs.declared.totals.Totals.{Totals}

-- ---- the calendar of `bulk`: one centre, whose holidays are the first of January and the 25th of December

-- consecutive years: the first, and how many
abbrev pub years_from : ℕ → ℕ → List ℕ
years_from first zero = []
years_from first (suc n) = first ∷ years_from (first + 1) n

-- the two holidays of a year, a line each
abbrev pub holidays_text : ℕ → List ℕ
holidays_text year = date_text year 1 1 ++ codes "\n" ++ date_text year 12 25 ++ codes "\n"

-- the name of the centre, its cover and its weekend
abbrev pub head_text : List ℕ
head_text = codes "center BULK\ncover 1949-01-01 2012-12-31\nweekend SAT SUN\n"

-- the calendar file, with the holidays of 64 years from 1949
unfoldable pub calendar_text : List ℕ
calendar_text = head_text ++ flat_map holidays_text (years_from 1949 64)

-- ---- the sums of a run of `bulk`, and its line

-- the greatest count of one document
abbrev pub most_count : ℕ
most_count = 2 ^ 32

-- the greatest size of a sum of amounts or of days of one document
abbrev pub most_sum : ℕ
most_sum = 10 ^ 32

-- the sums of that many documents, each with counts and sums within the limits
pub record AreRunTotals (t : Totals) : Type 0 where
  pub documents : t.documents ≤ most_bulk
  pub rows : t.rows ≤ t.documents * most_count
  pub total : unsigned_abs t.total ≤ t.documents * most_sum
  pub days : unsigned_abs t.days ≤ t.documents * most_sum
  pub agree : t.agree ≤ t.documents
  pub first : t.first ≤ t.documents * most_count

-- the sums of no documents
abbrev pub no_totals : Totals
no_totals = record { documents = 0; rows = 0; total = pos 0; days = pos 0; agree = 0; first = 0 }

-- the sums of two runs, added up
abbrev pub both_totals : Totals → Totals → Totals
both_totals t u = record {
  documents = t.documents + u.documents;
  rows = t.rows + u.rows;
  total = t.total +ℤ u.total;
  days = t.days +ℤ u.days;
  agree = t.agree + u.agree;
  first = t.first + u.first;
}

-- the line of a run: N, ROWS, TOTAL with two decimals, DAYS, AGREE and FIRST
unfoldable pub line_text : Totals → List ℕ
line_text t =
    codes "bulk " ++ decimal t.documents ++ 32 ∷ decimal t.rows
    ++ 32 ∷ dec_text (rounded Nearest t.total (pos (10 ^ 10))) 2
    ++ 32 ∷ signed_decimal t.days ++ 32 ∷ decimal t.agree ++ 32 ∷ decimal t.first ++ codes "\n"

-- ---- what is added up of a schedule: its payments and calculation periods, what it pays, and its days

-- how many payments and calculation periods a stream has
abbrev pub payment_row_count : Part → ℕ
payment_row_count p = length p.payments + length p.periods

-- an amount in units of 10^-12; one that isn't known adds nothing
abbrev pub known_or_zero : Option Dec → ℤ
known_or_zero None = pos 0
known_or_zero (Some v) = stated_amount v

-- a sum plus the amounts of these payments
abbrev pub paid_from : ℤ → List PaymentEntry → ℤ
paid_from t [] = t
paid_from t (y ∷ ys) = paid_from (t +ℤ known_or_zero y.amount) ys

-- a sum plus what these streams pay
abbrev pub total_from : ℤ → List Part → ℤ
total_from t [] = t
total_from t (p ∷ ps) = total_from (paid_from t p.payments) ps

-- a sum plus the days of these periods
abbrev pub days_added_from : ℤ → List PeriodEntry → ℤ
days_added_from t [] = t
days_added_from t (e ∷ es) = days_added_from (t +ℤ e.days) es

-- a sum plus the days of these streams
abbrev pub all_days_from : ℤ → List Part → ℤ
all_days_from t [] = t
all_days_from t (p ∷ ps) = all_days_from (days_added_from t p.periods) ps

-- the sums of a schedule
abbrev pub sums_in : List Part → Sums
sums_in s = record { rows = sum_by payment_row_count s; total = total_from (pos 0) s; days = all_days_from (pos 0) s }

-- ---- what `bulk N` comes to: the sums over the schedules of all its documents, or what `schedule` says of the first
-- that has none

-- ---- the schedules of a document

-- the files of document k, or of its plain form: the calendar of its centre, and no fixings
abbrev pub files_of : Bool → ℕ → Given
files_of plain k =
    record {
      document = json_text (bulk_document_text plain k);
      fixings = None;
      flows = no_source_text;
      calendars =
          calendar_text ∷ [];
    }

-- the schedule of document k, or of its plain form; or what is due for `schedule` where there is none
abbrev pub schedule_at : Bool → ℕ → Spec (List Part) Answer
schedule_at plain k = do
  f ← found_of Schedule (files_of plain k)
  answer f.parts

-- ---- what is added up

-- 1 where the flows agree with the schedule
abbrev pub agree_of : Verdict → ℕ
agree_of (Yes rows unfixed) = 1
agree_of (No d) = 0

-- the number of the first row that departs; nothing where the flows agree
abbrev pub first_departing_row : Verdict → ℕ
first_departing_row (Yes rows unfixed) = 0
first_departing_row (No d) = d.row

-- the rows, amounts and days of one schedule, and a verdict on flows against it
abbrev pub one_total : List Part → Verdict → Totals
one_total s v = let sums = sums_in s in record {
  documents = 1;
  rows = sums.rows;
  total = sums.total;
  days = sums.days;
  agree = agree_of v;
  first = first_departing_row v;
}

-- what document k adds: by its schedule, and by the verdict against it on the flows that state the schedule of its
-- plain form. The document is refused before its plain form
abbrev pub total_at : ℕ → Spec Totals Answer
total_at k = do
  schedule ← schedule_at false k
  plain ← schedule_at true k
  verdict ← given_by (IsVerdict (stated_flows plain) schedule)
  answer (one_total schedule verdict)

-- the sums over the documents 1 to n, or what is due for the first that has no schedule
unfoldable pub totals_to : ℕ → Spec Totals Answer
totals_to zero = answer no_totals
totals_to (suc k) = do
  before ← totals_to k
  more ← total_at (suc k)
  answer (both_totals before more)

-- ---- what is due

-- the line of the sums, or what is due for the first document that has no schedule
abbrev pub bulk_of : ℕ → Spec Answer Answer
bulk_of n = do
  totals ← totals_to n
  answer (0, line_text totals)

-- what is due for `bulk n`
abbrev pub DueBulk : ℕ → ℕ → List ℕ → Type 0
DueBulk n status text = Gives (bulk_of n) status text

-- one status and one text are due for a run
abbrev pub IsOneBulk : ℕ → Type 0
IsOneBulk n = (s u : ℕ) (t v : List ℕ) → DueBulk n s t → DueBulk n u v → (s ≡ u) × (t ≡ v)
