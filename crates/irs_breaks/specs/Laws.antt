-- The laws of the pairing: each row has one partner, and each pair one number.
use Rattle.std.specs.Prelude.{◌≡◌, ℤ, ◌<ℤ◌, List, Option, ℕ, ◌+◌, ◌-◌, Some, slice_get}
use Rattle.irs_base.specs.Days.{first_day}
use Rattle.irs_flows.specs.FlowReading.{FlowPart}
use Rattle.irs_flows.specs.declared.flows.FlowPayment.{FlowPayment}
use Rattle.irs_schedule.specs.Parts.{Part}
use Rattle.irs_schedule.specs.declared.entries.PaymentEntry.{PaymentEntry}
use Rattle.irs_breaks.specs.Pairing.{IsPairing, ArePaired, rows_from}
use Rattle.irs_breaks.specs.declared.dated.DatedRow.{DatedRow}
use Rattle.irs_breaks.specs.declared.dated.PairedRow.{PairedRow}
use Rattle.irs_breaks.specs.BreakLists.{exchange_dates, first_due, payment_row_dates, stated_exchange_dates}
use Rattle.irs_breaks.specs.BreakLists.{stated_payment_dates, our_starts, periods_before, their_starts}

-- ---- laws of the pairing

-- no row is in two pairs
pub record HasOnePartner (ours theirs : List DatedRow) : Type 0 where
  pub of_ours : (x y z : DatedRow) → ArePaired ours theirs x y → ArePaired ours theirs x z → y ≡ z
  pub of_theirs : (x z y : DatedRow) → ArePaired ours theirs x y → ArePaired ours theirs z y → x ≡ z

-- two pairs don't cross: the one with our earlier date doesn't have their later date
abbrev pub DontCross : List DatedRow → List DatedRow → Type 0
DontCross ours theirs = (x y z w : DatedRow) → ArePaired ours theirs x y → ArePaired ours theirs z w
    → x.day <ℤ z.day → ¬ (w.day <ℤ y.day)

-- the pairing doesn't depend on which of the lists is called ours
abbrev pub IsSymmetric : List DatedRow → List DatedRow → Type 0
IsSymmetric ours theirs = (x y : DatedRow) → ArePaired ours theirs x y → ArePaired theirs ours y x

-- the pairing of two lists of dates is the only one
abbrev pub IsOnlyPairing : ℤ → List (Option ℤ) → List (Option ℤ) → List PairedRow → Type 0
IsOnlyPairing from ours theirs rows = (other : List PairedRow) → IsPairing from ours theirs other → other ≡ rows

-- ---- each pair of rows has one number on both sides

-- each pair of two lists has one number, where this many rows come before each list
abbrev pub PairsHaveOneNumber : ℤ → ℕ → ℕ → List (Option ℤ) → List (Option ℤ) → Type 0
PairsHaveOneNumber from ours_before theirs_before ours theirs =
    (x y : DatedRow) → ArePaired (rows_from from 0 ours) (rows_from from 0 theirs) x y
    → ours_before + x.place ≡ theirs_before + y.place

-- Each pair of a stream that both have: of exchanges, of payments, and of the periods of a pair of payments. Periods
-- are counted through the stream on either side.
pub record RowsHaveOneNumber (from : ℤ) (p : Part) (g : FlowPart) : Type 0 where
  pub exchanges : PairsHaveOneNumber from 0 0 (exchange_dates p.exchanges) (stated_exchange_dates g.exchanges)
  pub payments : PairsHaveOneNumber from 0 0 (payment_row_dates p.payments) (stated_payment_dates g.payments)
  pub periods : (x y : DatedRow)
      → ArePaired (rows_from from 0 (payment_row_dates p.payments)) (rows_from from 0 (stated_payment_dates g.payments)) x y
      → (ours : PaymentEntry) (theirs : FlowPayment) → slice_get p.payments x.place ≡ Some ours
      → slice_get g.payments y.place ≡ Some theirs
      → PairsHaveOneNumber first_day (ours.first_period - 1) (periods_before g y.place) (our_starts p ours)
      (their_starts g (periods_before g y.place) theirs)

-- each pair of rows between a schedule and cash flows from a day on
abbrev pub HaveOneNumber : Option ℤ → List Part → List FlowPart → Type 0
HaveOneNumber from s f = (place : ℕ) (p : Part) (g : FlowPart) → slice_get s place ≡ Some p
    → slice_get f place ≡ Some g → RowsHaveOneNumber (first_due from) p g
