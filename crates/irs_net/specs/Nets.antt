-- The net of a schedule: what falls due between the two parties, and its lines.
use Rattle.std.specs.Prelude.{Bool, true, false, List, [], ◌∷◌, ◌++◌, map, Some, option_map, ℤ, neg_ℤ, ◌≡◌, ℕ, ◌+◌, ◌≤◌}
use Rattle.std.specs.Prelude.{◌&&◌, Contains, Option, None, is_none, if◌then◌else◌, pos, ◌+ℤ◌, codes}
use Rattle.std.specs.Cmp.Lexicographic.{slice_cmp}
use Rattle.std.specs.List.Sorted.{IsStrictlySortedBy}
use Rattle.std.specs.Ordering.{int_cmp, nat_cmp, ordering_then, eq_by_cmp}
use Rattle.std.specs.declared.cmp.Ordering.{Ordering}
use Rattle.std.specs.Str.{bytes_eq}
use Rattle.std.specs.Fmt.{decimal}
use Rattle.irs_base.specs.Lists.{Every}
use Rattle.irs_base.specs.Texts.{day_text, dec_text}
use Rattle.irs_terms.specs.declared.currency.Currency.{Currency}
use Rattle.irs_terms.specs.declared.results.Exchange.{Exchange}
use Rattle.irs_terms.specs.Lawful.{decimals_of}
use Rattle.irs_schedule.specs.Parts.{Part}
use Rattle.irs_schedule.specs.declared.entries.PaymentEntry.{PaymentEntry}
use Rattle.irs_schedule.specs.Schedules.{dec_of}
use Rattle.irs_net.specs.declared.parts.NetPart.{NetPart}
use Rattle.irs_net.specs.declared.table.NetRow.{NetRow}
use Rattle.irs_net.specs.declared.totals.NetKey.{NetKey}

-- ---- what falls due between the two parties of a swap: the exchanges and payments of its streams, each on its
-- adjusted date
-- An amount is positive where it is paid by the party that pays stream 1.

-- an amount as it is in a forward stream, and negated in another
abbrev pub signed : Bool → ℤ → ℤ
signed true units = units
signed false units = neg_ℤ units

-- a principal exchange
abbrev pub exchange_part : Currency → Bool → Exchange → NetPart
exchange_part currency forward x =
    record { date = x.adjusted; currency = currency; units = Some (signed forward x.amount.units) }

-- a payment, whose amount may not be known
abbrev pub payment_part : Currency → Bool → PaymentEntry → NetPart
payment_part currency forward y =
    record { date = y.adjusted; currency = currency; units = option_map (λ v. signed forward v.units) y.amount }

-- the exchanges and payments of a stream
abbrev pub net_parts_of : Bool → Part → List NetPart
net_parts_of forward p =
    map (exchange_part p.currency forward) p.exchanges ++ map (payment_part p.currency forward) p.payments

-- those of all streams, each with its side
abbrev pub parts_of : List Part → List Bool → List NetPart
parts_of [] sides = []
parts_of (p ∷ ps) [] = []
parts_of (p ∷ ps) (forward ∷ sides) = net_parts_of forward p ++ parts_of ps sides

-- ---- the net of a schedule: one row for each date and currency on which something falls due

-- by date, then by the bytes of the currency
abbrev pub key_order : NetKey → NetKey → Ordering
key_order a b = ordering_then (int_cmp a.date b.date) (slice_cmp nat_cmp a.letters b.letters)

-- the same date and the same currency
abbrev pub same_key : NetKey → NetKey → Bool
same_key = eq_by_cmp key_order

-- the date and the currency of a part
abbrev pub part_key : NetPart → NetKey
part_key p = record { date = p.date; letters = p.currency.letters }

-- the date and the currency of a row
abbrev pub row_key : NetRow → NetKey
row_key r = record { date = r.date; letters = r.currency.letters }

-- an amount where it is known, else nothing
abbrev pub known_units : Option ℤ → ℤ
known_units None = pos 0
known_units (Some units) = units

-- the sum of the known amounts on a date and in a currency
abbrev pub known_sum : NetKey → List NetPart → ℤ
known_sum key [] = pos 0
known_sum key (p ∷ ps) = (if same_key key (part_key p) then known_units p.units else pos 0) +ℤ known_sum key ps

-- how many amounts on a date and in a currency aren't known
abbrev pub unknown_count : NetKey → List NetPart → ℕ
unknown_count key [] = 0
unknown_count key (p ∷ ps) = (if same_key key (part_key p) && is_none p.units then 1 else 0) + unknown_count key ps

-- the row has the sum of its known parts, in the decimals of its currency, and counts those without amount
pub record IsSumOf (parts : List NetPart) (r : NetRow) : Type 0 where
  pub amount : r.amount ≡ dec_of (decimals_of r.currency.letters) (known_sum (row_key r) parts)
  pub unknown : r.unknown ≡ unknown_count (row_key r) parts

-- the rows are the net of the parts
pub record IsNet (parts : List NetPart) (rows : List NetRow) : Type 0 where
  -- they rise strictly, by date and then by the bytes of the currency
  pub rising : IsStrictlySortedBy key_order (map row_key rows)
  -- a date and a currency that have a row have a part
  pub sound : (key : NetKey) → Contains (map row_key rows) key → Contains (map part_key parts) key
  -- and those that have a part have a row
  pub complete : (key : NetKey) → Contains (map part_key parts) key → Contains (map row_key rows) key
  pub sums : Every (IsSumOf parts) rows

-- the rows are the net of a schedule's streams with these sides
abbrev pub Net : List Part → List Bool → List NetRow → Type 0
Net parts sides rows = IsNet (parts_of parts sides) rows

-- ---- the sum over all dates

-- what the rows of a currency add up to
abbrev pub rows_total : Currency → List NetRow → ℤ
rows_total currency [] = pos 0
rows_total currency (r ∷ rs) =
    (if bytes_eq currency.letters r.currency.letters then r.amount.units else pos 0) +ℤ rows_total currency rs

-- what the known parts of a currency add up to
abbrev pub parts_total : Currency → List NetPart → ℤ
parts_total currency [] = pos 0
parts_total currency (p ∷ ps) =
    (if bytes_eq currency.letters p.currency.letters then known_units p.units else pos 0) +ℤ parts_total currency ps

-- the amount of a row has at most 12 decimals
abbrev pub NetRowHasPlaces : NetRow → Type 0
NetRowHasPlaces r = r.amount.places ≤ 12

-- ---- the line of a row of the net

-- `n DATE CURRENCY AMOUNT UNKNOWN` and a line feed
unfoldable pub net_text : NetRow → List ℕ
net_text r =
    (codes "n" ++ 32 ∷ day_text r.date ++ 32 ∷ r.currency.letters ++ 32 ∷ dec_text r.amount.units r.amount.places
    ++ 32 ∷ decimal r.unknown) ++ codes "\n"
