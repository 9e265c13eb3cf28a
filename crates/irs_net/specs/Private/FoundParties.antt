-- Private: no public contract rests on this file.
-- Of private functions: the parties as they are found, and totals while parts are added.
use Rattle.std.specs.Prelude.{ℕ, Bool, true, false, ◌&&◌, List, [], ◌∷◌, Option, Some, None, option_and_then}
use Rattle.std.specs.Prelude.{option_map, codes, if◌then◌else◌, ◌≡◌, ◌<◌, ◌≤◌, length, slice_get, slice_index_or, ◌+◌}
use Rattle.std.specs.Prelude.{◌*◌, ◌^◌, map, is_none, IfSome, ℤ, pos, ◌+ℤ◌, unsigned_abs}
use Rattle.std.specs.Str.{bytes_eq}
use Rattle.serde_json.specs.Data.{Data}
use Rattle.serde_json.specs.Find.{as_str}
use Rattle.std.specs.List.{list_any}
use Rattle.irs_base.specs.Limits.{most_exchanges, most_periods, most_streams}
use Rattle.irs_terms.specs.Lawful.{decimals_of}
use Rattle.irs_json.specs.Leaves.{child_of}
use Rattle.irs_elements.specs.Elements.{values_in}
use Rattle.irs_schedule.specs.Schedules.{dec_of}
use Rattle.irs_net.specs.declared.parties.Parties.{Parties}
use Rattle.irs_net.specs.Nets.{same_key, part_key, known_sum, known_units, unknown_count}
use Rattle.irs_net.specs.declared.parts.NetPart.{NetPart}
use Rattle.irs_net.specs.declared.table.NetRow.{NetRow}
use Rattle.irs_net.specs.declared.totals.NetKey.{NetKey}
use Rattle.irs_net.specs.declared.totals.NetTotal.{NetTotal}

-- ---- the parties and the side of a stream, as they are found: each as a value, or none

-- the text of a reference's `@href`
abbrev pub href_of : Data → Option (List ℕ)
href_of d = option_and_then as_str (child_of (codes "@href") d)

-- the text of the reference's `@href`, where there is only one reference
abbrev pub href_in : List Data → Option (List ℕ)
href_in [] = None
href_in (x ∷ []) = href_of x
href_in (x ∷ y ∷ rest) = None

-- the party that the reference of that name names
abbrev pub party_in : List ℕ → Data → Option (List ℕ)
party_in name stream = href_in (values_in name (Some stream))

-- two parties that are different
abbrev pub pair_of : Option (List ℕ) → Option (List ℕ) → Option (List ℕ × List ℕ)
pair_of None receiver = None
pair_of (Some payer) None = None
pair_of (Some payer) (Some receiver) = if bytes_eq payer receiver then None else Some (payer, receiver)

-- the payer and the receiver of a stream
abbrev pub parties_in : Data → Option (List ℕ × List ℕ)
parties_in stream =
    pair_of (party_in (codes "payerPartyReference") stream) (party_in (codes "receiverPartyReference") stream)

-- the parties of the code
abbrev pub parties_seen : Option Parties → Option (List ℕ × List ℕ)
parties_seen o = option_map (λ p. (p.payer.now, p.receiver.now)) o

-- whether the second pair is the first, or the first in the opposite order, or neither
abbrev pub side_by : Option (List ℕ × List ℕ) → Option (List ℕ × List ℕ) → Option Bool
side_by None own = None
side_by (Some first) None = None
side_by (Some first) (Some own) =
    if bytes_eq own.0 first.0
    && bytes_eq own.1 first.1 then Some true else (if bytes_eq own.0 first.1
    && bytes_eq own.1 first.0 then Some false else None)

-- the side of a stream
abbrev pub side_in : Data → Data → Option Bool
side_in first stream = side_by (parties_in first) (parties_in stream)

-- ---- the sides of the streams before a place

-- the streams before the place have these sides, and from it on none is forward
pub record SidesTo (streams : List Data) (place : ℕ) (forward : List Bool) : Type 0 where
  pub count : length forward ≡ 8
  pub each : (first stream : Data) (i : ℕ) → i < place → slice_get streams 0 ≡ Some first
      → slice_get streams i ≡ Some stream → side_in first stream ≡ Some (slice_index_or forward i false)
  pub past : (i : ℕ) → place ≤ i → slice_index_or forward i false ≡ false

-- ---- totals by date and currency while parts are added, and how large they are

-- the most exchanges and payments of a swap
abbrev pub most_parts : ℕ
most_parts = most_streams * (most_exchanges + most_periods)

-- the greatest amount in size: 10^14 currency units of three decimals
abbrev pub most_units : ℕ
most_units = 10 ^ 17

-- a part whose amount is at most that, where it is known
abbrev pub IsSmall : NetPart → Type 0
IsSmall p = IfSome p.units (λ units. unsigned_abs units ≤ most_units)

-- nothing was added yet
abbrev pub no_total : NetTotal
no_total = record { known = pos 0; unknown = 0 }

-- a total with one more amount
abbrev pub total_with : NetTotal → Option ℤ → NetTotal
total_with t units =
    record { known = t.known +ℤ known_units units; unknown = t.unknown + (if is_none units then 1 else 0) }

-- the total at a date and a currency, where they have a part
abbrev pub total_at : List NetPart → NetKey → Option NetTotal
total_at parts key =
    if list_any (same_key key) (map part_key parts) then Some
    (record { known = known_sum key parts; unknown = unknown_count key parts }) else None

-- the row of a total
abbrev pub row_of : NetKey × NetTotal → NetRow
row_of e = record {
  date = e.0.date;
  currency = record { letters = e.0.letters };
  amount =
      dec_of (decimals_of e.0.letters) e.1.known;
  unknown = e.1.unknown;
}

-- the greatest sum of amounts in size
abbrev pub most_total : ℕ
most_total = most_parts * most_units
