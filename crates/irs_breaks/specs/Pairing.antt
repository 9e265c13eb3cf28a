-- The pairing of two lists of rows by their dates.
use Rattle.std.specs.Prelude.{ℕ, ◌+◌, Bool, ◌&&◌, ◌||◌, nat_lt, ℤ, List, [], ◌∷◌, Option, Some, None, if◌then◌else◌}
use Rattle.std.specs.Prelude.{◌≡◌, true, false, not, slice_get, ◌⊎◌, ◌<◌, ◌<ℤ◌, IfSome}
use Rattle.std.specs.Ordering.{int_cmp, int_eq, is_le, is_lt}
use Rattle.std.specs.List.{Contains, count_by, list_any}
use Rattle.irs_breaks.specs.declared.dated.DatedRow.{DatedRow}
use Rattle.irs_breaks.specs.declared.dated.PairedRow.{PairedRow}

-- ---- the rows of a list that have a date and are due from a day on

-- a date isn't before the first day to be compared
abbrev pub is_due : ℤ → ℤ → Bool
is_due from d = is_le (int_cmp from d)

-- the row with a date, where it has one and is due
abbrev pub dated_row : ℤ → Option ℤ → ℕ → Option DatedRow
dated_row from None n = None
dated_row from (Some d) n = if is_due from d then Some (record { day = d; place = n }) else None

-- a row in front of others, where there is one
abbrev pub in_front : Option DatedRow → List DatedRow → List DatedRow
in_front None rows = rows
in_front (Some r) rows = r ∷ rows

-- the rows with these dates that have a date and are due; the first of them has the place n
unfoldable pub rows_from : ℤ → ℕ → List (Option ℤ) → List DatedRow
rows_from from n [] = []
rows_from from n (date ∷ dates) = in_front (dated_row from date n) (rows_from from (n + 1) dates)

-- a row comes before another: by its date, then by its place
abbrev pub row_before : DatedRow → DatedRow → Bool
row_before x y = is_lt (int_cmp x.day y.day) || (int_eq x.day y.day && nat_lt x.place y.place)

-- ---- the pairing of two lists of rows, ours and theirs, by the dates of the rows and nothing else

-- a row of the list has this date
abbrev pub has_date : List DatedRow → ℤ → Bool
has_date rows d = list_any (λ r. int_eq r.day d) rows

-- a date is common where both lists have a row of it
abbrev pub is_common : List DatedRow → List DatedRow → ℤ → Bool
is_common ours theirs d = has_date ours d && has_date theirs d

-- a day lies between two others, on neither of them
abbrev pub lies_between : ℤ → ℤ → ℤ → Bool
lies_between a b d =
    (is_lt (int_cmp a d) && is_lt (int_cmp d b)) || (is_lt (int_cmp b d) && is_lt (int_cmp d a))

-- a common date lies between two others
abbrev pub are_cut : List DatedRow → List DatedRow → ℤ → ℤ → Bool
are_cut ours theirs a b = list_any (λ r. is_common ours theirs r.day && lies_between a b r.day) ours

-- two dates are in one gap: neither is common, and no common date lies between them
abbrev pub are_in_gap : List DatedRow → List DatedRow → ℤ → ℤ → Bool
are_in_gap ours theirs a b =
    not (is_common ours theirs a) && not (is_common ours theirs b) && not (are_cut ours theirs a b)

-- two dates belong together: they are one common date, or they are in one gap
abbrev pub are_together : List DatedRow → List DatedRow → ℤ → ℤ → Bool
are_together ours theirs a b =
    if is_common ours theirs a then int_eq a b else are_in_gap ours theirs a b

-- how many rows of a list belong together with a date
abbrev pub size_at : (ℤ → ℤ → Bool) → List DatedRow → ℤ → ℕ
size_at together rows a = count_by (λ r. together a r.day) rows

-- how many of these rows come before a given row, by date and then by place
abbrev pub rank_at : (ℤ → ℤ → Bool) → List DatedRow → ℤ → DatedRow → ℕ
rank_at together rows a x = count_by (λ r. together a r.day && row_before r x) rows

-- A row of ours is paired with one of theirs. On a common date our k-th row is paired with their k-th row. In
-- a gap it is too, where the gap holds as many rows of ours as of theirs.
pub record ArePaired (ours theirs : List DatedRow) (x y : DatedRow) : Type 0 where
  pub one_of_ours : Contains ours x
  pub one_of_theirs : Contains theirs y
  pub together : are_together ours theirs x.day y.day ≡ true
  pub even : is_common ours theirs x.day ≡ false
      → size_at (are_together ours theirs) ours x.day ≡ size_at (are_together ours theirs) theirs x.day
  pub same_rank : rank_at (are_together ours theirs) ours x.day x ≡ rank_at (are_together ours theirs) theirs x.day y

-- ---- two lists of rows in the order of their dates, cut into blocks of rows that belong together

-- the row at a place of a list, from 0
abbrev pub At : {X : Type 0} → List X → ℕ → X → Type 0
At rows k x = slice_get rows k ≡ Some x

-- ---- the rows of two lists, paired or alone, in the order in which they are listed

-- a row of ours with the place of its partner
abbrev pub row_of_ours : DatedRow → Option ℕ → PairedRow
row_of_ours x partner = record { day = Some x.day; ours = Some x.place; theirs = partner }

-- a row of theirs alone
abbrev pub row_of_theirs : DatedRow → PairedRow
row_of_theirs y = record { day = Some y.day; ours = None; theirs = Some y.place }

-- a row of ours without a date, at a place
abbrev pub undated_ours : ℕ → PairedRow
undated_ours n = record { day = None; ours = Some n; theirs = None }

-- a row of theirs without a date, at a place
abbrev pub undated_theirs : ℕ → PairedRow
undated_theirs n = record { day = None; ours = None; theirs = Some n }

-- What is listed of two lists of dates: each pair of due rows, each unpaired due row, and each row without a
-- date.
pub data IsListedRow (from : ℤ) (ours theirs : List (Option ℤ)) (m : PairedRow) : Type 0 where
  paired : (x y : DatedRow) → ArePaired (rows_from from 0 ours) (rows_from from 0 theirs) x y
      → m ≡ row_of_ours x (Some y.place) → IsListedRow from ours theirs m
  missing : (x : DatedRow) → Contains (rows_from from 0 ours) x
      → ((y : DatedRow) → ¬ (ArePaired (rows_from from 0 ours) (rows_from from 0 theirs) x y))
      → m ≡ row_of_ours x None → IsListedRow from ours theirs m
  extra : (y : DatedRow) → Contains (rows_from from 0 theirs) y
      → ((x : DatedRow) → ¬ (ArePaired (rows_from from 0 ours) (rows_from from 0 theirs) x y))
      → m ≡ row_of_theirs y → IsListedRow from ours theirs m
  undated : (n : ℕ) → At ours n None → m ≡ undated_ours n → IsListedRow from ours theirs m
  undated_extra : (n : ℕ) → At theirs n None → m ≡ undated_theirs n → IsListedRow from ours theirs m

-- one level of an order of values, some of which are absent: absent values come last
abbrev pub Ahead : {X : Type 0} → (X → X → Type 0) → Option X → Option X → Type 0 → Type 0
Ahead Less (Some a) (Some b) next = Less a b ⊎ ((a ≡ b) × next)
Ahead Less (Some a) None next = Unit {0}
Ahead Less None (Some b) next = ⊥
Ahead Less None None next = next

-- paired rows are ordered by the date, then by the place of ours, then by the place of theirs
abbrev pub ComesBefore : PairedRow → PairedRow → Type 0
ComesBefore m n = Ahead ◌<ℤ◌ m.day n.day (Ahead ◌<◌ m.ours n.ours (Ahead ◌<◌ m.theirs n.theirs ⊥))

-- each row comes before all that follow
abbrev pub AreRowsInOrder : List PairedRow → Type 0
AreRowsInOrder rows = (p q : ℕ) (m n : PairedRow) → p < q → At rows p m → At rows q n → ComesBefore m n

-- the pairing of two lists of dates: all that is listed, and nothing else, in order
pub record IsPairing (from : ℤ) (ours theirs : List (Option ℤ)) (rows : List PairedRow) : Type 0 where
  pub sound : (m : PairedRow) → Contains rows m → IsListedRow from ours theirs m
  pub complete : (m : PairedRow) → IsListedRow from ours theirs m → Contains rows m
  pub in_order : AreRowsInOrder rows

-- the places of a row, where it has any, are places of lists of these lengths
pub record IsPlacedRow (ours theirs : ℕ) (m : PairedRow) : Type 0 where
  pub of_ours : IfSome m.ours (λ n. n < ours)
  pub of_theirs : IfSome m.theirs (λ n. n < theirs)
