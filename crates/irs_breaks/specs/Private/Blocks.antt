-- Private: no public contract rests on this file.
-- Of private functions: two lists of rows, merged block by block.
use Rattle.std.specs.Prelude.{◌≡◌, ◌⊎◌, ℕ, ◌+◌, ◌-◌, ◌<◌, ◌≤◌, List, length, Option, Some, None, ℤ, ◌<ℤ◌, ◌≤ℤ◌, ◌≢◌}
use Rattle.std.specs.List.{Contains}
use Rattle.irs_breaks.specs.Pairing.{ArePaired, At, AreRowsInOrder, ComesBefore, row_of_ours, row_of_theirs}
use Rattle.irs_breaks.specs.Pairing.{IsListedRow, undated_ours, undated_theirs}
use Rattle.irs_breaks.specs.declared.blocks.Block.{Block}
use Rattle.irs_breaks.specs.declared.dated.DatedRow.{DatedRow}
use Rattle.irs_breaks.specs.declared.dated.PairedRow.{PairedRow}

-- ---- two lists of rows in the order of their dates, cut into blocks of rows that belong together

-- a row comes before another: by its date, then by its place
abbrev pub IsEarlier : DatedRow → DatedRow → Type 0
IsEarlier x y = (x.day <ℤ y.day) ⊎ ((x.day ≡ y.day) × (x.place < y.place))

-- each row comes before all that follow
abbrev pub AreRising : List DatedRow → Type 0
AreRising rows = (p q : ℕ) (x y : DatedRow) → p < q → At rows p x → At rows q y → IsEarlier x y

-- some row has this date
abbrev pub HasRowOfDate : List DatedRow → ℤ → Type 0
HasRowOfDate rows d = (k : ℕ) × (r : DatedRow) × At rows k r × (r.day ≡ d)

-- both lists have a row of this date
abbrev pub IsCommon : List DatedRow → List DatedRow → ℤ → Type 0
IsCommon ours theirs d = HasRowOfDate ours d × HasRowOfDate theirs d

-- a day lies between two others, on neither of them
abbrev pub IsBetween : ℤ → ℤ → ℤ → Type 0
IsBetween a b d = ((a <ℤ d) × (d <ℤ b)) ⊎ ((b <ℤ d) × (d <ℤ a))

-- neither date is common, and no common date lies between them
pub record AreInGap (ours theirs : List DatedRow) (a b : ℤ) : Type 0 where
  pub left : ¬ (IsCommon ours theirs a)
  pub right : ¬ (IsCommon ours theirs b)
  pub uncut : (d : ℤ) → IsCommon ours theirs d → ¬ (IsBetween a b d)

-- two dates are one common date, or they are in one gap
abbrev pub AreTogether : List DatedRow → List DatedRow → ℤ → ℤ → Type 0
AreTogether ours theirs a b = (IsCommon ours theirs a × (a ≡ b)) ⊎ AreInGap ours theirs a b

-- a row of ours before the place i, or one of theirs before the place j
abbrev pub IsDone : List DatedRow → List DatedRow → ℕ → ℕ → DatedRow → Type 0
IsDone ours theirs i j r = ((k : ℕ) × (k < i) × At ours k r) ⊎ ((k : ℕ) × (k < j) × At theirs k r)

-- a row of ours at the place i or after it, or one of theirs at the place j or after it
abbrev pub IsLeft : List DatedRow → List DatedRow → ℕ → ℕ → DatedRow → Type 0
IsLeft ours theirs i j r = ((k : ℕ) × (i ≤ k) × At ours k r) ⊎ ((k : ℕ) × (j ≤ k) × At theirs k r)

-- the rows before these places are earlier than the others, and belong together with none of them
pub record IsEdge (ours theirs : List DatedRow) (i j : ℕ) : Type 0 where
  pub in_ours : i ≤ length ours
  pub in_theirs : j ≤ length theirs
  pub later : (x z : DatedRow) → IsDone ours theirs i j x → IsLeft ours theirs i j z → x.day <ℤ z.day
  pub apart : (x z : DatedRow) → IsDone ours theirs i j x → IsLeft ours theirs i j z
      → ¬ (AreTogether ours theirs x.day z.day)

-- the rows from the places i and j up to the places p and q
pub record IsInside (ours theirs : List DatedRow) (i j p q : ℕ) (r : DatedRow) : Type 0 where
  pub left : IsLeft ours theirs i j r
  pub done : IsDone ours theirs p q r

-- The number of pairs of a block that has this date. A common date has as many pairs as one of the lists has
-- rows of it. A gap is paired in full where it has as many rows of ours as of theirs, and otherwise not at
-- all.
abbrev pub HasPairs : List DatedRow → List DatedRow → ℕ → ℕ → ℕ → ℤ → Type 0
HasPairs ours theirs n m pairs d =
    (IsCommon ours theirs d × ((pairs ≡ n) ⊎ (pairs ≡ m)))
    ⊎ ((¬ (IsCommon ours theirs d)) × (((n ≡ m) × (pairs ≡ n)) ⊎ ((¬ (n ≡ m)) × (pairs ≡ 0))))

-- the next block after the places i and j
pub record IsBlock (ours theirs : List DatedRow) (i j : ℕ) (b : Block) : Type 0 where
  pub from_ours : i ≤ b.ours
  pub from_theirs : j ≤ b.theirs
  pub moves : i + j < b.ours + b.theirs
  pub edge : IsEdge ours theirs b.ours b.theirs
  pub together : (x z : DatedRow) → IsInside ours theirs i j b.ours b.theirs x
      → IsInside ours theirs i j b.ours b.theirs z → AreTogether ours theirs x.day z.day
  pub pairs : (x : DatedRow) → IsInside ours theirs i j b.ours b.theirs x
      → HasPairs ours theirs (b.ours - i) (b.theirs - j) b.pairs x.day
  pub ours_last : b.pairs ≤ b.ours - i
  pub theirs_last : b.pairs ≤ b.theirs - j

-- where the rows of one date end
pub record IsDateEnd (rows : List DatedRow) (start : ℕ) (d : ℤ) (stop : ℕ) : Type 0 where
  pub low : start < stop
  pub high : stop ≤ length rows
  pub same : (k : ℕ) (r : DatedRow) → start ≤ k → k < stop → At rows k r → r.day ≡ d
  pub later : (k : ℕ) (r : DatedRow) → stop ≤ k → At rows k r → d <ℤ r.day

-- the rows up to the places p and q share no date, and each is earlier than the rest of the other list
pub record IsGapTo (ours theirs : List DatedRow) (i j p q : ℕ) : Type 0 where
  pub from_ours : i ≤ p
  pub from_theirs : j ≤ q
  pub in_ours : p ≤ length ours
  pub in_theirs : q ≤ length theirs
  pub other : (k l : ℕ) (x z : DatedRow) → i ≤ k → k < p → j ≤ l → l < q → At ours k x → At theirs l z → ¬ (x.day ≡ z.day)
  pub ours_before : (k l : ℕ) (x z : DatedRow) → i ≤ k → k < p → q ≤ l → At ours k x → At theirs l z → x.day <ℤ z.day
  pub theirs_before : (k l : ℕ) (x z : DatedRow) → p ≤ k → j ≤ l → l < q → At ours k x → At theirs l z → z.day <ℤ x.day

-- the next rows of both lists have the same date
abbrev pub MeetsBoth : List DatedRow → List DatedRow → ℕ → ℕ → Type 0
MeetsBoth ours theirs p q =
    (x : DatedRow) × (z : DatedRow) × At ours p x × At theirs q z × (x.day ≡ z.day)

-- both lists end, or their next rows have the same date
abbrev pub MeetsAt : List DatedRow → List DatedRow → ℕ → ℕ → Type 0
MeetsAt ours theirs p q =
    ((p ≡ length ours) × (q ≡ length theirs))
    ⊎ MeetsBoth ours theirs p q

-- the partner of a row of ours, by its place; None where there is none
abbrev pub IsPartner : List DatedRow → List DatedRow → DatedRow → Option ℕ → Type 0
IsPartner ours theirs x None = (y : DatedRow) → ¬ (ArePaired ours theirs x y)
IsPartner ours theirs x (Some n) = (y : DatedRow) × ArePaired ours theirs x y × (n ≡ y.place)

-- ---- how far two lists of rows have been merged into one

-- a row of theirs has no partner
abbrev pub IsAlone : List DatedRow → List DatedRow → DatedRow → Type 0
IsAlone ours theirs y = (x : DatedRow) → ¬ (ArePaired ours theirs x y)

-- a row of ours with its partner, or one of theirs that has none
abbrev pub IsDatedRow : List DatedRow → List DatedRow → PairedRow → Type 0
IsDatedRow ours theirs m =
    ((x : DatedRow) × (o : Option ℕ) × Contains ours x × IsPartner ours theirs x o × (m ≡ row_of_ours x o))
    ⊎ ((y : DatedRow) × Contains theirs y × IsAlone ours theirs y × (m ≡ row_of_theirs y))

-- the rows list those of ours before the place p and those of theirs before the place q, in order
pub record IsMergedTo (ours theirs : List DatedRow) (p q : ℕ) (rows : List PairedRow) : Type 0 where
  pub sound : (m : PairedRow) → Contains rows m → IsDatedRow ours theirs m
  pub of_ours : (k : ℕ) (x : DatedRow) → k < p → At ours k x
      → (o : Option ℕ) × IsPartner ours theirs x o × Contains rows (row_of_ours x o)
  pub of_theirs : (k : ℕ) (y : DatedRow) → k < q → At theirs k y → IsAlone ours theirs y → Contains rows (row_of_theirs y)
  pub in_order : AreRowsInOrder rows
  pub before_ours : (m : PairedRow) → Contains rows m → (k : ℕ) (x : DatedRow) (o : Option ℕ) → p ≤ k → At ours k x
      → ComesBefore m (row_of_ours x o)
  pub before_theirs : (m : PairedRow) → Contains rows m → (k : ℕ) (y : DatedRow) → q ≤ k → At theirs k y
      → ComesBefore m (row_of_theirs y)

-- the row of theirs at the place q has an earlier date than the rows of ours from the place p on
abbrev pub IsBeforeAll : List DatedRow → ℕ → List DatedRow → ℕ → Type 0
IsBeforeAll ours p theirs q = (k : ℕ) (x y : DatedRow) → p ≤ k → At ours k x → At theirs q y → y.day <ℤ x.day

-- there is a row of ours at the place p, and the row of theirs at the place q hasn't an earlier date
abbrev pub IsNotBefore : List DatedRow → ℕ → List DatedRow → ℕ → Type 0
IsNotBefore ours p theirs q =
    (p < length ours) × ((x y : DatedRow) → At ours p x → At theirs q y → x.day ≤ℤ y.day)

-- merged so far, and no row of theirs from the place q on has an earlier date than the row of ours at p
pub record IsMergedBefore (ours theirs : List DatedRow) (p q : ℕ) (rows : List PairedRow) : Type 0 where
  pub merged : IsMergedTo ours theirs p q rows
  pub not_before : (k : ℕ) (x y : DatedRow) → q ≤ k → At ours p x → At theirs k y → x.day ≤ℤ y.day
  pub all : p ≡ length ours → length theirs ≤ q

-- ---- how far the rows without a date have been listed after the others

-- the rows list those with a date, then those without: ours before the place i, theirs before the place j
pub record AreListedTo (from : ℤ) (ours theirs : List (Option ℤ)) (i j : ℕ) (rows : List PairedRow) : Type 0 where
  pub sound : (m : PairedRow) → Contains rows m → IsListedRow from ours theirs m
  pub dated : (m : PairedRow) → IsListedRow from ours theirs m → m.day ≢ None → Contains rows m
  pub of_ours : (n : ℕ) → n < i → At ours n None → Contains rows (undated_ours n)
  pub of_theirs : (n : ℕ) → n < j → At theirs n None → Contains rows (undated_theirs n)
  pub in_order : AreRowsInOrder rows
  pub before_ours : (m : PairedRow) → Contains rows m → (n : ℕ) → i ≤ n → n < length ours → ComesBefore m (undated_ours n)
  pub before_theirs : (m : PairedRow) → Contains rows m → (n : ℕ) → j ≤ n → ComesBefore m (undated_theirs n)

-- our rows without a date, before the place n, were added to the list of those with a date
abbrev pub ListsUndated : List (Option ℤ) → List PairedRow → List PairedRow → ℕ → Type 0
ListsUndated ours old new n = (from : ℤ) (theirs : List (Option ℤ)) → AreListedTo from ours theirs 0 0 old
    → AreListedTo from ours theirs n 0 new

-- their rows without a date, before the place n, were added after all of ours
abbrev pub ListsUndatedExtras : List (Option ℤ) → List PairedRow → List PairedRow → ℕ → Type 0
ListsUndatedExtras theirs old new n = (from : ℤ) (ours : List (Option ℤ))
    → AreListedTo from ours theirs (length ours) 0 old → AreListedTo from ours theirs (length ours) n new
