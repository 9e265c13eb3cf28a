-- A document: the way to its swap, the swap that it spells, and the rules that it breaks.
use Prim.Native.String.{String}
use Rattle.irs_base.specs.{Limits.most_streams, Outcomes.First, Outcomes.Spec}
use Rattle.irs_elements.specs.Elements.{FaultAt, values_in}
use Rattle.irs_elements.specs.Lines.{Table, others_at, table_names, table_rows}
use Rattle.irs_elements.specs.declared.table.Choice.TheVariants.{AtMostOne, AtMostOneOfThree, ExactlyOne, Free}
use Rattle.irs_elements.specs.declared.table.{Kind.Kind, Kind.TheVariants.Object, Row.Row}
use Rattle.irs_json.specs.Leaves.{child_of, element_names}
use Rattle.irs_read.specs.{Readings.streams_in, StreamElements.SwapSays, StreamElements.stream_by}
use Rattle.irs_terms.specs.Elements.{calculation_period_dates, cashflows, swap_stream, document, swap}
use Rattle.irs_terms.specs.declared.places.Rule.TheVariants.{K2, K7, K3}
use Rattle.irs_terms.specs.declared.{places.Broken.Broken, places.Rule.Rule, stream_list.Swap.Swap}
use Rattle.irs_terms.specs.{Faults.is_before, Paths.printed_paths}
use Rattle.serde_json.specs.{Data.Data, View.view, declared.value.Value.Value}
use Rattle.std.specs.Prelude.{is_some, slice_get, codes, Bool, false, Result, Ok, Err, if◌then◌else◌, nat_lt}
use Rattle.std.specs.Prelude.{not, ◌&&◌, ◌||◌, ◌==◌, ℕ, ◌-◌, List, [], ◌∷◌, None, drop, take, ◌≡◌, ◌+◌, ◌<◌, ◌≤◌}
use Rattle.std.specs.{Borrow.Bor, List.list_all, Option.option_map_or, Prelude.◌⊎◌, Prelude.true, Prelude.length, Prelude.Some, Str.bytes_eq}

-- ---- the tables of a swap and of its streams: the elements of a stream, and the members that are passed over or out
-- of the profile
-- Which these are is our rule.

-- the elements of a stream in the table of paths: those up to the cash flows, but for
-- `payerPartyReference`, which is passed over
unfoldable pub stream_elements : List (List ℕ)
stream_elements = take (cashflows - calculation_period_dates) (drop calculation_period_dates printed_paths)

-- the members of a floating rate of a stub that are out of the profile
abbrev refused_in_stub : List String
refused_in_stub =
    "floatingRateMultiplierSchedule" ∷ "spreadSchedule" ∷ "rateTreatment" ∷ "capRateSchedule" ∷ "floorRateSchedule"
    ∷ "calculationParameters" ∷ []

-- the table of a stream
unfoldable pub stream_table : Table
stream_table = record {
  whole = "swapStream";
  top = "";
  lines = (stream_by [] None).lines;
  passed =
      others_at "" ("payerPartyReference" ∷ "payerAccountReference" ∷ "receiverPartyReference"
      ∷ "receiverAccountReference" ∷ "cashflows" ∷ [])
      ∷ others_at "resetDates/resetFrequency" ("weeklyRollConvention" ∷ [])
      ∷ [];
  refused =
      others_at "" ("settlementProvision" ∷ "formula" ∷ [])
      ∷ others_at "calculationPeriodDates" ("relativeEffectiveDate" ∷ "relativeTerminationDate"
      ∷ "firstCompoundingPeriodEndDate" ∷ [])
      ∷ others_at "calculationPeriodDates/effectiveDate" ("adjustedDate" ∷ [])
      ∷ others_at "calculationPeriodDates/terminationDate" ("adjustedDate" ∷ [])
      ∷ others_at "calculationPeriodDates/firstPeriodStartDate" ("adjustedDate" ∷ [])
      ∷ others_at "paymentDates" ("resetDatesReference" ∷ "valuationDatesReference" ∷ [])
      ∷ others_at "resetDates" ("initialFixingDate" ∷ "rateCutOffDaysOffset" ∷ [])
      ∷ others_at "calculationPeriodAmount" ("knownAmountSchedule" ∷ [])
      ∷ others_at "calculationPeriodAmount/calculation" ("fxLinkedNotionalSchedule" ∷ "discounting" ∷ [])
      ∷ others_at "calculationPeriodAmount/calculation/notionalSchedule" ("notionalStepParameters" ∷ [])
      ∷ others_at "calculationPeriodAmount/calculation/floatingRateCalculation"
      ("rateTreatment" ∷ "capRateSchedule" ∷ "floorRateSchedule" ∷ "averagingMethod" ∷ [])
      ∷ others_at "calculationPeriodAmount/calculation/floatingRateCalculation/calculationParameters"
      ("observationParameters" ∷ [])
      ∷ others_at "stubCalculationPeriodAmount/initialStub/floatingRate" refused_in_stub
      ∷ others_at "stubCalculationPeriodAmount/finalStub/floatingRate" refused_in_stub
      ∷ others_at "stubCalculationPeriodAmount/initialStub" ("stubAmount" ∷ [])
      ∷ others_at "stubCalculationPeriodAmount/finalStub" ("stubAmount" ∷ [])
      ∷ [];
}

-- the table of a swap; its streams are skipped here, and each is checked with its own number
unfoldable pub swap_table : Table
swap_table = record {
  whole = "swap";
  top = "";
  lines = [];
  passed = others_at "" ("swapStream" ∷ "productType" ∷ "productId" ∷ "primaryAssetClass" ∷ "secondaryAssetClass"
      ∷ "assetClass" ∷ []) ∷ [];
  refused = others_at "" ("additionalPayment" ∷ "additionalTerms" ∷ "earlyTerminationProvision" ∷ "cancelableProvision"
      ∷ "extendibleProvision" ∷ []) ∷ [];
}

-- the rows that the lines of a stream give
unfoldable pub stream_rows : List Row
stream_rows = table_rows printed_paths stream_table

-- and their names
unfoldable pub stream_names : List (List ℕ)
stream_names = table_names stream_table

-- those of the table of the swap
unfoldable pub swap_rows : List Row
swap_rows = table_rows printed_paths swap_table

-- and its names
unfoldable pub swap_names : List (List ℕ)
swap_names = table_names swap_table

-- ---- the rules that a swap breaks by the table of elements

-- a rule that is broken outside the streams
abbrev pub outside : Rule → ℕ → Broken
outside rule elem = record { rule = rule; place = record { stream = 0; elem = elem; index = 0 } }

-- what P says of some value of a list, with its position from 0
abbrev pub Among : (ℕ → Data → Broken → Type 0) → List Data → Broken → Type 0
Among P ds f = (j : ℕ) × ((x : Data) × ((slice_get ds j ≡ Some x) × P j x f))

-- the rules that the j-th stream breaks, from 0
abbrev pub StreamFault : ℕ → Data → Broken → Type 0
StreamFault j d f = FaultAt stream_rows stream_names (j + 1) 0 (Object Free) 0 d f

-- the rules that the streams of a swap break, of which P says what each breaks by its position from 0
pub data FaultOfStreams (P : ℕ → Data → Broken → Type 0) (ds : List Data) : Broken → Type 0 where
  -- there is none
  no_stream : length ds ≡ 0 → FaultOfStreams P ds (outside K2 swap_stream)
  -- there are more than eight
  many_streams : most_streams < length ds → FaultOfStreams P ds (outside K7 swap_stream)
  -- there are one to eight, and one of them breaks a rule
  in_stream : (f : Broken) → 0 < length ds → length ds ≤ most_streams → Among P ds f → FaultOfStreams P ds f

-- what a value breaks: by itself, and where it is an object by its members
abbrev pub WithMembers : (Broken → Type 0) → (Broken → Type 0) → Data → Broken → Type 0
WithMembers own inside d f = own f ⊎ ((is_some (element_names d) ≡ true) × inside f)

-- those of a swap: its own, and where it is an object those of its streams
abbrev pub SwapFault : Data → Broken → Type 0
SwapFault d =
    WithMembers (FaultAt swap_rows swap_names 0 0 (Object Free) 0 d) (FaultOfStreams StreamFault (streams_in d)) d

-- ---- the way from the root of a document to its swap, and the rules that a document breaks

-- where the way leads: to a value, or to the rule that ends it
abbrev pub Way : Type 0
Way = Result Data Broken

-- the result of the code as a way
abbrev pub way_seen : Result (Bor Value) Broken → Way
way_seen (Ok v) = Ok (view v.now)
way_seen (Err f) = Err f

-- one step further down, unless a fault was met
abbrev pub onward : Way → (Data → Way) → Way
onward (Ok d) go = go d
onward (Err f) go = Err f

-- an element on the way to the swap occurs once and is an object
abbrev pub one_object : List Data → Way
one_object [] = Err (outside K2 swap)
one_object (x ∷ []) = if is_some (element_names x) then Ok x else Err (outside K3 document)
one_object (x ∷ y ∷ rest) = Err (outside K7 document)

-- the swap occurs once; its own table says what it must be
abbrev pub one_swap : List Data → Way
one_swap [] = Err (outside K2 swap)
one_swap (x ∷ []) = Ok x
one_swap (x ∷ y ∷ rest) = Err (outside K7 swap)

-- the swap below an object, the swap below its `trade`, and the swap below its `dataDocument`
abbrev pub swap_below : Data → Way
swap_below d = one_swap (values_in (codes "swap") (Some d))

-- the way from what holds `trade`
abbrev pub trade_below : Data → Way
trade_below d = onward (one_object (values_in (codes "trade") (Some d))) swap_below

-- the way from what holds `dataDocument`
abbrev pub document_below : Data → Way
document_below d = onward (one_object (values_in (codes "dataDocument") (Some d))) trade_below

-- the root has exactly one of `swap`, `trade` and `dataDocument`
abbrev pub by_root : Bool → Bool → Bool → Data → Way
by_root false false false d = Err (outside K2 swap)
by_root true false false d = swap_below d
by_root false true false d = trade_below d
by_root false false true d = document_below d
by_root _ _ _ d = Err (outside K7 document)

-- whether d has an element of that name
abbrev pub has : List ℕ → Data → Bool
has name d = is_some (child_of name d)

-- the way from the root to the swap
abbrev pub the_swap : Data → Way
the_swap d =
    if is_some (element_names d) then by_root (has (codes "swap") d) (has (codes "trade") d)
    (has (codes "dataDocument") d) d else Err (outside K3 document)

-- the rules that a document breaks on the way to its swap or at the swap, of which P says what it breaks
pub data FaultOfSwap (P : Data → Broken → Type 0) (d : Data) : Broken → Type 0 where
  -- a rule ends the way to the swap
  ended : (f : Broken) → the_swap d ≡ Err f → FaultOfSwap P d f
  -- the swap breaks one
  below : (s : Data) (f : Broken) → the_swap d ≡ Ok s → P s f → FaultOfSwap P d f

-- the rules that a document breaks, by the tables
abbrev pub DocumentFault : Data → Broken → Type 0
DocumentFault d = FaultOfSwap SwapFault d

-- ---- the swap that a document spells, and the first rule that it breaks

-- the document breaks no rule, and its swap says this one
pub record Means (d : Data) (s : Swap) : Type 0 where
  pub clean : (f : Broken) → DocumentFault d f → ⊥
  pub at : Data
  pub found : the_swap d ≡ Ok at
  pub says : SwapSays at s

-- ---- what the call of this crate answers, and what it refuses

-- the swap that the document means, or the first rule of K2 to K7 that the document breaks
abbrev pub swap_of_document : Data → Spec Swap Broken
swap_of_document d = record {
  Answers = Means d;
  Refuses = First is_before (DocumentFault d);
}

-- ---- when the rows of a table fit together

-- no later row of the same parent has the name
abbrev no_twin : ℕ → List ℕ → List Row → List (List ℕ) → Bool
no_twin parent name (row ∷ rows) (n ∷ ns) =
    (not (row.parent == parent) || not (bytes_eq n name)) && no_twin parent name rows ns
no_twin parent name _ _ = true

-- the rows among which an object chooses
abbrev choices : Kind → List ℕ
choices (Object (AtMostOne a b)) = a ∷ b ∷ []
choices (Object (AtMostOneOfThree a b c)) = a ∷ b ∷ c ∷ []
choices (Object (ExactlyOne a b)) = a ∷ b ∷ []
choices _ = []

-- from row r on, each row comes after its parent, and its choice is among its members. No later row of the
-- same parent has its name
abbrev pub is_whole_table : List Row → ℕ → List Row → List (List ℕ) → Bool
is_whole_table all r [] [] = true
is_whole_table all r (row ∷ rows) (name ∷ names) =
    nat_lt row.parent r
    && list_all (λ c. option_map_or (λ (x : Row). x.parent == r) (slice_get all c) false) (choices row.kind)
    && no_twin row.parent name rows names && is_whole_table all (r + 1) rows names
is_whole_table all r rows names = false
