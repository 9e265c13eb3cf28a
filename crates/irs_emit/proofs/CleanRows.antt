-- Each emitted row has no fault of the tables of cash flows.
use Rattle.irs_flows.specs.declared.flow_table.TheConstants.{FLOW_ROWS, PERIOD_ROWS}
use Rattle.irs_flows.proofs.FlowLaws.{flow_code_names, period_code_names}
use Rattle.irs_base.specs.Days.{IsDay}
use Rattle.irs_base.specs.Texts.{day_text, dec_text}
use Rattle.irs_elements.specs.Elements.{has_odd, is_refused, is_required, is_unknown, most, name_at}
use Rattle.irs_elements.specs.Leaves.{has_value, leaf_rule, text_rule, is_currency}
use Rattle.irs_elements.specs.declared.table.Choice.TheVariants.{Free}
use Rattle.irs_elements.specs.declared.table.Count.TheVariants.{Maybe}
use Rattle.irs_elements.specs.declared.table.Kind.TheVariants.{Object, Leaf, Passed}
use Rattle.irs_elements.specs.declared.table.Leaf.{Leaf as LeafKind}
use Rattle.irs_elements.specs.declared.table.Leaf.TheVariants.{Amount, CurrencyName, Date, Fraction, Whole}
use Rattle.irs_elements.specs.declared.table.Row.{Row}
use Rattle.irs_emit.proofs.Clean.{MemberFree, NoFault, absent_free, leaf_free, object_free, one_value, passed_free}
use Rattle.irs_emit.proofs.Clean.{present_free}
use Rattle.irs_emit.proofs.PlainTexts.{text_kept}
use Rattle.irs_emit.proofs.LeavesRead.{currency_ascii}
use Rattle.irs_terms.specs.declared.currency.Currency.{Currency}
use Rattle.irs_base.proofs.VisibleTexts.{Visible, day_visible}
use Rattle.irs_emit.proofs.LeafTextsRead.{count_back, count_visible, currency_back, currency_visible, day_back}
use Rattle.irs_emit.proofs.LeafTextsRead.{fraction_back, number_back, number_visible, trimmed}
use Rattle.irs_audit.specs.StatedFlows.{stated_fraction}
use Rattle.irs_emit.specs.Emitted.{definition_value, exchange_value, fixed_value, floating_value, observation_value}
use Rattle.irs_emit.specs.Emitted.{period_members, period_value, put_known, count_leaf, currency_leaf, day_leaf}
use Rattle.irs_emit.specs.Emitted.{fraction_leaf, notional_leaf, rate_leaf}
use Rattle.irs_emit.specs.RowLaws.{IsExchangeShort, IsPeriodShort, IsResetShort, IsShortNumber, IsShortRate}
use Rattle.irs_json.specs.Leaves.{child_of, leaf_of, element_names}
use Rattle.irs_schedule.specs.declared.views.CalculationPeriod.{CalculationPeriod}
use Rattle.jiff_core.proofs.SignedLemmas.{signed_arith}
use Rattle.std.specs.Fmt.{signed_decimal}
use Rattle.std.specs.List.{list_any}
use Rattle.irs_terms.specs.declared.results.Exchange.{Exchange}
use Rattle.irs_terms.specs.declared.results.Reset.{Reset}
use Rattle.serde_json.specs.Data.{Data, string, object, no_members, put}
use Rattle.std.proofs.Common.{◌≡◌, ℕ, ◌^◌, ◌<◌, ◌≤◌, Bool, true, false, List, ℤ, pos, negsuc, ◌≤ℤ◌, codes, unsigned_abs}
use Rattle.std.proofs.Common.{Option, Some, None, IfSome, option_map, refl, sym, ap, ◌∙◌, subst, arith}
use Rattle.std.specs.Prelude.{is_some, slice_get, unwrap_or}

-- ---- leaves

text_free : (k : LeafKind) (s : List ℕ) (b : Bool) → has_value k s ≡ true → text_rule k s ≡ None
unfolding text_rule
text_free k s b h = rw h refl

leaf_kept : (k : LeafKind) (s : List ℕ) → Visible s → has_value k s ≡ true → leaf_rule k (leaf_of (string s)) ≡ None
leaf_kept k s v h = ap (text_rule k) (trimmed s v) ∙ text_free k s true h

-- the text of a day is a date
pub day_kept : (d : ℤ) → IsDay d → leaf_rule Date (leaf_of (day_leaf d)) ≡ None
day_kept d h = leaf_kept Date (day_text d) (day_visible d) (ap is_some (day_back d h))

-- the text of a short number is an amount
pub number_kept : (z : ℤ) (p : ℕ) → p ≤ 12 → IsShortNumber z p → leaf_rule Amount (leaf_of (string (dec_text z p))) ≡ None
number_kept z p l h = leaf_kept Amount (dec_text z p) (number_visible z p h) (ap is_some (number_back z p l h))

-- three capital letters are a currency
pub currency_kept : (c : Currency) → is_currency c.letters ≡ true
    → leaf_rule CurrencyName (leaf_of (currency_leaf c)) ≡ None
currency_kept c h =
    ap (λ s. leaf_rule CurrencyName (leaf_of (string s))) (text_kept c.letters (currency_ascii c.letters h))
    ∙ leaf_kept CurrencyName c.letters (currency_visible c.letters h) (ap is_some (currency_back c.letters h))

module _ (rows : List Row) (names : List (List ℕ)) (stream : ℕ) where
  -- a leaf that occurs once has no fault
  pub leaf_member : (c i : ℕ) (row : Row) (d : Data) (k : LeafKind) (s : List ℕ)
      → child_of (name_at names c) d ≡ Some (string s) → row.kind ≡ Leaf k → 1 ≤ most row.count
      → leaf_rule k (leaf_of (string s)) ≡ None → MemberFree rows names stream c row i d
  leaf_member c i row d k s e is l none =
      present_free rows names stream c i row d (string s) e (ap is_refused is) l
      (one_value rows names stream c i row (string s)
      (λ j. subst (λ kind. NoFault rows names stream c kind j (string s)) (sym is)
      (leaf_free rows names stream c j k (string s) none)))

  -- a leaf that may be absent has no fault
  pub known_member : {X : Type 0} (c i : ℕ) (row : Row) (d : Data) (k : LeafKind) (text : X → List ℕ) (o : Option X)
      → child_of (name_at names c) d ≡ option_map (λ x. string (text x)) o → is_required row.count ≡ false
      → row.kind ≡ Leaf k → 1 ≤ most row.count
      → IfSome o (λ x. leaf_rule k (leaf_of (string (text x))) ≡ None) → MemberFree rows names stream c row i d
  known_member c i row d k text None e q is l none = absent_free rows names stream c i row d e q
  known_member c i row d k text (Some x) e q is l none = leaf_member c i row d k (text x) e is l none

-- ---- exchanges

-- an exchange has no fault
pub exchange_free : (stream i : ℕ) (x : Exchange) → IsExchangeShort x
    → NoFault FLOW_ROWS flow_code_names stream 1 (Object Free) i (exchange_value x)
unfolding exchange_value
exchange_free stream i x h = object_free FLOW_ROWS flow_code_names stream 1 i (exchange_value x) _ refl refl refl (
  leaf_member FLOW_ROWS flow_code_names stream 2 i _ (exchange_value x) Date (day_text x.unadjusted) refl refl
      (omega arith) (day_kept x.unadjusted h.unadjusted),
  (
    leaf_member FLOW_ROWS flow_code_names stream 3 i _ (exchange_value x) Date (day_text x.adjusted) refl refl
        (omega arith) (day_kept x.adjusted h.adjusted),
    (
      leaf_member FLOW_ROWS flow_code_names stream 4 i _ (exchange_value x) Amount
          (dec_text x.amount.units x.amount.places) refl refl (omega arith)
          (number_kept x.amount.units x.amount.places h.amount.0 h.amount.1),
      (
        passed_free FLOW_ROWS flow_code_names stream 12 i _ (exchange_value x) refl refl,
        (passed_free FLOW_ROWS flow_code_names stream 13 i _ (exchange_value x) refl refl, tt),
      ),
    ),
  ),
)

-- ---- the rows of the tables

-- the row where there is none
abbrev pub no_row : Row
no_row = record { parent = 0; place = 0; kind = Passed; count = Maybe }

-- the rows of the table of a calculation period
abbrev P : List Row
P = PERIOD_ROWS

-- the names of the table of a calculation period
abbrev N : List (List ℕ)
N = period_code_names

-- the row of that number
abbrev row_at : ℕ → Row
row_at n = unwrap_or (slice_get P n) no_row

-- ---- resets

-- a rate observation, by its parts
abbrev observation_with : ℤ → ℤ → Option ℤ → Data
observation_with reset fixing o =
    object (put_known (codes "observedRate") (option_map rate_leaf o)
    (put (codes "adjustedFixingDate") (day_leaf fixing) (put (codes "resetDate") (day_leaf reset) no_members)))

observation_by : (stream i : ℕ) (a b : ℤ) (o : Option ℤ) → IsDay a → IsDay b → IfSome o IsShortRate
    → NoFault P N stream 11 (Object Free) i (observation_with a b o)
observation_by stream i a b None ha hb k =
    let d = observation_with a b None in
    object_free P N stream 11 i d _ refl refl refl (
      leaf_member P N stream 12 i _ d Date (day_text a) refl refl (omega arith) (day_kept a ha),
      (
        leaf_member P N stream 13 i _ d Date (day_text b) refl refl (omega arith) (day_kept b hb),
        (
          absent_free P N stream 14 i _ d refl refl,
          (
            passed_free P N stream 19 i _ d refl refl,
            (passed_free P N stream 20 i _ d refl refl, (passed_free P N stream 21 i _ d refl refl, tt)),
          ),
        ),
      ),
    )
observation_by stream i a b (Some z) ha hb k =
    let d = observation_with a b (Some z) in
    object_free P N stream 11 i d _ refl refl refl (
      leaf_member P N stream 12 i _ d Date (day_text a) refl refl (omega arith) (day_kept a ha),
      (
        leaf_member P N stream 13 i _ d Date (day_text b) refl refl (omega arith) (day_kept b hb),
        (
          leaf_member P N stream 14 i _ d Amount (dec_text z 9) refl refl (omega arith)
              (number_kept z 9 (omega arith) k),
          (
            passed_free P N stream 19 i _ d refl refl,
            (passed_free P N stream 20 i _ d refl refl, (passed_free P N stream 21 i _ d refl refl, tt)),
          ),
        ),
      ),
    )

observation_free : (stream i : ℕ) (r : Reset) → IsResetShort r
    → NoFault P N stream 11 (Object Free) i (observation_value r)
unfolding observation_value
observation_free stream i r h = observation_by stream i r.reset r.fixing r.observed h.reset h.fixing h.observed

-- a floating rate definition, by its parts
abbrev definition_with : Option ℤ → Reset → Data
definition_with o r =
    object (put_known (codes "calculatedRate") (option_map rate_leaf o)
    (put (codes "rateObservation") (observation_value r) no_members))

definition_free : (stream i : ℕ) (o : Option ℤ) (r : Reset) → IfSome o IsShortRate → IsResetShort r
    → NoFault P N stream 9 (Object Free) i (definition_with o r)
unfolding observation_value
definition_free stream i None r k h =
    let d = definition_with None r in
    let m = observation_value r in
    object_free P N stream 9 i d _ refl refl refl (
      absent_free P N stream 10 i _ d refl refl,
      (
        present_free P N stream 11 i _ d m refl refl (omega arith)
            (one_value P N stream 11 i (row_at 11) m (λ j. observation_free stream j r h)),
        (
          passed_free P N stream 17 i _ d refl refl,
          (
            passed_free P N stream 18 i _ d refl refl,
            (absent_free P N stream 23 i _ d refl refl, (absent_free P N stream 24 i _ d refl refl, tt)),
          ),
        ),
      ),
    )
definition_free stream i (Some z) r k h =
    let d = definition_with (Some z) r in
    let m = observation_value r in
    object_free P N stream 9 i d _ refl refl refl (
      leaf_member P N stream 10 i _ d Amount (dec_text z 9) refl refl (omega arith) (number_kept z 9 (omega arith) k),
      (
        present_free P N stream 11 i _ d m refl refl (omega arith)
            (one_value P N stream 11 i (row_at 11) m (λ j. observation_free stream j r h)),
        (
          passed_free P N stream 17 i _ d refl refl,
          (
            passed_free P N stream 18 i _ d refl refl,
            (absent_free P N stream 23 i _ d refl refl, (absent_free P N stream 24 i _ d refl refl, tt)),
          ),
        ),
      ),
    )

-- ---- calculation periods

count_kept : (n : ℤ) → unsigned_abs n < 10 ^ 9 → leaf_rule Whole (leaf_of (count_leaf n)) ≡ None
count_kept n h = leaf_kept Whole (signed_decimal n) (count_visible n h) (ap is_some (count_back n h))

fraction_kept_by : (z : ℤ) → pos 0 ≤ℤ z → IsShortNumber z 10 → leaf_rule Fraction (leaf_of (string (dec_text z 10))) ≡ None
fraction_kept_by (pos n) some h =
    leaf_kept Fraction (dec_text (pos n) 10) (number_visible (pos n) 10 h) (ap is_some (fraction_back n h))
fraction_kept_by (negsuc n) some h = absurd (omega (arith, signed_arith, some))

-- what each calculation period has besides its rate and its definition
pub record HasPeriod (x : CalculationPeriod) (d : Data) : Type 0 where
  pub start : child_of (name_at N 1) d ≡ Some (day_leaf x.start)
  pub «end» : child_of (name_at N 2) d ≡ Some (day_leaf x.«end»)
  pub adjusted_start : child_of (name_at N 3) d ≡ Some (day_leaf x.adjusted_start)
  pub adjusted_end : child_of (name_at N 4) d ≡ Some (day_leaf x.adjusted_end)
  pub days : child_of (name_at N 5) d ≡ Some (count_leaf x.days)
  pub notional : child_of (name_at N 6) d ≡ Some (notional_leaf x.notional)
  pub fraction : child_of (name_at N 8) d ≡ Some (fraction_leaf x.frac)
  pub refused : child_of (name_at N 22) d ≡ None

period_by : (stream i : ℕ) (x : CalculationPeriod) (d : Data) (ns : List (List ℕ)) → element_names d ≡ Some ns
    → list_any (is_unknown P N 0) ns ≡ false → has_odd d ≡ false → HasPeriod x d
    → MemberFree P N stream 7 (row_at 7) i d → MemberFree P N stream 9 (row_at 9) i d → IsPeriodShort x
    → NoFault P N stream 0 (Object Free) i d
period_by stream i x d ns e known even has rate definition h = object_free P N stream 0 i d ns e known even (
  leaf_member P N stream 1 i _ d Date (day_text x.start) has.start refl (omega arith) (day_kept x.start h.start),
  (
    leaf_member P N stream 2 i _ d Date (day_text x.«end») has.«end» refl (omega arith) (day_kept x.«end» h.«end»),
    (
      leaf_member P N stream 3 i _ d Date (day_text x.adjusted_start) has.adjusted_start refl (omega arith)
          (day_kept x.adjusted_start h.adjusted_start),
      (
        leaf_member P N stream 4 i _ d Date (day_text x.adjusted_end) has.adjusted_end refl (omega arith)
            (day_kept x.adjusted_end h.adjusted_end),
        (
          leaf_member P N stream 5 i _ d Whole (signed_decimal x.days) has.days refl (omega arith)
              (count_kept x.days h.days),
          (
            leaf_member P N stream 6 i _ d Amount (dec_text x.notional 4) has.notional refl (omega arith)
                (number_kept x.notional 4 (omega arith) h.notional),
            (
              rate,
              (
                leaf_member P N stream 8 i _ d Fraction (dec_text (stated_fraction x.frac).units 10) has.fraction refl
                    (omega arith) (fraction_kept_by (stated_fraction x.frac).units h.fraction h.short),
                (
                  definition,
                  (
                    passed_free P N stream 15 i _ d refl refl,
                    (
                      passed_free P N stream 16 i _ d refl refl,
                      (absent_free P N stream 22 i _ d has.refused refl, tt),
                    ),
                  ),
                ),
              ),
            ),
          ),
        ),
      ),
    ),
  ),
)

-- a fixed calculation period, by its parts
abbrev fixed_with : CalculationPeriod → Option ℤ → Data
fixed_with x o = object (put_known (codes "fixedRate") (option_map rate_leaf o) (period_members x))

fixed_free : (stream i : ℕ) (x : CalculationPeriod) (o : Option ℤ) → IfSome o IsShortRate → IsPeriodShort x
    → NoFault P N stream 0 (Object Free) i (fixed_with x o)
unfolding period_members
fixed_free stream i x None k h =
    let d = fixed_with x None in
    let has : HasPeriod x d =
    record {
      start = refl;
      «end» = refl;
      adjusted_start = refl;
      adjusted_end = refl;
      days = refl;
      notional =
          refl;
      fraction = refl;
      refused = refl;
    } in
    period_by stream i x d _ refl refl refl has (absent_free P N stream 7 i (row_at 7) d refl refl)
    (absent_free P N stream 9 i (row_at 9) d refl refl) h
fixed_free stream i x (Some z) k h =
    let d = fixed_with x (Some z) in
    let has : HasPeriod x d =
    record {
      start = refl;
      «end» = refl;
      adjusted_start = refl;
      adjusted_end = refl;
      days = refl;
      notional =
          refl;
      fraction = refl;
      refused = refl;
    } in
    period_by stream i x d _ refl refl refl has
    (leaf_member P N stream 7 i (row_at 7) d Amount (dec_text z 9) refl refl (omega arith)
    (number_kept z 9 (omega arith) k)) (absent_free P N stream 9 i (row_at 9) d refl refl) h

floating_free : (stream i : ℕ) (x : CalculationPeriod) (o : Option ℤ) (r : Reset) → IfSome o IsShortRate
    → IsResetShort r → IsPeriodShort x
    → NoFault P N stream 0 (Object Free) i
    (object (put (codes "floatingRateDefinition") (definition_with o r) (period_members x)))
unfolding period_members
floating_free stream i x o r k g h =
    let m = definition_with o r in
    let d = object (put (codes "floatingRateDefinition") m (period_members x)) in
    let has : HasPeriod x d =
    record {
      start = refl;
      «end» = refl;
      adjusted_start = refl;
      adjusted_end = refl;
      days = refl;
      notional =
          refl;
      fraction = refl;
      refused = refl;
    } in
    period_by stream i x d _ refl refl refl has (absent_free P N stream 7 i (row_at 7) d refl refl)
    (present_free P N stream 9 i (row_at 9) d m refl refl (omega arith)
    (one_value P N stream 9 i (row_at 9) m (λ j. definition_free stream j o r k g))) h

-- a calculation period has no fault of its table
pub period_free : (stream i : ℕ) (x : CalculationPeriod) (reset : Option Reset) → IsPeriodShort x
    → IfSome reset IsResetShort → NoFault P N stream 0 (Object Free) i (period_value x reset)
unfolding fixed_value floating_value definition_value
period_free stream i x None h g = fixed_free stream i x x.rate h.rate h
period_free stream i x (Some r) h g = floating_free stream i x x.rate r h.rate g h
