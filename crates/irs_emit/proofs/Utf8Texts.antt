-- The compact text of the emitted value is UTF-8, since its names and its leaves are ASCII.
use Rattle.irs_base.specs.Days.{IsDay}
use Rattle.irs_base.specs.Lists.{Every}
use Rattle.irs_base.specs.Texts.{day_text, dec_text}
use Rattle.irs_base.specs.declared.line.Dec.{Dec}
use Rattle.irs_elements.specs.Leaves.{is_currency}
use Rattle.irs_emit.proofs.LeavesRead.{currency_ascii}
use Rattle.irs_emit.specs.Private.Texts.{AreLeafChars}
use Rattle.irs_emit.proofs.PlainTexts.{day_plain, plain_ascii, short_plain, text_kept, whole_plain}
use Rattle.irs_emit.specs.Emitted.{array_of, cashflows_value, definition_value, emit_value, exchange_value, fixed_value}
use Rattle.irs_emit.specs.Emitted.{floating_value, forecast_value, known_exchanges, listed_period, observation_value}
use Rattle.irs_emit.specs.Emitted.{one_period, payment_value, period_members, period_value, period_values, put_known}
use Rattle.irs_emit.specs.Emitted.{stream_value, amount_leaf, count_leaf, currency_leaf, day_leaf, rate_leaf}
use Rattle.irs_emit.specs.RowLaws.{IsPartShort, IsExchangeShort, IsPaymentShort, IsPeriodShort, IsResetShort}
use Rattle.irs_emit.specs.RowLaws.{IsShortNumber, IsShortAmount, IsShortRate}
use Rattle.irs_schedule.specs.Parts.{Part}
use Rattle.irs_schedule.specs.RowsOf.{period_at}
use Rattle.irs_schedule.specs.declared.entries.PaymentEntry.{PaymentEntry}
use Rattle.irs_schedule.specs.declared.views.CalculationPeriod.{CalculationPeriod}
use Rattle.irs_terms.specs.declared.currency.Currency.{Currency}
use Rattle.irs_terms.specs.declared.results.Exchange.{Exchange}
use Rattle.irs_terms.specs.declared.results.Reset.{Reset}
use Rattle.json.proofs.Printed.Utf8.{IsUtf8-are_ascii, IsUtf8-quoted, are_ascii}
use Rattle.json.specs.Print.{quoted}
use Rattle.serde_json.specs.Data.{Data, null, boolean, number, string, array, object, Items, no_items, item, Members}
use Rattle.serde_json.specs.Data.{no_members, member, put}
use Rattle.serde_json.specs.View.{items_of}
use Rattle.serde_json.specs.Written.{comma_if, compact_text, items_text, members_text}
use Rattle.std.proofs.Common.{◌≡◌, ℕ, ℤ, zero, suc, ◌+◌, ◌-◌, ◌^◌, ◌<◌, List, [], ◌∷◌, ◌++◌, Bool, true, false, map}
use Rattle.std.proofs.Common.{Option}
use Rattle.std.proofs.Common.{Some, None, IfSome, option_map, unsigned_abs, codes, refl, sym, subst, arith}
use Rattle.std.proofs.lemmas.Str.{IsUtf8-append, IsUtf8-from_ascii}
use Rattle.std.specs.Fmt.{signed_decimal}
use Rattle.std.specs.Prelude.{slice_get}
use Rattle.std.specs.Str.{IsUtf8}

-- ---- values whose names and strings are UTF-8

-- all names and strings of a value are UTF-8, and it has no other leaf
abbrev mutual
  pub Clear : Data → Type 0
  Clear null = ⊥
  Clear (boolean b) = ⊥
  Clear (number x) = ⊥
  Clear (string s) = IsUtf8 s
  Clear (array ds) = ItemsClear ds
  Clear (object ms) = MembersClear ms

  pub ItemsClear : Items → Type 0
  ItemsClear no_items = Unit {0}
  ItemsClear (item d ds) = Clear d × ItemsClear ds

  pub MembersClear : Members → Type 0
  MembersClear no_members = Unit {0}
  MembersClear (member k d ms) = IsUtf8 k × Clear d × MembersClear ms

comma_utf8 : (later : Bool) → IsUtf8 (comma_if later)
comma_utf8 true = IsUtf8-are_ascii (44 ∷ []) refl
comma_utf8 false = IsUtf8-are_ascii [] refl

mutual
  -- the compact text of such a value is UTF-8
  pub clear_utf8 : (d : Data) → Clear d → IsUtf8 (compact_text d)
  clear_utf8 null h = absurd h
  clear_utf8 (boolean b) h = absurd h
  clear_utf8 (number x) h = absurd h
  clear_utf8 (string s) h = IsUtf8-quoted s h
  clear_utf8 (array ds) h =
      IsUtf8-append (91 ∷ []) (items_text false ds) (IsUtf8-are_ascii (91 ∷ []) refl) (items_utf8 false ds h)
  clear_utf8 (object ms) h =
      IsUtf8-append (123 ∷ []) (members_text false ms) (IsUtf8-are_ascii (123 ∷ []) refl) (members_utf8 false ms h)

  items_utf8 : (later : Bool) (ds : Items) → ItemsClear ds → IsUtf8 (items_text later ds)
  items_utf8 later no_items h = IsUtf8-are_ascii (93 ∷ []) refl
  items_utf8 later (item d ds) h =
      IsUtf8-append (comma_if later) (compact_text d ++ items_text true ds) (comma_utf8 later)
      (IsUtf8-append (compact_text d) (items_text true ds) (clear_utf8 d h.0) (items_utf8 true ds h.1))

  members_utf8 : (later : Bool) (ms : Members) → MembersClear ms → IsUtf8 (members_text later ms)
  members_utf8 later no_members h = IsUtf8-are_ascii (125 ∷ []) refl
  members_utf8 later (member k d ms) h =
      let rest = compact_text d ++ members_text true ms in
      let value = IsUtf8-append (compact_text d) (members_text true ms) (clear_utf8 d h.1) (members_utf8 true ms h.2) in
      IsUtf8-append (comma_if later) (quoted k ++ 58 ∷ rest) (comma_utf8 later)
      (IsUtf8-append (quoted k) (58 ∷ rest) (IsUtf8-quoted k h.0)
      (IsUtf8-append (58 ∷ []) rest (IsUtf8-are_ascii (58 ∷ []) refl) value))

-- a name of ASCII is UTF-8
name : (k : List ℕ) → are_ascii k ≡ true → IsUtf8 k
name k h = IsUtf8-are_ascii k h

-- ---- leaves

plain_clear : (s : List ℕ) → AreLeafChars s → IsUtf8 s
plain_clear s h = IsUtf8-from_ascii s (plain_ascii s h)

day_clear : (d : ℤ) → IsDay d → Clear (day_leaf d)
day_clear d h = plain_clear (day_text d) (day_plain d h)

number_clear : (z : ℤ) (p : ℕ) → IsShortNumber z p → IsUtf8 (dec_text z p)
number_clear z p h = plain_clear (dec_text z p) (short_plain z p h)

count_clear : (n : ℤ) → unsigned_abs n < 10 ^ 9 → Clear (count_leaf n)
count_clear n h = plain_clear (signed_decimal n) (whole_plain n (omega (arith, h)))

currency_clear : (c : Currency) → is_currency c.letters ≡ true → Clear (currency_leaf c)
currency_clear c h =
    let ascii = currency_ascii c.letters h in
    subst IsUtf8 (sym (text_kept c.letters ascii)) (IsUtf8-from_ascii c.letters ascii)

-- ---- rows

exchange_clear : (x : Exchange) → IsExchangeShort x → Clear (exchange_value x)
unfolding exchange_value
exchange_clear x h = (
  name (codes "adjustedPrincipalExchangeDate") refl,
  day_clear x.adjusted h.adjusted,
  (
    name (codes "principalExchangeAmount") refl,
    number_clear x.amount.units x.amount.places h.amount.1,
    (name (codes "unadjustedPrincipalExchangeDate") refl, day_clear x.unadjusted h.unadjusted, tt),
  ),
)

forecast_by : (c : Currency) (o : Option Dec) → is_currency c.letters ≡ true → IfSome o IsShortAmount
    → Clear (object (put_known (codes "amount") (option_map amount_leaf o)
    (put (codes "currency") (currency_leaf c) no_members)))
forecast_by c None h k = (name (codes "currency") refl, currency_clear c h, tt)
forecast_by c (Some v) h k = (
  name (codes "amount") refl,
  number_clear v.units v.places k.1,
  (name (codes "currency") refl, currency_clear c h, tt),
)

forecast_clear : (p : Part) (y : PaymentEntry) → IsPaymentShort p y → Clear (forecast_value p.currency y)
unfolding forecast_value
forecast_clear p y h = forecast_by p.currency y.amount h.currency h.amount

observation_by : (fixing reset : ℤ) (o : Option ℤ) → IsDay fixing → IsDay reset → IfSome o IsShortRate
    → Clear (object (put_known (codes "observedRate") (option_map rate_leaf o)
    (put (codes "adjustedFixingDate") (day_leaf fixing) (put (codes "resetDate") (day_leaf reset) no_members))))
observation_by fixing reset None f r h = (
  name (codes "adjustedFixingDate") refl,
  day_clear fixing f,
  (name (codes "resetDate") refl, day_clear reset r, tt),
)
observation_by fixing reset (Some u) f r h = (
  name (codes "adjustedFixingDate") refl,
  day_clear fixing f,
  (
    name (codes "observedRate") refl,
    number_clear u 9 h,
    (name (codes "resetDate") refl, day_clear reset r, tt),
  ),
)

observation_clear : (r : Reset) → IsResetShort r → Clear (observation_value r)
unfolding observation_value
observation_clear r h = observation_by r.fixing r.reset r.observed h.fixing h.reset h.observed

definition_by : (o : Option ℤ) (d : Data) → IfSome o IsShortRate → Clear d
    → Clear (object (put_known (codes "calculatedRate") (option_map rate_leaf o)
    (put (codes "rateObservation") d no_members)))
definition_by None d h k = (name (codes "rateObservation") refl, k, tt)
definition_by (Some u) d h k =
    (name (codes "calculatedRate") refl, number_clear u 9 h, (name (codes "rateObservation") refl, k, tt))

definition_clear : (x : CalculationPeriod) (r : Reset) → IsPeriodShort x → IsResetShort r → Clear (definition_value x r)
unfolding definition_value
definition_clear x r h k = definition_by x.rate (observation_value r) h.rate (observation_clear r k)

-- what comes after the rate of a period
back_clear : (x : CalculationPeriod) → IsPeriodShort x
    → MembersClear (put (codes "notionalAmount") (string (dec_text x.notional 4))
    (put (codes "unadjustedEndDate") (day_leaf x.«end»)
    (put (codes "unadjustedStartDate") (day_leaf x.start) no_members)))
back_clear x h = (
  name (codes "notionalAmount") refl,
  number_clear x.notional 4 h.notional,
  (
    name (codes "unadjustedEndDate") refl,
    day_clear x.«end» h.«end»,
    (name (codes "unadjustedStartDate") refl, day_clear x.start h.start, tt),
  ),
)

fixed_by : (x : CalculationPeriod) (o : Option ℤ) → IsPeriodShort x → IfSome o IsShortRate
    → Clear (object (put_known (codes "fixedRate") (option_map rate_leaf o) (period_members x)))
unfolding period_members
fixed_by x None h k = (
  name (codes "adjustedEndDate") refl,
  day_clear x.adjusted_end h.adjusted_end,
  (
    name (codes "adjustedStartDate") refl,
    day_clear x.adjusted_start h.adjusted_start,
    (
      name (codes "calculationPeriodNumberOfDays") refl,
      count_clear x.days h.days,
      (name (codes "dayCountYearFraction") refl, number_clear _ 10 h.short, back_clear x h),
    ),
  ),
)
fixed_by x (Some u) h k = (
  name (codes "adjustedEndDate") refl,
  day_clear x.adjusted_end h.adjusted_end,
  (
    name (codes "adjustedStartDate") refl,
    day_clear x.adjusted_start h.adjusted_start,
    (
      name (codes "calculationPeriodNumberOfDays") refl,
      count_clear x.days h.days,
      (
        name (codes "dayCountYearFraction") refl,
        number_clear _ 10 h.short,
        (name (codes "fixedRate") refl, number_clear u 9 k, back_clear x h),
      ),
    ),
  ),
)

floating_by : (x : CalculationPeriod) (d : Data) → IsPeriodShort x → Clear d
    → Clear (object (put (codes "floatingRateDefinition") d (period_members x)))
unfolding period_members
floating_by x d h k = (
  name (codes "adjustedEndDate") refl,
  day_clear x.adjusted_end h.adjusted_end,
  (
    name (codes "adjustedStartDate") refl,
    day_clear x.adjusted_start h.adjusted_start,
    (
      name (codes "calculationPeriodNumberOfDays") refl,
      count_clear x.days h.days,
      (
        name (codes "dayCountYearFraction") refl,
        number_clear _ 10 h.short,
        (name (codes "floatingRateDefinition") refl, k, back_clear x h),
      ),
    ),
  ),
)

period_clear : (x : CalculationPeriod) (reset : Option Reset) → IsPeriodShort x → IfSome reset IsResetShort
    → Clear (period_value x reset)
unfolding fixed_value floating_value
period_clear x None h k = fixed_by x x.rate h h.rate
period_clear x (Some r) h k = floating_by x (definition_value x r) h (definition_clear x r h k)

-- ---- lists

-- each value of a list is clear
abbrev ListClear : List Data → Type 0
ListClear ds = ItemsClear (items_of ds)

map_clear : {X : Type 0} (P : X → Type 0) (f : X → Data) (xs : List X) → ((x : X) → P x → Clear (f x)) → Every P xs
    → ListClear (map f xs)
map_clear P f [] law h = tt
map_clear P f (x ∷ xs) law h = (law x h.0, map_clear P f xs law h.1)

append_clear : (a b : List Data) → ListClear a → ListClear b → ListClear (a ++ b)
append_clear [] b h k = k
append_clear (d ∷ a) b h k = (h.0, append_clear a b h.1 k)

listed_clear : (reset : Option Reset) (o : Option CalculationPeriod) → IfSome o IsPeriodShort
    → IfSome reset IsResetShort
    → ListClear (listed_period reset o)
listed_clear reset None h k = tt
listed_clear reset (Some x) h k = (period_clear x reset h k, tt)

periods_clear : (p : Part) (first n : ℕ) → IsPartShort p → ListClear (period_values p first n)
periods_clear p first zero h = tt
periods_clear p first (suc n) h =
    let j = first + n in
    append_clear (period_values p first n) (one_period p j) (periods_clear p first n h)
    (listed_clear (slice_get p.resets j) (period_at p j) (h.periods j) (h.resets j))

payment_clear : (p : Part) (y : PaymentEntry) → IsPartShort p → IsPaymentShort p y → Clear (payment_value p y)
unfolding payment_value
payment_clear p y short h = (
  name (codes "adjustedPaymentDate") refl,
  day_clear y.adjusted h.adjusted,
  (
    name (codes "calculationPeriod") refl,
    periods_clear p (y.first_period - 1) (y.last_period + 1 - y.first_period) short,
    (
      name (codes "forecastPaymentAmount") refl,
      forecast_clear p y h,
      (name (codes "unadjustedPaymentDate") refl, day_clear y.unadjusted h.unadjusted, tt),
    ),
  ),
)

cashflows_by : (a : Data) (xs : List Exchange) → Clear a → Every IsExchangeShort xs
    → Clear (object (put_known (codes "principalExchange") (known_exchanges xs)
    (put (codes "cashflowsMatchParameters") (string (codes "true"))
    (put (codes "paymentCalculationPeriod") a no_members))))
cashflows_by a [] h k = (
  name (codes "cashflowsMatchParameters") refl,
  name (codes "true") refl,
  (name (codes "paymentCalculationPeriod") refl, h, tt),
)
cashflows_by a (x ∷ xs) h k = (
  name (codes "cashflowsMatchParameters") refl,
  name (codes "true") refl,
  (
    name (codes "paymentCalculationPeriod") refl,
    h,
    (name (codes "principalExchange") refl, map_clear IsExchangeShort exchange_value (x ∷ xs) exchange_clear k, tt),
  ),
)

stream_clear : (p : Part) → IsPartShort p → Clear (stream_value p)
unfolding cashflows_value
stream_clear p h = (
  name (codes "cashflows") refl,
  cashflows_by (array_of (map (payment_value p) p.payments)) p.exchanges
      (map_clear (IsPaymentShort p) (payment_value p) p.payments (λ y k. payment_clear p y h k) h.payments)
      h.exchanges,
  tt,
)

-- the value of a schedule has UTF-8 for names and strings
pub emit_clear : (s : List Part) → Every IsPartShort s → Clear (emit_value s)
unfolding emit_value
emit_clear s h = (
  name (codes "swap") refl,
  (name (codes "swapStream") refl, map_clear IsPartShort stream_value s stream_clear h, tt),
  tt,
)
