-- The first departure among the rows of a stream.
use Rattle.std.proofs.Common.{◌≡◌, ℕ, Bool, true, false, ◌+◌, ◌-◌, ◌<◌, ◌≤◌, List, length, Option, Some, None, ◌⊎◌, inl}
use Rattle.std.proofs.Common.{inr, refl, sym, ◌∙◌, ap, subst, arith}
use Rattle.std.specs.Prelude.{slice_get, if◌then◌else◌}
use Rattle.std.proofs.lemmas.Option.{slice_get_past, slice_get-get_or, slice_get_cases}
use Rattle.std.specs.Option.{option_or}
use Rattle.std.proofs.lemmas.Bool.{cases_lt, cases_order}
use Rattle.irs_schedule.specs.Parts.{Part, KeepsBounds}
use Rattle.irs_schedule.specs.RowsOf.{period_at}
use Rattle.irs_audit.specs.declared.departures.Departure.{Departure}
use Rattle.irs_audit.specs.declared.departures.Field.{Field}
use Rattle.irs_audit.specs.declared.departures.Field.TheVariants.{Extra}
use Rattle.irs_audit.specs.declared.departures.RowKind.{RowKind}
use Rattle.irs_audit.specs.declared.departures.RowKind.TheVariants.{Stream, Exchange, Payment, Period, Reset}
use Rattle.irs_audit.specs.Verdicts.{RowDeparts, KindDeparts, kind_place, field_before, departs_before, ExchangeDeparts}
use Rattle.irs_audit.specs.Verdicts.{PaymentDeparts, PeriodDeparts}
use Rattle.irs_flows.specs.FlowReading.{FlowPart}
use Rattle.irs_audit.specs.Private.Comparisons.{AmongRows, AmongStream}
use Rattle.irs_audit.proofs.OrderLemmas.{first_of_both}
use Rattle.irs_base.specs.Outcomes.{First, IsFirst, level}
use Rattle.irs_base.proofs.Firsts.{first_same, level_same, level_later}

module _ (kind : RowKind) (p : Part) (g : FlowPart) where
  -- no row of the kind before place i departs
  abbrev pub NoneBelow : ℕ → Type 0
  NoneBelow i = (j : ℕ) (f : Field) → j < i → KindDeparts kind p g j f → ⊥

  -- where the row at place i doesn't depart either, no row up to it does
  pub none_more : (i : ℕ) → NoneBelow i → IsFirst field_before (KindDeparts kind p g i) None → NoneBelow (i + 1)
  none_more i below here j f h d =
      elim (cases_order j i) [
        | inl e ↦
            here f (let Q : ℕ → Type 0 = λ n. KindDeparts kind p g n f in subst Q e d)
        | inr (inl l) ↦
            below j f l d
        | inr (inr l) ↦ omega (arith, h, l)
      ]

  -- before the first row none departs
  pub none_before : NoneBelow 0
  none_before j f h d = omega (arith, h)

  -- where no row departs, there is no first departure
  pub none_found : (k last : ℕ) → NoneBelow last → IsFirst departs_before (AmongRows k kind p g last) None
  none_found k last below = λ d m. let low = m.low in let high = m.high in
      below (d.row - 1) d.field (omega (arith, low, high)) m.departs

  found_order : (i : ℕ) (field : Field) → NoneBelow i → First field_before (KindDeparts kind p g i) field
      → (row : ℕ) (f : Field) → 0 < row → KindDeparts kind p g (row - 1) f
      → level row (i + 1) (field_before f field) ≡ false
  found_order i field below here row f low d = elim (cases_order (row - 1) i) [
    | inl e ↦ level_same row (i + 1) _ (omega (arith, low, e))
        (here.1 f (let Q : ℕ → Type 0 = λ n. KindDeparts kind p g n f in subst Q e d))
    | inr (inl l) ↦ absurd (below (row - 1) f l d)
    | inr (inr l) ↦ level_later row (i + 1) _ (omega (arith, low, l))
  ]

  -- the first departure of the first row that departs is the first of all
  pub row_found : (k last i : ℕ) (field : Field) → i < last → NoneBelow i
      → First field_before (KindDeparts kind p g i) field
      → First departs_before (AmongRows k kind p g last)
      (record { stream = k; kind = kind; row = i + 1; field = field })
  row_found k last i field within below here =
      let back : i + 1 - 1 ≡ i = omega arith in
      let Q : ℕ → Type 0 = λ n. KindDeparts kind p g n field in (
        record {
          stream = refl;
          is_kind = refl;
          low = omega arith;
          high = omega (arith, within);
          departs =
              subst Q (sym back) here.0;
        },
        λ e m. level_same e.stream k _ m.stream
            (level_same (kind_place e.kind) (kind_place kind) _ (ap kind_place m.is_kind)
            (found_order i field below here e.row e.field m.low m.departs)),
      )

-- all departures of a kind
pub record OfKind (k : ℕ) (kind : RowKind) (p : Part) (g : FlowPart) (d : Departure) : Type 0 where
  pub stream : d.stream ≡ k
  pub is_kind : d.kind ≡ kind
  pub low : 0 < d.row
  pub departs : KindDeparts kind p g (d.row - 1) d.field

-- a departure of the kind whose row is at most n is among the rows up to n
up_to : (k : ℕ) (kind : RowKind) (p : Part) (g : FlowPart) (n : ℕ) (d : Departure) → OfKind k kind p g d → d.row ≤ n
    → AmongRows k kind p g n d
up_to k kind p g n d m h = record { stream = m.stream; is_kind = m.is_kind; low = m.low; high = h; departs = m.departs }

all_rows : (k : ℕ) (kind : RowKind) (p : Part) (g : FlowPart) (n : ℕ) (d : Departure) → AmongRows k kind p g n d
    → OfKind k kind p g d
all_rows k kind p g n d m = record { stream = m.stream; is_kind = m.is_kind; low = m.low; departs = m.departs }

extra_at : (k : ℕ) (kind : RowKind) (p : Part) (g : FlowPart) (n : ℕ) → KindDeparts kind p g n Extra
    → AmongRows k kind p g (n + 1) (record { stream = k; kind = kind; row = n + 1; field = Extra })
extra_at k kind p g n x =
    let back : n + 1 - 1 ≡ n = omega arith in
    let Q : ℕ → Type 0 = λ i. KindDeparts kind p g i Extra in
    record { stream = refl; is_kind = refl; low = omega arith; high = omega arith; departs = subst Q (sym back) x }

later_row : (k : ℕ) (kind : RowKind) (d e : Departure) → d.stream ≡ k → d.kind ≡ kind → e.stream ≡ k → e.kind ≡ kind
    → d.row < e.row → departs_before e d ≡ false
later_row k kind d e a b c f h =
    level_same e.stream d.stream _ (c ∙ sym a)
    (level_same (kind_place e.kind) (kind_place d.kind) _ (ap kind_place (f ∙ sym b)) (level_later e.row d.row _ h))

-- where a departure from place n on makes row n + 1 extra, the first up to that row is the first of all
pub extended : (k : ℕ) (kind : RowKind) (p : Part) (g : FlowPart) (n : ℕ) (o : Option Departure)
    → ((j : ℕ) (f : Field) → n ≤ j → KindDeparts kind p g j f → KindDeparts kind p g n Extra)
    → IsFirst departs_before (AmongRows k kind p g (n + 1)) o → IsFirst departs_before (OfKind k kind p g) o
extended k kind p g n None past h = λ d m. elim (cases_lt (n + 1) d.row) [
  | inl l ↦ h (record { stream = k; kind = kind; row = n + 1; field = Extra })
      (extra_at k kind p g n (past (d.row - 1) d.field (omega (arith, l)) m.departs))
  | inr l ↦ h d (up_to k kind p g (n + 1) d m l)
]
extended k kind p g n (Some d) past h =
    let m = h.0 in (
      all_rows k kind p g (n + 1) d m,
      λ e x. elim (cases_lt (n + 1) e.row) [
        | inl l ↦ let high = m.high in
            later_row k kind d e m.stream m.is_kind x.stream x.is_kind (omega (arith, high, l))
        | inr l ↦ h.1 e (up_to k kind p g (n + 1) e x l)
      ],
    )

stands : {X Y : Type 0} (Fields : X → Y → Field → Type 0) (xn : Option X) (ys : List Y) (n j : ℕ) (f : Field) → n ≤ j
    → xn ≡ None → RowDeparts Fields None (slice_get ys j) f → RowDeparts Fields xn (slice_get ys n) Extra
stands {X} {Y} Fields xn ys n j f h en d = elim (slice_get_cases ys j).1 [
  | inl w ↦ let low : j < length ys = w.1 in let e = slice_get-get_or ys n w.0 (omega (arith, h, low)) in
      rw (en, e) refl
  | inr w ↦ absurd (let D : Option Y → Type 0 = λ o. RowDeparts Fields None o f in subst D w.1 d)
]

-- where the schedule ends before place n and a later row departs, the flows' row at place n is extra
extra_before : {X Y : Type 0} (Fields : X → Y → Field
    → Type 0) (x : Option X) (xn : Option X) (ys : List Y) (n j : ℕ) (f : Field) → n ≤ j → x ≡ None → xn ≡ None
    → RowDeparts Fields x (slice_get ys j) f → RowDeparts Fields xn (slice_get ys n) Extra
extra_before {X} {Y} Fields x xn ys n j f h e en d =
    let D : Option X → Type 0 = λ o. RowDeparts Fields o (slice_get ys j) f in
    stands Fields xn ys n j f h en (subst D e d)

exchanges_past : (p : Part) (g : FlowPart) (j : ℕ) (f : Field) → length p.exchanges ≤ j → KindDeparts Exchange p g j f
    → KindDeparts Exchange p g (length p.exchanges) Extra
exchanges_past p g j f h d =
    let n = length p.exchanges in
    extra_before ExchangeDeparts (slice_get p.exchanges j) (slice_get p.exchanges n) g.exchanges n j f h
    (slice_get_past p.exchanges j h) (slice_get_past p.exchanges n (omega arith)) d

payments_past : (p : Part) (g : FlowPart) (j : ℕ) (f : Field) → length p.payments ≤ j → KindDeparts Payment p g j f
    → KindDeparts Payment p g (length p.payments) Extra
payments_past p g j f h d =
    let n = length p.payments in
    extra_before (PaymentDeparts p.currency) (slice_get p.payments j) (slice_get p.payments n) g.payments n j f h
    (slice_get_past p.payments j h) (slice_get_past p.payments n (omega arith)) d

no_period : (p : Part) (j : ℕ) → length p.periods ≤ j → period_at p j ≡ None
no_period p j h = rw (slice_get_past p.periods j h) refl

periods_past : (p : Part) (g : FlowPart) (j : ℕ) (f : Field) → length p.periods ≤ j → KindDeparts Period p g j f
    → KindDeparts Period p g (length p.periods) Extra
periods_past p g j f h d =
    let n = length p.periods in
    extra_before PeriodDeparts (period_at p j) (period_at p n) g.periods n j f h (no_period p j h)
    (no_period p n (omega arith)) d

-- where a reset after the last period departs, its period is extra
resets_past : (p : Part) (g : FlowPart) (j : ℕ) (f : Field) → length p.resets ≤ length p.periods → length p.periods ≤ j
    → KindDeparts Reset p g j f → KindDeparts Period p g j Extra
resets_past p g j f few h d =
    let none = slice_get_past p.resets j (omega (arith, few, h)) in
    let past = no_period p j h in
    elim (slice_get_cases g.periods j).1 [
      | inl w ↦ let e = w.2 in rw (past, e) refl
      | inr w ↦ absurd (let e = w.1 in rw (none, e) at d)
    ]

few_if : (b : Bool) (m n : ℕ) → m ≡ (if b then n else 0) → m ≤ n
few_if true m n e = omega (arith, e)
few_if false m n e = omega (arith, e)

-- a stream has at most one reset a period
pub resets_few : (p : Part) → KeepsBounds p → length p.resets ≤ length p.periods
resets_few p h = few_if p.floating (length p.resets) (length p.periods) h.resets

within_periods : (k : ℕ) (p : Part) (g : FlowPart) (o : Option Departure) → KeepsBounds p
    → ((j : ℕ) (f : Field) → KindDeparts Period p g j f → ⊥)
    → IsFirst departs_before (AmongRows k Reset p g (length p.periods)) o
    → IsFirst departs_before (OfKind k Reset p g) o
within_periods k p g o bounds never h =
    let n = length p.periods in
    first_same departs_before (AmongRows k Reset p g n) (OfKind k Reset p g) o (all_rows k Reset p g n)
    (λ d m. elim (cases_lt n d.row) [
      | inl l ↦ absurd (never (d.row - 1) Extra
          (resets_past p g (d.row - 1) d.field (resets_few p bounds) (omega (arith, l)) m.departs))
      | inr l ↦ up_to k Reset p g n d m l
    ]) h

by_kind : (k : ℕ) (a b : RowKind) (p : Part) (g : FlowPart) (d e : Departure) → kind_place a < kind_place b
    → OfKind k a p g d → OfKind k b p g e → departs_before e d ≡ false
by_kind k a b p g d e h m n =
    let c = ap kind_place m.is_kind in
    let f = ap kind_place n.is_kind in
    level_same e.stream d.stream _ (n.stream ∙ sym m.stream)
    (level_later (kind_place e.kind) (kind_place d.kind) _ (omega (arith, c, f, h)))

module _ (k : ℕ) (p : Part) (g : FlowPart) where
  -- a departure among the exchanges or the payments
  abbrev UpToPayments : Departure → Type 0
  UpToPayments d = OfKind k Exchange p g d ⊎ OfKind k Payment p g d

  -- a departure among the exchanges, the payments or the calculation periods
  abbrev UpToPeriods : Departure → Type 0
  UpToPeriods d = UpToPayments d ⊎ OfKind k Period p g d

  -- a departure among the rows of any of the four kinds
  abbrev OfEach : Departure → Type 0
  OfEach d = UpToPeriods d ⊎ OfKind k Reset p g d

  whole : (kind : RowKind) (d : Departure) → OfKind k kind p g d → AmongStream k p g d
  whole kind d m =
      let Q : RowKind → Type 0 = λ a. KindDeparts a p g (d.row - 1) d.field in
      record { stream = m.stream; low = m.low; departs = subst Q (sym m.is_kind) m.departs }

  from_each : (d : Departure) → OfEach d → AmongStream k p g d
  from_each d (inl (inl (inl m))) = whole Exchange d m
  from_each d (inl (inl (inr m))) = whole Payment d m
  from_each d (inl (inr m)) = whole Period d m
  from_each d (inr m) = whole Reset d m

  by_its_kind : (kind : RowKind) (d : Departure) → d.kind ≡ kind → d.stream ≡ k → 0 < d.row
      → KindDeparts kind p g (d.row - 1) d.field → OfEach d
  by_its_kind Stream d e a low h = absurd h
  by_its_kind Exchange d e a low h = inl (inl (inl (record { stream = a; is_kind = e; low = low; departs = h })))
  by_its_kind Payment d e a low h = inl (inl (inr (record { stream = a; is_kind = e; low = low; departs = h })))
  by_its_kind Period d e a low h = inl (inr (record { stream = a; is_kind = e; low = low; departs = h }))
  by_its_kind Reset d e a low h = inr (record { stream = a; is_kind = e; low = low; departs = h })

  to_each : (d : Departure) → AmongStream k p g d → OfEach d
  to_each d m = by_its_kind d.kind d refl m.stream m.low m.departs

  period_at_row : ((d : Departure) → UpToPeriods d → ⊥) → (j : ℕ) (f : Field) → KindDeparts Period p g j f → ⊥
  period_at_row never j f h =
      let back : j + 1 - 1 ≡ j = omega arith in
      let Q : ℕ → Type 0 = λ i. KindDeparts Period p g i f in
      never (record { stream = k; kind = Period; row = j + 1; field = f })
      (inr (record { stream = refl; is_kind = refl; low = omega arith; departs = subst Q (sym back) h }))

  -- the first of the four kinds in order is the first of the stream
  pub stream_first : (a b c d : Option Departure) → KeepsBounds p
      → IsFirst departs_before (AmongRows k Exchange p g (length p.exchanges + 1)) a
      → IsFirst departs_before (AmongRows k Payment p g (length p.payments + 1)) b
      → IsFirst departs_before (AmongRows k Period p g (length p.periods + 1)) c
      → IsFirst departs_before (AmongRows k Reset p g (length p.periods)) d
      → IsFirst departs_before (AmongStream k p g) (option_or (option_or (option_or a b) c) d)
  stream_first a b c d bounds ha hb hc hd =
      let X = extended k Exchange p g (length p.exchanges) a (exchanges_past p g) ha in
      let P = extended k Payment p g (length p.payments) b (payments_past p g) hb in
      let C = extended k Period p g (length p.periods) c (periods_past p g) hc in
      let XP = first_of_both (OfKind k Exchange p g) (OfKind k Payment p g) a b
      (λ d e m n. by_kind k Exchange Payment p g d e (omega arith) m n) X (λ _. P) in
      let XPC = first_of_both UpToPayments (OfKind k Period p g) (option_or a b) c
      (λ d e m n. elim m [
        | inl x ↦ by_kind k Exchange Period p g d e (omega arith) x n
        | inr x ↦
            by_kind k Payment Period p g d e (omega arith) x n
      ])
      XP (λ _. C) in
      let each = first_of_both UpToPeriods (OfKind k Reset p g) (option_or (option_or a b) c) d
      (λ d e m n. elim m [
        | inl y ↦ elim y [
          | inl x ↦ by_kind k Exchange Reset p g d e (omega arith) x n
          | inr x ↦
              by_kind k Payment Reset p g d e (omega arith) x n
        ]
        | inr x ↦ by_kind k Period Reset p g d e (omega arith) x n
      ])
      XPC (λ never. within_periods k p g d bounds (period_at_row never) hd) in
      first_same departs_before OfEach (AmongStream k p g) (option_or (option_or (option_or a b) c) d) from_each to_each
      each
