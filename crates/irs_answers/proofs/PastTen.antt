-- In a schedule that breaks no rule, a payment with an amount has rates of at most 10 alone.
use Rattle.std.proofs.Common.{◌≡◌, inl, inr, ℕ, zero, suc, ◌+◌, ◌-◌, ◌<◌, ◌≤◌, List, [], ◌∷◌, ◌++◌, length, take, false}
use Rattle.std.proofs.Common.{Option, Some, None, IsSome, IsSomeAnd, option_map, ℤ, unsigned_abs, refl, sym, ap, subst}
use Rattle.std.proofs.Common.{arith, append_assoc}
use Rattle.std.specs.Prelude.{slice_get}
use Rattle.std.proofs.lemmas.Bool.{cases_lt}
use Rattle.std.proofs.lemmas.List.{append-nil}
use Rattle.std.proofs.lemmas.Option.{get_or_from_slice_get, same_Some, slice_get_within}
use Rattle.irs_base.specs.Limits.{most_rate}
use Rattle.irs_base.specs.declared.line.Dec.{Dec}
use Rattle.irs_base.proofs.MemberLemmas.{numbered_get}
use Rattle.irs_terms.specs.Lawful.{decimals_of, IsLawfulStream, IsRate}
use Rattle.irs_terms.specs.Private.TermDates.{AllStepsRise}
use Rattle.irs_terms.specs.declared.amounts.FloatTerms.{FloatTerms}
use Rattle.irs_terms.specs.declared.amounts.Leg.{Leg}
use Rattle.irs_terms.specs.declared.amounts.Leg.TheVariants.{Fixed, Floating}
use Rattle.irs_terms.specs.declared.codes.CompCode.{CompCode}
use Rattle.irs_terms.specs.declared.parameters.CalculationParameters.{CalculationParameters}
use Rattle.irs_terms.specs.declared.results.Payment.{Payment}
use Rattle.irs_terms.specs.declared.stream.Stream.{Stream}
use Rattle.irs_terms.specs.declared.stream_list.Swap.{Swap}
use Rattle.irs_calendar.specs.GoodDays.{DaySet}
use Rattle.irs_calendar.specs.declared.sections.Section.{Section}
use Rattle.irs_resets.specs.Rates.{RateTable}
use Rattle.irs_rules.specs.TermsRules.{TermsKept}
use Rattle.irs_compound.specs.Amounts.{AllPriced, AmountOf, Follows, FollowsFrom, PeriodPasses, RatesWithin}
use Rattle.irs_compound.specs.Amounts.{StandsAfter, code_for}
use Rattle.irs_compound.specs.declared.periods.Parts.{Parts}
use Rattle.irs_compound.specs.declared.periods.PeriodTerm.{PeriodTerm}
use Rattle.irs_compound.specs.declared.periods.Rates.{Rates}
use Rattle.irs_schedule.specs.DaySets.{stream_sets}
use Rattle.irs_schedule.specs.Parts.{are_given, is_daily, kept_terms_of, Part}
use Rattle.irs_schedule.specs.Schedules.{entry_of, resets_over, stream_of, periods_by, IsPeriodEntry, IsPeriodTerm}
use Rattle.irs_schedule.specs.Schedules.{StreamDates, dec_of, layout_dates}
use Rattle.irs_schedule.specs.RowsOf.{dated_period}
use Rattle.irs_schedule.specs.declared.entries.PaymentEntry.{PaymentEntry}
use Rattle.irs_schedule.specs.declared.entries.PeriodEntry.{PeriodEntry}
use Rattle.irs_schedule.proofs.Events.{events_are}
use Rattle.irs_schedule.proofs.LayoutLemmas.{layout_some}
use Rattle.irs_schedule.proofs.LayoutRules.{layout_kept}
use Rattle.irs_schedule.proofs.RateLemmas.{AreAbove, resets_above, with_rates}
use Rattle.irs_schedule.proofs.TermsThere.{entries_stand}
use Rattle.irs_schedule.proofs.Unique.{one_entry}
use Rattle.irs_accrue.specs.Accruals.{AccruesIn, IsAccrual, IsPriced}
use Rattle.irs_accrue.specs.DailyAccruals.{IsAccrualBy, IsAccrualWith}
use Rattle.irs_accrue.specs.declared.accruals.Accrual.{Accrual}
use Rattle.irs_answers.specs.PrintedRates.{IsKeptSchedule, PaidWithinTen, PastTenUnpaid, PaysPeriod, UnaccruedUnpaid}
use Rattle.irs_answers.proofs.KeptParts.{item_of, member_at, staged_at}

-- ---- the parts of a payment's periods

-- the parts of the periods before a place, and those of the period there
record Reached (code : CompCode) (before : List Parts) (ps : List PeriodTerm) (k : ℕ) (p : PeriodTerm) : Type 0 where
  earlier : List Parts
  follows : FollowsFrom code before (take k ps) earlier
  parts : Parts
  stands : StandsAfter code p (before ++ earlier) parts

reached : (code : CompCode) (before : List Parts) (ps : List PeriodTerm) (cs : List Parts) (k : ℕ) (p : PeriodTerm)
    → FollowsFrom code before ps cs → slice_get ps k ≡ Some p → Reached code before ps k p
reached code before [] cs k p h at = absurd (omega (arith, slice_get_within [] k p at))
reached code before (q ∷ ps) [] k p h at = absurd h
reached code before (q ∷ ps) (c ∷ cs) zero p h at =
    let own : StandsAfter code p before c = subst (λ (x : PeriodTerm). StandsAfter code x before c) (same_Some q p at) h.0 in
    record { earlier = []; follows = tt; parts = c; stands = rw append-nil own }
reached code before (q ∷ ps) (c ∷ cs) (suc k) p h at =
    let rest = reached code (before ++ c ∷ []) ps cs k p h.1 at in
    record {
      earlier = c ∷ rest.earlier;
      follows = (h.0, rest.follows);
      parts = rest.parts;
      stands = subst (λ (xs : List Parts). StandsAfter code p xs rest.parts) (append_assoc before (c ∷ []) rest.earlier)
          rest.stands;
    }

-- where no period leaves the range, each rate is at most 10 in size
rate_within : (code : CompCode) (ps : List PeriodTerm) (cs : List Parts) (k : ℕ) (p : PeriodTerm) (r : Rates)
    → Follows code ps cs → slice_get ps k ≡ Some p → p.rates ≡ Some r → ((n : ℕ) → PeriodPasses code ps n → ⊥)
    → IsRate r.all_in
rate_within code ps cs k p r follows at priced none = elim (cases_lt most_rate (unsigned_abs r.all_in)) [
  | inl more ↦
      let x = reached code [] ps cs k p follows at in
      let place : k + 1 - 1 ≡ k = omega arith in
      let fails : IsSomeAnd p.rates RatesWithin → ⊥ = λ w.
      let both : RatesWithin r = subst (λ (o : Option Rates). IsSomeAnd o RatesWithin) priced w in
      let small : unsigned_abs r.all_in ≤ most_rate = both.1 in
      omega (arith, more, small) in
      absurd (none (k + 1) (record {
        from_one = omega arith;
        earlier = x.earlier;
        period = p;
        parts = x.parts;
        there = subst (λ (m : ℕ). slice_get ps m ≡ Some p) (sym place) at;
        follows = subst (λ (m : ℕ). Follows code (take m ps) x.earlier) (sym place) x.follows;
        stands = x.stands;
        passes = λ within. fails within.0;
      }))
  | inr fits ↦ fits
]

known_within : (code : CompCode) (ps : List PeriodTerm) (cs : List Parts) (k : ℕ) (p : PeriodTerm)
    → Follows code ps cs → slice_get ps k ≡ Some p → ((n : ℕ) → PeriodPasses code ps n → ⊥)
    → (rates : Option Rates) → p.rates ≡ rates → IsSome rates
    → IsSomeAnd (option_map (λ (r : Rates). r.all_in) rates) IsRate
known_within code ps cs k p follows at none None is some = absurd (cc)
known_within code ps cs k p follows at none (Some r) is some = rate_within code ps cs k p r follows at is none

-- an amount is what periods with rates pay
record Priced (code : CompCode) (ps : List PeriodTerm) : Type 0 where
  all : AllPriced ps
  parts : List Parts
  follows : Follows (code_for code ps) ps parts

priced_by : (code : CompCode) (ps : List PeriodTerm) (places : ℕ) (units : Option ℤ) → AmountOf code ps places units
    → IsSome (option_map (dec_of places) units) → Priced code ps
priced_by code ps places None h some = absurd (cc)
priced_by code ps places (Some m) h some =
    record { all = h.0; parts = h.1.parts; follows = h.1.follows }

-- ---- a payment

module _ (d : StreamDates) (rises : AllStepsRise d.stream) (above : AreAbove d.rates) where
  -- the rate of a period is that of its terms
  entry_rate : (i : ℕ) (t : PeriodTerm) (e : PeriodEntry) → IsPeriodTerm d i t → IsPeriodEntry d i e
      → e.rate ≡ option_map (λ (r : Rates). r.all_in) t.rates
  entry_rate i t e is h =
      let made : PeriodEntry = record {
        days = e.days;
        frac = t.frac;
        notional = t.notional;
        rate = option_map (λ (r : Rates). r.all_in) t.rates;
      } in
      let own : IsPeriodEntry d i made = record {
        term = t;
        is_term = is;
        days = h.days;
        frac = refl;
        notional = refl;
        rate = refl;
      } in
      ap (λ (x : PeriodEntry). x.rate) (one_entry d rises above i e made h own)

  -- in a payment with an amount the rate of each period is at most 10 in size
  payment_within : (q : Payment) (y : PaymentEntry) → (entry_of d q).Answers y → IsSome y.amount → (i : ℕ)
      (e : PeriodEntry) → y.first_period ≤ i → i ≤ y.last_period → IsPeriodEntry d i e → IsSomeAnd e.rate IsRate
  payment_within q y h paid i e from to is =
      let places = decimals_of d.stream.currency.letters in
      let ts = h.0 in
      let are = h.1 in
      let same = h.2.2 in
      let first : y.first_period ≡ q.first_period = ap (λ (z : PaymentEntry). z.first_period) same in
      let last : y.last_period ≡ q.last_period = ap (λ (z : PaymentEntry). z.last_period) same in
      let some : IsSome (option_map (dec_of places) h.2.0) =
      subst IsSome (ap (λ (z : PaymentEntry). z.amount) same) paid in
      let priced = priced_by d.stream.compounding ts places h.2.0 h.2.1.1 some in
      let k = i - q.first_period in
      let count = are.count in
      let low : k < length ts = omega (arith, from, to, first, last, count) in
      let t = member_at ts k low in
      let number : q.first_period + k ≡ i = omega (arith, from, first) in
      let is_term : IsPeriodTerm d i t.0 =
      subst (λ (n : ℕ). IsPeriodTerm d n t.0) number
      (numbered_get (IsPeriodTerm d) q.first_period k ts t.0 are.each t.1) in
      let there : IsSome t.0.rates =
      subst (λ (p : PeriodTerm). IsSome p.rates) (get_or_from_slice_get ts k t.0 t.0 t.1) (priced.all k t.0 low) in
      let within =
      known_within (code_for d.stream.compounding ts) ts priced.parts k t.0 priced.follows t.1
      (λ n passes. h.2.1.0 n (priced.all, passes)) t.0.rates refl there in
      subst (λ (o : Option ℤ). IsSomeAnd o IsRate) (sym (entry_rate i t.0 e is_term is)) within

-- ---- a part

module _ (cal : List Section) (fix : RateTable) (s : Stream) (p : Part) (lawful : IsLawfulStream s)
    (kept : TermsKept cal s) (g : (stream_of (stream_sets cal s) fix s).Answers p) where
  part_within : PaidWithinTen p
  unfolding stream_of
  part_within y i e pays paid =
      let sets = stream_sets cal s in
      let l = g.0 in
      let d = g.2.0 in
      let es = g.2.2.0 in
      let laid = layout_kept sets s l g.1 in
      let dates = layout_dates s l d.resets d.rates in
      let dated = events_are sets fix s l d g.2.1 in
      let above =
      resets_above (resets_over sets s l) sets.applicable fix s.leg (with_rates d.resets d.rates) dated.resets in
      let some = layout_some sets s lawful kept.dates l laid in
      let stand = entries_stand dates laid.rises above (omega (arith, some, laid.adjusted.same_length)) in
      let ps = periods_by (kept_terms_of s) l.unadjusted l.adjusted d.resets d.rates in
      let payment : slice_get es pays.place ≡ Some y =
      subst (λ (x : Part). slice_get x.payments pays.place ≡ Some y) g.2.2.2 pays.payment in
      let period : slice_get ps (i - 1) ≡ Some e =
      subst (λ (x : Part). slice_get x.periods (i - 1) ≡ Some e) g.2.2.2 pays.period in
      let given = item_of (λ _ q. entry_of dates q) 1 d.payments es g.2.2.1.1 pays.place y payment in
      let low = pays.from_one in
      let number : 1 + (i - 1) ≡ i = omega (arith, low) in
      let entry : IsPeriodEntry dates i e =
      subst (λ (n : ℕ). IsPeriodEntry dates n e) number
      (numbered_get (IsPeriodEntry dates) 1 (i - 1) ps e stand period) in
      payment_within dates (kept.notional_rises, kept.leg_rises) above given.item y given.answers paid i e pays.from
      pays.to entry

-- ---- what follows where a rate is past 10, or nothing is known to have accrued

unpaid : (amount : Option Dec) → (IsSome amount → ⊥) → amount ≡ None
unpaid None none = refl
unpaid (Some v) none = absurd (none refl)

past_unpaid : (p : Part) → PaidWithinTen p → PastTenUnpaid p
past_unpaid p within y i e rate pays is past =
    unpaid y.amount (λ paid.
    let own : IsRate rate = subst (λ (o : Option ℤ). IsSomeAnd o IsRate) is (within y i e pays paid) in
    let small : unsigned_abs rate ≤ most_rate = own in
    omega (arith, past, small))

priced_one : (known : Option ℤ) → IsSomeAnd known IsRate → (rate : ℤ) × IsPriced known rate
priced_one None h = absurd h
priced_one (Some rate) h = (rate, record { is = refl; within = h })

accrued_unpaid : (p : Part) → PaidWithinTen p → (d : ℤ) (i : ℕ) (days : ℤ) (frac : _) (y : PaymentEntry)
    (e : PeriodEntry) → AccruesIn p d i days frac None → PaysPeriod p y i e → y.amount ≡ None
accrued_unpaid p within d i days frac y e x pays =
    unpaid y.amount (λ paid.
    let known = priced_one e.rate (within y i e pays paid) in
    let view = dated_period p (i - 1 + 1) in
    let made : Some (view e) ≡ Some x.period =
    subst (λ (o : Option PeriodEntry). option_map view o ≡ Some x.period) pays.period x.runs.is in
    let rate : e.rate ≡ x.period.rate = ap (λ v. v.rate) (same_Some (view e) x.period made) in
    x.accrued known.0 (subst (λ (o : Option ℤ). IsPriced o known.0) rate known.1))

-- without calculation parameters what has accrued is by the rates of the periods
plain_with : (parameters : Option CalculationParameters) (float : FloatTerms) (s : Stream) (applicable : DaySet)
    (fix : RateTable) (p : Part) (d : ℤ) (a : Accrual) → are_given parameters ≡ false
    → IsAccrualWith parameters float s applicable fix p d a → IsAccrual p d a
plain_with None float s applicable fix p d a plain h = h
plain_with (Some parameters) float s applicable fix p d a plain h = absurd (cc)

plain_by : (leg : Leg) (s : Stream) (applicable : DaySet) (fix : RateTable) (p : Part) (d : ℤ) (a : Accrual)
    → is_daily leg ≡ false → IsAccrualBy leg s applicable fix p d a → IsAccrual p d a
plain_by (Fixed values) s applicable fix p d a plain h = h
plain_by (Floating float) s applicable fix p d a plain h =
    plain_with float.parameters float s applicable fix p d a plain h

-- ---- a schedule

module _ (swap : Swap) (cal : List Section) (fix : RateTable) (parts : List Part)
    (h : IsKeptSchedule swap cal fix parts) (place : ℕ) (p : Part) (at : slice_get parts place ≡ Some p) where
  -- in a payment with an amount the rate of each period is known, and at most 10 in size
  pub paid_within_ten : PaidWithinTen p
  paid_within_ten =
      let one = staged_at swap cal fix parts h place p at in
      part_within cal fix one.stream p one.lawful one.kept one.answers

  -- a rate past 10 is in a payment without an amount
  pub past_ten_unpaid : PastTenUnpaid p
  past_ten_unpaid = past_unpaid p paid_within_ten

  -- where what has accrued has no amount, the payment has none
  pub unaccrued_unpaid : (s : Stream) → slice_get swap.streams place ≡ Some s → is_daily s.leg ≡ false
      → UnaccruedUnpaid s p
  unaccrued_unpaid s there plain applicable other d i days frac y e a pays =
      accrued_unpaid p paid_within_ten d i days frac y e (plain_by s.leg s applicable other p d _ plain a) pays
