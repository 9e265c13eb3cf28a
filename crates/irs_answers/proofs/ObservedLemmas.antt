-- The days that each rate is made of: the named stream, its rows, and why a schedule that was made has them.
use Rattle.std.proofs.Common.{◌≡◌, inr, ℕ, zero, suc, ◌+◌, ◌^◌, ◌<◌, List, [], ◌∷◌, length, Option, Some, None}
use Rattle.std.proofs.Common.{sym, ◌∙◌, ap, subst, arith}
use Rattle.std.specs.Prelude.{slice_get}
use Rattle.std.proofs.lemmas.Option.{same_Some, slice_get_within}
use Rattle.irs_base.specs.Outcomes.{Only, Spec, each_in_turn, refused_as}
use Rattle.irs_terms.specs.Faults.{in_stream}
use Rattle.irs_base.specs.Lists.{IsRising}
use Rattle.irs_base.proofs.EveryLemmas.{pairs_length}
use Rattle.irs_base.proofs.MemberLemmas.{numbered_map}
use Rattle.irs_base.proofs.Outcomes.{answer_there}
use Rattle.irs_terms.specs.Lawful.{IsLawfulStream}
use Rattle.irs_terms.specs.declared.amounts.FloatTerms.{FloatTerms}
use Rattle.irs_terms.specs.declared.amounts.Leg.{Leg}
use Rattle.irs_terms.specs.declared.amounts.Leg.TheVariants.{Floating}
use Rattle.irs_terms.specs.declared.parameters.CalculationParameters.{CalculationParameters}
use Rattle.irs_terms.specs.declared.results.Span.{Span}
use Rattle.irs_terms.specs.declared.stream.Stream.{Stream}
use Rattle.irs_terms.specs.declared.stream_list.Swap.{Swap}
use Rattle.irs_calendar.specs.declared.sections.Section.{Section}
use Rattle.irs_periods.specs.Spans.{Regular}
use Rattle.irs_periods.proofs.OneSpan.{one_span}
use Rattle.irs_resets.specs.Rates.{RateTable, SameRates}
use Rattle.irs_rules.proofs.Kept.{lawful_stream, terms_kept}
use Rattle.irs_rules.specs.TermsRules.{TermsKept}
use Rattle.irs_observed.specs.ObservedRates.{DailyRates, daily_rates, one_day}
use Rattle.irs_observed.specs.OvernightRates.{OvernightSource, overnight_source, rates_source}
use Rattle.irs_observed.specs.declared.overnight_rate.OvernightRate.{OvernightRate}
use Rattle.irs_daily.specs.Laws.{NoneOutOfRange}
use Rattle.irs_daily.specs.ObservedRows.{AreObservedRows, AreRowsOf, AreRowsOfKind, HasNoRows}
use Rattle.irs_daily.specs.declared.rows.NoRowsWhy.{NoRowsWhy}
use Rattle.irs_daily.specs.declared.rows.ObservedRow.{ObservedRow}
use Rattle.irs_daily.proofs.OneList.{one_list}
use Rattle.irs_daily.proofs.RowLaws.{rates_have_rows}
use Rattle.irs_periods.specs.Boundaries.{HasSpan}
use Rattle.irs_schedule.specs.DaySets.{stream_sets}
use Rattle.irs_schedule.specs.Schedules.{resets_over, schedule_of, stream_of, IsPart}
use Rattle.irs_schedule.specs.Parts.{Part, FactorPassesAt, resets_by, resets_in}
use Rattle.irs_schedule.proofs.LayoutRules.{layout_kept}
use Rattle.irs_schedule.proofs.OnePart.{one_schedule, schedule_determined, schedule_is}
use Rattle.irs_answers.specs.Tasks.{Accruing, accruing, AreRowsIn, DailyStream, IsDailyAt, daily_of, observations_of}
use Rattle.irs_answers.specs.Tasks.{source_in}
use Rattle.irs_answers.specs.Private.Outcomes.{IsAccruing, daily_stream}
use Rattle.irs_answers.proofs.Agreement.{IsOne, Within, only_within, same_within, then_within}

-- ---- the stream

-- floating legs that are equal have equal terms
pub same_leg : (f g : FloatTerms) → (let l : Leg = Floating f in l ≡ Floating g) → f ≡ g
same_leg f g e = cc

-- a value that is present isn't absent
pub some_none : {X : Type 0} (x : X) → (let o : Option X = Some x in o ≡ None) → ⊥
some_none x e = cc

-- a number names one stream with calculation parameters
pub one_daily : (swap : Swap) (n : ℕ) (x y : DailyStream) → IsDailyAt swap n x → IsDailyAt swap n y → y ≡ x
one_daily swap n x y h k =
    let s : y.stream ≡ x.stream = same_Some y.stream x.stream (sym k.at ∙ h.at) in
    let f : y.float ≡ x.float = same_leg y.float x.float (sym k.pays ∙ ap (λ (z : Stream). z.leg) s ∙ h.pays) in
    let p : y.parameters ≡ x.parameters =
    same_Some y.parameters x.parameters (sym k.has ∙ ap (λ (z : FloatTerms). z.parameters) f ∙ h.has) in
    λ i. record { stream = s i; float = f i; parameters = p i }

-- ---- one list of rows

module _ (n : ℕ) (x : Accruing) (parts : List Part) (y : DailyStream) where
  source_same : (a b : Span) (p q : Part) → a ≡ b → p ≡ q → source_in x.cal y a p ≡ source_in x.cal y b q
  source_same a b p q e f = λ i. source_in x.cal y (e i) (f i)

  -- a stream has one list of rows
  pub one_rows : (a b : List ObservedRow) → AreRowsIn n x parts y a → AreRowsIn n x parts y b → b ≡ a
  one_rows a b h k =
      let part : k.part ≡ h.part = same_Some k.part h.part (sym k.there ∙ h.there) in
      let span : k.span ≡ h.span = one_span y.stream k.span h.span k.regular h.regular in
      let here = source_in x.cal y h.span h.part in
      one_list here x.table b a
      (subst (λ (source : OvernightSource). AreObservedRows source x.table b)
      (source_same k.span h.span k.part h.part span part) k.are) h.are

  -- a list of rows of a stream is the only one
  pub only_rows : (rows : List ObservedRow) → AreRowsIn n x parts y rows → Only (AreRowsIn n x parts y) rows
  only_rows rows are = record { is = are; only = λ b k. one_rows rows b are k }

-- a number names one stream with calculation parameters, or none
pub one_observed : (swap : Swap) (n : ℕ) → IsOne (daily_of swap n)
one_observed swap n = record {
  answers = λ x y h k. one_daily swap n y x k h;
  refuses = λ b c h k. h.1 ∙ sym k.1;
  apart = λ x b at none. none.0 x at;
  back = λ x b none at. none.0 x at;
}

-- ---- rates alone

module _ (t u : RateTable) (e : SameRates t u) where
  list_same : (source : OvernightSource) (rows : List ObservedRow) → AreObservedRows source t rows
      → AreObservedRows source u rows
  list_same source rows h =
      let daily : daily_rates t source.index ≡ daily_rates u source.index =
      λ i d. e source.index (record { date = d; tenor = Some one_day }) i in
      record {
        parts = h.parts;
        many = h.many;
        each = numbered_map (AreRowsOf source t) (AreRowsOf source u) 1 h.parts
            (λ m part low high is. record {
              kind = is.kind;
              is_kind = is.is_kind;
              are_rows = subst (λ (rates : DailyRates). AreRowsOfKind source rates m is.kind part) daily is.are_rows;
            }) h.each;
        is = h.is;
      }

  rows_same : (swap : Swap) (cal : List Section) (n : ℕ) (parts : List Part) (y : DailyStream) (rows : List ObservedRow)
      → AreRowsIn n (accruing swap cal t) parts y rows → AreRowsIn n (accruing swap cal u) parts y rows
  rows_same swap cal n parts y rows h = record {
    part = h.part;
    there = h.there;
    span = h.span;
    regular = h.regular;
    are = list_same (source_in cal y h.span h.part) rows h.are;
  }

-- what is due depends on a table of rates by its rates alone
pub observations_within : (t u : RateTable) → SameRates t u → (swap : Swap) (cal : List Section) (parts : List Part) (n : ℕ)
    → Within (observations_of n (accruing swap cal t) parts) (observations_of n (accruing swap cal u) parts)
observations_within t u e swap cal parts n =
    let back : SameRates u t = λ index slot. sym (e index slot) in
    then_within _ _ _ _ (same_within _) (λ y.
    then_within _ _ _ _ (only_within _ _ (rows_same t u e swap cal n parts y) (rows_same u t back swap cal n parts y)) (λ rows.
    same_within _))

-- ---- a schedule that was made

-- each item that is answered has the answer at its place
answer_at : {X A R : Type 0} (spec : ℕ → X → Spec A R) (n : ℕ) (xs : List X) (given : List A)
    → (each_in_turn spec n xs).Answers given → (i : ℕ) (z : X) (a : A) → slice_get xs i ≡ Some z
    → slice_get given i ≡ Some a → (k : ℕ) × (spec k z).Answers a
unfolding each_in_turn
answer_at spec n [] given h i z a at there = absurd (omega (arith, slice_get_within [] i z at))
answer_at {X = X} {A = A} spec n (y ∷ ys) given h zero z a at there =
    let first : Some h.0 ≡ Some a = sym (ap (λ (l : List A). slice_get l 0) h.2.2) ∙ there in
    let is : (spec n y).Answers a = subst (λ (b : A). (spec n y).Answers b) (same_Some h.0 a first) h.1 in
    (n, subst (λ (w : X). (spec n w).Answers a) (same_Some y z at) is)
answer_at {A = A} spec n (y ∷ ys) given h (suc i) z a at there =
    let next : slice_get h.2.0 i ≡ Some a = sym (ap (λ (l : List A). slice_get l (suc i)) h.2.2) ∙ there in
    answer_at spec (n + 1) ys h.2.0 h.2.1 i z a at next

-- where no rate passes its limit, none is out of range
none_passes : (rs : List OvernightRate) → ((k : ℕ) → FactorPassesAt rs k → ⊥) → NoneOutOfRange rs
none_passes [] none = tt
none_passes (r ∷ rs) none =
    (λ e. none zero (ap (λ (z : OvernightRate). Some z) e), none_passes rs (λ k at. none (suc k) at))

module _ (x : Accruing) (parts : List Part) (h : IsAccruing x parts) (i : ℕ) (s : Stream)
    (at : slice_get x.swap.streams i ≡ Some s) where
  -- the stream is lawful
  pub lawful_at : IsLawfulStream s
  lawful_at = lawful_stream x.swap h.lawful i s at

  -- the terms of the stream keep the rules
  pub kept_at : TermsKept x.cal s
  kept_at = terms_kept x.swap x.cal h.lawful h.terms i s at

  -- the schedule has a part for the stream
  pub part_within : i < length parts
  part_within =
      let within = slice_get_within x.swap.streams i s at in
      let same = pairs_length (λ t p. IsPart (stream_sets x.cal t) x.table t p) x.swap.streams parts h.schedule in
      omega (arith, within, same)

  module _ (p : Part) (there : slice_get parts i ≡ Some p) where
    -- the part is what the stream comes to
    made : (stream_of (stream_sets x.cal s) x.table s).Answers p
    unfolding schedule_of
    made =
        let given = answer_there (schedule_determined x.swap x.cal x.table h.lawful h.terms) h.dated in
        let same : given.0 ≡ parts =
        one_schedule x.swap x.cal x.table h.lawful h.terms h.dated given.0 parts
        (schedule_is x.swap x.cal x.table h.lawful h.terms given.0 given.1) h.schedule in
        (answer_at (λ n t. refused_as (in_stream n) (stream_of (stream_sets x.cal t) x.table t)) 1 x.swap.streams parts
        (subst (λ (ps : List Part). (schedule_of x.swap x.cal x.table).Answers ps) same given.1) i s p at there).1

    -- the stream has a regular span
    pub has_span : HasSpan s
    unfolding stream_of
    has_span = let m = made in (m.1.0, m.1.1)

    -- the adjusted boundaries of the part rise
    pub rising : IsRising p.adjusted
    unfolding stream_of
    rising =
        let m = made in
        let same : p.adjusted ≡ m.0.adjusted = ap (λ (q : Part). q.adjusted) m.2.2.2 in
        subst IsRising (sym same) (layout_kept (stream_sets x.cal s) s m.0 m.1).rises

    -- the number of adjusted boundaries fits 32 bits
    pub few : length p.adjusted < 2 ^ 32
    unfolding stream_of
    few =
        let m = made in
        let is = layout_kept (stream_sets x.cal s) s m.0 m.1 in
        let same : length p.adjusted ≡ length m.0.adjusted = ap (λ (q : Part). length q.adjusted) m.2.2.2 in
        let n = is.few in
        let k = is.adjusted.same_length in
        omega (arith, same, n, k)

    module _ (float : FloatTerms) (parameters : CalculationParameters) (pays : s.leg ≡ Floating float)
        (has : float.parameters ≡ Some parameters) where
      -- no period of the stream is without rows
      pub has_rows : (span : Span) → Regular s span → (j : ℕ) (why : NoRowsWhy)
          → HasNoRows (source_in x.cal (daily_stream s float parameters) span p) x.table j why → ⊥
      unfolding stream_of
      has_rows span regular j why none =
          let sets = stream_sets x.cal s in
          let m = made in
          let l = m.0 in
          let same : p.adjusted ≡ l.adjusted = ap (λ (q : Part). q.adjusted) m.2.2.2 in
          let one : span ≡ l.span = one_span s span l.span regular (layout_kept sets s l m.1).regular in
          let events = m.2.1 in
          let o = events.2.2.0 in
          let rates : m.2.0.rates ≡ o.rates = λ k. (events.2.2.2 k).rates in
          let source = rates_source (resets_over sets s l) sets.applicable float parameters in
          let by : (resets_by float float.parameters (resets_over sets s l) sets.applicable x.table).Answers o =
          subst (λ (leg : Leg). (resets_in leg (resets_over sets s l) sets.applicable x.table).Answers o) pays
          events.2.2.1 in
          let answers = subst (λ (q : Option CalculationParameters).
          (resets_by float q (resets_over sets s l) sets.applicable x.table).Answers o) has by in
          let within : NoneOutOfRange o.rates =
          subst NoneOutOfRange rates (none_passes m.2.0.rates m.2.2.1.0) in
          let moved : source_in x.cal (daily_stream s float parameters) span p ≡ source =
          λ k. overnight_source s (one k) (same k) sets.applicable float parameters in
          rates_have_rows source x.table o.rates ((λ f b. answers.0 f (inr b)), answers.1.rates) within j why
          (subst (λ (z : OvernightSource). HasNoRows z x.table j why) moved none)
