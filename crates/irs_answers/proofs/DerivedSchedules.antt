-- A schedule made with derived rates has the rate of each row.
use Rattle.std.proofs.Common.{◌≡◌, inl, inr, ℕ, ◌+◌, ◌-◌, ◌≤◌, List, [], ◌∷◌, length, Option, Some, None}
use Rattle.std.proofs.Common.{ℤ, refl, sym, ap, subst, ◌∙◌, arith}
use Rattle.std.specs.Prelude.{slice_get}
use Rattle.std.proofs.lemmas.Option.{same_Some}
use Rattle.irs_terms.specs.declared.amounts.Leg.TheVariants.{Floating}
use Rattle.irs_terms.specs.declared.amounts.StubRate.TheVariants.{Index}
use Rattle.irs_terms.specs.declared.amounts.StubTerms.{StubTerms}
use Rattle.irs_terms.specs.declared.frequency.Frequency.{Frequency}
use Rattle.irs_terms.specs.declared.results.Span.{Span}
use Rattle.irs_terms.specs.declared.stream.Stream.{Stream}
use Rattle.irs_terms.specs.declared.stream_list.Swap.{Swap}
use Rattle.irs_calendar.specs.declared.sections.Section.{Section}
use Rattle.irs_periods.specs.Spans.{Regular}
use Rattle.irs_resets.specs.FixingFiles.{IsFixingFile}
use Rattle.irs_resets.specs.Rates.{GivesStub, IsInitialStub, IsPeriodKind, own_index, RateTable, rate_at}
use Rattle.irs_resets.specs.Resets.{IsPeriod}
use Rattle.irs_resets.specs.declared.observed.PeriodKind.{PeriodKind}
use Rattle.irs_resets.specs.declared.observed.PeriodKind.TheVariants.{InitialStub, FinalStub}
use Rattle.irs_schedule.specs.DaySets.{reset_days, stream_sets}
use Rattle.irs_schedule.specs.Parts.{Part}
use Rattle.irs_schedule.specs.Schedules.{IsPart}
use Rattle.irs_overnight.specs.Overnight.{DerivedSource, derived_source, fixing_at, AreDerived, IsDerivedRow}
use Rattle.irs_overnight.specs.Overnight.{FixingNotAfter, fixing_not_after_at, OvernightAsked, HasSource, asked}
use Rattle.irs_overnight.specs.Texts.{AreFixings, file_text}
use Rattle.irs_overnight.specs.declared.derived.DerivedRow.{DerivedRow}
use Rattle.irs_overnight.proofs.KeptRows.{IsDated}
use Rattle.irs_overnight.proofs.SourceLemmas.{partner}
use Rattle.irs_average.specs.Averages.{AverageAsked, HasMeanSource, averaged, AreMeans, IsMeanRow, MeanSource}
use Rattle.irs_average.specs.Averages.{averaging_by, mean_source, own_lines}
use Rattle.irs_average.specs.Interpolations.{IsStubRow, StubSource, GivesOn, IsStubOn, Stub, StubAsked, stub_asked}
use Rattle.irs_average.specs.declared.means.Mean.{Mean}
use Rattle.irs_average.specs.declared.stubs.Side.{Side}
use Rattle.irs_average.specs.declared.stubs.Side.TheVariants.{Initial, Last}
use Rattle.irs_average.proofs.StubLemmas.{one_stub}
use Rattle.irs_base.proofs.MemberLemmas.{numbered_get}
use Rattle.irs_answers.specs.Derived.{FloatingStream, IsFloatingAt, AverageIsUsed, ComesFromLine, HasRateOf}
use Rattle.irs_answers.specs.Derived.{HasRowRates, HoldsWith, OvernightIsUsed, StubIsUsed}
use Rattle.irs_answers.specs.PrintedRates.{IsKeptSchedule}
use Rattle.irs_answers.proofs.DerivedFiles.{EachDateOnce, each_date_once, one_date, rate_of_row}
use Rattle.irs_answers.proofs.KeptParts.{member_at, staged_at}
use Rattle.irs_answers.proofs.UnfixedParts.{HasResetDays, Refixed, refixed, reset_days_of, same_boundaries}

-- ---- a stub

abbrev kind_on : Side → PeriodKind
kind_on Initial = InitialStub
kind_on Last = FinalStub

gives_stub : (side : Side) (stubs : Option StubTerms) (index : List ℕ) (tenor : Option Frequency)
    → GivesOn side stubs index tenor → GivesStub (kind_on side) stubs (Index index tenor)
gives_stub side None index tenor h = absurd h
gives_stub Initial (Some stubs) index tenor h = inl (refl, h)
gives_stub Last (Some stubs) index tenor h = inr (refl, h)

-- the period of a stub is one of the stream
pub stub_period : (side : Side) (s : Stream) (span : Span) (a : List ℤ) (i : ℕ) → 2 ≤ length a
    → IsStubOn side s span (length a - 1) i → IsPeriod a i
stub_period Initial s span a i some h = let one = h.1 in (omega (arith, one), omega (arith, one, some))
stub_period Last s span a i some h = let one = h.1 in (omega (arith, one, some), omega (arith, one, some))

-- and its kind is that of the side
stub_kind : (cal : List Section) (fix : RateTable) (side : Side) (s : Stream) (p : Part) → HasResetDays cal fix s p
    → (span : Span) → Regular s span → (i : ℕ) → IsStubOn side s span (length p.adjusted - 1) i
    → IsPeriodKind s span (length p.adjusted - 1) i (kind_on side)
stub_kind cal fix Initial s p facts span regular i h = h
stub_kind cal fix Last s p facts span regular i h =
    let not_initial : IsInitialStub s span i → ⊥ = λ initial.
    let three = facts.apart span regular initial.0 h.0 in
    let one = initial.1 in
    let last = h.1 in
    omega (arith, three, one, last) in
    (not_initial, h)

-- ---- a stream of a schedule that breaks no rule

module _ (swap : Swap) (cal : List Section) (parts : List Part) (h : IsKeptSchedule swap cal [] parts) (number : ℕ)
    (x : FloatingStream) (at : IsFloatingAt swap number x) where
  -- its part has its resets on days of the range
  pub own_part : (p : Part) → slice_get parts (number - 1) ≡ Some p → HasResetDays cal [] x.stream p
  own_part p there =
      let one = staged_at swap cal [] parts h (number - 1) p there in
      let same : one.stream ≡ x.stream = same_Some one.stream x.stream (sym one.at ∙ at.at) in
      let leg : one.stream.leg ≡ Floating x.float = ap (λ (s : Stream). s.leg) same ∙ at.pays in
      subst (λ (s : Stream). HasResetDays cal [] s p) same
      (reset_days_of cal [] one.stream x.float p leg one.lawful one.kept one.answers)

  -- in a schedule made with the file of these rows, a period that takes its rate from a line of the file has the rate
  -- of the row with its fixing date
  rate_from_row : (rows : List DerivedRow) (index : List ℕ) (tenor : Option Frequency) → EachDateOnce rows
      → AreFixings rows tenor index → (table : RateTable) → IsFixingFile (file_text rows tenor index) table
      → (p q : Part) → HasResetDays cal [] x.stream p
      → IsPart (stream_sets cal x.stream) table x.stream q → (i : ℕ) → IsPeriod q.adjusted i
      → ComesFromLine x (length q.adjusted - 1) i index tenor → (k : ℕ) (row : DerivedRow)
      → slice_get rows k ≡ Some row → row.period ≡ i → row.fixing ≡ fixing_at p.resets i → HasRateOf row q
  rate_from_row rows index tenor once file table is p q facts part i period takes k row there numbered fixed =
      let r : Refixed table p q index tenor i =
      refixed cal [] table x at.pays at.plain p q facts.part part index tenor i period takes in
      record {
        reset = r.reset;
        at = subst (λ (n : ℕ). slice_get q.resets (n - 1) ≡ Some r.reset) (sym numbered) r.at;
        fixing = r.fixing ∙ sym fixed;
        observed = r.observed
            ∙ ap (λ (d : ℤ). rate_at table index (record { date = d; tenor = tenor })) (sym fixed)
            ∙ rate_of_row rows tenor index once file table is k row there;
      }

  -- ---- rows for all periods

  rows_used : (rows : List DerivedRow) (p : Part) → slice_get parts (number - 1) ≡ Some p
      → length rows + 1 ≡ length p.adjusted → ((n : ℕ) → FixingNotAfter p.resets n → ⊥)
      → ((k : ℕ) (row : DerivedRow) → slice_get rows k ≡ Some row → IsDated p.adjusted p.resets (1 + k) row)
      → AreFixings rows x.float.tenor x.float.index
      → HoldsWith swap cal number (file_text rows x.float.tenor x.float.index) (HasRowRates x rows)
  rows_used rows p there many none dated file others made =
      let facts = own_part p there in
      let once = each_date_once p.resets none p.adjusted facts.many rows dated in
      let found = partner (λ s q. IsPart (stream_sets cal s) made.table s q) swap.streams others (number - 1) x.stream
      made.schedule at.at in
      let q = found.0 in
      let same = same_boundaries cal [] made.table x at.pays at.plain p q facts.part found.2 in
      let long : length p.adjusted ≡ length q.adjusted = ap length same in
      record {
        from_one = at.from_one;
        member = q;
        at = found.1;
        holds = λ i period takes.
            let row = member_at rows (i - 1) (omega (arith, many, long, period.0, period.1)) in
            let place : 1 + (i - 1) ≡ i = omega (arith, period.0) in
            let is : IsDated p.adjusted p.resets i row.0 =
            subst (λ (n : ℕ). IsDated p.adjusted p.resets n row.0) place (dated (i - 1) row.0 row.1) in
            record {
              row = row.0;
              at = row.1;
              number = is.1;
              has = rate_from_row rows x.float.index x.float.tenor once file made.table made.file p q facts found.2 i
                  period takes (i - 1) row.0 row.1 is.1 is.2;
            };
      }

  -- compounded rates are used
  pub overnight_used : (rates : RateTable) → OvernightIsUsed swap cal parts number x rates
  overnight_used rates rows kept over file =
      let a : OvernightAsked = asked swap number parts (reset_days cal x.stream) rates in
      let has = over.has in
      let p = has.part in
      let source : DerivedSource = derived_source p has.float.index a.days a.rates in
      let own : HasSource a source =
      record { float = has.float; pays = has.pays; part = p; at = has.at; is = refl } in
      let derived : AreDerived source rows = subst (λ (z : DerivedSource). AreDerived z rows) has.is over.derived in
      let none : (n : ℕ) → FixingNotAfter p.resets n → ⊥ = λ n h. kept (fixing_not_after_at n) (record {
        source = source;
        has = own;
        breaks = inr (inl (record { number = n; not_after = h; is = refl }));
      }) in
      rows_used rows p has.at derived.many none (λ k row there.
      let is = numbered_get (IsDerivedRow source) 1 k rows row derived.each there in
      (is.stands, is.period, is.fixing)) file

  -- so are averages
  pub average_used : (rates : RateTable) (mean : Mean) (step : ℕ)
      → AverageIsUsed swap cal parts number x rates mean step
  average_used rates mean step rows kept average file =
      let a : AverageAsked = averaged (asked swap number parts (reset_days cal x.stream) rates) mean step in
      let has = average.has in
      let p = has.part in
      let source : MeanSource = mean_source p (averaging_by mean step a.of.days (own_lines rates has.float)) in
      let own : HasMeanSource a source =
      record { float = has.float; pays = has.pays; part = p; at = has.at; is = refl } in
      let means : AreMeans source rows = subst (λ (z : MeanSource). AreMeans z rows) has.is average.are in
      let none : (n : ℕ) → FixingNotAfter p.resets n → ⊥ = λ n h. kept (fixing_not_after_at n) (record {
        source = source;
        has = own;
        breaks = inl (record { number = n; not_after = h; is = refl });
      }) in
      rows_used rows p has.at means.many none (λ k row there.
      let is = numbered_get (IsMeanRow source) 1 k rows row means.each there in
      (is.stands, is.period, is.fixing)) file

  -- ---- the row of a stub

  -- and so is the rate of a stub
  pub stub_used : (rates : RateTable) (side : Side) (low high : Frequency)
      → StubIsUsed swap cal parts number rates side low high
  stub_used rates side low high row stub is has file others made =
      let a : StubAsked = stub_asked swap number side low high parts rates in
      let stubs : is.stub ≡ stub = one_stub a is.stub stub is.has has in
      let own : IsStubRow stub.source stub.period row =
      subst (λ (z : Stub). IsStubRow z.source z.period row) stubs is.is in
      let p = has.part in
      let facts = own_part p has.at in
      let i = stub.period in
      let gives = has.gives in
      let same : gives.stream ≡ x.stream = same_Some gives.stream x.stream (sym gives.at ∙ at.at) in
      let given : GivesOn side x.stream.stubs stub.source.index stub.tenor =
      subst (λ (s : Stream). GivesOn side s.stubs stub.source.index stub.tenor) same gives.gives in
      let regular : Regular x.stream has.span = subst (λ (s : Stream). Regular s has.span) same has.regular in
      let is_stub : IsStubOn side x.stream has.span (length p.adjusted - 1) i =
      subst (λ (s : Stream). IsStubOn side s has.span (length p.adjusted - 1) i) same has.is_stub in
      let period : IsPeriod p.adjusted i = stub_period side x.stream has.span p.adjusted i facts.some is_stub in
      let fixing : stub.source.fixing ≡ fixing_at p.resets i = ap (λ (z : StubSource). z.fixing) has.is in
      let is_kind = stub_kind cal [] side x.stream p facts has.span regular i is_stub in
      let found = partner (λ s q. IsPart (stream_sets cal s) made.table s q) swap.streams others (number - 1) x.stream
      made.schedule at.at in
      let q = found.0 in
      let boundaries = same_boundaries cal [] made.table x at.pays at.plain p q facts.part found.2 in
      let takes : ComesFromLine x (length q.adjusted - 1) i stub.source.index stub.tenor = record {
        span = has.span;
        regular = regular;
        kind = kind_on side;
        is_kind = subst (λ (b : List ℤ). IsPeriodKind x.stream has.span (length b - 1) i (kind_on side)) boundaries is_kind;
        comes_from = own_index stub.source.index stub.tenor
            (gives_stub side x.stream.stubs stub.source.index stub.tenor given);
      } in
      record {
        from_one = at.from_one;
        member = q;
        at = found.1;
        holds = rate_from_row (row ∷ []) stub.source.index stub.tenor (one_date row) file made.table made.file p q facts
            found.2 i (subst (λ (b : List ℤ). IsPeriod b i) boundaries period) takes 0 row refl own.number
            (own.fixing ∙ fixing);
      }
