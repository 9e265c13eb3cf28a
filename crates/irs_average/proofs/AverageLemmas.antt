-- What averages of a stream are worked out from is one thing, and the schedule of the swap has it.
use Rattle.std.proofs.Common.{◌≡◌, inl, ℕ, ◌+◌, ◌-◌, ◌^◌, ◌<◌, List, length, All, Some, ℤ, ◌<ℤ◌, ◌-ℤ◌, refl, sym, subst}
use Rattle.std.proofs.Common.{◌∙◌, ap, arith}
use Rattle.std.specs.Prelude.{slice_get}
use Rattle.irs_base.specs.Outcomes.{First}
use Rattle.irs_terms.specs.Faults.{in_stream}
use Rattle.irs_base.specs.Lists.{Every}
use Rattle.irs_base.proofs.MemberLemmas.{numbered_get}
use Rattle.irs_terms.specs.declared.places.Broken.{Broken}
use Rattle.irs_terms.specs.declared.places.Fault.{Fault}
use Rattle.irs_base.proofs.Firsts.{one_first}
use Rattle.irs_terms.specs.declared.amounts.FloatTerms.{FloatTerms}
use Rattle.irs_schedule.specs.Parts.{KeepsBounds, Part, Rises}
use Rattle.irs_overnight.specs.Overnight.{FixingNotAfter, derived_before, fixing_not_after_at}
use Rattle.irs_overnight.specs.Private.Bounds.{IsInRange}
use Rattle.irs_overnight.specs.Observations.{PaysFloating}
use Rattle.irs_overnight.specs.declared.derived.DerivedRow.{DerivedRow}
use Rattle.irs_overnight.specs.declared.derived.Found.{Found}
use Rattle.irs_overnight.specs.declared.derived.Found.TheVariants.{Rate}
use Rattle.irs_overnight.specs.declared.observations.Observation.{Observation}
use Rattle.irs_overnight.proofs.DerivedOrder.{derived_ties}
use Rattle.irs_overnight.proofs.FileRead.{are_fixings}
use Rattle.irs_overnight.proofs.KeptRows.{IsDated, kept_rows, lawful_float}
use Rattle.irs_overnight.proofs.RowLemmas.{in_order}
use Rattle.irs_overnight.proofs.SourceLemmas.{asked_part, every_at, one_pays, part_floats, some_part}
use Rattle.irs_average.specs.Averages.{AverageAsked, AverageKept, AverageReadsBack, BreaksAverage, HasMeanSource}
use Rattle.irs_average.specs.Averages.{IsAverage, IsAverageAsked, IsFirstOfAverage, LieAmong, FindsMean, IsMeanFound}
use Rattle.irs_average.specs.Averages.{MeanPeriod, AreMeans, IsMeanRow, BreaksMeans, MeanSource, averaging_by}
use Rattle.irs_average.specs.Averages.{mean_period_at, mean_source, own_lines, LiesAmong, AreSamples}
use Rattle.irs_average.proofs.MeanLemmas.{mean_within}
use Rattle.irs_average.proofs.MeanRowLemmas.{longer, means_there, one_means}
use Rattle.irs_average.proofs.SampleLemmas.{one_samples, shares_out}

-- the source of a part with a floating rate
abbrev pub source_with : AverageAsked → Part → FloatTerms → MeanSource
source_with a part float = mean_source part (averaging_by a.kind a.step a.of.days (own_lines a.of.rates float))

-- the part of a stream that pays floating is what its averages are worked out from
pub has_mean_source : (a : AverageAsked) (float : FloatTerms) → PaysFloating a.of.swap a.of.number float → (part : Part)
    → slice_get a.of.parts (a.of.number - 1) ≡ Some part → HasMeanSource a (source_with a part float)
has_mean_source a float pays part at = record { float = float; pays = pays; part = part; at = at; is = refl }

-- there is one source
pub one_mean_source : (a : AverageAsked) (x y : MeanSource) → HasMeanSource a x → HasMeanSource a y → x ≡ y
one_mean_source a x y p q =
    let floats = one_pays a.of.swap a.of.number p.float q.float p.pays q.pays in
    let parts = some_part p.part q.part (sym p.at ∙ q.at) in
    let same : source_with a p.part p.float ≡ source_with a q.part q.float =
    (λ t. source_with a (parts t) (floats t)) in
    p.is ∙ same ∙ sym q.is

module _ (a : AverageAsked) (source : MeanSource) (has : HasMeanSource a source) where
  -- means over that source are the averages of the stream
  pub average_rows : (rows : List DerivedRow) → AreMeans source rows → IsAverage a rows
  average_rows rows are = record { source = source; has = has; are = are }

  breaks_source : (f : Fault) → BreaksAverage a f → BreaksMeans source f
  breaks_source f b = subst (λ (s : MeanSource). BreaksMeans s f) (one_mean_source a b.source source b.has has) b.breaks

  -- where no rule is broken over that source, none is for the stream
  pub average_kept : ((f : Fault) → BreaksMeans source f → ⊥) → AverageKept a
  average_kept kept f b = kept f (breaks_source f b)

  -- the first rule broken over that source is the first for the stream
  pub average_broken : (f : Fault) (x : Broken) → First derived_before (BreaksMeans source) f
      → x ≡ in_stream a.of.number f → IsFirstOfAverage a x
  average_broken f x first is = record {
    fault = f;
    first = (record { source = source; has = has; breaks = first.0 }, λ g b. first.1 g (breaks_source g b));
    is = is;
  }

-- the adjusted boundaries of a source rise
source_rises : (a : AverageAsked) (source : MeanSource) → Every KeepsBounds a.of.parts → HasMeanSource a source
    → Rises source.adjusted
source_rises a source bounds has =
    let part = every_at KeepsBounds a.of.parts (a.of.number - 1) has.part bounds has.at in
    let is = has.is in
    rw is part.adjusted_rises

-- there is one list of averages
pub one_average : (a : AverageAsked) → Every KeepsBounds a.of.parts → (xs ys : List DerivedRow) → IsAverage a xs
    → IsAverage a ys → xs ≡ ys
one_average a bounds xs ys p q =
    let same = one_mean_source a p.source q.source p.has q.has in
    one_means q.source (source_rises a q.source bounds q.has) xs ys
    (subst (λ (s : MeanSource). AreMeans s xs) same p.are) q.are

-- and one first rule that is broken
pub one_average_broken : (a : AverageAsked) (x y : Broken) → IsFirstOfAverage a x → IsFirstOfAverage a y → x ≡ y
one_average_broken a x y p q =
    let same : p.fault ≡ q.fault =
    one_first derived_before derived_ties (BreaksAverage a) p.fault q.fault p.first q.first in
    p.is ∙ ap (in_stream a.of.number) same ∙ sym q.is

-- where no rule is broken there are averages
pub average_there : (a : AverageAsked) → IsAverageAsked a → Every KeepsBounds a.of.parts → AverageKept a
    → (rows : List DerivedRow) × IsAverage a rows
average_there a h bounds kept =
    let part = asked_part a.of h.stream in
    let float = h.stream.floats.0 in
    let source : MeanSource = source_with a part.0 float in
    let has : HasMeanSource a source = has_mean_source a float h.stream.floats.1 part.0 part.1 in
    let keeps = every_at KeepsBounds a.of.parts (a.of.number - 1) part.0 bounds part.1 in
    let long = keeps.adjusted in
    let rows = means_there source keeps.adjusted_rises h.some (omega (arith, long))
    (λ f breaks. kept f (record { source = source; has = has; breaks = breaks })) in
    (rows.0, record { source = source; has = has; are = rows.1 })

-- what a period of a source finds lies among its rates
found_among : (p : MeanPeriod) (found : Found) (x : ℤ) (os : List Observation) → p.start <ℤ p.end → FindsMean p found
    → found ≡ Rate x → AreSamples p.lines p.days p.step p.start p.end os → LiesAmong os x
found_among p found x os order finds is are =
    let same = one_samples p.lines p.days p.step p.start p.end finds.observations os finds.are are in
    let by_row : IsMeanFound p.kind (p.end -ℤ p.start) finds.observations (Rate x) =
    subst (IsMeanFound p.kind (p.end -ℤ p.start) finds.observations) is finds.is in
    mean_within p.kind (p.end -ℤ p.start) os (longer p.start p.end order)
    (shares_out p.lines p.days p.step p.start p.end os order are) x
    (subst (λ (ps : List Observation). IsMeanFound p.kind (p.end -ℤ p.start) ps (Rate x)) same by_row)

-- each average lies between the least and the greatest rate that it uses
pub lie_among : (a : AverageAsked) → Every KeepsBounds a.of.parts → (rows : List DerivedRow) → IsAverage a rows
    → LieAmong a rows
lie_among a bounds rows average source has k row x at is os are =
    let same = one_mean_source a average.source source average.has has in
    let means : AreMeans source rows = subst (λ (s : MeanSource). AreMeans s rows) same average.are in
    let own : IsMeanRow source (1 + k) row = numbered_get (IsMeanRow source) 1 k rows row means.each at in
    let own_period : IsMeanRow source row.period row = subst (λ (i : ℕ). IsMeanRow source i row) (sym own.period) own in
    found_among (mean_period_at source row.period) row.found x os
    (in_order source.adjusted row.period (source_rises a source bounds has) own_period.stands)
    own_period.finds is are

-- the rows print a fixing file
pub average_reads_back : (a : AverageAsked) → IsAverageAsked a → Every KeepsBounds a.of.parts → (rows : List DerivedRow)
    → IsAverage a rows → AverageKept a → All IsInRange rows → AverageReadsBack a rows
average_reads_back a h bounds rows average kept good = λ float pays.
    let source = average.source in
    let part = average.has.part in
    let keeps = every_at KeepsBounds a.of.parts (a.of.number - 1) part bounds average.has.at in
    let floats = part_floats a.of h.stream part average.has.at in
    let adjusted = keeps.adjusted in
    let few = keeps.few in
    let by_kind = keeps.resets in
    let resets : length part.resets ≡ length part.periods = rw floats at by_kind in
    let is = average.has.is in
    let many : length source.adjusted ≡ length source.resets + 1 = rw is (omega (arith, adjusted, resets)) in
    let short : length source.adjusted < 2 ^ 32 = rw is (omega (arith, adjusted, few)) in
    let none : (n : ℕ) → FixingNotAfter source.resets n → ⊥ =
    λ n not_after. kept (fixing_not_after_at n) (record {
      source = source;
      has = average.has;
      breaks =
          inl (record { number = n; not_after = not_after; is = refl });
    }) in
    let dated : (k : ℕ) (row : DerivedRow) → slice_get rows k ≡ Some row
    → IsDated source.adjusted source.resets (1 + k) row = λ k row at.
    let own = numbered_get (IsMeanRow source) 1 k rows row average.are.each at in
    (own.stands, own.period, own.fixing) in
    let lawful = lawful_float a.of h.stream float pays in
    are_fixings float.tenor float.index rows (record { named = lawful.index; lasting = lawful.tenor })
    (kept_rows source.adjusted source.resets rows dated good none many short)
