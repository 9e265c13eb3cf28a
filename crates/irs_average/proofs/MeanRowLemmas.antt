-- There is one list of averages.
use Rattle.std.proofs.Common.{◌≡◌, inr, ℕ, ◌-◌, ◌≤◌, List, length, ℤ, pos, ◌<ℤ◌, ◌-ℤ◌, refl, sym, subst, ◌∙◌, arith}
use Rattle.jiff_core.proofs.SignedLemmas.{signed_arith}
use Rattle.irs_terms.specs.declared.places.Fault.{Fault}
use Rattle.irs_base.proofs.MemberLemmas.{numbered_there, one_numbered}
use Rattle.irs_resets.specs.Resets.{IsPeriod}
use Rattle.irs_schedule.specs.Parts.{Rises}
use Rattle.irs_overnight.specs.Overnight.{fixing_at}
use Rattle.irs_overnight.specs.declared.derived.DerivedRow.{DerivedRow}
use Rattle.irs_overnight.specs.declared.derived.Found.{Found}
use Rattle.irs_overnight.specs.declared.observations.Observation.{Observation}
use Rattle.irs_overnight.proofs.RowLemmas.{in_order, same_row}
use Rattle.irs_average.specs.Averages.{FindsMean, IsMeanFound, MeanPeriod, AreMeans, IsMeanRow, BreaksMeans}
use Rattle.irs_average.specs.Averages.{LacksSampleDay, lacking_at, MeanSource, mean_period_at}
use Rattle.irs_average.proofs.MeanLemmas.{mean_there, one_mean_found}
use Rattle.irs_average.proofs.SampleLemmas.{one_samples, samples_there, shares_out}

-- a period has a day at least
pub longer : (s e : ℤ) → s <ℤ e → pos 0 <ℤ (e -ℤ s)
longer s e h = omega (arith, signed_arith, h)

module _ (p : MeanPeriod) (order : p.start <ℤ p.end) where
  -- a period gives one mean, or one missing day
  pub one_found : (x y : Found) → FindsMean p x → FindsMean p y → x ≡ y
  one_found x y a b =
      let same = one_samples p.lines p.days p.step p.start p.end a.observations b.observations a.are b.are in
      one_mean_found p.kind (p.end -ℤ p.start) b.observations (longer p.start p.end order)
      (shares_out p.lines p.days p.step p.start p.end b.observations order b.are) x y
      (subst (λ (os : List Observation). IsMeanFound p.kind (p.end -ℤ p.start) os x) same a.is) b.is

  -- one whose observations all have a day gives a mean or a missing day
  pub finds_there : 1 ≤ p.step → (LacksSampleDay p → ⊥) → (found : Found) × FindsMean p found
  finds_there wide kept =
      let os = samples_there p.lines p.days p.step p.start p.end order wide kept in
      let found = mean_there p.kind (p.end -ℤ p.start) os.0 (longer p.start p.end order)
      (shares_out p.lines p.days p.step p.start p.end os.0 order os.1) in
      (found.0, record { observations = os.0; are = os.1; is = found.1 })

module _ (source : MeanSource) (rises : Rises source.adjusted) where
  one_mean_row : (i : ℕ) (x y : DerivedRow) → IsMeanRow source i x → IsMeanRow source i y → x ≡ y
  one_mean_row i x y p q =
      let found = one_found (mean_period_at source i)
      (in_order source.adjusted i rises q.stands) x.found y.found p.finds q.finds in
      same_row x.period y.period x.fixing y.fixing x.found y.found (p.period ∙ sym q.period) (p.fixing
      ∙ sym q.fixing) found

  -- a source has one list of averages
  pub one_means : (xs ys : List DerivedRow) → AreMeans source xs → AreMeans source ys → xs ≡ ys
  one_means xs ys p q =
      let a = p.many in
      let b = q.many in
      one_numbered (IsMeanRow source) one_mean_row 1 xs ys (omega (arith, a, b)) p.each q.each

  -- where no rule is broken there are averages
  pub means_there : 1 ≤ source.by.step → 1 ≤ length source.adjusted → ((f : Fault) → BreaksMeans source f → ⊥)
      → (rows : List DerivedRow) × AreMeans source rows
  means_there wide long kept =
      let there = numbered_there (IsMeanRow source) (length source.adjusted - 1) 1 (λ k low high.
      let period : IsPeriod source.adjusted k = (low, omega (arith, high, long)) in
      let found = finds_there (mean_period_at source k) (in_order source.adjusted k rises period) wide
      (λ lacks. kept (lacking_at k) (inr (record { number = k; period = period; lacks = lacks; is = refl }))) in (
        record { period = k; fixing = fixing_at source.resets k; found = found.0 },
        record { stands = period; period = refl; fixing = refl; finds = found.1 },
      )) in
      let many = there.1 in
      (there.0, record { many = omega (arith, many, long); each = there.2 })
