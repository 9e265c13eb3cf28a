-- There is one rate on the line through two rates, and it lies between them.
use Rattle.std.proofs.Common.{◌≡◌, ◌⊎◌, inl, inr, ℕ, Option, Some, None, ℤ, pos, neg_ℤ, ◌+ℤ◌, ◌-ℤ◌, ◌*ℤ◌, ◌≤ℤ◌, ◌<ℤ◌}
use Rattle.std.proofs.Common.{sym, subst, ◌∙◌, ap, arith}
use Rattle.jiff_core.proofs.SignedLemmas.{signed_arith}
use Rattle.irs_base.specs.Limits.{most_rate, Rounded}
use Rattle.irs_base.specs.declared.rounding.Direction.TheVariants.{Nearest}
use Rattle.irs_base.proofs.RoundingLaws.{nearest_once}
use Rattle.irs_terms.specs.Lawful.{IsRate}
use Rattle.irs_overnight.specs.declared.derived.DerivedRow.{DerivedRow}
use Rattle.irs_overnight.specs.declared.derived.Found.{Found}
use Rattle.irs_overnight.specs.declared.derived.Found.TheVariants.{Rate, Missing}
use Rattle.irs_overnight.proofs.RowLemmas.{same_row}
use Rattle.irs_average.specs.Averages.{RateLiesBetween}
use Rattle.irs_average.specs.Interpolations.{IsFoundBetween, IsOnLine, IsStubFound, IsStubRow, StubSource, tenor_rate}
use Rattle.irs_average.proofs.BetweenLemmas.{line_within, rounded_within, small_within, within_small}
use Rattle.irs_average.proofs.TenorLemmas.{one_tenor}

-- the value on the line
abbrev pub weighed : ℤ → ℤ → ℤ → ℤ → ℤ
weighed low high width days = low *ℤ width +ℤ (high -ℤ low) *ℤ days

wide : (near far : ℤ) → near <ℤ far → pos 0 <ℤ (far -ℤ near)
wide near far h = omega (arith, signed_arith, h)

inside : (near far end : ℤ) → near ≤ℤ end → end ≤ℤ far → (pos 0 ≤ℤ (end -ℤ near)) × ((end -ℤ near) ≤ℤ (far -ℤ near))
inside near far end p q = (omega (arith, signed_arith, p), omega (arith, signed_arith, q))

-- a rate on the line lies within all bounds of both rates
pub rounded_on_line : (low high width days x l g : ℤ) → pos 0 <ℤ width → pos 0 ≤ℤ days → days ≤ℤ width
    → Rounded Nearest (weighed low high width days) width x → RateLiesBetween l g low → RateLiesBetween l g high → RateLiesBetween l g x
rounded_on_line low high width days x l g above from to r a b =
    let within = line_within low high width days l g from to a b in
    rounded_within (weighed low high width days) width x l g above r within.0 within.1

-- a rate on the line between two rates is a rate in range
pub line_small : (low high width days x : ℤ) → pos 0 <ℤ width → pos 0 ≤ℤ days → days ≤ℤ width
    → Rounded Nearest (weighed low high width days) width x → IsRate low → IsRate high → IsRate x
line_small low high width days x above from to r a b =
    small_within most_rate x
    (rounded_on_line low high width days x (neg_ℤ (pos most_rate)) (pos most_rate) above from to r
    (within_small most_rate low a) (within_small most_rate high b))

some_rate : (a b : ℤ) → Some a ≡ Some b → a ≡ b
some_rate a b e = cc

lacks : (r : Option ℤ) (x : ℤ) → r ≡ None → r ≡ Some x → ⊥
lacks r x p q = cc

module _ (low high : Option ℤ) (near far end fixing : ℤ) (order : near <ℤ far) where
  one_line : (x y : ℤ) → IsOnLine low high near far end x → IsOnLine low high near far end y → x ≡ y
  one_line x y p q =
      let a : p.low_rate ≡ q.low_rate = some_rate p.low_rate q.low_rate (sym p.is_low ∙ q.is_low) in
      let b : p.high_rate ≡ q.high_rate = some_rate p.high_rate q.high_rate (sym p.is_high ∙ q.is_high) in
      let same : weighed p.low_rate p.high_rate (far -ℤ near) (end -ℤ near)
      ≡ weighed q.low_rate q.high_rate (far -ℤ near) (end -ℤ near) =
      (λ i. weighed (a i) (b i) (far -ℤ near) (end -ℤ near)) in
      nearest_once (weighed q.low_rate q.high_rate (far -ℤ near) (end -ℤ near)) (far -ℤ near) x y (wide near far order)
      (subst (λ (w : ℤ). Rounded Nearest w (far -ℤ near) x) same p.rounded) q.rounded

  both_there : (x : ℤ) → IsOnLine low high near far end x → ((low ≡ None) ⊎ (high ≡ None)) → ⊥
  both_there x p none =
      elim none [ inl e ↦ lacks low p.low_rate e p.is_low | inr e ↦ lacks high p.high_rate e p.is_high ]

  -- two rates give one thing
  pub one_between : (x y : Found) → IsFoundBetween low high near far end fixing x
      → IsFoundBetween low high near far end fixing y → x ≡ y
  one_between (Rate x) (Rate y) p q = ap Rate (one_line x y p q)
  one_between (Rate x) (Missing d) p q = absurd (both_there x p q.1)
  one_between (Missing d) (Rate x) p q = absurd (both_there x q p.1)
  one_between (Missing c) (Missing d) p q = ap Missing (p.0 ∙ sym q.0)

-- there is one row
module _ (source : StubSource) (period : ℕ) where
  -- a stub has one row
  pub one_stub_row : (x y : DerivedRow) → IsStubRow source period x → IsStubRow source period y → x ≡ y
  one_stub_row x y p q =
      let near : p.near ≡ q.near =
      one_tenor source.start source.low p.near q.near p.between.near_ends q.between.near_ends in
      let far : p.far ≡ q.far = one_tenor source.start source.high p.far q.far p.between.far_ends q.between.far_ends in
      let by_near : IsStubFound source q.near p.far x.found =
      subst (λ (d : ℤ). IsStubFound source d p.far x.found) near p.found in
      let by_far : IsStubFound source q.near q.far x.found =
      subst (λ (d : ℤ). IsStubFound source q.near d x.found) far by_near in
      let found = one_between (tenor_rate source source.low)
      (tenor_rate source source.high) q.near q.far source.end source.fixing q.between.order x.found y.found by_far
      q.found in
      same_row x.period y.period x.fixing y.fixing x.found y.found (p.number ∙ sym q.number) (p.fixing
      ∙ sym q.fixing) found

  -- whose rate lies within all bounds of both rates
  pub row_within : (row : DerivedRow) (x low high l g : ℤ) → IsStubRow source period row → row.found ≡ Rate x
      → tenor_rate source source.low ≡ Some low → tenor_rate source source.high ≡ Some high → RateLiesBetween l g low
      → RateLiesBetween l g high → RateLiesBetween l g x
  row_within row x low high l g h is at_low at_high first second =
      let line : IsOnLine (tenor_rate source source.low) (tenor_rate source source.high) h.near h.far source.end x =
      subst (IsStubFound source h.near h.far) is h.found in
      let a : low ≡ line.low_rate = some_rate low line.low_rate (sym at_low ∙ line.is_low) in
      let b : high ≡ line.high_rate = some_rate high line.high_rate (sym at_high ∙ line.is_high) in
      let in_days = inside h.near h.far source.end h.between.from h.between.to in
      rounded_on_line line.low_rate line.high_rate (h.far -ℤ h.near) (source.end -ℤ h.near) x l g
      (wide h.near h.far h.between.order) in_days.0 in_days.1 line.rounded
      (subst (RateLiesBetween l g) a first) (subst (RateLiesBetween l g) b second)
