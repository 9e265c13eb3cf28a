-- There is one accrual of a stream on a day.
use Rattle.std.proofs.Common.{◌≡◌, inl, inr, ℕ, ◌-◌, ◌^◌, List, length, false, Option, Some, None, ℤ, pos, negsuc, ◌*ℤ◌}
use Rattle.std.proofs.Common.{◌<ℤ◌, ◌≤ℤ◌, refl, sym, ap, ap₂, ◌∙◌, subst, arith}
use Rattle.std.proofs.lemmas.Int.{by_lt_z}
use Rattle.jiff_core.proofs.SignedLemmas.{signed_arith}
use Rattle.irs_base.proofs.MemberLemmas.{every_get, some_is}
use Rattle.irs_base.proofs.RoundingLaws.{nearest_once}
use Rattle.irs_base.specs.declared.line.Dec.{Dec}
use Rattle.irs_terms.specs.Lawful.{decimals_of}
use Rattle.irs_terms.specs.declared.codes.DayCountCode.{DayCountCode}
use Rattle.irs_terms.specs.declared.codes.DayCountCode.TheVariants.{OneOne, ActActIsda, Act365Fixed, Act360, Thirty360}
use Rattle.irs_terms.specs.declared.codes.DayCountCode.TheVariants.{ThirtyE360, ThirtyE360Isda}
use Rattle.irs_terms.specs.declared.results.Frac.{Frac}
use Rattle.irs_daycount.specs.Fractions.{denominator_of}
use Rattle.irs_daycount.specs.Private.FractionLaws.{one_fraction, one_days, one_denominator}
use Rattle.irs_schedule.specs.Parts.{IsWithin, KeepsBounds, Part}
use Rattle.irs_schedule.specs.declared.views.CalculationPeriod.{CalculationPeriod}
use Rattle.irs_accrue.specs.Accruals.{Accrues, AccruesIn, IsAccrual, IsAccrued, IsInterest, IsOutside, CountedTo}
use Rattle.irs_accrue.specs.Accruals.{HasRun}
use Rattle.irs_accrue.specs.declared.accruals.Accrual.{Accrual}
use Rattle.irs_accrue.specs.declared.accruals.Accrual.TheVariants.{Outside, Inside}
use Rattle.irs_accrue.proofs.Periods.{HasBoundaries, RunsFromTo, has_boundaries, one_number, rises_to, runs_from_to}

-- a fraction made of its parts
abbrev make_frac : ℤ → ℤ → Frac
make_frac num den = record { num = num; den = den }

same_frac : (f g : Frac) → f.num ≡ g.num → f.den ≡ g.den → f ≡ g
same_frac f g h k = ap₂ make_frac h k

-- ---- days and fraction

both_counted : (code : DayCountCode) (s d m n : ℤ) (f g : Frac) → s ≤ℤ d → CountedTo code s d m f
    → CountedTo code s d n g → (m ≡ n) × (f ≡ g)
both_counted code s d m n f g started a b =
    by_lt_z s d
    (λ (l : s <ℤ d).
    let x = a.some l in
    let y = b.some l in
    (one_days code s d false m n x.0 y.0, one_fraction code s d false f g x.1 y.1))
    (λ (l : d ≤ℤ s).
    let e : d ≡ s = omega (arith, signed_arith, started, l) in
    let x = a.none e in
    let y = b.none e in
    (x.0 ∙ sym y.0, same_frac f g (x.1 ∙ sym y.1) (x.2 ∙ sym y.2)))

-- the days that have run before a day of a period, and their fraction, are the only ones
pub both_run : (code : DayCountCode) (s d e m n : ℤ) (f g : Frac) → s ≤ℤ d → HasRun code s d e m f → HasRun code s d e n g
    → (m ≡ n) × (f ≡ g)
both_run OneOne s d e m n f g started a b =
    (a.passed ∙ sym b.passed, same_frac f g (a.num ∙ sym b.num) (a.den ∙ sym b.den))
both_run ActActIsda s d e m n f g started a b = both_counted ActActIsda s d m n f g started a b
both_run Act365Fixed s d e m n f g started a b = both_counted Act365Fixed s d m n f g started a b
both_run Act360 s d e m n f g started a b = both_counted Act360 s d m n f g started a b
both_run Thirty360 s d e m n f g started a b = both_counted Thirty360 s d m n f g started a b
both_run ThirtyE360 s d e m n f g started a b = both_counted ThirtyE360 s d m n f g started a b
both_run ThirtyE360Isda s d e m n f g started a b = both_counted ThirtyE360Isda s d m n f g started a b

above : (code : DayCountCode) → pos 0 <ℤ denominator_of code
above OneOne = omega (arith, signed_arith)
above ActActIsda = omega (arith, signed_arith)
above Act365Fixed = omega (arith, signed_arith)
above Act360 = omega (arith, signed_arith)
above Thirty360 = omega (arith, signed_arith)
above ThirtyE360 = omega (arith, signed_arith)
above ThirtyE360Isda = omega (arith, signed_arith)

counted_den : (code : DayCountCode) (s d m : ℤ) (f : Frac) → s ≤ℤ d → CountedTo code s d m f
    → f.den ≡ denominator_of code
counted_den code s d m f started a =
    by_lt_z s d
    (λ (l : s <ℤ d). one_denominator code s d false f (a.some l).1)
    (λ (l : d ≤ℤ s). let e : d ≡ s = omega (arith, signed_arith, started, l) in (a.none e).2)

-- the number is above 0
abbrev pub IsAbove : ℤ → Type 0
IsAbove z = pos 0 <ℤ z

counted_above : (code : DayCountCode) (s d m : ℤ) (f : Frac) → s ≤ℤ d → CountedTo code s d m f → IsAbove f.den
counted_above code s d m f started a = subst IsAbove (sym (counted_den code s d m f started a)) (above code)

-- the denominator of the fraction that has run is above 0
pub den_above : (code : DayCountCode) (s d e m : ℤ) (f : Frac) → s ≤ℤ d → d <ℤ e → HasRun code s d e m f → IsAbove f.den
den_above OneOne s d e m f started ends a = let g = a.den in
    subst IsAbove (sym g) (omega (arith, signed_arith, started, ends))
den_above ActActIsda s d e m f started ends a = counted_above ActActIsda s d m f started a
den_above Act365Fixed s d e m f started ends a = counted_above Act365Fixed s d m f started a
den_above Act360 s d e m f started ends a = counted_above Act360 s d m f started a
den_above Thirty360 s d e m f started ends a = counted_above Thirty360 s d m f started a
den_above ThirtyE360 s d e m f started ends a = counted_above ThirtyE360 s d m f started a
den_above ThirtyE360Isda s d e m f started ends a = counted_above ThirtyE360Isda s d m f started a

-- ---- the amount

-- a denominator above 0 stays so in units of 10^-13
pub scaled_above : (den : ℤ) → pos 0 <ℤ den → pos 0 <ℤ (den *ℤ pos (10 ^ 13))
scaled_above (pos n) h = omega (arith, signed_arith, h)
scaled_above (negsuc n) h = absurd (omega (arith, signed_arith, h))

-- an amount made of its units and its decimals
abbrev make_dec : ℤ → ℕ → Dec
make_dec units places = record { units = units; places = places }

one_interest : (places : ℕ) (notional rate : ℤ) (f : Frac) (v w : Dec) → IsAbove f.den
    → IsInterest places notional rate f v → IsInterest places notional rate f w → v ≡ w
one_interest places notional rate f v w den a b =
    let units = nearest_once (notional *ℤ rate *ℤ f.num *ℤ pos (10 ^ places)) (f.den *ℤ pos (10 ^ 13)) v.units w.units
    (scaled_above f.den den) a.rounded b.rounded in
    ap₂ make_dec units (a.decimals ∙ sym b.decimals)

-- a notional, a rate and a fraction give at most one amount
pub both_accrued : (places : ℕ) (notional : ℤ) (known : Option ℤ) (f : Frac) (a b : Option Dec) → IsAbove f.den
    → IsAccrued places notional known f a → IsAccrued places notional known f b → a ≡ b
both_accrued places notional known f None None den h k = refl
both_accrued places notional known f None (Some w) den h k = absurd (h k.0 k.1)
both_accrued places notional known f (Some v) None den h k = absurd (k h.0 h.1)
both_accrued places notional known f (Some v) (Some w) den h k =
    let rates : h.0 ≡ k.0 = some_is h.0 k.0 (sym h.1.is ∙ k.1.is) in
    ap (λ (x : Dec). Some x)
    (one_interest places notional k.0 f v w den (subst (λ (r : ℤ). IsInterest places notional r f v) rates h.2) k.2)

-- ---- the accrual

-- accruals in the same period with the same days, fraction and amount are equal
pub inside_same : (m n : ℕ) (x y : ℤ) (f g : Frac) (a b : Option Dec) → m ≡ n → x ≡ y → f ≡ g → a ≡ b
    → Inside m x f a ≡ Inside n y g b
inside_same m n x y f g a b h i j k =
    ap₂ (λ (z : ℕ) (w : ℤ). Inside z w f a) h i ∙ ap₂ (λ (z : Frac) (w : Option Dec). Inside n y z w) j k

-- accruals of one period are equal
in_period : (p : Part) (d : ℤ) (m : ℕ) (x y : ℤ) (f g : Frac) (a b : Option Dec) → AccruesIn p d m x f a
    → AccruesIn p d m y g b → Inside m x f a ≡ Inside m y g b
in_period p d m x y f g a b h k =
    let period : h.period ≡ k.period = some_is h.period k.period (sym h.runs.is ∙ k.runs.is) in
    let run : HasRun p.day_count k.period.adjusted_start d k.period.adjusted_end x f =
    subst (λ (c : CalculationPeriod). HasRun p.day_count c.adjusted_start d c.adjusted_end x f) period h.has_run in
    let share = both_run p.day_count k.period.adjusted_start d k.period.adjusted_end x y f g k.runs.started run
    k.has_run in
    let den = den_above p.day_count k.period.adjusted_start d k.period.adjusted_end y g k.runs.started k.runs.not_ended
    k.has_run in
    let places = decimals_of p.currency.letters in
    let own : IsAccrued places k.period.notional k.period.rate f a =
    subst (λ (c : CalculationPeriod). IsAccrued places c.notional c.rate f a) period h.accrued in
    let amount =
    both_accrued places k.period.notional k.period.rate g a b den
    (subst (λ (z : Frac). IsAccrued places k.period.notional k.period.rate z a) share.1 own) k.accrued in
    inside_same m m x y f g a b refl share.0 share.1 amount

-- a day in a period of the stream isn't outside the stream
pub not_outside : (p : Part) (d : ℤ) (m : ℕ) → HasBoundaries p → RunsFromTo p d m → IsOutside p d → ⊥
not_outside p d m kept r (inl before) =
    let long = kept.adjusted in
    let high = r.to_last in
    let low = rises_to p.adjusted 0 (m - 1) kept.adjusted_rises (omega arith) (omega (arith, long, high)) in
    let started = r.started in
    omega (arith, signed_arith, before, low, started)
not_outside p d m kept r (inr after) =
    let long = kept.adjusted in
    let high = r.to_last in
    let up = rises_to p.adjusted m (length p.periods) kept.adjusted_rises high (omega (arith, long)) in
    let ends = r.not_ended in
    omega (arith, signed_arith, after, up, ends)

-- a stream has at most one accrual on a day
pub one_in : (p : Part) (d : ℤ) (a b : Accrual) → HasBoundaries p → IsAccrual p d a → IsAccrual p d b → a ≡ b
one_in p d Outside Outside kept h k = refl
one_in p d Outside (Inside n y g b) kept h k = absurd (not_outside p d n kept (runs_from_to p d n k.period k.runs) h)
one_in p d (Inside m x f a) Outside kept h k = absurd (not_outside p d m kept (runs_from_to p d m h.period h.runs) k)
one_in p d (Inside m x f a) (Inside n y g b) kept h k =
    let number = one_number p d m n kept (runs_from_to p d m h.period h.runs) (runs_from_to p d n k.period k.runs) in
    let own : AccruesIn p d n x f a = subst (λ (i : ℕ). AccruesIn p d i x f a) number h in
    ap (λ (i : ℕ). Inside i x f a) number ∙ in_period p d n x y f g a b own k

-- a stream has one accrual on a day
pub one_accrual : (parts : List Part) (stream : ℕ) (d : ℤ) (a b : Accrual) → IsWithin parts → Accrues parts stream d a
    → Accrues parts stream d b → a ≡ b
one_accrual parts stream d a b kept h k =
    let same : h.member ≡ k.member = some_is h.member k.member (sym h.at ∙ k.at) in
    one_in k.member d a b
    (has_boundaries k.member (every_get KeepsBounds parts (stream - 1) k.member kept.each k.at))
    (subst (λ (p : Part). IsAccrual p d a) same h.holds) k.holds
