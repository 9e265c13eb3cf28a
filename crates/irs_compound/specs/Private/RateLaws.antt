-- Private: no public contract rests on this file.
-- Of private functions: the laws of the rates of a period.
use Rattle.std.proofs.Common.{ℕ, suc, zero, ◌^◌, ◌≤◌, ℤ, pos, negsuc, ◌≤ℤ◌, ◌*ℤ◌, ◌<ℤ◌, arith, ◌≡◌, refl, sym, subst}
use Rattle.std.proofs.Common.{ap, ◌∙◌, Bool, true, false, if◌then◌else◌, [], ◌∷◌, ◌++◌, append_assoc, Option, Some}
use Rattle.std.proofs.Common.{None, All, Contains, ◌-◌, ◌+ℤ◌, IfSome}
use Rattle.jiff_core.proofs.SignedLemmas.{signed_arith}
use Rattle.std.specs.Prelude.{List, length, int_lt, ◌+◌, ◌*◌}
use Rattle.std.specs.List.Sorted.{IsPartitionPoint}
use Rattle.std.proofs.lemmas.List.{append-nil}
use Rattle.std.proofs.lemmas.List.Elements.{All-nil, All-cons, All-push, All-weaker, All-contains, All-contains_itself}
use Rattle.std.proofs.lemmas.List.Elements.{Contains-push, Contains-append_left}
use Rattle.irs_base.specs.Days.{IsDay}
use Rattle.irs_base.specs.Limits.{most_rate, rounded}
use Rattle.irs_base.proofs.RoundingLaws.{rounded_once, rounded_is}
use Rattle.irs_terms.specs.declared.step_list.Step.{Step}
use Rattle.irs_terms.specs.declared.step_list.StepValues.{StepValues}
use Rattle.irs_terms.specs.Lawful.{IsLawfulValues}
use Rattle.irs_terms.specs.TermDates.{StepsRise, LegStepsRise}
use Rattle.irs_terms.specs.declared.amounts.FloatTerms.{FloatTerms}
use Rattle.irs_terms.specs.declared.amounts.Rounding.{Rounding}
use Rattle.irs_terms.specs.declared.amounts.Leg.{Leg}
use Rattle.irs_terms.specs.declared.amounts.Leg.TheVariants.{Fixed, Floating}
use Rattle.irs_terms.specs.declared.codes.Treatment.{Treatment}
use Rattle.irs_terms.specs.declared.codes.Treatment.TheVariants.{AsIs, ZeroFloor}
use Rattle.irs_observed.proofs.PeriodRateLaws.{period_rate_is, period_rate_value}
use Rattle.irs_observed.specs.ObservedRates.{RateFraction, period_rate_at}
use Rattle.irs_observed.specs.declared.overnight_rate.OvernightRate.{OvernightRate}
use Rattle.irs_observed.specs.declared.overnight_rate.OvernightRate.TheVariants.{Stated, Known, Absent, OutOfRange}
use Rattle.irs_compound.specs.Private.AmountLaws.{ten_above, scaled_above}
use Rattle.irs_compound.specs.PeriodRates.{LastOf, InForce, value_of, later_step, counted_step, last_from}
use Rattle.irs_compound.specs.PeriodRates.{value_in_force, rate_by_rounding, treated, RateAt, Treats, RatesOf}
use Rattle.irs_compound.specs.PeriodRates.{FixedRatesOf, AreRates, exact_base, rates_of, fixed_rates_of, leg_rates}
use Rattle.irs_compound.specs.PeriodRates.{AreRatesBy, AreRatesIn, IsAbove, RatesOver, overnight_rates_by, rates_in}
use Rattle.irs_compound.specs.PeriodRates.{rates_over}
use Rattle.irs_compound.specs.declared.periods.Rates.{Rates}

-- ---- powers of ten

-- powers of ten rise
pub ten_order : (m n : ℕ) → m ≤ n → 10 ^ m ≤ 10 ^ n
ten_order zero n h = let k = ten_above n in omega (arith, k)
ten_order (suc m) zero h = absurd (omega (arith, h))
ten_order (suc m) (suc n) h = let k = ten_order m n (omega (arith, h)) in omega (arith, k)

-- a power of ten is above 0, as a signed number
pub ten_positive : (n : ℕ) → pos 0 <ℤ pos (10 ^ n)
ten_positive n = let h = ten_above n in omega (arith, signed_arith, h)

-- a product of two numbers above 0
pub product_above : (a b : ℤ) → pos 1 ≤ℤ a → pos 0 <ℤ b → pos 0 <ℤ (a *ℤ b)
product_above a (negsuc k) h e = absurd (omega (arith, signed_arith, e))
product_above a (pos n) h e = scaled_above a n h (omega (arith, signed_arith, e))

-- ---- how many steps aren't after a day

-- the first n steps aren't after the day d, and the others are
abbrev pub IsCountTo : ℤ → List Step → ℕ → Type 0
IsCountTo d steps n = (n ≤ length steps) × IsPartitionPoint (λ s. s.day ≤ℤ d) (λ s. d <ℤ s.day) steps n

-- ---- there is a value in force on each day, and where the steps rise there is only one

-- a day is at most itself
pub same_day : (a : ℤ) → a ≤ℤ a
same_day a = omega (arith, signed_arith)

-- a step after the day at the end
after : (xs : List Step) (last : Option Step) (s : Step) (d : ℤ) → d <ℤ s.day → LastOf xs d last
    → LastOf (xs ++ s ∷ []) d last
after xs None s d l h = All-push (λ t. d <ℤ t.day) xs s h l
after xs (Some t) s d l h = (
  Contains-append_left xs (s ∷ []) t h.0,
  h.1,
  All-push (λ u. u.day ≤ℤ d → u.day ≤ℤ t.day) xs s h.2 (λ k. absurd (omega (arith, signed_arith, k, l))),
)

-- a step that counts at the end, and is the last
counts : (xs : List Step) (s : Step) (d : ℤ) → s.day ≤ℤ d → All (λ t. t.day ≤ℤ d → t.day ≤ℤ s.day) xs
    → LastOf (xs ++ s ∷ []) d (Some s)
counts xs s d l h = (Contains-push xs s, l, All-push (λ t. t.day ≤ℤ d → t.day ≤ℤ s.day) xs s h (λ _. same_day s.day))

-- of two steps up to the day the later one is in force
later_of : (xs : List Step) (t s : Step) (d : ℤ) (b : Bool) → int_lt t.day s.day ≡ b → s.day ≤ℤ d → LastOf xs d (Some t)
    → LastOf (xs ++ s ∷ []) d (Some (if b then s else t))
later_of xs t s d true e l h =
    let k : t.day <ℤ s.day = omega (arith, signed_arith, e) in
    counts xs s d l (All-weaker (λ u. u.day ≤ℤ d → u.day ≤ℤ t.day) (λ u. u.day ≤ℤ d → u.day ≤ℤ s.day) (λ u f g. let m =
    f g in omega (arith, signed_arith, m, k)) xs h.2)
later_of xs t s d false e l h =
    let k : s.day ≤ℤ t.day = omega (arith, signed_arith, e) in
    (Contains-append_left xs (s ∷ []) t h.0, h.1, All-push (λ u. u.day ≤ℤ d → u.day ≤ℤ t.day) xs s h.2 (λ _. k))

-- a further step up to the day is in force instead if its date is later
within : (xs : List Step) (last : Option Step) (s : Step) (d : ℤ) → s.day ≤ℤ d → LastOf xs d last
    → LastOf (xs ++ s ∷ []) d (Some (later_step last s))
within xs None s d l h =
    counts xs s d l (All-weaker (λ t. d <ℤ t.day) (λ t. t.day ≤ℤ d
    → t.day ≤ℤ s.day) (λ t a k. absurd (omega (arith, signed_arith, a, k))) xs h)
within xs (Some t) s d l h = later_of xs t s d (int_lt t.day s.day) refl l h

-- the step in force after one more step
one_more : (xs : List Step) (last : Option Step) (s : Step) (d : ℤ) (b : Bool) → int_lt d s.day ≡ b → LastOf xs d last
    → LastOf (xs ++ s ∷ []) d (if b then last else Some (later_step last s))
one_more xs last s d true e h = after xs last s d (omega (arith, signed_arith, e)) h
one_more xs last s d false e h = within xs last s d (omega (arith, signed_arith, e)) h

-- the step in force after more steps
more : (xs ys : List Step) (last : Option Step) (d : ℤ) → LastOf xs d last → LastOf (xs ++ ys) d (last_from d last ys)
more xs [] last d h = subst (λ (zs : List Step). LastOf zs d last) (sym (append-nil xs)) h
more xs (y ∷ ys) last d h =
    let k = more (xs ++ y ∷ []) ys (counted_step d last y) d (one_more xs last y d (int_lt d y.day) refl h) in
    subst (λ (zs : List Step). LastOf zs d (last_from d (counted_step d last y) ys)) (append_assoc xs (y ∷ []) ys) k

-- the function gives a value in force
pub in_force_is : (values : StepValues) (d : ℤ) → InForce values d (value_in_force values d)
unfolding value_in_force
in_force_is values d =
    record {
      last = last_from d None values.steps;
      last_is =
          more [] values.steps None d (All-nil (λ (t : Step). d <ℤ t.day));
      value_is = refl;
    }

-- one more step at the end
pub last_from-push : (d : ℤ) (last : Option Step) (xs : List Step) (s : Step)
    → last_from d last (xs ++ s ∷ []) ≡ counted_step d (last_from d last xs) s
last_from-push d last [] s = refl
last_from-push d last (x ∷ xs) s = last_from-push d (counted_step d last x) xs s

-- where steps rise, the others are after the first
pub behind : (s : Step) (ss : List Step) → StepsRise (s ∷ ss) → All (λ t. s.day <ℤ t.day) ss
behind s [] h = All-nil (λ t. s.day <ℤ t.day)
behind s (t ∷ ss) h =
    All-cons (λ u. s.day <ℤ u.day) t ss h.0
    (All-weaker (λ u. t.day <ℤ u.day) (λ u. s.day <ℤ u.day) (λ u k. omega (arith, signed_arith, k, h.0)) ss
    (behind t ss h.1))

-- the later steps of rising steps rise
pub rest : (s : Step) (ss : List Step) → StepsRise (s ∷ ss) → StepsRise ss
rest s [] h = tt
rest s (t ∷ ss) h = h.1

-- two of them with one date are one
abbrev IsAlone : List Step → Step → Type 0
IsAlone ss s = All (λ t. s.day ≡ t.day → s ≡ t) ss

-- of steps that rise, no two have the same date
alone : (ss : List Step) → StepsRise ss → All (IsAlone ss) ss
alone [] h = All-nil (IsAlone [])
alone (x ∷ xs) h =
    let b = behind x xs h in
    let first : IsAlone (x ∷ xs) x =
    All-cons (λ t. x.day ≡ t.day → x ≡ t) x xs (λ _. refl)
    (All-weaker (λ t. x.day <ℤ t.day) (λ t. x.day ≡ t.day
    → x ≡ t) (λ t l e. absurd (omega (arith, signed_arith, l, e))) xs b) in
    All-cons (IsAlone (x ∷ xs)) x xs first
    (All-weaker (Contains xs) (IsAlone (x ∷ xs))
    (λ u c. All-cons (λ t. u.day ≡ t.day → u ≡ t) x xs
    (λ e. let l : x.day <ℤ u.day = All-contains (λ t. x.day <ℤ t.day) xs u b c in
    absurd (omega (arith, signed_arith, l, e)))
    (All-contains (IsAlone xs) xs u (alone xs (rest x xs h)) c))
    xs (All-contains_itself xs))

-- of steps that rise, one at most is in force
one_last : (steps : List Step) (d : ℤ) (a b : Option Step) → StepsRise steps → LastOf steps d a
    → LastOf steps d b → a ≡ b
one_last steps d None None r h k = refl
one_last steps d None (Some t) r h k =
    let l : d <ℤ t.day = All-contains (λ u. d <ℤ u.day) steps t h k.0 in
    absurd (omega (arith, signed_arith, l, k.1))
one_last steps d (Some s) None r h k =
    let l : d <ℤ s.day = All-contains (λ u. d <ℤ u.day) steps s k h.0 in
    absurd (omega (arith, signed_arith, l, h.1))
one_last steps d (Some s) (Some t) r h k =
    let l : t.day ≤ℤ s.day = All-contains (λ u. u.day ≤ℤ d → u.day ≤ℤ s.day) steps t h.2 k.0 k.1 in
    let m : s.day ≤ℤ t.day = All-contains (λ u. u.day ≤ℤ d → u.day ≤ℤ t.day) steps s k.2 h.0 h.1 in
    let e : s.day ≡ t.day = omega (arith, signed_arith, l, m) in
    ap Some (All-contains (λ u. s.day ≡ u.day → s ≡ u) steps t
    (All-contains (IsAlone steps) steps s (alone steps r) h.0) k.0 e)

-- where the steps rise, a last step is that of the function
pub last_from_is : (steps : List Step) (d : ℤ) (last : Option Step) → StepsRise steps → LastOf steps d last
    → last ≡ last_from d None steps
last_from_is steps d last r h =
    one_last steps d last (last_from d None steps) r h (more [] steps None d (All-nil (λ (t : Step). d <ℤ t.day)))

-- where the steps rise, any two values in force on one day are equal
pub one_in_force : (values : StepValues) (d v w : ℤ) → StepsRise values.steps → InForce values d v
    → InForce values d w → v ≡ w
one_in_force values d v w r a b =
    let e : a.last ≡ b.last = one_last values.steps d a.last b.last r a.last_is b.last_is in
    a.value_is ∙ ap (λ (o : Option Step). value_of o values.initial) e ∙ sym b.value_is

-- the value in force keeps the range of the initial value and the steps
last_within : (Within : ℤ → Type 0) (values : StepValues) (d : ℤ) (last : Option Step) → Within values.initial
    → All (λ (s : Step). Within s.value) values.steps → LastOf values.steps d last
    → Within (value_of last values.initial)
last_within Within values d None h k l = h
last_within Within values d (Some s) h k l = All-contains (λ (t : Step). Within t.value) values.steps s k l.0

-- a value in force has the range of all values
pub in_force_within : (Within : ℤ → Type 0) (values : StepValues) (d v : ℤ) → IsLawfulValues Within values
    → InForce values d v → Within v
in_force_within Within values d v h x =
    let k : All (λ (s : Step). Within s.value) values.steps =
    All-weaker (λ (s : Step). IsDay s.day × Within s.value) (λ (s : Step). Within s.value)
    (λ s a. a.1) values.steps h.2 in
    subst Within (sym x.value_is) (last_within Within values d x.last h.0 k x.last_is)

-- the value of the last step is that of the function
pub last_value : (values : StepValues) (d : ℤ) (last : Option Step) → last ≡ last_from d None values.steps
    → value_of last values.initial ≡ value_in_force values d
unfolding value_in_force
last_value values d last e = ap (λ (o : Option Step). value_of o values.initial) e

-- ---- the rates of a period

-- the rate of an exact one: rounded, and then by its treatment
abbrev pub all_in_at : FloatTerms → ℤ → ℤ
all_in_at f exact = treated f.treatment (rate_by_rounding f.rounding exact)

-- the size of an exact base rate, in units of 10^-18: the greatest multiplier times the greatest observed rate
abbrev pub most_exact_base : ℕ
most_exact_base = most_rate * most_rate

-- the size of an exact rate, in units of 10^-18: that, and the greatest spread
abbrev pub most_exact_rate : ℕ
most_exact_rate = most_exact_base + most_rate * 10 ^ 9

-- ---- a period has rates, and where the steps rise only one pair of them

-- rates with the same parts are the same
pub same_rates : (a b : Rates) → a.base ≡ b.base → a.all_in ≡ b.all_in → a ≡ b
same_rates a b h k =
    let mk : ℤ → ℤ → Rates = λ m n. record { base = m; all_in = n } in
    ap (λ m. mk m a.all_in) h ∙ ap (λ n. mk b.base n) k

-- the function gives a rounded rate
pub rate_at_is : (rounding : Rounding) (exact : ℤ) → RateAt rounding exact (rate_by_rounding rounding exact)
rate_at_is rounding exact = record {
  whole = rounded rounding.dir exact (pos (10 ^ (18 - rounding.places)));
  rounds = rounded_is rounding.dir exact (pos (10 ^ (18 - rounding.places))) (ten_positive (18 - rounding.places));
  scales = refl;
}

-- an exact rate has one rounded rate
one_rate_at : (rounding : Rounding) (exact x y : ℤ) → RateAt rounding exact x → RateAt rounding exact y → x ≡ y
one_rate_at rounding exact x y a b =
    let e : a.whole ≡ b.whole =
    rounded_once rounding.dir exact (pos (10 ^ (18 - rounding.places))) a.whole b.whole
    (ten_positive (18 - rounding.places)) a.rounds b.rounds in
    a.scales ∙ ap (λ (w : ℤ). w *ℤ pos (10 ^ (9 - rounding.places))) e ∙ sym b.scales

-- the zero rate method gives 0 for a rate below 0, and otherwise the rate
floored : (y : ℤ) (b : Bool) → int_lt y (pos 0) ≡ b → Treats ZeroFloor y (if b then pos 0 else y)
floored y true e = let l : y <ℤ pos 0 = omega (arith, signed_arith, e) in
    (λ h. absurd (omega (arith, signed_arith, h, l)), λ _. refl)
floored y false e = let l : pos 0 ≤ℤ y = omega (arith, signed_arith, e) in
    (λ _. refl, λ h. absurd (omega (arith, signed_arith, h, l)))

-- the function gives a rate by its treatment
pub treated_is : (treatment : Treatment) (y : ℤ) → Treats treatment y (treated treatment y)
treated_is AsIs y = refl
treated_is ZeroFloor y = floored y (int_lt y (pos 0)) refl

-- the zero rate method gives one rate
one_floored : (y r : ℤ) (b : Bool) → int_lt y (pos 0) ≡ b → Treats ZeroFloor y r → r ≡ (if b then pos 0 else y)
one_floored y r true e h = h.1 (omega (arith, signed_arith, e))
one_floored y r false e h = h.0 (omega (arith, signed_arith, e))

-- a rate by its treatment is the function's
pub treated_value : (treatment : Treatment) (y r : ℤ) → Treats treatment y r → r ≡ treated treatment y
treated_value AsIs y r h = h
treated_value ZeroFloor y r h = one_floored y r (int_lt y (pos 0)) refl h

-- the function gives rates
pub rates_are : (f : FloatTerms) (start observed : ℤ) → RatesOf f start observed (rates_of f start observed)
unfolding rates_of
rates_are f start observed = record {
  multiplier = value_in_force f.multiplier start;
  spread = value_in_force f.spread start;
  multiplies = in_force_is f.multiplier start;
  adds = in_force_is f.spread start;
  base = rate_at_is f.rounding (exact_base f start observed);
  rounded_rate = rate_by_rounding f.rounding (exact_base f start observed +ℤ value_in_force f.spread start *ℤ pos (10 ^ 9));
  rounds = rate_at_is f.rounding (exact_base f start observed +ℤ value_in_force f.spread start *ℤ pos (10 ^ 9));
  treats = treated_is f.treatment
      (rate_by_rounding f.rounding (exact_base f start observed +ℤ value_in_force f.spread start *ℤ pos (10 ^ 9)));
}

-- where the steps rise, any two pairs of rates are equal
pub one_rates : (f : FloatTerms) (start observed : ℤ) (a b : Rates) → StepsRise f.multiplier.steps
    → StepsRise f.spread.steps → RatesOf f start observed a → RatesOf f start observed b → a ≡ b
one_rates f start observed a b r q x y =
    let m : x.multiplier ≡ y.multiplier =
    one_in_force f.multiplier start x.multiplier y.multiplier r x.multiplies y.multiplies in
    let s : x.spread ≡ y.spread = one_in_force f.spread start x.spread y.spread q x.adds y.adds in
    let base : RateAt f.rounding (x.multiplier *ℤ observed) b.base =
    subst (λ (n : ℤ). RateAt f.rounding (n *ℤ observed) b.base) (sym m) y.base in
    let mid : RateAt f.rounding (x.multiplier *ℤ observed +ℤ y.spread *ℤ pos (10 ^ 9)) y.rounded_rate =
    subst (λ (n : ℤ). RateAt f.rounding (n *ℤ observed +ℤ y.spread *ℤ pos (10 ^ 9)) y.rounded_rate)
    (sym m) y.rounds in
    let rounds : RateAt f.rounding (x.multiplier *ℤ observed +ℤ x.spread *ℤ pos (10 ^ 9)) y.rounded_rate =
    subst (λ (n : ℤ). RateAt f.rounding (x.multiplier *ℤ observed +ℤ n *ℤ pos (10 ^ 9)) y.rounded_rate)
    (sym s) mid in
    let same : x.rounded_rate ≡ y.rounded_rate =
    one_rate_at f.rounding (x.multiplier *ℤ observed +ℤ x.spread *ℤ pos (10 ^ 9)) x.rounded_rate y.rounded_rate
    x.rounds rounds in
    same_rates a b
    (one_rate_at f.rounding (x.multiplier *ℤ observed) a.base b.base x.base base)
    (treated_value f.treatment x.rounded_rate a.all_in x.treats ∙ ap (λ (n : ℤ). treated f.treatment n) same
    ∙ sym (treated_value f.treatment y.rounded_rate b.all_in y.treats))

-- rates by their parts
pub rates_value : (f : FloatTerms) (start observed multiplier spread : ℤ) (rates : Rates)
    → multiplier ≡ value_in_force f.multiplier start → spread ≡ value_in_force f.spread start
    → rates.base ≡ rate_by_rounding f.rounding (multiplier *ℤ observed)
    → rates.all_in ≡ treated f.treatment (rate_by_rounding f.rounding (multiplier *ℤ observed +ℤ spread *ℤ pos (10 ^ 9)))
    → rates ≡ rates_of f start observed
unfolding rates_of
rates_value f start observed multiplier spread rates m s b a =
    same_rates rates (rates_of f start observed)
    (b ∙ ap (λ (n : ℤ). rate_by_rounding f.rounding (n *ℤ observed)) m)
    (a ∙ ap (λ (n : ℤ). treated f.treatment (rate_by_rounding f.rounding (n *ℤ observed +ℤ spread *ℤ pos (10 ^ 9)))) m
    ∙ ap (λ (n : ℤ). treated f.treatment (rate_by_rounding f.rounding (exact_base f start observed +ℤ n *ℤ pos (10 ^ 9)))) s)

-- the function gives the rates of a fixed stream
pub fixed_rates_are : (values : StepValues) (start : ℤ) → FixedRatesOf values start (fixed_rates_of values start)
unfolding fixed_rates_of
fixed_rates_are values start = (in_force_is values start, refl)

-- where the steps rise, any two pairs of rates of a fixed stream are equal
pub one_fixed_rates : (values : StepValues) (start : ℤ) (a b : Rates) → StepsRise values.steps
    → FixedRatesOf values start a → FixedRatesOf values start b → a ≡ b
one_fixed_rates values start a b r x y =
    let e : a.base ≡ b.base = one_in_force values start a.base b.base r x.0 y.0 in
    same_rates a b e (x.1 ∙ e ∙ sym y.1)

-- the rates of a fixed stream are the value in force
pub fixed_rates_value : (values : StepValues) (start rate : ℤ) (rates : Rates) → rate ≡ value_in_force values start
    → rates.base ≡ rate → rates.all_in ≡ rate → rates ≡ fixed_rates_of values start
unfolding fixed_rates_of
fixed_rates_value values start rate rates e b a = same_rates rates (fixed_rates_of values start) (b ∙ e) (a ∙ e)

-- the function gives the rates by the leg
pub rates_by_are : (leg : Leg) (start : ℤ) (observed : Option ℤ)
    → AreRates leg start observed (leg_rates leg start observed)
rates_by_are (Fixed values) start observed = fixed_rates_are values start
rates_by_are (Floating float) start None = tt
rates_by_are (Floating float) start (Some o) = rates_are float start o

-- where the steps rise, any two rates by the leg are equal
pub one_leg_rates : (leg : Leg) (start : ℤ) (observed : Option ℤ) (x y : Option Rates) → LegStepsRise leg
    → AreRates leg start observed x → AreRates leg start observed y → x ≡ y
one_leg_rates (Fixed values) start observed None y r h k = absurd h
one_leg_rates (Fixed values) start observed (Some x) None r h k = absurd k
one_leg_rates (Fixed values) start observed (Some x) (Some y) r h k = ap Some (one_fixed_rates values start x y r h k)
one_leg_rates (Floating float) start None None None r h k = refl
one_leg_rates (Floating float) start None None (Some y) r h k = absurd k
one_leg_rates (Floating float) start None (Some x) y r h k = absurd h
one_leg_rates (Floating float) start (Some o) None y r h k = absurd h
one_leg_rates (Floating float) start (Some o) (Some x) None r h k = absurd k
one_leg_rates (Floating float) start (Some o) (Some x) (Some y) r h k =
    ap Some (one_rates float start o x y r.0 r.1 h k)

-- ---- a period of a stream with calculation parameters has rates, and where the steps rise only one pair of them

-- the function gives rates
pub rates_over_are : (f : FloatTerms) (start : ℤ) (x : RateFraction) → pos 0 <ℤ x.denominator
    → RatesOver f start x (rates_over f start x)
unfolding rates_over
rates_over_are f start x above = record {
  multiplier = value_in_force f.multiplier start;
  spread = value_in_force f.spread start;
  multiplies = in_force_is f.multiplier start;
  adds = in_force_is f.spread start;
  base = period_rate_is x above (value_in_force f.multiplier start) (pos 0) f.rounding;
  rounded_rate =
      period_rate_at x (value_in_force f.multiplier start) (value_in_force f.spread start) f.rounding;
  rounds = period_rate_is x above (value_in_force f.multiplier start) (value_in_force f.spread start) f.rounding;
  treats = treated_is f.treatment
      (period_rate_at x (value_in_force f.multiplier start) (value_in_force f.spread start) f.rounding);
}

-- where the steps rise they are the only ones
pub rates_over_value : (f : FloatTerms) (start : ℤ) (x : RateFraction) (rates : Rates) → pos 0 <ℤ x.denominator
    → StepsRise f.multiplier.steps → StepsRise f.spread.steps → RatesOver f start x rates
    → rates ≡ rates_over f start x
unfolding rates_over
rates_over_value f start x rates above r q h =
    let m : h.multiplier ≡ value_in_force f.multiplier start =
    one_in_force f.multiplier start h.multiplier (value_in_force f.multiplier start) r h.multiplies
    (in_force_is f.multiplier start) in
    let s : h.spread ≡ value_in_force f.spread start =
    one_in_force f.spread start h.spread (value_in_force f.spread start) q h.adds (in_force_is f.spread start) in
    let base = period_rate_value x above h.multiplier (pos 0) f.rounding rates.base h.base in
    let whole = period_rate_value x above h.multiplier h.spread f.rounding h.rounded_rate h.rounds in
    same_rates rates (rates_over f start x)
    (base ∙ ap (λ (n : ℤ). period_rate_at x n (pos 0) f.rounding) m)
    (treated_value f.treatment h.rounded_rate rates.all_in h.treats ∙ ap (λ (n : ℤ). treated f.treatment n) whole
    ∙ ap (λ (n : ℤ). treated f.treatment (period_rate_at x n h.spread f.rounding)) m
    ∙ ap (λ (n : ℤ). treated f.treatment (period_rate_at x (value_in_force f.multiplier start) n f.rounding)) s)

-- rates by their parts
pub rates_over_by : (f : FloatTerms) (start : ℤ) (x : RateFraction) (multiplier spread : ℤ) (rates : Rates)
    → multiplier ≡ value_in_force f.multiplier start → spread ≡ value_in_force f.spread start
    → rates.base ≡ period_rate_at x multiplier (pos 0) f.rounding
    → rates.all_in ≡ treated f.treatment (period_rate_at x multiplier spread f.rounding)
    → rates ≡ rates_over f start x
unfolding rates_over
rates_over_by f start x multiplier spread rates m s base all_in =
    same_rates rates (rates_over f start x)
    (base ∙ ap (λ (n : ℤ). period_rate_at x n (pos 0) f.rounding) m)
    (all_in ∙ ap (λ (n : ℤ). treated f.treatment (period_rate_at x n spread f.rounding)) m
    ∙ ap (λ (n : ℤ). treated f.treatment (period_rate_at x (value_in_force f.multiplier start) n f.rounding)) s)

-- the function gives the rates by the leg and the observed rate
pub overnight_are : (leg : Leg) (start : ℤ) (r : OvernightRate) → IsAbove r
    → AreRatesBy leg start r (overnight_rates_by leg start r)
overnight_are (Fixed values) start r above = rates_by_are (Fixed values) start None
overnight_are (Floating f) start (Stated observed) above = rates_by_are (Floating f) start (Some observed)
overnight_are (Floating f) start (Known x) above = rates_over_are f start x above
overnight_are (Floating f) start Absent above = refl
overnight_are (Floating f) start OutOfRange above = refl

-- there is one pair
pub one_overnight : (leg : Leg) (start : ℤ) (r : OvernightRate) (x y : Option Rates) → LegStepsRise leg → IsAbove r
    → AreRatesBy leg start r x → AreRatesBy leg start r y → x ≡ y
one_overnight (Fixed values) start r x y rise above a b = one_leg_rates (Fixed values) start None x y rise a b
one_overnight (Floating f) start (Stated observed) x y rise above a b =
    one_leg_rates (Floating f) start (Some observed) x y rise a b
one_overnight (Floating f) start (Known z) None y rise above a b = absurd a
one_overnight (Floating f) start (Known z) (Some x) None rise above a b = absurd b
one_overnight (Floating f) start (Known z) (Some x) (Some y) rise above a b =
    ap Some (rates_over_value f start z x above rise.0 rise.1 a
    ∙ sym (rates_over_value f start z y above rise.0 rise.1 b))
one_overnight (Floating f) start Absent x y rise above a b = a ∙ sym b
one_overnight (Floating f) start OutOfRange x y rise above a b = a ∙ sym b

-- the function gives the rates of a period
pub rates_in_are : (leg : Leg) (start : ℤ) (observed : Option ℤ) (overnight : Option OvernightRate)
    → IfSome overnight IsAbove → AreRatesIn leg start observed overnight (rates_in leg start observed overnight)
rates_in_are leg start observed None above = rates_by_are leg start observed
rates_in_are leg start observed (Some r) above = overnight_are leg start r above

-- there is one pair
pub one_rates_in : (leg : Leg) (start : ℤ) (observed : Option ℤ) (overnight : Option OvernightRate) (x y : Option Rates)
    → LegStepsRise leg → IfSome overnight IsAbove → AreRatesIn leg start observed overnight x
    → AreRatesIn leg start observed overnight y → x ≡ y
one_rates_in leg start observed None x y rise above a b = one_leg_rates leg start observed x y rise a b
one_rates_in leg start observed (Some r) x y rise above a b = one_overnight leg start r x y rise above a b
