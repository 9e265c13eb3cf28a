-- The flows that state a schedule leave nothing unstated.
use Rattle.std.proofs.Common.{◌≡◌, inl, inr, ℕ, ◌+◌, ◌-◌, Bool, true, false, List, [], ◌∷◌, ◌++◌, map, Option, Some, None, ℤ}
use Rattle.std.proofs.Common.{arith, refl, sym, subst, ap, ◌∙◌}
use Rattle.std.specs.Prelude.{slice_get, option_map, sum_by, ◌==◌}
use Rattle.std.proofs.lemmas.Bool.{cases_Bool, eqb-true}
use Rattle.std.proofs.lemmas.List.Sums.{sum_by-append}
use Rattle.std.proofs.lemmas.Option.{none-some, same_Some, slice_get-map, slice_get_cases}
use Rattle.irs_base.specs.Lists.{Every}
use Rattle.irs_base.proofs.MemberLemmas.{every_get}
use Rattle.irs_base.specs.declared.line.Dec.{Dec}
use Rattle.irs_terms.specs.declared.currency.Currency.{Currency}
use Rattle.irs_terms.specs.declared.results.Exchange.{Exchange}
use Rattle.irs_terms.specs.declared.results.Reset.{Reset}
use Rattle.irs_schedule.specs.Parts.{IsWithin, KeepsBounds, Part}
use Rattle.irs_schedule.specs.RowsOf.{dated_period, period_at}
use Rattle.irs_schedule.specs.declared.entries.PaymentEntry.{PaymentEntry}
use Rattle.irs_schedule.specs.declared.views.CalculationPeriod.{CalculationPeriod}
use Rattle.irs_flows.specs.FlowReading.{FlowPart}
use Rattle.irs_audit.specs.StatedFlows.{stated_amount, stated_exchange, stated_flows, stated_number, stated_part}
use Rattle.irs_audit.specs.StatedFlows.{stated_payment, stated_period, stated_periods_from, stated_reset}
use Rattle.irs_flows.specs.declared.flows.FlowExchange.{FlowExchange}
use Rattle.irs_flows.specs.declared.flows.FlowPayment.{FlowPayment}
use Rattle.irs_flows.specs.declared.flows.FlowPeriod.{FlowPeriod}
use Rattle.irs_audit.proofs.StatedLemmas.{flows_agree, stated_at, stated_get}
use Rattle.irs_breaks.specs.BreakLists.{IsBreakList, counted_reset, payment_counts}
use Rattle.irs_breaks.specs.Findings.{counts_in, number_of, same_standing, exchange_fields, payment_fields}
use Rattle.irs_breaks.specs.Findings.{period_fields, rate_decimal, Findings, one_pair, standing_of}
use Rattle.irs_breaks.specs.declared.counting.Counts.{Counts}
use Rattle.irs_breaks.specs.declared.values.FieldValues.{FieldValues}
use Rattle.irs_breaks.specs.declared.values.Standing.TheVariants.{Unstated}
use Rattle.irs_breaks.specs.declared.values.Values.TheVariants.{Numbers}
use Rattle.irs_breaks.proofs.Agreed.{HasGoodCounts, IsClosed, good_list}
use Rattle.irs_breaks.proofs.PaymentPlaces.{payment_at}
use Rattle.irs_breaks.proofs.RowLemmas.{counted_none}

-- ---- fields

-- a field isn't unstated
abbrev IsTold : FieldValues → Type 0
IsTold f = same_standing (standing_of f.values) Unstated ≡ false

none_unstated : (fields : List FieldValues) → Every IsTold fields → number_of Unstated fields ≡ 0
none_unstated [] h = refl
none_unstated (f ∷ fs) h =
    counted_none (λ (g : FieldValues). same_standing (standing_of g.values) Unstated) f fs h.0 ∙ none_unstated fs h.1

every_append : (P : FieldValues → Type 0) (xs ys : List FieldValues) → Every P xs → Every P ys → Every P (xs ++ ys)
every_append P [] ys h k = k
every_append P (x ∷ xs) ys h k = (h.0, every_append P xs ys h.1 k)

amount_told : (o : Option Dec) → same_standing (standing_of (Numbers o (option_map stated_amount o))) Unstated ≡ false
amount_told None = refl
amount_told (Some v) = refl

rate_told : (o : Option ℤ)
    → same_standing (standing_of (Numbers (rate_decimal o) (option_map (λ r. stated_number r 9) o))) Unstated ≡ false
rate_told None = refl
rate_told (Some r) = refl

exchange_told : (x : Exchange) → Every IsTold (exchange_fields x (stated_exchange x))
exchange_told x = (refl, (refl, (refl, tt)))

payment_told : (currency : Currency) (x : PaymentEntry) → Every IsTold (payment_fields currency x (stated_payment currency x))
payment_told currency x = (refl, (refl, (refl, (amount_told x.amount, tt))))

period_told : (x : CalculationPeriod) (r : Option Reset) → Every IsTold (period_fields x (stated_period x r))
period_told x r = (refl, (refl, (refl, (refl, (refl, (refl, (rate_told x.rate, (refl, tt))))))))

reset_told : (r : Option Reset) → Every IsTold (counted_reset r (option_map stated_reset r))
reset_told None = tt
reset_told (Some r) = (refl, (refl, (rate_told r.observed, tt)))

-- ---- pairs

-- no field of any pair is unstated
abbrev IsWhole : Findings → Type 0
IsWhole l = sum_by (λ (c : Counts). c.unstated) l.pairs ≡ 0

whole_closed : IsClosed IsWhole
whole_closed = record {
  none = refl;
  both = λ a b h k. let sum = sum_by-append (λ (c : Counts). c.unstated) a.pairs b.pairs in omega (arith, sum, h, k);
}

whole_pair : (c : Counts) → c.unstated ≡ 0 → IsWhole (one_pair c)
whole_pair c h = omega (arith, h)

mapped : {X Y : Type 0} (f : X → Y) (xs : List X) (n : ℕ) (x : X) (y : Y) → slice_get xs n ≡ Some x
    → slice_get (map f xs) n ≡ Some y → f x ≡ y
mapped f xs n x y e h =
    same_Some (f x) y (ap (λ o. option_map f o) (sym e) ∙ (sym (slice_get-map f xs n) ∙ h))

payment_whole : (currency : Currency) (x : PaymentEntry) (bare : Bool) → bare ≡ false
    → IsWhole (one_pair (payment_counts bare (counts_in (payment_fields currency x (stated_payment currency x)))))
payment_whole currency x true e = absurd (cc)
payment_whole currency x false e =
    let none = none_unstated (payment_fields currency x (stated_payment currency x)) (payment_told currency x) in
    whole_pair (payment_counts false (counts_in (payment_fields currency x (stated_payment currency x)))) (omega (arith, none))

not_bare : (p : Part) (n : ℕ) (x : PaymentEntry) → KeepsBounds p → slice_get p.payments n ≡ Some x
    → ((x.last_period + 1 - x.first_period) == 0) ≡ false
not_bare p n x bounds at = elim (cases_Bool ((x.last_period + 1 - x.first_period) == 0)) [
  | inl t ↦
      let has = payment_at p n x bounds at in
      let order = has.order in
      let zero_of = eqb-true (x.last_period + 1 - x.first_period) 0 t in
      absurd (omega (arith, order, zero_of))
  | inr f ↦ f
]

period_whole : (p : Part) (n : ℕ) (x : CalculationPeriod) (y : FlowPeriod) → period_at p n ≡ Some x
    → slice_get (stated_periods_from p 0 p.periods) n ≡ Some y
    → IsWhole (one_pair (counts_in (period_fields x y ++ counted_reset (slice_get p.resets n) y.reset)))
period_whole p n x y here there = elim (slice_get_cases p.periods n).1 [
  | inl w ↦
      let reset = slice_get p.resets n in
      let at = w.2 in
      let is : dated_period p (n + 1) w.0 ≡ x =
      same_Some (dated_period p (n + 1) w.0) x (ap (λ o. option_map (dated_period p (n + 1)) o) (sym at) ∙ here) in
      let stated : stated_at p n w.0 ≡ y =
      same_Some (stated_at p n w.0) y (ap (λ o. option_map (stated_at p n) o) (sym at) ∙ (sym (stated_get p n) ∙ there)) in
      let own = dated_period p (n + 1) w.0 in
      let told : Every IsTold (period_fields own (stated_period own reset) ++ counted_reset reset (option_map stated_reset reset)) =
      every_append IsTold (period_fields own (stated_period own reset)) (counted_reset reset (option_map stated_reset reset))
      (period_told own reset) (reset_told reset) in
      let whole : IsWhole (one_pair (counts_in (period_fields own (stated_at p n w.0)
      ++ counted_reset reset (stated_at p n w.0).reset))) =
      whole_pair (counts_in (period_fields own (stated_period own reset) ++ counted_reset reset (option_map stated_reset reset)))
      (none_unstated (period_fields own (stated_period own reset) ++ counted_reset reset (option_map stated_reset reset)) told) in
      subst (λ (z : FlowPeriod). IsWhole (one_pair (counts_in (period_fields x z ++ counted_reset reset z.reset)))) stated
      (subst (λ (z : CalculationPeriod). IsWhole (one_pair (counts_in (period_fields z (stated_at p n w.0)
      ++ counted_reset reset (stated_at p n w.0).reset)))) is whole)
  | inr w ↦
      let none = w.1 in
      absurd (none-some x (ap (λ o. option_map (dated_period p (n + 1)) o) (sym none) ∙ here))
]

whole_counts : (p : Part) → KeepsBounds p → HasGoodCounts IsWhole p (stated_part p)
whole_counts p bounds = record {
  exchanges = λ n x y e f.
      subst (λ (z : FlowExchange). IsWhole (one_pair (counts_in (exchange_fields x z))))
      (mapped stated_exchange p.exchanges n x y e f)
      (whole_pair (counts_in (exchange_fields x (stated_exchange x)))
      (none_unstated (exchange_fields x (stated_exchange x)) (exchange_told x)));
  payments = λ n x y e f.
      subst (λ (z : FlowPayment). IsWhole (one_pair (payment_counts (z.periods == 0) (counts_in (payment_fields p.currency x z)))))
      (mapped (stated_payment p.currency) p.payments n x y e f)
      (payment_whole p.currency x ((x.last_period + 1 - x.first_period) == 0) (not_bare p n x bounds e));
  periods = λ n x y e f. period_whole p n x y e f;
}

-- ---- the list

-- the flows that state a schedule leave no field unstated
pub none_left_unstated : (from : Option ℤ) (s : List Part) (l : Findings) → IsWithin s
    → IsBreakList from s (stated_flows s) l → sum_by (λ (c : Counts). c.unstated) l.pairs ≡ 0
none_left_unstated from s l within h =
    good_list IsWhole whole_closed from s (stated_flows s) l within
    (λ p g k e f. subst (λ (z : FlowPart). HasGoodCounts IsWhole p z) (mapped stated_part s k p g e f)
    (whole_counts p (every_get KeepsBounds s k p within.each e)))
    (flows_agree s within) h
