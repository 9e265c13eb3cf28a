-- The payments of a stream with their amounts: they are in their relations, and there is one outcome.
use Rattle.std.proofs.Common.{◌≡◌, ℕ, ◌+◌, ◌-◌, ◌<◌, ◌≤◌, List, [], ◌∷◌, ◌++◌, length, map, take, Some, option_map}
use Rattle.std.proofs.Common.{refl, sym, ap, ap₂, subst, ◌∙◌, arith}
use Rattle.std.specs.Prelude.{slice_get}
use Rattle.std.proofs.lemmas.List.{take_all}
use Rattle.irs_base.specs.Lists.{AreDays, IsRising, Every}
use Rattle.irs_base.specs.Outcomes.{Determined, Spec, each_in_turn, given_by, refused_as}
use Rattle.irs_terms.specs.declared.places.Fault.{Fault}
use Rattle.irs_base.proofs.CoverLemmas.{LieAmong, covers_each}
use Rattle.irs_base.proofs.EveryLemmas.{every_both}
use Rattle.irs_base.proofs.Outcomes.{each_begins, each_ends, each_goes_on}
use Rattle.irs_base.proofs.Outcomes.{answer_determined, each_determined, given_by_determined, refused_as_determined}
use Rattle.irs_base.proofs.Outcomes.{then_determined}
use Rattle.irs_terms.specs.Lawful.{decimals_of}
use Rattle.irs_terms.specs.Private.TermDates.{AllStepsRise}
use Rattle.irs_terms.specs.declared.results.Payment.{Payment}
use Rattle.irs_compound.specs.Amounts.{payment_amount_of}
use Rattle.irs_compound.proofs.Outcomes.{payment_determined}
use Rattle.irs_payments.specs.Payments.{Covers}
use Rattle.irs_schedule.specs.Schedules.{entries_of, entry_of, passed_at, paying, AreTerms, IsAmountFor, dec_of}
use Rattle.irs_schedule.specs.Schedules.{StreamDates, IsPaymentEntry, payment_of}
use Rattle.irs_schedule.specs.Parts.{HasAmount}
use Rattle.irs_schedule.specs.declared.entries.PaymentEntry.{PaymentEntry}
use Rattle.irs_schedule.proofs.RateLemmas.{AreAbove}
use Rattle.irs_schedule.proofs.TermsThere.{amount_by, terms_by, terms_fit, terms_there}
use Rattle.irs_schedule.proofs.Unique.{one_terms}

module _ (d : StreamDates) where
  -- an entry that is answered is the payment with the amount of its periods
  entry_is : (p : Payment) (y : PaymentEntry) → (entry_of d p).Answers y → (payment_of y ≡ p) × IsPaymentEntry d y
  entry_is p y h =
      let places = decimals_of d.stream.currency.letters in
      let units = h.2.0 in
      let made : PaymentEntry = paying p (option_map (dec_of places) units) in
      let amount : IsAmountFor d p (option_map (dec_of places) units) = record {
        terms = h.0;
        are_terms = h.1;
        is_amount = amount_by d.stream h.0 places units refl h.2.1.1;
      } in
      subst (λ (z : PaymentEntry). (payment_of z ≡ p) × IsPaymentEntry d z) (sym h.2.2) (refl, amount)

  numbered_are : (n : ℕ) (ps : List Payment) (es : List PaymentEntry)
      → (each_in_turn (λ _ p. entry_of d p) n ps).Answers es → (map payment_of es ≡ ps) × Every (IsPaymentEntry d) es
  unfolding each_in_turn
  numbered_are n [] es h =
      (ap (map payment_of) h, subst (Every (IsPaymentEntry d)) (sym h) tt)
  numbered_are n (p ∷ ps) es h =
      let y = h.0 in
      let own = entry_is p y h.1 in
      let rest = numbered_are (n + 1) ps h.2.0 h.2.1 in
      let same = h.2.2 in (
        ap (map payment_of) same ∙ ap₂ ◌∷◌ own.0 rest.0,
        subst (Every (IsPaymentEntry d)) (sym same) (own.1, rest.1),
      )

  -- entries that are answered are the payments, each with its amount
  pub entries_are : (ps : List Payment) (es : List PaymentEntry) → (entries_of d ps).Answers es
      → (map payment_of es ≡ ps) × Every (IsPaymentEntry d) es
  entries_are ps es h = numbered_are 1 ps es h

  module _ (rises : AllStepsRise d.stream) (above : AreAbove d.rates) (rising : IsRising d.adjusted)
      (days : AreDays d.adjusted) (last : ℕ) (high : last < length d.adjusted) where
    entry_determined : (p : Payment) → LieAmong 1 last p.first_period p.last_period → Determined (entry_of d p)
    entry_determined p lies =
        let places = decimals_of d.stream.currency.letters in
        let are = terms_there d rising days above last high p lies in
        then_determined (given_by (AreTerms d p)) _
        (given_by_determined (AreTerms d p) (terms_by d p, are) (one_terms d rises above p)) (λ terms is.
        let fits = terms_fit d rising days p.first_period terms lies.from (omega (arith, is.count, lies.to, high)) is.each in
        then_determined (refused_as (λ n. passed_at (p.first_period + n - 1)) (payment_amount_of d.stream.compounding terms places)) _
        (refused_as_determined (λ n. passed_at (p.first_period + n - 1)) (payment_amount_of d.stream.compounding terms places)
        (payment_determined d.stream.compounding terms places fits)) (λ units _.
        answer_determined (paying p (option_map (dec_of places) units))))

    -- payments that cover the periods have one list of amounts, or one first period that leaves its range
    pub entries_determined : (ps : List Payment) → Covers 1 ps last → Determined (entries_of d ps)
    entries_determined ps covers =
        each_determined (λ _ p. entry_of d p) (λ (p : Payment). LieAmong 1 last p.first_period p.last_period)
        (λ i p lies. entry_determined p lies) 1 ps
        (covers_each (λ (p : Payment). p.first_period) (λ (p : Payment). p.last_period) 1 1 last ps (omega arith) covers)

-- ---- along the loop over the payments

-- the first i payments with their amounts, which lie within the bounds
pub record EntriesSoFar (d : StreamDates) (ps : List Payment) (i : ℕ) (es : List PaymentEntry) : Type 0 where
  pub answers : (entries_of d (take i ps)).Answers es
  pub bounds : Every (HasAmount d.stream.currency) es

module _ (d : StreamDates) (ps : List Payment) where
  abbrev numbered : ℕ → Payment → Spec PaymentEntry Fault
  numbered n p = entry_of d p

  -- no payments have no entries
  pub no_entries : EntriesSoFar d ps 0 []
  no_entries = record { answers = each_begins numbered 1; bounds = tt }

  -- the entries of all payments are the answer
  pub all_entries : (i : ℕ) (es : List PaymentEntry) → length ps ≤ i → EntriesSoFar d ps i es
      → (entries_of d ps).Answers es
  all_entries i es all so_far =
      subst (λ (qs : List Payment). (entries_of d qs).Answers es) (take_all i ps all) so_far.answers

  module _ (i : ℕ) (es : List PaymentEntry) (p : Payment) (at : slice_get ps i ≡ Some p)
      (so_far : EntriesSoFar d ps i es) where
    -- an entry of one more payment
    pub one_more_entry : (y : PaymentEntry) → (entry_of d p).Answers y → HasAmount d.stream.currency y
        → EntriesSoFar d ps (i + 1) (es ++ y ∷ [])
    one_more_entry y is bound = record {
      answers = each_goes_on numbered 1 ps i es p at so_far.answers y is;
      bounds = every_both (HasAmount d.stream.currency) es (y ∷ []) so_far.bounds (bound, tt);
    }

    -- a payment that is refused is the refusal
    pub stops_at_entry : (f : Fault) → (entry_of d p).Refuses f → (entries_of d ps).Refuses f
    stops_at_entry f first = each_ends numbered 1 ps i es p at so_far.answers f first
