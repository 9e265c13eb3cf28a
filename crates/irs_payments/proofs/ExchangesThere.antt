-- An exchange is the first that lacks its adjusted day, or none does and there is the list of exchanges.
use Rattle.std.proofs.Common.{◌≡◌, inl, inr, ℕ, zero, suc, ◌+◌, ◌-◌, ◌^◌, Bool, true, false, List, [], ◌∷◌, ◌++◌, Some}
use Rattle.std.proofs.Common.{ℤ, pos, ◌-ℤ◌, ◌<ℤ◌, if◌then◌else◌, arith, refl, subst}
use Rattle.std.specs.Prelude.{All, slice_get}
use Rattle.std.specs.Ordering.{int_eq}
use Rattle.std.proofs.lemmas.List.Elements.{All-append, All-cons}
use Rattle.std.proofs.lemmas.Option.{slice_get_within, get_or_from_slice_get}
use Rattle.jiff_core.proofs.SignedLemmas.{signed_arith}
use Rattle.irs_base.specs.Days.{IsDay}
use Rattle.irs_terms.specs.Elements.{principal_exchanges}
use Rattle.irs_terms.specs.declared.places.Rule.TheVariants.{K33}
use Rattle.irs_terms.specs.declared.places.Fault.{Fault}
use Rattle.irs_base.proofs.RoundingLaws.{nearest_exists}
use Rattle.irs_terms.specs.Lawful.{decimals_of, IsLawfulStream}
use Rattle.irs_terms.specs.declared.step_list.Step.{Step}
use Rattle.irs_terms.specs.declared.results.Exchange.{Exchange}
use Rattle.irs_terms.specs.declared.stream.Stream.{Stream}
use Rattle.irs_calendar.specs.GoodDays.{DaySet}
use Rattle.irs_adjust.specs.MovedDays.{Adjusts}
use Rattle.irs_payments.specs.declared.exchanges.Transfer.{Transfer}
use Rattle.irs_payments.specs.Exchanges.{transfer, initial_of, change, changes, intermediate_of, last_value, final_of}
use Rattle.irs_payments.specs.Exchanges.{transfers_of, IsExchange, AreExchanges, LacksTransferDay, BreaksExchanges}
use Rattle.irs_base.specs.Outcomes.{First}
use Rattle.irs_terms.specs.Faults.{fault_at, comes_before}
use Rattle.irs_adjust.proofs.FoundDays.{InRange, IsFound, decides_adjusts}
use Rattle.irs_base.specs.Private.Order.{IsDecided}
use Rattle.irs_terms.proofs.FaultOrder.{one_fault}
use Rattle.irs_base.proofs.MemberLemmas.{pairs_there}
use Rattle.irs_payments.proofs.ExchangeLemmas.{ten_power}
use Rattle.irs_payments.proofs.FirstFaults.{FirstOrNone}
use Rattle.irs_payments.proofs.NumberLemmas.{decides_in}

-- the dates of the exchanges are days

-- the date of a transfer is a day in range
abbrev pub IsDated : Transfer → Type 0
IsDated t = IsDay t.date

dated_none : All IsDated []
dated_none = λ i d l. absurd (omega arith)

dated_one : (date amount : ℤ) → IsDay date → All IsDated (transfer date amount ∷ [])
dated_one date amount day = All-cons IsDated (transfer date amount) [] day dated_none

dated_part : (b : Bool) (ts : List Transfer) → All IsDated ts → All IsDated (if b then ts else [])
dated_part true ts dated = dated
dated_part false ts dated = dated_none

dated_change : (b : Bool) (step : Step) (amount : ℤ) → IsDay step.day
    → All IsDated (if b then [] else transfer step.day amount ∷ [])
dated_change true step amount day = dated_none
dated_change false step amount day = dated_one step.day amount day

dated_changes : (before : ℤ) (steps : List Step) → All (λ s. IsDay s.day) steps → All IsDated (changes before steps)
dated_changes before [] days = dated_none
dated_changes before (step ∷ steps) days =
    let first = dated_change (int_eq step.value before) step (before -ℤ step.value) (days zero step (omega arith)) in
    let rest = dated_changes step.value steps (λ i d l. days (suc i) d (omega (arith, l))) in
    All-append IsDated (change before step) (changes step.value steps) first rest

-- the dates of all transfers are days in range
pub dated_transfers : (s : Stream) → IsLawfulStream s → All IsDated (transfers_of s)
dated_transfers s lawful =
    let steps : All (λ s. IsDay s.day) s.notional.steps = λ i d l. (lawful.notional.2 i d l).0 in
    let a : All IsDated (initial_of s) =
    dated_part s.exchanges.initial _ (dated_one s.effective.day (pos 0 -ℤ s.notional.initial) lawful.effective.0) in
    let b : All IsDated (intermediate_of s) =
    dated_part s.exchanges.intermediate _ (dated_changes s.notional.initial s.notional.steps steps) in
    let c : All IsDated (final_of s) =
    dated_part s.exchanges.last _
    (dated_one s.termination.day (last_value s.notional.initial s.notional.steps) lawful.termination.0) in
    All-append IsDated (initial_of s ++ intermediate_of s) (final_of s)
    (All-append IsDated (initial_of s) (intermediate_of s) a b) c

-- an exchange on an adjusted day; its amount can always be rounded
exchange_on : (s : Stream) (set : DaySet) (t : Transfer) (r : ℤ) → Adjusts s.pay.adj.code set t.date r
    → (x : Exchange) × IsExchange s set t x
exchange_on s set t r adjusts =
    let places : ℕ = decimals_of s.currency.letters in
    let above : pos 0 <ℤ pos (10 ^ (4 - places)) = omega (arith, signed_arith, ten_power (4 - places)) in
    let units = nearest_exists t.amount (pos (10 ^ (4 - places))) above in (
      record { unadjusted = t.date; adjusted = r; amount = record { units = units.0; places = places } },
      record { unadjusted = refl; adjusted = adjusts; places = refl; amount = units.1 },
    )

-- the exchange with the number i + 1
exchange_of : (s : Stream) (set : DaySet) (i : ℕ) (t : Transfer) → ((f : Fault) → BreaksExchanges s set f → ⊥)
    → slice_get (transfers_of s) i ≡ Some t → IsFound (Adjusts s.pay.adj.code set t.date)
    → (x : Exchange) × IsExchange s set t x
exchange_of s set i t kept at (inl found) = exchange_on s set t found.0 found.1
exchange_of s set i t kept at (inr none) =
    let place : i + 1 - 1 ≡ i = omega arith in
    absurd (kept (fault_at K33 principal_exchanges (i + 1)) (record {
      number = i + 1;
      bad = record { from_one = omega arith; member = t; at = rw place at; holds = none };
      is = refl;
    }))

module _ (s : Stream) (set : DaySet) (lawful : IsLawfulStream s) (range : InRange set) where
  -- the date of each exchange has its adjusted day, or none
  date_found : (i : ℕ) (t : Transfer) → slice_get (transfers_of s) i ≡ Some t
      → IsFound (Adjusts s.pay.adj.code set t.date)
  date_found i t at =
      let within = slice_get_within (transfers_of s) i t at in
      let day : IsDay t.date =
      subst IsDated (get_or_from_slice_get (transfers_of s) i t t at) (dated_transfers s lawful i t within) in
      decides_adjusts s.pay.adj.code set t.date day range

  -- so the date lacks one, or it doesn't
  decides_lacks : (i : ℕ) (t : Transfer) → slice_get (transfers_of s) i ≡ Some t → IsDecided (LacksTransferDay s set t)
  decides_lacks i t at = elim (date_found i t at) [
    | inl found ↦ inr (λ lacks. lacks found.0 found.1)
    | inr none ↦ inl none
  ]

  -- an exchange is the first without an adjusted day, or each has one
  pub exchanges_decided : FirstOrNone (BreaksExchanges s set)
  exchanges_decided = decides_in K33 principal_exchanges (LacksTransferDay s set) (transfers_of s) decides_lacks

  -- where each has one there are the exchanges
  pub exchanges_there : ((f : Fault) → BreaksExchanges s set f → ⊥) → (xs : List Exchange) × AreExchanges s set xs
  exchanges_there kept =
      pairs_there (IsExchange s set) (transfers_of s) (λ i t at. exchange_of s set i t kept at (date_found i t at))

-- at most one exchange is the first without an adjusted day
pub one_exchanges_rule : (s : Stream) (set : DaySet) (f g : Fault) → First comes_before (BreaksExchanges s set) f
    → First comes_before (BreaksExchanges s set) g → f ≡ g
one_exchanges_rule s set = one_fault (BreaksExchanges s set)
