-- Exchanges: how large they are, and that a stream has one list of them.
use Rattle.std.proofs.Common.{◌≡◌, ℕ, zero, suc, ◌-◌, ◌^◌, ◌<◌, ◌≤◌, Bool, true, false, List, [], ◌∷◌, ◌++◌}
use Rattle.std.proofs.Common.{length, length-append, arith, sym}
use Rattle.std.proofs.Common.{◌∙◌, if◌then◌else◌, ℤ, pos, negsuc, ◌-ℤ◌, ◌<ℤ◌, ◌≤ℤ◌, unsigned_abs, FitsSigned, to_z}
use Rattle.std.proofs.Common.{of_z}
use Rattle.std.specs.Prelude.{All}
use Rattle.std.proofs.lemmas.List.Elements.{All-append, All-cons}
use Rattle.std.specs.Ordering.{int_eq}
use Rattle.std.specs.Int.{w128}
use Rattle.std.proofs.lemmas.Int.{to_z-of_z}
use Rattle.jiff_core.proofs.SignedLemmas.{signed_arith}
use Rattle.irs_base.specs.declared.rounding.Direction.TheVariants.{Nearest}
use Rattle.irs_base.proofs.RoundingLaws.{rounded_once}
use Rattle.irs_terms.specs.Lawful.{decimals_of, IsLawfulStream, IsNotional}
use Rattle.irs_base.specs.Limits.{most_exchanges, most_notional, most_steps}
use Rattle.irs_terms.specs.declared.step_list.Step.{Step}
use Rattle.irs_terms.specs.declared.results.Exchange.{Exchange}
use Rattle.irs_terms.specs.declared.stream.Stream.{Stream}
use Rattle.irs_calendar.specs.GoodDays.{DaySet}
use Rattle.irs_adjust.proofs.CodeLaws.{one_adjusts}
use Rattle.irs_payments.specs.declared.exchanges.Transfer.{Transfer}
use Rattle.irs_payments.specs.Exchanges.{transfer, initial_of, change, changes, intermediate_of, last_value, final_of}
use Rattle.irs_payments.specs.Exchanges.{transfers_of, IsExchange, AreExchanges}
use Rattle.irs_base.proofs.MemberLemmas.{one_paired}

-- a power of ten is above 0
pub ten_power : (n : ℕ) → 0 < 10 ^ n
ten_power zero = omega arith
ten_power (suc n) = omega (arith, ten_power n)

one_exchange : (s : Stream) (set : DaySet) (t : Transfer) (x y : Exchange) → IsExchange s set t x
    → IsExchange s set t y → x ≡ y
one_exchange s set t x y h k =
    let adjusted = one_adjusts s.pay.adj.code set t.date x.adjusted y.adjusted h.adjusted k.adjusted in
    let unadjusted : x.unadjusted ≡ y.unadjusted = h.unadjusted ∙ sym k.unadjusted in
    let places : x.amount.places ≡ y.amount.places = h.places ∙ sym k.places in
    let low : pos 0 <ℤ pos (10 ^ (4 - decimals_of s.currency.letters)) =
    omega (arith, signed_arith, ten_power (4 - decimals_of s.currency.letters)) in
    let units : x.amount.units ≡ y.amount.units =
    rounded_once Nearest t.amount (pos (10 ^ (4 - decimals_of s.currency.letters))) x.amount.units y.amount.units
    low h.amount k.amount in
    λ i. record {
      unadjusted = unadjusted i;
      adjusted = adjusted i;
      amount =
          record { units = units i; places = places i };
    }

-- a stream has one list of exchanges
pub one_exchanges : (s : Stream) (set : DaySet) (xs ys : List Exchange) → AreExchanges s set xs → AreExchanges s set ys
    → xs ≡ ys
one_exchanges s set xs ys h k = one_paired (IsExchange s set) (one_exchange s set) (transfers_of s) xs ys h k

-- the amount is at most the greatest notional in size
abbrev pub IsSmall : Transfer → Type 0
IsSmall t = unsigned_abs t.amount ≤ most_notional

small_size : (n : ℕ) (z : ℤ) → (pos 0 -ℤ pos n) ≤ℤ z → z ≤ℤ pos n → unsigned_abs z ≤ n
small_size n (pos m) low high = omega (arith, signed_arith, high)
small_size n (negsuc m) low high = omega (arith, signed_arith, low)

difference : (n : ℕ) (a b : ℤ) → pos 0 ≤ℤ a → a ≤ℤ pos n → pos 0 ≤ℤ b → b ≤ℤ pos n → unsigned_abs (a -ℤ b) ≤ n
difference n a b h k l m = small_size n (a -ℤ b) (omega (arith, signed_arith)) (omega (arith, signed_arith))

small_change : (before : ℤ) (step : Step) → IsNotional before → IsNotional step.value → (b : Bool)
    → All IsSmall (if b then [] else transfer step.day (before -ℤ step.value) ∷ [])
small_change before step h k true = λ i d l. absurd (omega arith)
small_change before step h k false =
    All-cons IsSmall (transfer step.day (before -ℤ step.value)) []
    (difference most_notional before step.value h.0 h.1 k.0 k.1) (λ i d l. absurd (omega arith))

tail_notionals : (step : Step) (steps : List Step) → All (λ s. IsNotional s.value) (step ∷ steps)
    → All (λ s. IsNotional s.value) steps
tail_notionals step steps h = λ i d l. h (suc i) d (omega arith)

small_changes : (before : ℤ) (steps : List Step) → IsNotional before → All (λ s. IsNotional s.value) steps
    → All IsSmall (changes before steps)
small_changes before [] h k = λ i d l. absurd (omega arith)
small_changes before (step ∷ steps) h k =
    let value : IsNotional step.value = k zero step (omega arith) in
    All-append IsSmall (change before step) (changes step.value steps)
    (small_change before step h value (int_eq step.value before))
    (small_changes step.value steps value (tail_notionals step steps k))

last_notional : (before : ℤ) (steps : List Step) → IsNotional before → All (λ s. IsNotional s.value) steps
    → IsNotional (last_value before steps)
last_notional before [] h k = h
last_notional before (step ∷ steps) h k =
    last_notional step.value steps (k zero step (omega arith)) (tail_notionals step steps k)

-- a part that is there where its flag is true
small_part : (b : Bool) (ts : List Transfer) → All IsSmall ts → All IsSmall (if b then ts else [])
small_part true ts h = h
small_part false ts h = λ i d l. absurd (omega arith)

-- a notional fits 128 bits
pub fits_notional : (z : ℤ) → pos 0 ≤ℤ z → z ≤ℤ pos most_notional → to_z w128 (of_z w128 z) ≡ z
fits_notional z low high = let f : FitsSigned w128 z = omega (arith, signed_arith, low, high) in to_z-of_z w128 z f

small_one : (date amount : ℤ) → unsigned_abs amount ≤ most_notional → All IsSmall (transfer date amount ∷ [])
small_one date amount h = All-cons IsSmall (transfer date amount) [] h (λ i d l. absurd (omega arith))

-- the transfers of a stream are small
pub small_transfers : (s : Stream) → IsLawfulStream s → All IsSmall (transfers_of s)
small_transfers s lawful =
    let n = s.notional in
    let first : IsNotional n.initial = lawful.notional.0 in
    let steps : All (λ s. IsNotional s.value) n.steps = λ i d l. (lawful.notional.2 i d l).1 in
    let last = last_notional n.initial n.steps first steps in
    let a : All IsSmall (initial_of s) =
    small_part s.exchanges.initial _
    (small_one s.effective.day (pos 0 -ℤ n.initial)
    (small_size most_notional (pos 0 -ℤ n.initial) (omega (arith, signed_arith, first))
    (omega (arith, signed_arith, first)))) in
    let b : All IsSmall (intermediate_of s) =
    small_part s.exchanges.intermediate _ (small_changes n.initial n.steps first steps) in
    let c : All IsSmall (final_of s) =
    small_part s.exchanges.last _
    (small_one s.termination.day (last_value n.initial n.steps)
    (small_size most_notional (last_value n.initial n.steps) (omega (arith, signed_arith, last)) last.1)) in
    All-append IsSmall (initial_of s ++ intermediate_of s) (final_of s)
    (All-append IsSmall (initial_of s) (intermediate_of s) a b) c

few_change : (before : ℤ) (step : Step) (b : Bool)
    → length (if b then [] else transfer step.day (before -ℤ step.value) ∷ []) ≤ 1
few_change before step true = omega arith
few_change before step false = omega arith

few_changes : (before : ℤ) (steps : List Step) → length (changes before steps) ≤ length steps
few_changes before [] = omega arith
few_changes before (step ∷ steps) =
    let one = few_change before step (int_eq step.value before) in
    omega (arith, one, few_changes step.value steps, length-append (change before step) (changes step.value steps))

few_part : (b : Bool) (ts : List Transfer) → length (if b then ts else []) ≤ length ts
few_part true ts = omega arith
few_part false ts = omega arith

-- the initial one, one a step, and the final one
pub few_transfers : (s : Stream) → IsLawfulStream s → length (transfers_of s) ≤ most_exchanges
few_transfers s lawful =
    let a = few_part s.exchanges.initial (transfer s.effective.day (pos 0 -ℤ s.notional.initial) ∷ []) in
    let b = few_part s.exchanges.intermediate (changes s.notional.initial s.notional.steps) in
    let c = few_part s.exchanges.last (transfer s.termination.day (last_value s.notional.initial s.notional.steps)
    ∷ []) in
    let d = few_changes s.notional.initial s.notional.steps in
    let e : length s.notional.steps ≤ most_steps = lawful.notional.1 in
    omega (
      arith,
      a,
      b,
      c,
      d,
      e,
      length-append (initial_of s ++ intermediate_of s) (final_of s),
      length-append (initial_of s) (intermediate_of s),
    )

-- a small amount fits 128 bits
pub fits_small : (z : ℤ) → unsigned_abs z ≤ most_notional → to_z w128 (of_z w128 z) ≡ z
fits_small (pos n) h = let f : FitsSigned w128 (pos n) = omega (arith, signed_arith, h) in to_z-of_z w128 (pos n) f
fits_small (negsuc n) h = let f : FitsSigned w128 (negsuc n) = omega (arith, signed_arith, h) in
    to_z-of_z w128 (negsuc n) f
