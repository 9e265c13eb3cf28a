-- The payments of a schedule cover its periods, and where theirs begin.
use Rattle.std.proofs.Common.{◌≡◌, ℕ, zero, suc, ◌+◌, ◌-◌, ◌≤◌, List, [], ◌∷◌, length, take, Some}
use Rattle.std.proofs.Common.{arith, refl, subst, ap, ◌∙◌}
use Rattle.std.specs.Prelude.{slice_get, sum_by}
use Rattle.std.proofs.lemmas.List.Sums.{sum_by-cons}
use Rattle.std.proofs.lemmas.Option.{none-some, same_Some}
use Rattle.irs_base.specs.Lists.{Pairs}
use Rattle.irs_schedule.specs.Parts.{EntriesCover, KeepsBounds, Part}
use Rattle.irs_schedule.specs.declared.entries.PaymentEntry.{PaymentEntry}
use Rattle.irs_schedule.proofs.WalkLemmas.{covers_within}
use Rattle.irs_flows.specs.declared.flows.FlowPayment.{FlowPayment}

-- the periods of a payment are periods of its stream
pub record HasPeriods (from last : ℕ) (x : PaymentEntry) : Type 0 where
  pub first : from ≤ x.first_period
  pub order : x.first_period ≤ x.last_period
  pub within : x.last_period ≤ last

-- a payment of a list that covers the periods has periods of the stream
pub covers_at : (from last : ℕ) (xs : List PaymentEntry) (n : ℕ) (x : PaymentEntry) → EntriesCover from xs last
    → slice_get xs n ≡ Some x → HasPeriods from last x
covers_at from last [] n x h at = absurd (none-some x at)
covers_at from last (y ∷ ys) zero x h at =
    let rest = covers_within (y.last_period + 1) last ys h.2 in
    let first = h.0 in
    subst (HasPeriods from last) (same_Some y x at)
    (record { first = omega (arith, first); order = h.1; within = omega (arith, rest) })
covers_at from last (y ∷ ys) (suc n) x h at =
    let rest = covers_at (y.last_period + 1) last ys n x h.2 at in
    let first = rest.first in
    let low = h.0 in
    let order = h.1 in
    record { first = omega (arith, first, low, order); order = rest.order; within = rest.within }

-- a payment of the schedule has periods of its stream
pub payment_at : (p : Part) (n : ℕ) (x : PaymentEntry) → KeepsBounds p → slice_get p.payments n ≡ Some x
    → HasPeriods 1 (length p.periods) x
payment_at p n x h at = covers_at 1 (length p.periods) p.payments n x h.covers at

-- a payment of theirs has as many periods as one of ours
abbrev pub HasCount : PaymentEntry → FlowPayment → Type 0
HasCount x y = y.periods ≡ x.last_period + 1 - x.first_period

-- where the counts agree, their payments before one of ours have as many periods as come before its first one
pub covers_sum : (from last : ℕ) (xs : List PaymentEntry) (ys : List FlowPayment) (n : ℕ) (x : PaymentEntry)
    → EntriesCover from xs last → Pairs HasCount xs ys → slice_get xs n ≡ Some x
    → from + sum_by (λ (y : FlowPayment). y.periods) (take n ys) ≡ x.first_period
covers_sum from last [] ys n x h same at = absurd (none-some x at)
covers_sum from last (z ∷ zs) [] n x h same at = absurd same
covers_sum from last (z ∷ zs) (y ∷ ys) zero x h same at =
    let first = h.0 ∙ refl in
    let is : z.first_period ≡ x.first_period = ap (λ (w : PaymentEntry). w.first_period) (same_Some z x at) in
    omega (arith, first, is)
covers_sum from last (z ∷ zs) (y ∷ ys) (suc n) x h same at =
    let rest = covers_sum (z.last_period + 1) last zs ys n x h.2 same.1 at in
    let more = sum_by-cons (λ (w : FlowPayment). w.periods) y (take n ys) in
    let first = h.0 in
    let order = h.1 in
    let count = same.0 in
    omega (arith, rest, more, first, order, count)
