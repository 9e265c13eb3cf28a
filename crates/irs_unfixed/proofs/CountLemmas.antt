-- How many payments a schedule has, and that none is counted exactly where each has its amount.
use Rattle.std.proofs.Common.{◌≡◌, ◌↔◌, ℕ, cond, ◌+◌, ◌^◌, ◌<◌, ◌≤◌, List, [], ◌∷◌, Option}
use Rattle.std.proofs.Common.{Some, None, refl, arith}
use Rattle.std.specs.Prelude.{IsSome, is_none}
use Rattle.std.specs.List.{fold}
use Rattle.irs_base.specs.Limits.{most_periods}
use Rattle.irs_base.specs.Lists.{Every}
use Rattle.irs_base.specs.declared.line.Dec.{Dec}
use Rattle.irs_schedule.specs.Parts.{IsWithin, KeepsBounds, Part}
use Rattle.irs_schedule.specs.declared.entries.PaymentEntry.{PaymentEntry}
use Rattle.irs_audit.specs.Verdicts.{stream_unfixed, unfixed_count}
use Rattle.irs_audit.proofs.BoundLemmas.{payments_few}
use Rattle.irs_audit.proofs.VerdictLemmas.{sum_few}
use Rattle.irs_unfixed.specs.Unfixed.{payment_count, stream_payments, EachHasAmount}

stream_few : (p : Part) → KeepsBounds p → stream_payments p ≤ most_periods
stream_few p h =
    let many = payments_few p h in
    let few = h.few in
    omega (arith, many, few)

-- the payments of a schedule fit 32 bits
pub payment_count_fits : (parts : List Part) → IsWithin parts → payment_count parts < 2 ^ 32
payment_count_fits parts h =
    let few = sum_few stream_payments most_periods 0 parts stream_few h.each in
    let streams = h.few in
    omega (arith, few, streams)

-- ---- none is counted

-- a sum is at least what it begins with
sum_from : {X : Type 0} (f : X → ℕ) (a : ℕ) (xs : List X) → a ≤ fold (λ n x. n + f x) a xs
sum_from f a [] = omega arith
sum_from f a (x ∷ xs) = let rest = sum_from f (a + f x) xs in omega (arith, rest)

-- a sum of 0 has no share above it
zero_each : {X : Type 0} (f : X → ℕ) (a : ℕ) (xs : List X) → fold (λ n x. n + f x) a xs ≡ 0
    → Every (λ x. f x ≡ 0) xs
zero_each f a [] e = tt
zero_each f a (x ∷ xs) e =
    let rest = sum_from f (a + f x) xs in (omega (arith, e, rest), zero_each f (a + f x) xs e)

-- and the sum of shares of 0 is what it begins with
each_zero : {X : Type 0} (f : X → ℕ) (a : ℕ) (xs : List X) → a ≡ 0 → Every (λ x. f x ≡ 0) xs
    → fold (λ n x. n + f x) a xs ≡ 0
each_zero f a [] e h = e
each_zero f a (x ∷ xs) e h = let one = h.0 in each_zero f (a + f x) xs (omega (arith, e, one)) h.1

each_to : {X : Type 0} (P Q : X → Type 0) (xs : List X) → ((x : X) → P x → Q x) → Every P xs → Every Q xs
each_to P Q [] f h = tt
each_to P Q (x ∷ xs) f h = (f x h.0, each_to P Q xs f h.1)

-- 1 where there is no amount
abbrev counted : Option Dec → ℕ
counted o = cond (is_none o) 1 0

-- an amount that isn't counted is there
is_there : (o : Option Dec) → counted o ≡ 0 → IsSome o
is_there None e = absurd (omega (arith, e))
is_there (Some v) e = refl

not_counted : (o : Option Dec) → IsSome o → counted o ≡ 0
not_counted None h = absurd (cc (h))
not_counted (Some v) h = refl

abbrev share : PaymentEntry → ℕ
share y = counted y.amount

-- none of a stream's payments is counted exactly where each has its amount
stream_none : (p : Part) → stream_unfixed p ≡ 0 → Every (λ (y : PaymentEntry). IsSome y.amount) p.payments
stream_none p e =
    each_to (λ (y : PaymentEntry). share y ≡ 0) (λ (y : PaymentEntry). IsSome y.amount) p.payments
    (λ y h. is_there y.amount h) (zero_each share 0 p.payments e)

stream_all : (p : Part) → Every (λ (y : PaymentEntry). IsSome y.amount) p.payments → stream_unfixed p ≡ 0
stream_all p h =
    each_zero share 0 p.payments refl
    (each_to (λ (y : PaymentEntry). IsSome y.amount) (λ (y : PaymentEntry). share y ≡ 0) p.payments
    (λ y there. not_counted y.amount there) h)

-- none of a schedule's payments is counted exactly where each has its amount
pub none_counted : (parts : List Part) → (unfixed_count parts ≡ 0 ↔ EachHasAmount parts)
none_counted parts = (
  λ e.
      each_to (λ (p : Part). stream_unfixed p ≡ 0) (λ (p : Part). Every (λ (y : PaymentEntry). IsSome y.amount) p.payments)
      parts stream_none (zero_each stream_unfixed 0 parts e),
  λ h.
      each_zero stream_unfixed 0 parts refl
      (each_to (λ (p : Part). Every (λ (y : PaymentEntry). IsSome y.amount) p.payments)
      (λ (p : Part). stream_unfixed p ≡ 0) parts stream_all h),
)
