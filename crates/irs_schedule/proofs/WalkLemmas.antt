-- The first of the rows that are still to come.
use Rattle.std.proofs.Common.{◌≡◌, ℕ, suc, ◌+◌, ◌-◌, ◌<◌, ◌≤◌, List, ◌∷◌, refl, arith, false}
use Rattle.std.specs.List.{range_with_len}
use Rattle.irs_terms.specs.declared.results.Exchange.{Exchange}
use Rattle.irs_schedule.specs.declared.entries.PaymentEntry.{PaymentEntry}
use Rattle.irs_schedule.specs.Parts.{Part, EntriesCover}
use Rattle.irs_schedule.specs.RowsOf.{period_row, walk_left}
use Rattle.irs_base.proofs.CoverLemmas.{covers_low}

range_first : (i e : ℕ) → i < e → range_with_len i (e - i) ≡ i ∷ range_with_len (i + 1) (e - (i + 1))
range_first i e h = let n : e - i ≡ suc (e - (i + 1)) = omega arith in rw n refl

-- a period comes next in the rows
pub at_period : (k : ℕ) (p : Part) (i e j : ℕ) (xs : List Exchange) (m : ℕ) (ys : List PaymentEntry) → i < e
    → walk_left k p false i e j xs m ys ≡ period_row k p i ∷ walk_left k p p.floating (i + 1) e j xs m ys
at_period k p i e j xs m ys h = let back : i + 1 - 1 ≡ i = omega arith in rw (range_first i e h, back) refl

-- payments that cover periods end by the last
pub covers_within : (a n : ℕ) (ys : List PaymentEntry) → EntriesCover a ys n → a ≤ n + 1
covers_within = covers_low (λ (y : PaymentEntry). y.first_period) (λ (y : PaymentEntry). y.last_period)
