use Rattle.std.proofs.Common.{◌≡◌, ℕ, zero, suc, ◌<◌, ◌≤◌, List, [], ◌∷◌, length, map, get_or, subst, sym, arith, Vec}
use Rattle.std.specs.Prelude.{All}
use Rattle.std.specs.declared.alloc.Global.{Global}
use Rattle.irs_base.specs.Limits.{most_bytes}
use Rattle.irs_bulk.specs.BulkRuns.{calendar_text}
use Rattle.irs_bulk.proofs.CalendarLengths.{calendar_short}
use Rattle.irs_bulk.proofs.runs.calendars.Goals as goal

same_head : (x y : List ℕ) → x ∷ [] ≡ y ∷ [] → x ≡ y
same_head x y e = cc

short_one : (v : Vec ℕ Global) → length v.items ≤ most_bytes → (k : ℕ) (d : Vec ℕ Global) → k < 1
    → length (get_or (v ∷ []) k d).items ≤ most_bytes
short_one v h zero d less = h
short_one v h (suc k) d less = absurd (omega (arith, less))

-- the one file is no longer than a file may be
all_short : (vs : List (Vec ℕ Global)) → map (λ v. v.items) vs ≡ calendar_text ∷ []
    → All (λ v. length v.items ≤ most_bytes) vs
all_short [] e = cc
all_short (v ∷ []) e = let short : length v.items ≤ most_bytes =
    subst (λ (x : List ℕ). length x ≤ most_bytes) (sym (same_head v.items calendar_text e)) calendar_short in
    λ k d less. short_one v short k d less
all_short (v ∷ w ∷ vs) e = cc

pub read-requires-clause-short : goal.read-requires-clause-short
read-requires-clause-short c = rw c.deref.ensures.value (all_short c.in-Ok.files.items c.in-Ok.ensures)
