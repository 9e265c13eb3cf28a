use Rattle.std.proofs.Common.{◌≡◌, ℕ, suc, ◌+◌, ◌-◌, ◌<◌, List, ◌++◌, append_assoc, ◌∙◌, arith}
use Rattle.std.specs.List.{flat_map}
use Rattle.irs_bulk.specs.BulkRuns.{holidays_text, years_from}
use Rattle.irs_bulk.proofs.holidays.bulk_calendar.Goals as goal

-- the lines of one more year, and those of the years that are left
one_more : (f : ℕ → List ℕ) (t : List ℕ) (y : ℕ) → y < 2013
    → (t ++ f y) ++ flat_map f (years_from (y + 1) (2013 - (y + 1))) ≡ t ++ flat_map f (years_from y (2013 - y))
one_more f t y h =
    let e : 2013 - y ≡ suc (2013 - (y + 1)) = omega (arith, h) in
    rw e (append_assoc t (f y) (flat_map f (years_from (y + 1) (2013 - (y + 1)))))

pub loop-year-preserved : goal.loop-year-preserved
loop-year-preserved c =
    let low : c.loop-year.year < 2013 = omega (arith, c.loop-year-test.true) in
    rw c.in_ok-put_holidays.ensures (one_more holidays_text c.loop-year.text.items c.loop-year.year low
    ∙ c.loop-year.invariant)
