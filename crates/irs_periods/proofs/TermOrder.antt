-- The first period begins before the termination date.
use Rattle.std.proofs.Common.{Option, Some, None, IfSome, unwrap_or, ℤ, ◌<ℤ◌, arith}
use Rattle.jiff_core.proofs.SignedLemmas.{signed_arith}
use Rattle.irs_terms.specs.declared.adjustments.AdjustableDate.{AdjustableDate}
use Rattle.irs_terms.specs.declared.stream.Stream.{Stream}
use Rattle.irs_terms.specs.TermDates.{first_day_of, DatesInOrder, termination_of}

runs : (start : Option AdjustableDate) (v : AdjustableDate) (t : ℤ) → IfSome start (λ d. d.day <ℤ v.day) → v.day <ℤ t
    → (unwrap_or start v).day <ℤ t
runs None v t before ends = ends
runs (Some d) v t before ends = omega (arith, signed_arith, before, ends)

-- where the dates are in order, the first day is before the termination date
pub begins_before_end : (s : Stream) → DatesInOrder s → first_day_of s <ℤ termination_of s
begins_before_end s dates = runs s.first_start s.effective (termination_of s) dates.starts dates.ends
