-- A calculation period has at most one observation period.
use Rattle.std.proofs.Common.{◌≡◌, ℕ, zero, suc, ℤ, pos, neg_ℤ, ◌-ℤ◌, refl, sym, ◌∙◌, arith}
use Rattle.jiff_core.proofs.SignedLemmas.{signed_arith}
use Rattle.irs_calendar.specs.GoodDays.{DaySet}
use Rattle.irs_adjust.proofs.OffsetLaws.{one_moved}
use Rattle.irs_observed.specs.Observations.{IsObservationPeriod, ObservedPeriod, Shifts, back}
use Rattle.irs_terms.specs.declared.parameters.ObservationOffset.{ObservationOffset}
use Rattle.irs_terms.specs.declared.parameters.ObservationOffset.TheVariants.{Absent, Shift, Lookback, Lockout}

-- an observation shift moves a day to one day
pub one_shift : (offset : ObservationOffset) (set : DaySet) (d r t : ℤ) → Shifts offset set d r → Shifts offset set d t
    → r ≡ t
one_shift Absent set d r t a b = a ∙ sym b
one_shift (Shift n) set d r t a b = one_moved (back n) set d r t a b
one_shift (Lookback n) set d r t a b = a ∙ sym b
one_shift (Lockout n) set d r t a b = a ∙ sym b

-- an observation period has one start
pub one_start : (p : ObservedPeriod) (a b c d : ℤ) → IsObservationPeriod p a b → IsObservationPeriod p c d → a ≡ c
one_start p a b c d h k = one_shift p.offset p.days p.start a c h.from k.from

-- an observation period has one end
pub one_end : (p : ObservedPeriod) (a b c d : ℤ) → IsObservationPeriod p a b → IsObservationPeriod p c d → b ≡ d
one_end p a b c d h k = one_shift p.offset p.days p.end b d h.to k.to

-- nothing less n days is n days back
pub less : (n : ℕ) → pos 0 -ℤ pos n ≡ neg_ℤ (pos n)
less zero = refl
less (suc n) = omega (arith, signed_arith)
