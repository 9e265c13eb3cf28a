-- A day is moved to at most one day.
use Rattle.std.proofs.Common.{◌≡◌, inl, inr, suc, ℤ, pos, negsuc, sym, ◌∙◌}
use Rattle.irs_terms.specs.declared.codes.DayKind.{DayKind}
use Rattle.irs_terms.specs.declared.codes.DayKind.TheVariants.{Business, Calendar, Unsaid}
use Rattle.irs_terms.specs.declared.adjustments.Offset.{Offset}
use Rattle.irs_calendar.specs.GoodDays.{DaySet}
use Rattle.irs_adjust.specs.declared.ways.Way.TheVariants.{Ahead, Back}
use Rattle.irs_adjust.specs.MovedDays.{MovesBusiness, MovesDays, Moves}
use Rattle.irs_adjust.proofs.WayLemmas.{one_moves}

one_business : (n : ℤ) (s : DaySet) (d r t : ℤ) → MovesBusiness n s d r → MovesBusiness n s d t → r ≡ t
one_business (pos n) s d r t a b = one_moves Ahead s d n r t a b
one_business (negsuc n) s d r t a b = one_moves Back s d (suc n) r t a b

one_of_kind : (kind : DayKind) (n : ℤ) (s : DaySet) (d r t : ℤ) → MovesDays kind n s d r
    → MovesDays kind n s d t → r ≡ t
one_of_kind Business n s d r t a b = one_business n s d r t a b
one_of_kind Calendar n s d r t a b = a.is ∙ sym b.is
one_of_kind Unsaid n s d r t a b = absurd a

-- an offset moves a day to at most one day
pub one_moved : (off : Offset) (s : DaySet) (d r t : ℤ) → Moves off s d r → Moves off s d t → r ≡ t
one_moved off s d r t (inl a) (inl b) = a.1 ∙ sym b.1
one_moved off s d r t (inl a) (inr b) = absurd (b.0 a.0)
one_moved off s d r t (inr a) (inl b) = absurd (a.0 b.0)
one_moved off s d r t (inr a) (inr b) = one_of_kind off.kind off.days s d r t a.1 b.1
