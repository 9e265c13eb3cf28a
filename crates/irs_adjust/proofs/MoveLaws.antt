-- A day that an offset moves and a convention then adjusts comes to one date, or fails in one way.
use Rattle.std.proofs.Common.{◌≡◌, ◌⊎◌, inl, inr, ℤ, refl, sym, ◌∙◌, subst}
use Rattle.irs_base.specs.Days.{IsDay}
use Rattle.irs_terms.specs.Centers.{IsSaid}
use Rattle.irs_terms.specs.declared.adjustments.Offset.{Offset}
use Rattle.irs_terms.specs.declared.codes.ConvCode.{ConvCode}
use Rattle.irs_terms.specs.declared.codes.DayKind.{DayKind}
use Rattle.irs_terms.specs.declared.codes.DayKind.TheVariants.{Business, Calendar, Unsaid}
use Rattle.irs_calendar.specs.GoodDays.{DaySet}
use Rattle.irs_adjust.specs.MovedDays.{Adjusts, MovesAndAdjusts, MovesNowhere, LacksResult, LeavesRange}
use Rattle.irs_adjust.specs.Private.MovedDays.{no_move_of}
use Rattle.irs_adjust.specs.declared.moved.NoDate.TheVariants.{OutOfRange}
use Rattle.irs_adjust.proofs.CodeLaws.{one_adjusts}
use Rattle.irs_adjust.proofs.FoundDays.{InRange, decides_adjusts}
use Rattle.irs_adjust.proofs.MovedDays.{decides_moves, moves_day}
use Rattle.irs_adjust.proofs.OffsetLaws.{one_moved}

module _ (offset : Offset) (code : ConvCode) (set : DaySet) (start : ℤ) where
  -- a start comes to at most one date
  pub one_date : (r t : ℤ) → MovesAndAdjusts offset code set start r → MovesAndAdjusts offset code set start t → r ≡ t
  one_date r t h k =
      let same = one_moved offset set start h.moved k.moved h.moves k.moves in
      one_adjusts code set k.moved r t (subst (λ (x : ℤ). Adjusts code set x r) same h.adjusts) k.adjusts

  -- a start that comes to a date doesn't lack a result
  pub date_not_lacking : (r : ℤ) → MovesAndAdjusts offset code set start r → LacksResult offset code set start → ⊥
  date_not_lacking r h (inl none) = none.1 h.moved h.moves
  date_not_lacking r h (inr off) =
      let same = one_moved offset set start h.moved off.moved h.moves off.moves in
      off.none r (subst (λ (x : ℤ). Adjusts code set x r) same h.adjusts)

  -- a start that comes to a date doesn't leave the range
  pub date_in_range : (r : ℤ) → MovesAndAdjusts offset code set start r → LeavesRange offset set start → ⊥
  date_in_range r h none = none.1 h.moved h.moves

  -- a start that comes to a date fails in neither way
  pub either_fails : (r : ℤ) → MovesAndAdjusts offset code set start r
      → LacksResult offset code set start ⊎ LeavesRange offset set start → ⊥
  either_fails r h (inl lacks) = date_not_lacking r h lacks
  either_fails r h (inr leaves) = date_in_range r h leaves

  -- a start can't fail in both ways
  pub one_failure : LeavesRange offset set start → LacksResult offset code set start → ⊥
  one_failure h (inl none) = let kinds : Calendar ≡ Business = sym h.0 ∙ none.0 in absurd (cc)
  one_failure h (inr off) = h.1 off.moved off.moves

  -- an offset that moves a start nowhere lacks a result or leaves the range
  nowhere_by : (kind : DayKind) → offset.kind ≡ kind → IsSaid offset → MovesNowhere offset set start
      → LacksResult offset code set start ⊎ LeavesRange offset set start
  nowhere_by Business e said nowhere = inl (inl (e, nowhere))
  nowhere_by Calendar e said nowhere = inr (e, nowhere)
  nowhere_by Unsaid e said nowhere =
      elim said [ inl none ↦ absurd (nowhere start (inl (none, refl))) | inr kind ↦ absurd (kind e) ]

  -- there is a date, or it lacks a result, or leaves the range
  abbrev pub DateOrFailure : Type 0
  DateOrFailure =
      ((r : ℤ) × MovesAndAdjusts offset code set start r)
      ⊎ (LacksResult offset code set start ⊎ LeavesRange offset set start)

  -- a start comes to a date, or fails in one of the two ways
  pub date_or_failure : IsDay start → InRange set → IsSaid offset → DateOrFailure
  date_or_failure day range said = elim (decides_moves offset set start) [
    | inl moved ↦
        elim (decides_adjusts code set moved.0 (moves_day offset set start moved.0 day range moved.1) range) [
          | inl date ↦ inl (date.0, record { moved = moved.0; moves = moved.1; adjusts = date.1 })
          | inr none ↦ inr (inl (inr (record { moved = moved.0; moves = moved.1; none = none })))
        ]
    | inr nowhere ↦ inr (nowhere_by offset.kind refl said nowhere)
  ]

  -- where the code says that the range is left, the days are calendar days
  leaves_of : (kind : DayKind) → offset.kind ≡ kind → IsSaid offset → MovesNowhere offset set start
      → no_move_of kind ≡ OutOfRange → kind ≡ Calendar
  leaves_of Business e said none h = absurd (cc)
  leaves_of Calendar e said none h = refl
  leaves_of Unsaid e said none h =
      elim said [ inl zero ↦ absurd (none start (inl (zero, refl))) | inr kind ↦ absurd (kind e) ]

  -- where a move out of range is what no move means, the offset is a Calendar one
  pub leaves_by : IsSaid offset → MovesNowhere offset set start → no_move_of offset.kind ≡ OutOfRange
      → offset.kind ≡ Calendar
  leaves_by said none h = leaves_of offset.kind refl said none h
