-- Sets that say the same of each day adjust and move days alike.
use Rattle.std.proofs.Common.{◌≡◌, inl, inr, ℕ, zero, suc, ◌≤◌, arith, refl, sym, ◌∙◌, subst, ℤ, pos, negsuc, ◌≤ℤ◌}
use Rattle.irs_terms.specs.declared.codes.ConvCode.{ConvCode}
use Rattle.irs_terms.specs.declared.codes.ConvCode.TheVariants.{Following, ModFollowing, Preceding, ModPreceding}
use Rattle.irs_terms.specs.declared.codes.ConvCode.TheVariants.{Nearest, Unadjusted}
use Rattle.irs_terms.specs.declared.codes.DayKind.{DayKind}
use Rattle.irs_terms.specs.declared.codes.DayKind.TheVariants.{Business, Calendar, Unsaid}
use Rattle.irs_terms.specs.declared.adjustments.Offset.{Offset}
use Rattle.irs_calendar.specs.GoodDays.{DaySet, InCover, IsGood, Next, Prev, SameDays}
use Rattle.irs_adjust.specs.declared.ways.Way.{Way}
use Rattle.irs_adjust.specs.declared.ways.Way.TheVariants.{Ahead, Back}
use Rattle.irs_adjust.specs.MovedDays.{ModFollows, ModPrecedes, GoesNearest, Adjusts, away, good_days, MovesOn}
use Rattle.irs_adjust.specs.MovedDays.{MovesBusiness, MovesDays, Moves}
use Rattle.irs_adjust.proofs.WayLemmas.{between}

-- alike sets have the same cover
pub same_cover : (s t : DaySet) (d : ℤ) → SameDays s t → InCover s d → InCover t d
same_cover s t d same inside = record {
  from = subst (λ (z : ℤ). z ≤ℤ d) same.first inside.from;
  to = subst (λ (z : ℤ). d ≤ℤ z) same.last inside.to;
}

-- sets that say the same of each day do so in either order
pub turned : (s t : DaySet) → SameDays s t → SameDays t s
turned s t same = record {
  first = sym same.first;
  last = sym same.last;
  test = λ d inside. sym (same.test d (back d inside));
}
  where
    back : (d : ℤ) → InCover t d → InCover s d
    back d inside = record {
      from = subst (λ (z : ℤ). z ≤ℤ d) (sym same.first) inside.from;
      to = subst (λ (z : ℤ). d ≤ℤ z) (sym same.last) inside.to;
    }

-- alike sets have the same business days
pub same_good : (s t : DaySet) (d : ℤ) → SameDays s t → IsGood s d → IsGood t d
same_good s t d same good = record {
  inside = same_cover s t d same good.inside;
  passes = sym (same.test d good.inside) ∙ good.passes;
}

-- alike sets have the same next business day
pub same_next : (s t : DaySet) (d r : ℤ) → SameDays s t → Next s d r → Next t d r
same_next s t d r same next = record {
  starts = same_cover s t d same next.starts;
  after = next.after;
  good = same_good s t r same next.good;
  none_before = λ x low high g. next.none_before x low high (same_good t s x (turned s t same) g);
}

-- alike sets have the same previous business day
pub same_prev : (s t : DaySet) (d r : ℤ) → SameDays s t → Prev s d r → Prev t d r
same_prev s t d r same prev = record {
  starts = same_cover s t d same prev.starts;
  before = prev.before;
  good = same_good s t r same prev.good;
  none_after = λ x low high g. prev.none_after x low high (same_good t s x (turned s t same) g);
}

same_modfollows : (s t : DaySet) (d r : ℤ) → SameDays s t → ModFollows s d r → ModFollows t d r
same_modfollows s t d r same m = record {
  following = m.following;
  next = same_next s t d m.following same m.next;
  choice = elim m.choice [ inl here ↦ inl here | inr back ↦ inr (back.0, same_prev s t d r same back.1) ];
}

same_modprecedes : (s t : DaySet) (d r : ℤ) → SameDays s t → ModPrecedes s d r → ModPrecedes t d r
same_modprecedes s t d r same m = record {
  preceding = m.preceding;
  prev = same_prev s t d m.preceding same m.prev;
  choice = elim m.choice [ inl here ↦ inl here | inr on ↦ inr (on.0, same_next s t d r same on.1) ];
}

same_nearest : (s t : DaySet) (d r : ℤ) → SameDays s t → GoesNearest s d r → GoesNearest t d r
same_nearest s t d r same n = record {
  inside = same_cover s t d same n.inside;
  choice = elim n.choice [
    | inl stays ↦ inl (same_good s t d same stays.0, stays.1)
    | inr goes ↦ inr (
      (λ g. goes.0 (same_good t s d (turned s t same) g)),
      elim goes.1 [
        | inl on ↦ inl (on.0, same_next s t d r same on.1)
        | inr back ↦ inr (back.0, same_prev s t d r same back.1)
      ],
    )
  ];
}

-- a day is adjusted alike by both
pub same_adjusts : (code : ConvCode) (s t : DaySet) (d r : ℤ) → SameDays s t → Adjusts code s d r → Adjusts code t d r
same_adjusts Following s t d r same h = same_next s t d r same h
same_adjusts ModFollowing s t d r same h = same_modfollows s t d r same h
same_adjusts Preceding s t d r same h = same_prev s t d r same h
same_adjusts ModPreceding s t d r same h = same_modprecedes s t d r same h
same_adjusts Nearest s t d r same h = same_nearest s t d r same h
same_adjusts Unadjusted s t d r same h = h

same_count : (way : Way) (s t : DaySet) (d : ℤ) (n : ℕ) → SameDays s t → ((k : ℕ) → k ≤ n → InCover s (away way d k))
    → good_days way s d n ≡ good_days way t d n
same_count way s t d zero same inside = refl
same_count way s t d (suc n) same inside =
    let e = same.test (away way d (suc n)) (inside (suc n) (omega arith)) in
    let before = same_count way s t d n same (λ k h. inside k (omega (arith, h))) in
    rw (e, before) refl

same_walk : (way : Way) (s t : DaySet) (d : ℤ) (n : ℕ) (r : ℤ) → SameDays s t → MovesOn way s d n r
    → MovesOn way t d n r
same_walk way s t d n r same m =
    let far : InCover s (away way d (suc m.span)) = subst (InCover s) m.is m.good.inside in
    record {
      starts = same_cover s t d same m.starts;
      good = same_good s t r same m.good;
      span = m.span;
      is = m.is;
      count = sym (same_count way s t d (suc m.span) same (λ k h. between way s d k (suc m.span) h m.starts far))
          ∙ m.count;
    }

same_business : (n : ℤ) (s t : DaySet) (d r : ℤ) → SameDays s t → MovesBusiness n s d r → MovesBusiness n t d r
same_business (pos n) s t d r same h = same_walk Ahead s t d n r same h
same_business (negsuc n) s t d r same h = same_walk Back s t d (suc n) r same h

same_kind : (kind : DayKind) (n : ℤ) (s t : DaySet) (d r : ℤ) → SameDays s t → MovesDays kind n s d r
    → MovesDays kind n t d r
same_kind Business n s t d r same h = same_business n s t d r same h
same_kind Calendar n s t d r same h = h
same_kind Unsaid n s t d r same h = h

-- a day is moved alike by both
pub same_moves : (off : Offset) (s t : DaySet) (d r : ℤ) → SameDays s t → Moves off s d r → Moves off t d r
same_moves off s t d r same (inl stays) = inl stays
same_moves off s t d r same (inr moves) = inr (moves.0, same_kind off.kind off.days s t d r same moves.1)
