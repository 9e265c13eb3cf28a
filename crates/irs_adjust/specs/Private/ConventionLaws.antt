-- Private: no public contract rests on this file.
-- A day has at most one adjusted day, and a business day stays.
use Rattle.std.proofs.Common.{◌≡◌, ◌⊎◌, inl, inr, arith, refl, sym, ◌∙◌, subst, ℤ, ◌<ℤ◌}
use Rattle.jiff_core.proofs.SignedLemmas.{signed_arith}
use Rattle.irs_base.specs.Days.{IsDay}
use Rattle.irs_base.proofs.MonthLemmas.{has_month}
use Rattle.irs_calendar.specs.GoodDays.{DaySet, IsGood, Next, Prev}
use Rattle.irs_adjust.specs.MovedDays.{SameMonth, ModFollows, ModPrecedes, GoesNearest}

-- of two days one is earlier, or they are the same
cases_order : (a b : ℤ) → (a <ℤ b) ⊎ ((b <ℤ a) ⊎ (a ≡ b))
cases_order a b = grind (arith, signed_arith)

-- two days that are the same as a third are the same
pub one_same : (d r t : ℤ) → r ≡ d → t ≡ d → r ≡ t
one_same d r t a b = a ∙ sym b

-- a day has at most one next business day
pub one_next : (s : DaySet) (d r t : ℤ) → Next s d r → Next s d t → r ≡ t
one_next s d r t a b = elim (cases_order r t) [
  | inl low ↦ absurd (b.none_before r a.after low a.good)
  | inr rest ↦ elim rest [
    | inl high ↦ absurd (a.none_before t b.after high b.good)
    | inr same ↦ same
  ]
]

-- a day has at most one previous business day
pub one_prev : (s : DaySet) (d r t : ℤ) → Prev s d r → Prev s d t → r ≡ t
one_prev s d r t a b = elim (cases_order r t) [
  | inl low ↦ absurd (a.none_after t low b.before b.good)
  | inr rest ↦ elim rest [
    | inl high ↦ absurd (b.none_after r high a.before a.good)
    | inr same ↦ same
  ]
]

-- a business day is its own next one
pub next_stays : (s : DaySet) (d : ℤ) → IsGood s d → Next s d d
next_stays s d good = record {
  starts = good.inside;
  after = omega (arith, signed_arith);
  good = good;
  none_before = λ x low high g. absurd (omega (arith, signed_arith, low, high));
}

-- a business day is its own previous one
pub prev_stays : (s : DaySet) (d : ℤ) → IsGood s d → Prev s d d
prev_stays s d good = record {
  starts = good.inside;
  before = omega (arith, signed_arith);
  good = good;
  none_after = λ x low high g. absurd (omega (arith, signed_arith, low, high));
}

-- a day lies in its own month
own_month : (d : ℤ) → IsDay d → SameMonth d d
own_month d day = let m = has_month d day in record { month = m.0; of_first = m.1; of_second = m.1 }

-- MODFOLLOWING gives at most one day
pub one_modfollows : (s : DaySet) (d r t : ℤ) → ModFollows s d r → ModFollows s d t → r ≡ t
one_modfollows s d r t a b =
    let f = one_next s d a.following b.following a.next b.next in
    elim a.choice [
      | inl here ↦ elim b.choice [
        | inl there ↦ here.1 ∙ f ∙ sym there.1
        | inr there ↦ absurd (there.0 (subst (SameMonth d) f here.0))
      ]
      | inr here ↦ elim b.choice [
        | inl there ↦ absurd (here.0 (subst (SameMonth d) (sym f) there.0))
        | inr there ↦ one_prev s d r t here.1 there.1
      ]
    ]

-- MODFOLLOWING leaves a business day
pub modfollows_stays : (s : DaySet) (d : ℤ) → IsDay d → IsGood s d → ModFollows s d d
modfollows_stays s d day good =
    record { following = d; next = next_stays s d good; choice = inl (own_month d day, refl) }

-- MODPRECEDING gives at most one day
pub one_modprecedes : (s : DaySet) (d r t : ℤ) → ModPrecedes s d r → ModPrecedes s d t → r ≡ t
one_modprecedes s d r t a b =
    let p = one_prev s d a.preceding b.preceding a.prev b.prev in
    elim a.choice [
      | inl here ↦ elim b.choice [
        | inl there ↦ here.1 ∙ p ∙ sym there.1
        | inr there ↦ absurd (there.0 (subst (SameMonth d) p here.0))
      ]
      | inr here ↦ elim b.choice [
        | inl there ↦ absurd (here.0 (subst (SameMonth d) (sym p) there.0))
        | inr there ↦ one_next s d r t here.1 there.1
      ]
    ]

-- MODPRECEDING leaves a business day
pub modprecedes_stays : (s : DaySet) (d : ℤ) → IsDay d → IsGood s d → ModPrecedes s d d
modprecedes_stays s d day good =
    record { preceding = d; prev = prev_stays s d good; choice = inl (own_month d day, refl) }

-- NEAREST gives at most one day
pub one_nearest : (s : DaySet) (d r t : ℤ) → GoesNearest s d r → GoesNearest s d t → r ≡ t
one_nearest s d r t a b = elim a.choice [
  | inl here ↦ elim b.choice [
    | inl there ↦ here.1 ∙ sym there.1
    | inr there ↦ absurd (there.0 here.0)
  ]
  | inr here ↦ elim b.choice [
    | inl there ↦ absurd (here.0 there.0)
    | inr there ↦ elim here.1 [
      | inl on ↦ elim there.1 [ inl on2 ↦ one_next s d r t on.1 on2.1 | inr back ↦ absurd (back.0 on.0) ]
      | inr back ↦ elim there.1 [ inl on ↦ absurd (back.0 on.0) | inr back2 ↦ one_prev s d r t back.1 back2.1 ]
    ]
  ]
]

-- NEAREST leaves a business day
pub nearest_stays : (s : DaySet) (d : ℤ) → IsGood s d → GoesNearest s d d
nearest_stays s d good = record { inside = good.inside; choice = inl (good, refl) }
