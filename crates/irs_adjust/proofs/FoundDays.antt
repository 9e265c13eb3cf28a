-- In a day set whose cover lies in the range of days, the day that a convention gives is found, or there is none.
use Rattle.std.proofs.Common.{◌≡◌, ◌⊎◌, inl, inr, ℕ, zero, suc, ◌+◌, ◌-◌, ℤ, pos, ◌+ℤ◌, ◌-ℤ◌, ◌≤ℤ◌, arith, refl, sym}
use Rattle.std.proofs.Common.{◌∙◌, subst}
use Rattle.std.proofs.lemmas.Bool.{cases_Bool, cases_eq, both_ways}
use borrow.Author.Differences.{up, down}
use Rattle.jiff_core.proofs.SignedLemmas.{signed_arith}
use Rattle.irs_base.specs.Days.{IsDay, weekday_at, InMonth}
use Rattle.irs_base.proofs.MonthLemmas.{has_month, same_month}
use Rattle.irs_terms.specs.declared.codes.ConvCode.{ConvCode}
use Rattle.irs_terms.specs.declared.codes.ConvCode.TheVariants.{Following, ModFollowing, Preceding, ModPreceding}
use Rattle.irs_terms.specs.declared.codes.ConvCode.TheVariants.{Nearest, Unadjusted}
use Rattle.irs_calendar.specs.GoodDays.{DaySet, InCover, IsGood, Next, Prev}
use Rattle.irs_adjust.specs.MovedDays.{SameMonth, ModFollows, ModPrecedes, IsSundayOrMonday, GoesNearest, Adjusts}
use Rattle.irs_adjust.specs.Private.ConventionLaws.{one_next, one_prev, next_stays, prev_stays}
use Rattle.irs_base.specs.Private.Order.{IsDecided}
use Rattle.irs_base.proofs.Decided.{order_of, decides_same}

-- every day of the cover is a day in range
abbrev pub InRange : DaySet → Type 0
InRange s = (d : ℤ) → InCover s d → IsDay d

-- a day with P is found, or there is none
abbrev pub IsFound : (ℤ → Type 0) → Type 0
IsFound P = ((r : ℤ) × P r) ⊎ ((r : ℤ) → P r → ⊥)

-- one day is not after the other, or it is
pub decides_le : (a b : ℤ) → IsDecided (a ≤ℤ b)
decides_le a b = elim (order_of b a) [
  | inl above ↦ inr (λ le. omega (arith, signed_arith, above, le))
  | inr rest ↦
      inl (elim rest [ inl below ↦ omega (arith, signed_arith, below) | inr same ↦ omega (arith, signed_arith, same) ])
]

-- a day lies in the cover, or outside it
pub decides_in_cover : (s : DaySet) (d : ℤ) → IsDecided (InCover s d)
decides_in_cover s d = elim (decides_le s.first d) [
  | inr before ↦ inr (λ h. before h.from)
  | inl from ↦ elim (decides_le d s.last) [
    | inr past ↦ inr (λ h. past h.to)
    | inl to ↦ inl (record { from = from; to = to })
  ]
]

-- a day of the cover is good by the test of the set, or it isn't
pub decides_good : (s : DaySet) (d : ℤ) → InCover s d → IsDecided (IsGood s d)
decides_good s d inside = elim (cases_Bool (s.test d)) [
  | inl passes ↦ inl (record { inside = inside; passes = passes })
  | inr fails ↦ inr (λ g. both_ways (s.test d) fails g.passes)
]

-- how many days lie between two days
distance : (a b : ℤ) → a ≤ℤ b → (n : ℕ) × (b ≡ a +ℤ pos n)
distance a b h = (up b + down a - (down b + up a), omega (arith, signed_arith, h))

-- the next business day, and the one before

-- a next business day from d on, or no business day from d on
abbrev NextOrNone : DaySet → ℤ → Type 0
NextOrNone s d = ((r : ℤ) × Next s d r) ⊎ ((x : ℤ) → d ≤ℤ x → IsGood s x → ⊥)

-- where d isn't good, what follows it decides
next_later : (s : DaySet) (d : ℤ) → InCover s d → (IsGood s d → ⊥) → NextOrNone s (d +ℤ pos 1) → NextOrNone s d
next_later s d inside bad (inl found) = inl (
  found.0,
  record {
    starts = inside;
    after = omega (arith, signed_arith, found.1.after);
    good = found.1.good;
    none_before = λ x low high g. elim (order_of d x) [
      | inl later ↦ found.1.none_before x (omega (arith, signed_arith, later)) high g
      | inr rest ↦
          elim rest [
            | inl earlier ↦ omega (arith, signed_arith, earlier, low)
            | inr same ↦
                bad (subst (IsGood s) (sym same) g)
          ]
    ];
  },
)
next_later s d inside bad (inr none) = inr (λ x low g. elim (order_of d x) [
  | inl later ↦ none x (omega (arith, signed_arith, later)) g
  | inr rest ↦
      elim rest [
        | inl earlier ↦ omega (arith, signed_arith, earlier, low)
        | inr same ↦
            bad (subst (IsGood s) (sym same) g)
      ]
])

-- the n days after d are the last of the cover
next_within : (s : DaySet) (n : ℕ) (d : ℤ) → InCover s d → s.last ≡ d +ℤ pos n → NextOrNone s d
next_within s zero d inside ends = elim (decides_good s d inside) [
  | inl good ↦ inl (d, next_stays s d good)
  | inr bad ↦ inr (λ x low g.
      let same : x ≡ d = omega (arith, signed_arith, low, g.inside.to, ends) in
      bad (subst (IsGood s) same g))
]
next_within s (suc n) d inside ends = elim (decides_good s d inside) [
  | inl good ↦ inl (d, next_stays s d good)
  | inr bad ↦
      let on : InCover s (d +ℤ pos 1) =
      record { from = omega (arith, signed_arith, inside.from); to = omega (arith, signed_arith, ends) } in
      next_later s d inside bad (next_within s n (d +ℤ pos 1) on (omega (arith, signed_arith, ends)))
]

-- the cover has a next business day for a day, or none
pub decides_next : (s : DaySet) (d : ℤ) → IsFound (Next s d)
decides_next s d = elim (decides_in_cover s d) [
  | inr outside ↦ inr (λ r h. outside h.starts)
  | inl inside ↦
      let left = distance d s.last inside.to in
      elim (next_within s left.0 d inside left.1) [
        | inl found ↦ inl found
        | inr none ↦ inr (λ r h. none r h.after h.good)
      ]
]

-- a previous business day from d back, or no business day from d back
abbrev PrevOrNone : DaySet → ℤ → Type 0
PrevOrNone s d = ((r : ℤ) × Prev s d r) ⊎ ((x : ℤ) → x ≤ℤ d → IsGood s x → ⊥)

prev_earlier : (s : DaySet) (d : ℤ) → InCover s d → (IsGood s d → ⊥) → PrevOrNone s (d -ℤ pos 1) → PrevOrNone s d
prev_earlier s d inside bad (inl found) = inl (
  found.0,
  record {
    starts = inside;
    before = omega (arith, signed_arith, found.1.before);
    good = found.1.good;
    none_after = λ x low high g. elim (order_of x d) [
      | inl earlier ↦ found.1.none_after x low (omega (arith, signed_arith, earlier)) g
      | inr rest ↦
          elim rest [ inl later ↦ omega (arith, signed_arith, later, high) | inr same ↦ bad (subst (IsGood s) same g) ]
    ];
  },
)
prev_earlier s d inside bad (inr none) = inr (λ x high g. elim (order_of x d) [
  | inl earlier ↦ none x (omega (arith, signed_arith, earlier)) g
  | inr rest ↦
      elim rest [ inl later ↦ omega (arith, signed_arith, later, high) | inr same ↦ bad (subst (IsGood s) same g) ]
])

-- the n days before d are the first of the cover
prev_within : (s : DaySet) (n : ℕ) (d : ℤ) → InCover s d → d ≡ s.first +ℤ pos n → PrevOrNone s d
prev_within s zero d inside begins = elim (decides_good s d inside) [
  | inl good ↦ inl (d, prev_stays s d good)
  | inr bad ↦ inr (λ x high g.
      let same : x ≡ d = omega (arith, signed_arith, high, g.inside.from, begins) in
      bad (subst (IsGood s) same g))
]
prev_within s (suc n) d inside begins = elim (decides_good s d inside) [
  | inl good ↦ inl (d, prev_stays s d good)
  | inr bad ↦
      let back : InCover s (d -ℤ pos 1) =
      record { from = omega (arith, signed_arith, begins); to = omega (arith, signed_arith, inside.to) } in
      prev_earlier s d inside bad (prev_within s n (d -ℤ pos 1) back (omega (arith, signed_arith, begins)))
]

-- the cover has a previous business day for a day, or none
pub decides_prev : (s : DaySet) (d : ℤ) → IsFound (Prev s d)
decides_prev s d = elim (decides_in_cover s d) [
  | inr outside ↦ inr (λ r h. outside h.starts)
  | inl inside ↦
      let left = distance s.first d inside.from in
      elim (prev_within s left.0 d inside left.1) [
        | inl found ↦ inl found
        | inr none ↦ inr (λ r h. none r h.before h.good)
      ]
]

-- the conventions

-- whether two days lie in one month can be decided
pub decides_same_month : (a b : ℤ) → IsDay a → IsDay b → IsDecided (SameMonth a b)
decides_same_month a b first second =
    let m = has_month a first in
    let n = has_month b second in
    elim (decides_same m.0 n.0) [
      | inl same ↦ inl (record { month = n.0; of_first = subst (λ (k : ℤ). InMonth a k) same m.1; of_second = n.1 })
      | inr other ↦
          inr (λ h. other (same_month a m.0 h.month m.1 h.of_first ∙ same_month b h.month n.0 h.of_second n.1))
    ]

-- the next day lies in another month, so that the previous one decides
follows_back : (s : DaySet) (d f : ℤ) → Next s d f → (SameMonth d f → ⊥) → IsFound (Prev s d) → IsFound (ModFollows s d)
follows_back s d f next apart (inl found) =
    inl (found.0, record { following = f; next = next; choice = inr (apart, found.1) })
follows_back s d f next apart (inr none) = inr (λ r h. elim h.choice [
  | inl stays ↦ apart (subst (SameMonth d) (one_next s d h.following f h.next next) stays.0)
  | inr back ↦ none r back.1
])

follows_by : (s : DaySet) (d f : ℤ) → Next s d f → IsDecided (SameMonth d f) → IsFound (ModFollows s d)
follows_by s d f next (inl same) = inl (f, record { following = f; next = next; choice = inl (same, refl) })
follows_by s d f next (inr apart) = follows_back s d f next apart (decides_prev s d)

decides_follows : (s : DaySet) (d : ℤ) → IsDay d → InRange s → IsFound (ModFollows s d)
decides_follows s d day range = elim (decides_next s d) [
  | inr none ↦ inr (λ r h. none h.following h.next)
  | inl found ↦ follows_by s d found.0 found.1 (decides_same_month d found.0 day (range found.0 found.1.good.inside))
]

-- the previous day lies in another month, so that the next one decides
precedes_on : (s : DaySet) (d p : ℤ) → Prev s d p → (SameMonth d p → ⊥) → IsFound (Next s d) → IsFound (ModPrecedes s d)
precedes_on s d p prev apart (inl found) =
    inl (found.0, record { preceding = p; prev = prev; choice = inr (apart, found.1) })
precedes_on s d p prev apart (inr none) = inr (λ r h. elim h.choice [
  | inl stays ↦ apart (subst (SameMonth d) (one_prev s d h.preceding p h.prev prev) stays.0)
  | inr on ↦ none r on.1
])

precedes_by : (s : DaySet) (d p : ℤ) → Prev s d p → IsDecided (SameMonth d p) → IsFound (ModPrecedes s d)
precedes_by s d p prev (inl same) = inl (p, record { preceding = p; prev = prev; choice = inl (same, refl) })
precedes_by s d p prev (inr apart) = precedes_on s d p prev apart (decides_next s d)

decides_precedes : (s : DaySet) (d : ℤ) → IsDay d → InRange s → IsFound (ModPrecedes s d)
decides_precedes s d day range = elim (decides_prev s d) [
  | inr none ↦ inr (λ r h. none h.preceding h.prev)
  | inl found ↦ precedes_by s d found.0 found.1 (decides_same_month d found.0 day (range found.0 found.1.good.inside))
]

decides_sunday_or_monday : (d : ℤ) → IsDecided (IsSundayOrMonday d)
decides_sunday_or_monday d = elim (cases_eq (weekday_at d) 6) [
  | inl sunday ↦ inl (inl sunday)
  | inr other ↦ elim (cases_eq (weekday_at d) 0) [
    | inl monday ↦ inl (inr monday)
    | inr neither ↦ inr (λ h. elim h [ inl sunday ↦ other sunday | inr monday ↦ neither monday ])
  ]
]

-- on a Sunday or a Monday that isn't good the next day decides
nearest_on : (s : DaySet) (d : ℤ) → InCover s d → (IsGood s d → ⊥) → IsSundayOrMonday d → IsFound (Next s d)
    → IsFound (GoesNearest s d)
nearest_on s d inside bad early (inl found) =
    inl (found.0, record { inside = inside; choice = inr (bad, inl (early, found.1)) })
nearest_on s d inside bad early (inr none) = inr (λ r h. elim h.choice [
  | inl stays ↦ bad stays.0
  | inr moves ↦ elim moves.1 [ inl on ↦ none r on.1 | inr back ↦ back.0 early ]
])

-- on another day that isn't good the previous one decides
nearest_back : (s : DaySet) (d : ℤ) → InCover s d → (IsGood s d → ⊥) → (IsSundayOrMonday d → ⊥) → IsFound (Prev s d)
    → IsFound (GoesNearest s d)
nearest_back s d inside bad late (inl found) =
    inl (found.0, record { inside = inside; choice = inr (bad, inr (late, found.1)) })
nearest_back s d inside bad late (inr none) = inr (λ r h. elim h.choice [
  | inl stays ↦ bad stays.0
  | inr moves ↦ elim moves.1 [ inl on ↦ late on.0 | inr back ↦ none r back.1 ]
])

decides_nearest : (s : DaySet) (d : ℤ) → IsFound (GoesNearest s d)
decides_nearest s d = elim (decides_in_cover s d) [
  | inr outside ↦ inr (λ r h. outside h.inside)
  | inl inside ↦ elim (decides_good s d inside) [
    | inl good ↦ inl (d, record { inside = inside; choice = inl (good, refl) })
    | inr bad ↦ elim (decides_sunday_or_monday d) [
      | inl early ↦ nearest_on s d inside bad early (decides_next s d)
      | inr late ↦ nearest_back s d inside bad late (decides_prev s d)
    ]
  ]
]

-- a day has its adjusted day, or none
pub decides_adjusts : (code : ConvCode) (s : DaySet) (d : ℤ) → IsDay d → InRange s → IsFound (Adjusts code s d)
decides_adjusts Following s d day range = decides_next s d
decides_adjusts ModFollowing s d day range = decides_follows s d day range
decides_adjusts Preceding s d day range = decides_prev s d
decides_adjusts ModPreceding s d day range = decides_precedes s d day range
decides_adjusts Nearest s d day range = decides_nearest s d
decides_adjusts Unadjusted s d day range = inl (d, refl)

follows_day : (s : DaySet) (d r : ℤ) → InRange s → ModFollows s d r → IsDay r
follows_day s d r range h = elim h.choice [
  | inl stays ↦ subst IsDay (sym stays.1) (range h.following h.next.good.inside)
  | inr back ↦ range r back.1.good.inside
]

precedes_day : (s : DaySet) (d r : ℤ) → InRange s → ModPrecedes s d r → IsDay r
precedes_day s d r range h = elim h.choice [
  | inl stays ↦ subst IsDay (sym stays.1) (range h.preceding h.prev.good.inside)
  | inr on ↦ range r on.1.good.inside
]

nearest_day : (s : DaySet) (d r : ℤ) → IsDay d → InRange s → GoesNearest s d r → IsDay r
nearest_day s d r day range h = elim h.choice [
  | inl stays ↦ subst IsDay (sym stays.1) day
  | inr moves ↦ elim moves.1 [ inl on ↦ range r on.1.good.inside | inr back ↦ range r back.1.good.inside ]
]

-- an adjusted day is a day in range
pub adjusts_day : (code : ConvCode) (s : DaySet) (d r : ℤ) → IsDay d → InRange s → Adjusts code s d r → IsDay r
adjusts_day Following s d r day range h = range r h.good.inside
adjusts_day ModFollowing s d r day range h = follows_day s d r range h
adjusts_day Preceding s d r day range h = range r h.good.inside
adjusts_day ModPreceding s d r day range h = precedes_day s d r range h
adjusts_day Nearest s d r day range h = nearest_day s d r day range h
adjusts_day Unadjusted s d r day range h = subst IsDay (sym h) day
