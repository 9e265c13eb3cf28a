-- What covers have in common.
use Rattle.std.proofs.Common.{◌≡◌, ℕ, suc, ◌+◌, ◌<◌, ◌≤◌, Bool, true, false, List, [], ◌∷◌, map, drop, length, get_or}
use Rattle.std.proofs.Common.{arith, refl, sym, ◌∙◌, ap, subst, ℤ, ◌≤ℤ◌, Bor}
use Rattle.std.proofs.Math.Seq.{drop-cons}
use Rattle.irs_calendar.specs.declared.sections.Section.{Section}
use Rattle.jiff_core.proofs.SignedLemmas.{signed_arith}
use Rattle.irs_base.specs.Days.{first_day, last_day}
use Rattle.irs_calendar.specs.GoodDays.{DaySet, SameDays, CoveredRuns, set_of_runs}
use Rattle.irs_calendar.specs.Private.Closed.{Represents}
use Rattle.irs_calendar.specs.Sections.{later_day, earlier_day, latest_first, earliest_last, set_of_sections, AllCover}
use Rattle.irs_calendar.specs.Sections.{CoversCommon}
use Rattle.irs_calendar.proofs.CalendarLemmas.{drop_all}

-- the sections that are borrowed
abbrev pub sections_at : List (Bor Section) → List Section
sections_at xs = map {A = Bor Section} {B = Section} (λ s. s.now) xs

next_section : (ss : List (Bor Section)) (i : ℕ) (x : Bor Section) → i < length ss → x ≡ get_or ss i x
    → sections_at (drop i ss) ≡ x.now ∷ sections_at (drop (i + 1) ss)
next_section ss i x within is =
    let k : i + 1 ≡ suc i = omega arith in
    rw k (ap sections_at (drop-cons ss i x within ∙ ap (λ (s : Bor Section). s ∷ drop (suc i) ss) (sym is)))

-- a cover that is narrowed by one section
pub first_more : (ss : List (Bor Section)) (i : ℕ) (x : Bor Section) (a whole : ℤ) → i < length ss → x ≡ get_or ss i x
    → latest_first a (sections_at (drop i ss)) ≡ whole
    → latest_first (later_day a x.now.first) (sections_at (drop (i + 1) ss)) ≡ whole
first_more ss i x a whole within is kept =
    subst (λ (l : List Section). latest_first a l ≡ whole) (next_section ss i x within is) kept

-- the earliest last day, with one section more
pub last_more : (ss : List (Bor Section)) (i : ℕ) (x : Bor Section) (a whole : ℤ) → i < length ss → x ≡ get_or ss i x
    → earliest_last a (sections_at (drop i ss)) ≡ whole
    → earliest_last (earlier_day a x.now.last) (sections_at (drop (i + 1) ss)) ≡ whole
last_more ss i x a whole within is kept =
    subst (λ (l : List Section). earliest_last a l ≡ whole) (next_section ss i x within is) kept

-- after the last section the latest first day is the one at hand
pub first_end : (ss : List (Bor Section)) (i : ℕ) (a whole : ℤ) → length ss ≤ i
    → latest_first a (sections_at (drop i ss)) ≡ whole → a ≡ whole
first_end ss i a whole past kept =
    subst (λ (l : List (Bor Section)). latest_first a (sections_at l) ≡ whole) (drop_all ss i past) kept

-- after the last section the earliest last day is the one at hand
pub last_end : (ss : List (Bor Section)) (i : ℕ) (a whole : ℤ) → length ss ≤ i
    → earliest_last a (sections_at (drop i ss)) ≡ whole → a ≡ whole
last_end ss i a whole past kept =
    subst (λ (l : List (Bor Section)). earliest_last a (sections_at l) ≡ whole) (drop_all ss i past) kept

same_bool : (a b : Bool) → (a ≡ true → b ≡ true) → (b ≡ true → a ≡ true) → a ≡ b
same_bool true b there back = sym (there refl)
same_bool false true there back = back refl
same_bool false false there back = refl

-- runs that represent a test are the set of that test
pub same_days : (t : DaySet) (c : CoveredRuns) → c.first ≡ t.first → c.last ≡ t.last → Represents t.test c
    → SameDays (set_of_runs c) t
same_days t c first last represents = record {
  first = first;
  last = last;
  test = λ d inside. same_bool ((set_of_runs c).test d) (t.test d)
      (λ passes. ((represents.good d).0 (record { inside = inside; passes = passes })).1)
      (λ passes. ((represents.good d).1 (inside, passes)).passes);
}

-- the cover in common is an intersection

later_is : (a b d : ℤ) → later_day a b ≤ℤ d → (a ≤ℤ d) × (b ≤ℤ d)
later_is a b d h = grind (arith, signed_arith)

is_later : (a b d : ℤ) → a ≤ℤ d → b ≤ℤ d → later_day a b ≤ℤ d
is_later a b d h k = grind (arith, signed_arith)

earlier_is : (a b d : ℤ) → d ≤ℤ earlier_day a b → (d ≤ℤ a) × (d ≤ℤ b)
earlier_is a b d h = grind (arith, signed_arith)

is_earlier : (a b d : ℤ) → d ≤ℤ a → d ≤ℤ b → d ≤ℤ earlier_day a b
is_earlier a b d h k = grind (arith, signed_arith)

all_within : (ss : List Section) (a b d : ℤ) → latest_first a ss ≤ℤ d → d ≤ℤ earliest_last b ss
    → (a ≤ℤ d) × (d ≤ℤ b) × AllCover ss d
all_within [] a b d from to = (from, to, tt)
all_within (s ∷ ss) a b d from to =
    let r = all_within ss (later_day a s.first) (earlier_day b s.last) d from to in
    let low = later_is a s.first d r.0 in
    let high = earlier_is b s.last d r.1 in
    (low.0, high.0, (low.1, high.1, r.2))

within_all : (ss : List Section) (a b d : ℤ) → a ≤ℤ d → d ≤ℤ b → AllCover ss d
    → (latest_first a ss ≤ℤ d) × (d ≤ℤ earliest_last b ss)
within_all [] a b d low high all = (low, high)
within_all (s ∷ ss) a b d low high all =
    within_all ss (later_day a s.first) (earlier_day b s.last) d (is_later a s.first d low all.0)
    (is_earlier b s.last d high all.1) all.2

-- a set with the days of the sections has the cover that is common to them
pub covers_common : (ss : List Section) (t : DaySet) → SameDays t (set_of_sections ss) → CoversCommon ss t
covers_common ss t same d = (
  (λ inside.
      let r = all_within ss first_day last_day d (subst (λ (x : ℤ). x ≤ℤ d) same.first inside.from)
      (subst (λ (x : ℤ). d ≤ℤ x) same.last inside.to) in
      ((r.0, r.1), r.2)),
  (λ p.
      let r = within_all ss first_day last_day d p.0.0 p.0.1 p.1 in
      record {
        from = subst (λ (x : ℤ). x ≤ℤ d) (sym same.first) r.0;
        to =
            subst (λ (x : ℤ). d ≤ℤ x) (sym same.last) r.1;
      }),
)
