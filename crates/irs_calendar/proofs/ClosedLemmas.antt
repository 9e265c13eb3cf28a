-- Days that are closed by a weekend or a holiday.
use Rattle.std.proofs.Common.{◌≡◌, ◌⊎◌, inl, inr, ℕ, zero, suc, ◌+◌, ◌-◌, ◌<◌, ◌≤◌, ◌%◌, ◌==◌, min, Bool, true, false}
use Rattle.std.proofs.Common.{not, ◌&&◌, ◌||◌, List, [], ◌∷◌, slice_index_or, slice_set, length, get_or, map, Bor, refl}
use Rattle.std.proofs.Common.{sym, ◌∙◌, ap, subst, arith, ℤ, pos, ◌+ℤ◌}
use Rattle.std.proofs.lemmas.List.{get_or-set_other}
use Rattle.std.proofs.lemmas.Grind.{get_or-set_at}
use Rattle.jiff_core.proofs.CalendarLemmas.{weekday_number-add}
use Rattle.irs_base.specs.Days.{weekday_at}
use Rattle.irs_calendar.specs.declared.sections.Section.{Section}
use Rattle.irs_calendar.specs.declared.weekends.Weekend.{Weekend}
use Rattle.irs_calendar.specs.declared.weekends.Week.{Week}
use Rattle.irs_calendar.specs.Sections.{is_open, all_open}
use Rattle.irs_calendar.specs.Rising.{is_listed}
use Rattle.irs_calendar.specs.Private.Closed.{off_on, any_off, IsStretch, IsWeek, IsWeekend, day_after, weekend_after}
use Rattle.irs_calendar.specs.Private.Closed.{any_listed, IsNext, AreHeld}

-- a day is open where no section lists it
pub open_is : (ss : List Section) (d : ℤ) → all_open ss d ≡ (not (any_listed ss d) && not (any_off ss d))
open_is [] d = refl
open_is (s ∷ ss) d =
    ap (λ (b : Bool). is_open s d && b) (open_is ss d)
    ∙ apart (slice_index_or s.weekend (weekday_at d) false) (is_listed d s.holidays) (any_listed ss d) (any_off ss d)
  where
    apart : (off listed more_listed more_off : Bool)
        → ((not off && not listed) && (not more_listed && not more_off))
        ≡ (not (listed || more_listed) && not (off || more_off))
    apart true true l o = refl
    apart true false true o = refl
    apart true false false o = refl
    apart false true l o = refl
    apart false false true o = refl
    apart false false false o = refl

-- from an open day to where open days end, and to where the closed ones after them end
pub record Turn (test : ℤ → Bool) (first : ℤ) (limit k end next : ℕ) : Type 0 where
  pub after : k ≤ end
  pub within : end ≤ limit
  pub later : end < next
  pub passes : (i : ℕ) → k ≤ i → i < end → test (first +ℤ pos i) ≡ true
  pub fails : (i : ℕ) → end ≤ i → i < next → i < limit → test (first +ℤ pos i) ≡ false

off_later : (ss : List Section) (first : ℤ) (k j i : ℕ) → i ≡ k + j
    → any_off ss (first +ℤ pos i) ≡ off_on ss (((weekday_at first + k) % 7 + j) % 7)
off_later ss first k j i e =
    let w : weekday_at (first +ℤ pos i) ≡ ((weekday_at first + k) % 7 + j) % 7 =
    omega (arith, e, weekday_number-add first (first +ℤ pos i) i refl) in
    ap (off_on ss) w

-- a week that is all the same goes on
whole_week : (off : ℕ → Bool) (closed : Bool) (p n j : ℕ) → IsStretch off closed p n → n ≡ 7
    → off ((p + j) % 7) ≡ closed
whole_week off closed p n j stretch all =
    let e : (p + j) % 7 ≡ (p + j % 7) % 7 = omega arith in
    ap off e ∙ stretch.same (j % 7) (omega (arith, all))

cases_few : (n : ℕ) → n ≤ 7 → (n < 7) ⊎ (n ≡ 7)
cases_few n h = grind arith

closed_by : (ss : List Section) (d : ℤ) → (any_listed ss d ≡ true) ⊎ (any_off ss d ≡ true) → all_open ss d ≡ false
closed_by ss d h = open_is ss d ∙ elim h [
  | inl l ↦ rw l refl
  | inr o ↦ rw o (last (any_listed ss d))
]
  where
    last : (b : Bool) → (not b && false) ≡ false
    last true = refl
    last false = refl

open_by : (ss : List Section) (d : ℤ) → any_listed ss d ≡ false → any_off ss d ≡ false → all_open ss d ≡ true
open_by ss d l o = open_is ss d ∙ rw (l, o) refl

-- after closed days, of which there is one at least, there is no whole week of open ones
some_shut : (off : ℕ → Bool) (w m : ℕ) → w < 7 → off w ≡ true → IsStretch off true w m → 1 ≤ m
some_shut off w m low on stretch = elim (cases_zero m) [
  | inl none ↦
      let e : (w + m) % 7 ≡ w = omega (arith, low, none) in
      let f : off ((w + m) % 7) ≡ false = stretch.ends (omega (arith, none)) in
      absurd (let g = subst (λ (p : ℕ). off p ≡ false) e f in cc (g, on))
  | inr some ↦ some
]
  where
    cases_zero : (n : ℕ) → (n ≡ 0) ⊎ (1 ≤ n)
    cases_zero n = grind arith

few_free : (off : ℕ → Bool) (w m n : ℕ) → w < 7 → off w ≡ true → m ≤ 7 → IsStretch off false ((w + m) % 7) n → n < 7
few_free off w m n low on few stretch = elim (cases_few n stretch.few) [
  | inl less ↦ less
  | inr all ↦
      let e : ((w + m) % 7 + (7 - m)) % 7 ≡ w = omega (arith, low, few) in
      let f : off (((w + m) % 7 + (7 - m)) % 7) ≡ false = whole_week off false ((w + m) % 7) n (7 - m) stretch all in
      absurd (let g = subst (λ (p : ℕ). off p ≡ false) e f in cc (g, on))
]

cases_at : (a b : ℕ) → a ≤ b → (a ≡ b) ⊎ (a < b)
cases_at a b h = grind arith

cases_eq : (a b : ℕ) → ((a ≡ b) × ((a == b) ≡ true)) ⊎ ((a ≡ b → ⊥) × ((a == b) ≡ false))
cases_eq a b = grind arith

-- the days of the weekend are closed
weekend_shut : (ss : List Section) (first : ℤ) (limit k m i : ℕ) (w : Weekend) → IsWeekend ss first limit k w
    → w.day ≤ limit → IsStretch (off_on ss) true w.place m → w.day ≤ i → i < w.day + m
    → any_off ss (first +ℤ pos i) ≡ true
weekend_shut ss first limit k m i w weekend below stretch low high =
    off_later ss first w.day (i - w.day) i (omega (arith, low))
    ∙ subst (λ (p : ℕ). off_on ss ((p + (i - w.day)) % 7) ≡ true) (weekend.place below)
    (stretch.same (i - w.day) (omega (arith, low, high)))

-- from an open day to the end of the open days, and on to the end of the closed ones
pub turn : (ss : List Section) (first : ℤ) (limit k h end behind next : ℕ) (w : Weekend) (week : Week)
    → IsWeek (off_on ss) week → IsWeekend ss first limit k w → IsNext (λ i. any_listed ss (first +ℤ pos i)) k h limit
    → AreHeld (λ i. any_listed ss (first +ℤ pos i)) end behind w.day limit → end ≡ min w.day h
    → next ≡ day_after week w end behind → Turn (all_open ss) first limit k end next
turn ss first limit k h end behind next w week is_week weekend listed holidays is_end is_next =
    let m = slice_index_or week.shut w.place 0 in
    let s : IsStretch (off_on ss) true w.place m = is_week.shut w.place weekend.in_week in
    let passes : (i : ℕ) → k ≤ i → i < end → all_open ss (first +ℤ pos i) ≡ true = λ i low high.
    open_by ss (first +ℤ pos i) (listed.clear i low (omega (arith, high, is_end)))
    (weekend.clear i low (omega (arith, high, is_end)) (omega (arith, high, is_end, listed.within))) in
    elim (cases_eq end w.day) [
      | inl day ↦
          let e : next ≡ end + m = is_next ∙ rw day.1 refl in
          let below : w.day ≤ limit = omega (arith, day.0, is_end, listed.within) in
          record {
            after = omega (arith, day.0, weekend.after);
            within = omega (arith, day.0, below);
            later = omega (arith, e, some_shut (off_on ss) w.place m weekend.in_week (weekend.closed below) s);
            passes = passes;
            fails = λ i low high under. closed_by ss (first +ℤ pos i)
                (inr (weekend_shut ss first limit k m i w weekend below s (omega (arith, low, day.0))
                (omega (arith, high, e, day.0))));
          }
      | inr other ↦
          let e : next ≡ behind = is_next ∙ rw other.1 refl in
          let before : end < w.day = before_day end w.day h is_end other.0 in
          let there : end ≡ h = omega (arith, before, is_end) in
          record {
            after = omega (arith, there, listed.after);
            within = omega (arith, there, listed.within);
            later = omega (arith, e, holidays.later);
            passes = passes;
            fails = λ i low high under. closed_by ss (first +ℤ pos i)
                (inl (holidays.held before i low (omega (arith, high, e)) under));
          }
    ]
  where
    before_day : (e d h : ℕ) → e ≡ min d h → (e ≡ d → ⊥) → e < d
    before_day e d h is other = grind arith

-- the weekend after that
pub weekend_later : (ss : List Section) (first : ℤ) (limit k h end behind next : ℕ) (w later : Weekend) (week : Week)
    → IsWeek (off_on ss) week → IsWeekend ss first limit k w → k ≤ end → end ≤ limit → end < behind
    → (end < w.day → behind ≤ w.day) → end ≡ min w.day h → next ≡ day_after week w end behind
    → later ≡ weekend_after week w end → IsWeekend ss first limit next later
weekend_later ss first limit k h end behind next w later week is_week weekend start within more no_more is_end is_next
    is_later =
    let m = slice_index_or week.shut w.place 0 in
    let a = slice_index_or week.next w.place 0 in
    let q = slice_index_or week.places w.place 0 in
    let n = a - m in
    let s : IsStretch (off_on ss) true w.place m = is_week.shut w.place weekend.in_week in
    let x = is_week.next w.place weekend.in_week in
    let f : IsStretch (off_on ss) false ((w.place + m) % 7) n = x.1 in
    let there : q ≡ (w.place + a) % 7 = is_week.places w.place weekend.in_week in
    elim (cases_eq end w.day) [
      | inl day ↦
          let e : next ≡ end + m = is_next ∙ rw day.1 refl in
          let l : later ≡ record { day = end + a; place = q } = is_later ∙ rw day.1 refl in
          let below : w.day ≤ limit = omega (arith, day.0, within) in
          let at : w.place ≡ (weekday_at first + w.day) % 7 = weekend.place below in
          let few : n < 7 = few_free (off_on ss) w.place m n weekend.in_week (weekend.closed below) s.few f in
          subst (IsWeekend ss first limit next) (sym l) (record {
            in_week = omega (arith, there);
            after = omega (arith, e, x.0);
            clear = λ i low high under.
                let p : (weekday_at first + (w.day + m)) % 7 ≡ (w.place + m) % 7 = omega (arith, at) in
                off_later ss first (w.day + m) (i - (w.day + m)) i (omega (arith, low, e, day.0))
                ∙ subst (λ (q : ℕ). off_on ss ((q + (i - (w.day + m))) % 7) ≡ false) (sym p)
                (f.same (i - (w.day + m)) (omega (arith, low, high, e, day.0, x.0)));
            place = λ _. omega (arith, at, day.0, there);
            closed = λ _.
                let p : ((w.place + m) % 7 + n) % 7 ≡ q = omega (arith, there, x.0) in
                subst (λ (q : ℕ). off_on ss q ≡ true) p (f.ends few);
          })
      | inr other ↦
          let e : next ≡ behind = is_next ∙ rw other.1 refl in
          let l : later ≡ w = is_later ∙ rw other.1 refl in
          let before : end < w.day = before_day end w.day h is_end other.0 in
          subst (IsWeekend ss first limit next) (sym l) (record {
            in_week = weekend.in_week;
            after = omega (arith, e, no_more before);
            clear = λ i low high under. weekend.clear i (omega (arith, low, e, start, more)) high under;
            place = weekend.place;
            closed = weekend.closed;
          })
    ]
  where
    before_day : (e d h : ℕ) → e ≡ min d h → (e ≡ d → ⊥) → e < d
    before_day e d h is other = grind arith

-- the first weekend of all
from_first : (ss : List Section) (first : ℤ) (i : ℕ)
    → any_off ss (first +ℤ pos i) ≡ off_on ss ((weekday_at first + i) % 7)
from_first ss first i =
    let e : ((weekday_at first + 0) % 7 + i) % 7 ≡ (weekday_at first + i) % 7 = omega arith in
    off_later ss first 0 i i (omega arith) ∙ ap (off_on ss) e

-- where no weekday is closed, there is no weekend ahead
pub weekend_none : (ss : List Section) (first : ℤ) (limit place n : ℕ) → place ≡ weekday_at first → place < 7
    → IsStretch (off_on ss) false place n → n ≡ 7
    → IsWeekend ss first limit 0 (record { day = limit + 1; place = place })
weekend_none ss first limit place n is low stretch all = record {
  in_week = low;
  after = omega arith;
  clear = λ i start high under. from_first ss first i
      ∙ subst (λ (p : ℕ). off_on ss ((p + i) % 7) ≡ false) is (whole_week (off_on ss) false place n i stretch all);
  place = λ below. absurd (omega (arith, below));
  closed = λ below. absurd (omega (arith, below));
}

-- the first weekend comes after the open weekdays from the first day on
pub weekend_first : (ss : List Section) (first : ℤ) (limit place n : ℕ) → place ≡ weekday_at first
    → IsStretch (off_on ss) false place n → (n ≡ 7 → ⊥)
    → IsWeekend ss first limit 0 (record { day = n; place = (place + n) % 7 })
weekend_first ss first limit place n is stretch some = record {
  in_week = omega arith;
  after = omega arith;
  clear = λ i start high under. from_first ss first i
      ∙ subst (λ (p : ℕ). off_on ss ((p + i) % 7) ≡ false) is (stretch.same i high);
  place = λ below. ap (λ (p : ℕ). (p + n) % 7) is;
  closed = λ below. elim (cases_few n stretch.few) [ inl less ↦ stretch.ends less | inr all ↦ absurd (some all) ];
}

-- one weekend that has the day is enough
pub off_at : (ss : List (Bor Section)) (p i : ℕ) (x : Bor Section) → i < length ss → x ≡ get_or ss i x
    → slice_index_or x.now.weekend p false ≡ true
    → off_on (map {A = Bor Section} {B = Section} (λ s. s.now) ss) p ≡ true
off_at [] p i x within is off = absurd (omega (arith, within))
off_at (s ∷ ss) p zero x within is off =
    rw (subst (λ (z : Bor Section). slice_index_or z.now.weekend p false ≡ true) is off) refl
off_at (s ∷ ss) p (suc i) x within is off =
    second (slice_index_or s.now.weekend p false) (off_on (map {A = Bor Section} {B = Section} (λ z. z.now) ss) p)
    (off_at ss p i x (omega (arith, within)) is off)
  where
    second : (a b : Bool) → b ≡ true → (a || b) ≡ true
    second true b h = refl
    second false b h = h

-- one more of a table
pub table_more : (P : ℕ → ℕ → Type 0) (table : List ℕ) (p n : ℕ) → p < length table → P p n
    → ((q : ℕ) → q < p → P q (slice_index_or table q 0)) → (q : ℕ) → q < p + 1
    → P q (slice_index_or (slice_set table p n) q 0)
table_more P table p n within new old q low = elim (cases_same q p) [
  | inl at ↦ subst (P q) (sym (get_or-set_at table p q n 0 at within)) (subst (λ (r : ℕ). P r n) (sym at) new)
  | inr other ↦ subst (P q) (sym (get_or-set_other table p q n 0 other)) (old q (grind (arith, low, other)))
]
  where
    cases_same : (i j : ℕ) → (i ≡ j) ⊎ (i ≡ j → ⊥)
    cases_same i j = grind arith
