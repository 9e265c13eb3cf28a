-- The values of leaves lie in their ranges.
use Rattle.irs_base.specs.{Lists.Every, Limits.most_index, Limits.most_name}
use Rattle.irs_base.specs.declared.day.DayName.TheVariants.{Mon, Tue, Wed, Thu, Fri, Sat, Sun}
use Rattle.irs_elements.specs.Codes.{among, day_number_at, day_roll_at, first_there, is_first_digit, named_roll_at}
use Rattle.irs_elements.specs.{Codes.roll_at, Codes.tenor_unit_at, Leaves.currency_at, Numbers.whole_at, Numbers.within}
use Rattle.irs_elements.proofs.Exact.{both_true}
use Rattle.irs_elements.specs.Leaves.{is_capital, is_center_name, is_currency, is_index_name, is_no_control, is_visible}
use Rattle.irs_terms.specs.declared.codes.RollCode.TheVariants.{Dom, Eom, Imm, NoRoll, OnWeekday}
use Rattle.irs_terms.specs.declared.frequency.Unit.TheVariants.{D, W, M, Y, T as Term}
use Rattle.irs_terms.specs.Lawful.{IsLawfulCurrency, IsLawfulIndex, IsLawfulName, IsLawfulRoll}
use Rattle.irs_terms.specs.declared.frequency.Unit.{Unit as PeriodUnit}
use Rattle.std.proofs.Common.{neg_ℤ, ◌≤ℤ◌, int_le, unsigned_abs, Option, Some, None, IfSome, option_map, ◌≡◌, ℕ}
use Rattle.std.proofs.Common.{option_and_then, refl, arith, if◌then◌else◌, bytes_eq, codes, ℤ, pos, ◌+◌, ◌-◌, ◌*◌}
use Rattle.std.proofs.Common.{◌≤◌, nat_le, nat_lt, Bool, true, false, ◌&&◌, ◌==◌, not, List, [], ◌∷◌, length, get_or}
use Rattle.std.proofs.lemmas.{Bool.Decides.nat_tests, Int.ints, List.Sums.AllPass-from_list_all, Option.IfSome_then}
use Rattle.std.specs.List.{list_all}

-- what holds of each value of a text holds of a leaf's value
pub said_in : {A B : Type 0} (P : A → Type 0) (at : B → Option A) → ((s : B) → IfSome (at s) P) → (t : Option B)
    → IfSome (option_and_then at t) P
said_in P at h None = tt
said_in P at h (Some s) = h s

-- ---- numbers

-- the number is from low to high
abbrev Between : ℤ → ℤ → ℤ → Type 0
Between low high z = (low ≤ℤ z) × (z ≤ℤ high)

-- what is there only by a test
guarded : {A : Type 0} (P : A → Type 0) (b : Bool) (o : Option A) → (b ≡ true → IfSome o P)
    → IfSome (if b then o else None) P
guarded P true o h = h refl
guarded P false o h = tt

-- a number from low to high
pub within_range : (low high : ℤ) (o : Option ℤ) → IfSome (within low high o) (Between low high)
within_range low high None = tt
within_range low high (Some z) =
    guarded (Between low high) (int_le low z && int_le z high) (Some z)
    (λ e. (grind (arith, ints, nat_tests), grind (arith, ints, nat_tests)))

-- a number from -m to m
pub size_range : (m : ℕ) (o : Option ℤ) → IfSome (within (neg_ℤ (pos m)) (pos m) o) (λ z. unsigned_abs z ≤ m)
size_range m o =
    IfSome_then _ {Q = λ z. unsigned_abs z ≤ m} (within_range (neg_ℤ (pos m)) (pos m) o) (λ z h. omega (arith, ints, h))

up : (l m : ℕ) (z : ℤ) → Between (pos l) (pos m) z → (l ≤ unsigned_abs z) × (unsigned_abs z ≤ m)
up l m z h = (omega (arith, ints, h), omega (arith, ints, h))

-- a number from l to m, without a sign
pub count_range : (l m : ℕ) (s : List ℕ)
    → IfSome (option_map unsigned_abs (within (pos l) (pos m) (whole_at s))) (λ n. (l ≤ n) × (n ≤ m))
count_range l m s =
    elim (within (pos l) (pos m) (whole_at s))
    as (λ o. IfSome o (Between (pos l) (pos m)) → IfSome (option_map unsigned_abs o) (λ n. (l ≤ n) × (n ≤ m)))
    [ None ↦ λ h. h | Some z ↦ up l m z ] (within_range (pos l) (pos m) (whole_at s))

-- ---- codes

-- what holds of every value of a list of codes holds of the one that a text has
among_range : {A : Type 0} (P : A → Type 0) (rows : List (List ℕ × A)) → Every (λ row. P row.1) rows
    → (s : List ℕ) → IfSome (among rows s) P
among_range P [] h s = tt
among_range P (row ∷ rows) h s =
    elim (bytes_eq s row.0) as (λ b. IfSome (if b then Some row.1 else among rows s) P)
    [ true ↦ h.0 | false ↦ among_range P rows h.1 s ]

-- the unit of a tenor is not that of the whole term
pub tenor_unit_range : (s : List ℕ) → IfSome (tenor_unit_at s) (λ u. u ≡ Term → ⊥)
tenor_unit_range s =
    among_range (λ (u : PeriodUnit). u ≡ Term → ⊥)
    ((codes "D", D) ∷ (codes "W", W) ∷ (codes "M", M) ∷ (codes "Y", Y) ∷ [])
    ((λ e. cc), ((λ e. cc), ((λ e. cc), ((λ e. cc), tt)))) s

day_roll_range : (s : List ℕ) → IfSome (day_roll_at s) IsLawfulRoll
day_roll_range [] = tt
day_roll_range (a ∷ []) = guarded IsLawfulRoll (is_first_digit a) (Some (Dom (a - 48))) (λ e.
    let h : (49 ≤ a) × (a ≤ 57) = grind (arith, nat_tests) in (omega (arith, h), omega (arith, h)))
day_roll_range (a ∷ b ∷ []) =
    let n = 10 * (a - 48) + (b - 48) in
    guarded IsLawfulRoll (is_first_digit a && nat_le 48 b && nat_le b 57) (day_number_at n) (λ e.
    let h : 49 ≤ a = grind (arith, nat_tests) in
    guarded IsLawfulRoll (nat_le n 30) (Some (Dom n)) (λ t. (omega (arith, h), grind (arith, nat_tests))))
day_roll_range (a ∷ b ∷ c ∷ rest) = tt

either_range : {A : Type 0} (P : A → Type 0) (o p : Option A) → IfSome o P → IfSome p P → IfSome (first_there o p) P
either_range P None p g h = h
either_range P (Some a) p g h = g

-- a roll that is read is lawful
pub roll_range : (s : List ℕ) → IfSome (roll_at s) IsLawfulRoll
roll_range s =
    either_range IsLawfulRoll (named_roll_at s) (day_roll_at s)
    (among_range IsLawfulRoll ((codes "EOM", Eom) ∷ (codes "IMM", Imm) ∷ (codes "NONE", NoRoll)
    ∷ (codes "MON", OnWeekday Mon) ∷ (codes "TUE", OnWeekday Tue) ∷ (codes "WED", OnWeekday Wed)
    ∷ (codes "THU", OnWeekday Thu) ∷ (codes "FRI", OnWeekday Fri) ∷ (codes "SAT", OnWeekday Sat)
    ∷ (codes "SUN", OnWeekday Sun) ∷ []) (tt, (tt, (tt, (tt, (tt, (tt, (tt, (tt, (tt, (tt, tt)))))))))) s)
    (day_roll_range s)

-- ---- currencies

-- a currency that is read is lawful
pub currency_range : (s : List ℕ) → IfSome (currency_at s) IsLawfulCurrency
currency_range s =
    guarded IsLawfulCurrency (is_currency s) (Some (record { letters = s })) (λ e k d lt.
    let h = AllPass-from_list_all is_capital s (both_true (length s == 3) (list_all is_capital s) e).1 k d lt in
    grind (arith, nat_tests))

-- ---- names

-- the name of a centre that passes its test is lawful
pub name_range : (s : List ℕ) → IfSome (if is_center_name s then Some s else None) IsLawfulName
name_range s = guarded IsLawfulName (is_center_name s) (Some s) (λ e.
    let (long, all) = both_true (nat_lt 0 (length s) && nat_le (length s) most_name) (list_all is_visible s) e in (
      grind (arith, nat_tests, long),
      grind (arith, nat_tests, long),
      λ k d lt. let h = AllPass-from_list_all is_visible s all k d lt in grind (arith, nat_tests, h),
    ))

-- so is that of an index
pub index_range : (s : List ℕ) → IfSome (if is_index_name s then Some s else None) IsLawfulIndex
index_range s = guarded IsLawfulIndex (is_index_name s) (Some s) (λ e.
    let (start, last) = both_true _ (not (get_or s (length s - 1) 0 == 32)) e in
    let (text, first) = both_true _ (not (get_or s 0 0 == 32)) start in
    let (long, all) = both_true (nat_lt 0 (length s) && nat_le (length s) most_index) (list_all is_no_control s) text in (
      grind (arith, nat_tests, long),
      grind (arith, nat_tests, long),
      (λ k d lt. let h = AllPass-from_list_all is_no_control s all k d lt in grind (arith, nat_tests, h)),
      (λ h. grind (arith, nat_tests, first, h)),
      (λ h. grind (arith, nat_tests, last, h)),
    ))
