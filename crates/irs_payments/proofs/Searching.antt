-- A binary search in a rising list of days.
use Rattle.std.proofs.Common.{◌≡◌, inl, inr, ℕ, ◌<◌, ◌≤◌, List, length, ℤ, pos, ◌+ℤ◌, ◌≤ℤ◌, subst, arith, rules, get_or}
use Rattle.std.proofs.Common.{Result, Ok, Err, IsTrue, ◌↔◌}
use Rattle.std.proofs.lemmas.List.{get_or_past, get_or_default}
use Rattle.std.proofs.lemmas.Bool.{cases_lt}
use Rattle.std.specs.Result.{is_ok}
use Rattle.std.specs.Ordering.{int_cmp, ordering_index}
use Rattle.std.specs.declared.cmp.Ordering.TheVariants.{Less, Equal, Greater}
use Rattle.std.specs.List.Sorted.{IsBinarySearchResult}
use Rattle.jiff_core.proofs.SignedLemmas.{signed_arith}
use Rattle.irs_base.specs.Lists.{Member, IsRising, day_at}
use Rattle.irs_payments.proofs.PlaceLemmas.{member_at, place_of, rises_at}

equal_is : (a b : ℤ) → int_cmp a b ≡ Equal → a ≡ b
equal_is a b h = grind (arith, signed_arith)

less_is : (a b : ℤ) → int_cmp a b ≡ Less → a ≡ b → ⊥
less_is a b h e = grind (arith, signed_arith)

greater_is : (a b : ℤ) → int_cmp a b ≡ Greater → a ≡ b → ⊥
greater_is a b h e = grind (arith, signed_arith)

higher : (a b x : ℤ) → a ≤ℤ b → ordering_index (int_cmp a x) ≤ ordering_index (int_cmp b x)
higher a b x h = grind (arith, signed_arith)

up_to : (xs : List ℤ) (i j : ℕ) (d : ℤ) → IsRising xs → i ≤ j → j < length xs → get_or xs i d ≤ℤ get_or xs j d
up_to xs i j d r le lt = elim (cases_lt i j) [
  | inl below ↦
      omega (
        arith,
        signed_arith,
        rises_at xs i j r below lt,
        get_or_default xs i d (pos 0) (omega arith),
        get_or_default xs j d (pos 0) lt,
      )
  | inr above ↦ let same : i ≡ j = omega arith in
      subst (λ (k : ℕ). get_or xs i d ≤ℤ get_or xs k d) same (omega (arith, signed_arith))
]

-- a binary search in days that rise finds exactly the members
pub searched : (xs : List ℤ) (x : ℤ) (r : Result ℕ ℕ) → IsRising xs
    → (λ (o : Result ℕ ℕ). IsBinarySearchResult (λ y. int_cmp y x) xs o) r → IsTrue (is_ok r) ↔ Member x xs
searched xs x (Ok i) rising h = (λ _. found, λ _. search rules)
  where
    found : Member x xs
    found = elim (cases_lt i (length xs)) [
      | inl within ↦ subst (λ (z : ℤ). Member z xs) (equal_is (day_at xs i) x (h (pos 0))) (member_at xs i within)
      | inr past ↦
          absurd (omega (
            arith,
            signed_arith,
            equal_is (get_or xs i (x +ℤ pos 1)) x (h (x +ℤ pos 1)),
            get_or_past xs i (x +ℤ pos 1) past,
          ))
    ]
searched xs x (Err i) rising h = (λ t. absurd (search rules), λ m. absurd (missing m))
  where
    missing : Member x xs → ⊥
    missing m =
        let parted = h (λ a b d le lt. higher (get_or xs a d) (get_or xs b d) x (up_to xs a b d rising le lt)) in
        let p = place_of x xs m in
        elim (cases_lt p.0 i) [
          | inl below ↦ less_is (day_at xs p.0) x (parted.0 p.0 (pos 0) (omega arith) below) p.2
          | inr above ↦ greater_is (day_at xs p.0) x (parted.1 p.0 (pos 0) above p.1) p.2
        ]
