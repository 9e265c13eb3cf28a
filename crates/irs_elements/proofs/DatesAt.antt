-- The function of a date's text gives the day that the text names.
use Rattle.irs_base.proofs.PlainDates.{is_plain, plain_is}
use Rattle.irs_base.specs.{Texts.date_at, Texts.IsDateText, Texts.IsPlainDate, Days.IsDay}
use Rattle.irs_elements.specs.Leaves.{leaf_date_at, without_z}
use Rattle.std.proofs.Common.{◌≡◌, inl, inr, ℕ, Bool, true, false, ◌&&◌, ◌==◌, List, [], ◌∷◌, ◌++◌, length, take, ℤ}
use Rattle.std.proofs.Common.{slice_index, Option, Some, None, IfSome, IfNone, refl, sym, ap, ◌∙◌, arith}
use Rattle.std.proofs.Common.{if◌then◌else◌}
use Rattle.std.proofs.lemmas.{Bool.Decides.nat_tests, List.take_all, List.take_more}

dropped : (s : List ℕ) (d : ℤ) → IsDateText s d → IsPlainDate (without_z s) d
dropped s d (inl p) = rw p.is (record { year = p.year; month = p.month; day = p.day; has = p.has; is = refl })
dropped s d (inr (front, e, p)) =
    rw (e, p.is) (record { year = p.year; month = p.month; day = p.day; has = p.has; is = refl })

ends_in_z : (s : List ℕ) → ((length s == 11) && (slice_index s 10 == 90)) ≡ true → s ≡ take 10 s ++ 90 ∷ []
ends_in_z s e =
    let len : length s ≡ 11 = grind (arith, nat_tests, e) in
    let last : slice_index s 10 ≡ 90 = grind (arith, nat_tests, e) in
    sym (take_all 11 s (omega arith)) ∙ take_more s 10 0 (omega arith) ∙ ap (λ (z : ℕ). take 10 s ++ z ∷ []) last

kept_by : (s : List ℕ) (d : ℤ) (b : Bool) → ((length s == 11) && (slice_index s 10 == 90)) ≡ b
    → IsPlainDate (if b then take 10 s else s) d → IsDateText s d
kept_by s d true e p = inr (take 10 s, ends_in_z s e, p)
kept_by s d false e p = inl p

none_by : (s : List ℕ) (o : Option ℤ) → date_at (without_z s) ≡ o → ((d : ℤ) → IsDay d → IsDateText s d → ⊥) → None ≡ o
none_by s None e none = refl
none_by s (Some d) e none = let p = is_plain (without_z s) d e in absurd (none d p.0 (kept_by s d _ refl p.1))

-- the text names the day that the function gives, and none where it gives none
pub day_is : (s : List ℕ) (r : Option ℤ) → IfSome r (λ d. IsDay d × IsDateText s d)
    → IfNone r ((d : ℤ) → IsDay d → IsDateText s d → ⊥) → r ≡ leaf_date_at s
unfolding leaf_date_at
day_is s None some none = none_by s (date_at (without_z s)) refl none
day_is s (Some d) some none = sym (plain_is (without_z s) d some.0 (dropped s d some.1))

in_range : (s : List ℕ) (o : Option ℤ) → date_at s ≡ o → IfSome o IsDay
in_range s None e = tt
in_range s (Some d) e = (is_plain s d e).0

-- a date that is read is a day
pub day_range : (s : List ℕ) → IfSome (leaf_date_at s) IsDay
unfolding leaf_date_at
day_range s = in_range (without_z s) (date_at (without_z s)) refl
