-- What digits spell.
use Rattle.std.proofs.Common.{◌≡◌, inl, inr, ℕ, zero, suc, ◌+◌, ◌-◌, ◌*◌, ◌^◌, ◌<◌, ◌≤◌, nat_le, Bool, IsTrue, true}
use Rattle.std.proofs.Common.{false, not, ◌&&◌, ◌==◌, List, [], ◌∷◌, ◌++◌, length, drop, refl, sym, ap, ap₂, subst, ◌∙◌}
use Rattle.std.proofs.Common.{arith}
use Rattle.irs_base.proofs.Orders.{both_true as both}
use Rattle.irs_base.proofs.VisibleTexts.{digits_behind}
use Rattle.std.specs.List.{list_all}
use Rattle.std.proofs.Math.Nat.{mul-le-mul, mul-le-mul_left, mul-le-mul_right, pow-succ', one-le-pow}
use Rattle.std.proofs.Math.Nat.{le_of_mul-le-mul_right, pow-le-pow_right}
use Rattle.std.proofs.lemmas.Bool.Decides.{nat_tests}
use Rattle.std.proofs.Common.{ℤ, pos, neg_ℤ}
use Rattle.irs_base.specs.Texts.DecText.{bare, plus, minus}
use Rattle.irs_base.specs.Texts.{is_digit, DecText, AreDigits, number_after, number_of, padded, is_zero, has_no_point}
use Rattle.irs_base.specs.Texts.{IsUnsigned, IsCutAtPoint, AreParts}

-- one digit more leaves room for one digit less
pub room_left : (n c count : ℕ) → 0 < count → c ≤ 9 → (10 * n + c + 1) * 10 ^ (count - 1) ≤ (n + 1) * 10 ^ count
room_left n c zero some h = absurd (omega (arith, some))
room_left n c (suc k) some h =
    let less : 10 * n + c + 1 ≤ 10 * (n + 1) = omega (arith, h) in
    let m : (10 * n + c + 1) * 10 ^ k ≤ 10 * (n + 1) * 10 ^ k = mul-le-mul_right (10 ^ k) less in
    let e : suc k - 1 ≡ k = omega arith in
    rw (e, pow-succ' 10 k) (omega (arith, m))

-- some room is left where there is some
pub some_room : (n k b : ℕ) → (n + 1) * 10 ^ k ≤ b → n < b
some_room n k b h =
    let p = one-le-pow k 10 (omega arith) in
    let m : (n + 1) * 1 ≤ (n + 1) * 10 ^ k = mul-le-mul_left (n + 1) p in
    omega (arith, m, h)

-- digits, as a test and as a fact
pub digits_true : (bs : List ℕ) → list_all is_digit bs ≡ true → AreDigits bs
digits_true [] h = tt
digits_true (b ∷ bs) h =
    let p = both (nat_le 48 b && nat_le b 57) (list_all is_digit bs) h in
    let q = both (nat_le 48 b) (nat_le b 57) p.0 in
    (grind (arith, nat_tests, q.0), grind (arith, nat_tests, q.1), digits_true bs p.1)

-- digits pass the test of digits
pub true_digits : (bs : List ℕ) → AreDigits bs → list_all is_digit bs ≡ true
true_digits [] h = refl
true_digits (b ∷ bs) h =
    let l : nat_le 48 b ≡ true = grind (arith, nat_tests, h.0) in
    let r : nat_le b 57 ≡ true = grind (arith, nat_tests, h.1) in
    rw (l, r) (true_digits bs h.2)

-- bytes that pass the test are digits
pub digits_are : (bs : List ℕ) (r : Bool) → r ≡ list_all is_digit bs → IsTrue r → AreDigits bs
digits_are bs r e h = digits_true bs (sym e ∙ h)

-- the test of digits finds digits
pub are_all_digits : (bs : List ℕ) (r : Bool) → r ≡ list_all is_digit bs → AreDigits bs → IsTrue r
are_all_digits bs r e h = e ∙ true_digits bs h

-- digits have no point among them
pub no_point : (bs : List ℕ) → AreDigits bs → has_no_point bs ≡ true
no_point [] h = refl
no_point (b ∷ bs) h =
    let f : (b == 46) ≡ false = grind (arith, nat_tests, h.0) in
    rw f (no_point bs h.2)

point_first : (f : List ℕ) → has_no_point (46 ∷ f) ≡ true → ⊥
point_first f h = cc

head_same : (x y : ℕ) (xs ys : List ℕ) → x ∷ xs ≡ y ∷ ys → x ≡ y
head_same x y xs ys e = cc

tail_same : (x y : ℕ) (xs ys : List ℕ) → x ∷ xs ≡ y ∷ ys → xs ≡ ys
tail_same x y xs ys e = cc

no_point_behind : (x : ℕ) (xs : List ℕ) → has_no_point (x ∷ xs) ≡ true → has_no_point xs ≡ true
no_point_behind x xs h = (both (not (x == 46)) (has_no_point xs) h).1

-- a text is cut at its first point in one way
pub same_cut : (w x f g : List ℕ) → has_no_point w ≡ true → has_no_point x ≡ true → w ++ 46 ∷ f ≡ x ++ 46 ∷ g
    → (w ≡ x) × (f ≡ g)
same_cut [] [] f g a b e = (refl, tail_same 46 46 f g e)
same_cut [] (y ∷ ys) f g a b e =
    absurd (point_first ys (subst (λ z. has_no_point (z ∷ ys) ≡ true) (sym (head_same 46 y f (ys ++ 46 ∷ g) e)) b))
same_cut (y ∷ ys) [] f g a b e =
    absurd (point_first ys (subst (λ z. has_no_point (z ∷ ys) ≡ true) (head_same y 46 (ys ++ 46 ∷ f) g e) a))
same_cut (y ∷ ys) (z ∷ zs) f g a b e =
    let rest = same_cut ys zs f g (no_point_behind y ys a) (no_point_behind z zs b)
    (tail_same y z (ys ++ 46 ∷ f) (zs ++ 46 ∷ g) e) in
    (ap₂ ◌∷◌ (head_same y z (ys ++ 46 ∷ f) (zs ++ 46 ∷ g) e) rest.0, rest.1)

-- what has a point is no text without one
pub with_a_point : (w f : List ℕ) → has_no_point (w ++ 46 ∷ f) ≡ true → ⊥
with_a_point [] f h = point_first f h
with_a_point (y ∷ ys) f h = with_a_point ys f (no_point_behind y (ys ++ 46 ∷ f) h)

-- a text is cut in one way
pub cut_once : (text w f x g : List ℕ) → IsCutAtPoint text w f → IsCutAtPoint text x g → (w ≡ x) × (f ≡ g)
cut_once text w f x g a b = elim a.is [
  | inl none ↦ elim b.is [
    | inl other ↦ (sym none.0 ∙ other.0, none.1 ∙ sym other.1)
    | inr point ↦
        absurd (with_a_point x g (subst (λ (t : List ℕ). has_no_point t ≡ true) (sym none.0 ∙ point) a.no_point))
  ]
  | inr point ↦ elim b.is [
    | inl other ↦
        absurd (with_a_point w f (subst (λ (t : List ℕ). has_no_point t ≡ true) (sym other.0 ∙ point) b.no_point))
    | inr second ↦ same_cut w x f g a.no_point b.no_point (sym point ∙ second)
  ]
]

-- so where its parts are none of a decimal, no other cut's are
pub not_cut_parts : (text w f : List ℕ) → IsCutAtPoint text w f → (AreParts w f → ⊥) → (x g : List ℕ) → IsCutAtPoint text x g
    → AreParts x g → ⊥
not_cut_parts text w f cut none x g other parts =
    let same = cut_once text x g w f other cut in
    none (subst (λ (l : List ℕ). AreParts w l) same.1 (subst (λ (l : List ℕ). AreParts l g) same.0 parts))

-- the parts of a decimal are those at its first point
pub cut_parts : (text w f : List ℕ) (places v : ℕ) → IsCutAtPoint text w f → (u : IsUnsigned text places v)
    → (u.whole ≡ w) × (u.fraction ≡ f)
cut_parts text w f places v cut u = elim cut.is [
  | inl none ↦ elim u.is [
    | inl other ↦ (sym other.0 ∙ none.0, other.1 ∙ sym none.1)
    | inr point ↦
        absurd (with_a_point u.whole u.fraction
        (subst (λ (t : List ℕ). has_no_point t ≡ true) (sym none.0 ∙ point) cut.no_point))
  ]
  | inr point ↦ elim u.is [
    | inl other ↦
        absurd (with_a_point w f
        (subst (λ (t : List ℕ). has_no_point t ≡ true) (sym other.0 ∙ point) (no_point u.whole u.whole_digits)))
    | inr second ↦ same_cut u.whole w u.fraction f (no_point u.whole u.whole_digits) cut.no_point (sym second ∙ point)
  ]
]

-- digits as long as they have to be get no zeros
pub padded_whole : (w : List ℕ) → padded (length w) w ≡ w
padded_whole [] = refl
padded_whole (c ∷ cs) = ap (λ (l : List ℕ). c ∷ l) (padded_whole cs)

zeros_after : (n : ℕ) (f : List ℕ) → list_all is_zero f ≡ true → number_after n f ≡ n * 10 ^ length f
zeros_after n [] h = omega arith
zeros_after n (c ∷ cs) h =
    let p = both (c == 48) (list_all is_zero cs) h in
    let z : c ≡ 48 = grind (arith, nat_tests, p.0) in
    let rest = zeros_after (10 * n + (c - 48)) cs p.1 in
    rw (pow-succ' 10 (length cs)) (rest ∙ same n c (10 ^ length cs) z)
  where
    same : (n c k : ℕ) → c ≡ 48 → (10 * n + (c - 48)) * k ≡ n * (10 * k)
    same n c k z = rw z (omega arith)

-- the padded number is that of the digits, in units of the last place
pub padded_value : (n p : ℕ) (f : List ℕ) → list_all is_zero (drop p f) ≡ true
    → number_after n (padded p f) * 10 ^ length f ≡ number_after n f * 10 ^ p
padded_value n zero f h = rw (zeros_after n f h) (omega arith)
padded_value n (suc p) [] h =
    let rest = padded_value (10 * n + (48 - 48)) p [] (drop_nil p) in
    rw (pow-succ' 10 p) (omega (arith, rest))
  where
    drop_nil : (p : ℕ) → list_all is_zero (drop p []) ≡ true
    drop_nil zero = refl
    drop_nil (suc p) = refl
padded_value n (suc p) (c ∷ cs) h =
    let rest = padded_value (10 * n + (c - 48)) p cs h in
    rw (pow-succ' 10 p, pow-succ' 10 (length cs))
    (by_ten (number_after (10 * n + (c - 48)) (padded p cs)) (10 ^ length cs) (number_after (10 * n + (c - 48)) cs)
    (10 ^ p) rest)
  where
    by_ten : (a b c d : ℕ) → a * b ≡ c * d → a * (10 * b) ≡ c * (10 * d)
    by_ten a b c d h = omega (arith, h)

cancel : (a b p : ℕ) → 0 < p → a * p ≡ b * p → a ≡ b
cancel a b p some e =
    let l : a ≤ b = le_of_mul-le-mul_right {m = a} {n = b} {k = p} (omega (arith, e)) some in
    let r : b ≤ a = le_of_mul-le-mul_right {m = b} {n = a} {k = p} (omega (arith, e)) some in
    omega (arith, l, r)

some_power : (k : ℕ) → 0 < 10 ^ k
some_power k = let p = one-le-pow k 10 (omega arith) in omega (arith, p)

-- the digits after a whole number of the last units are zeros
all_zeros : (v n : ℕ) (f : List ℕ) → AreDigits f → v * 10 ^ length f ≡ number_after n f → list_all is_zero f ≡ true
all_zeros v n [] h e = refl
all_zeros v n (c ∷ cs) h e =
    let e₂ : v * (10 * 10 ^ length cs) ≡ number_after (10 * n + (c - 48)) cs =
    sym (ap (λ (k : ℕ). v * k) (pow-succ' 10 (length cs))) ∙ e in
    let e₃ : 10 * v * 10 ^ length cs ≡ number_after (10 * n + (c - 48)) cs = omega (arith, e₂) in
    let rest = all_zeros (10 * v) (10 * n + (c - 48)) cs h.2 e₃ in
    let same : 10 * v ≡ 10 * n + (c - 48) =
    cancel (10 * v) (10 * n + (c - 48)) (10 ^ length cs) (some_power (length cs)) (e₃
    ∙ zeros_after (10 * n + (c - 48)) cs rest) in
    let z : c ≡ 48 = omega (arith, same, h.0, h.1) in
    rw z rest

-- a number of these places has zeros after them
pub zeros_needed : (v n p : ℕ) (f : List ℕ) → AreDigits f → v * 10 ^ length f ≡ number_after n f * 10 ^ p
    → list_all is_zero (drop p f) ≡ true
zeros_needed v n zero f h e = all_zeros v n f h (omega (arith, e))
zeros_needed v n (suc p) [] h e = refl
zeros_needed v n (suc p) (c ∷ cs) h e =
    let e₂ : v * (10 * 10 ^ length cs) ≡ number_after (10 * n + (c - 48)) cs * (10 * 10 ^ p) =
    sym (ap (λ (k : ℕ). v * k) (pow-succ' 10 (length cs))) ∙ e
    ∙ ap (λ (k : ℕ). number_after (10 * n + (c - 48)) cs * k) (pow-succ' 10 p) in
    zeros_needed v (10 * n + (c - 48)) p cs h.2 (omega (arith, e₂))

-- what isn't refused is a decimal, and its value is what the digits spell
pub unsigned_is : (text w f : List ℕ) (p : ℕ) → IsCutAtPoint text w f → AreParts w f → list_all is_zero (drop p f) ≡ true
    → IsUnsigned text p (number_after (number_of w) (padded p f))
unsigned_is text w f p cut parts zeros =
    let n : ℕ = number_of w in
    let same : number_of (w ++ f) ≡ number_after n f = digits_behind 0 w f in
    record {
      whole = w;
      fraction = f;
      whole_digits = parts.0;
      fraction_digits = parts.1;
      some = parts.2;
      short = parts.3;
      is = cut.is;
      value = padded_value n p f zeros ∙ ap (λ (k : ℕ). k * 10 ^ p) (sym same);
    }

-- and what has no parts is none
pub no_parts : (text : List ℕ) (p v : ℕ) → ((w f : List ℕ) → IsCutAtPoint text w f → AreParts w f → ⊥)
    → IsUnsigned text p v → ⊥
no_parts text p v none u =
    none u.whole u.fraction (record { no_point = no_point u.whole u.whole_digits; is = u.is })
    (u.whole_digits, u.fraction_digits, u.some, u.short)

-- and what is refused is none
pub not_parts : (text w f : List ℕ) (p v : ℕ) → IsCutAtPoint text w f → (AreParts w f → ⊥) → IsUnsigned text p v → ⊥
not_parts text w f p v cut h u =
    let parts = cut_parts text w f p v cut u in
    let are : AreParts u.whole u.fraction = (u.whole_digits, u.fraction_digits, u.some, u.short) in
    h (subst (λ (l : List ℕ). AreParts w l) parts.1 (subst (λ (l : List ℕ). AreParts l u.fraction) parts.0 are))

-- a text with another digit than 0 after the last place spells no number of these places
pub not_zeros : (text w f : List ℕ) (p v : ℕ) → IsCutAtPoint text w f → (list_all is_zero (drop p f) ≡ true → ⊥)
    → IsUnsigned text p v → ⊥
not_zeros text w f p v cut h u =
    let parts = cut_parts text w f p v cut u in
    let e : v * 10 ^ length u.fraction ≡ number_after (number_after 0 u.whole) u.fraction * 10 ^ p =
    u.value ∙ ap (λ (k : ℕ). k * 10 ^ p) (digits_behind 0 u.whole u.fraction) in
    h (subst (λ (l : List ℕ). list_all is_zero (drop p l) ≡ true) parts.1
    (zeros_needed v (number_after 0 u.whole) p u.fraction u.fraction_digits e))

-- a text spells one number at most
pub one_unsigned : (text : List ℕ) (p v k : ℕ) → IsUnsigned text p v → IsUnsigned text p k → v ≡ k
one_unsigned text p v k a b =
    let cut : IsCutAtPoint text b.whole b.fraction = record { no_point = no_point b.whole b.whole_digits; is = b.is } in
    let parts = cut_parts text b.whole b.fraction p v cut a in
    let e : v * 10 ^ length b.fraction ≡ number_of (b.whole ++ b.fraction) * 10 ^ p =
    rw (sym parts.0, sym parts.1) a.value in
    cancel v k (10 ^ length b.fraction) (some_power (length b.fraction)) (e ∙ sym b.value)

-- ---- both parts

-- room for eighteen digits
pub eighteen : (n : ℕ) → n ≤ 18 → (0 + 1) * 10 ^ n ≤ 10 ^ 18
eighteen n h = let m = pow-le-pow_right {n = 10} (omega arith) {i = n} {j = 18} h in omega (arith, m)

-- and for twelve places after them
pub twelve_more : (w f p : ℕ) → p ≤ 12 → w < 10 ^ 18 → f < 10 ^ p → w * 10 ^ p + f < 10 ^ 30
twelve_more w f p k h l =
    let b : 10 ^ p ≤ 10 ^ 12 = pow-le-pow_right {n = 10} (omega arith) {i = p} {j = 12} k in
    let s : w + 1 ≤ 10 ^ 18 = omega (arith, h) in
    let m : (w + 1) * 10 ^ p ≤ 10 ^ 18 * 10 ^ 12 = mul-le-mul s b in
    omega (arith, m, l)

-- a number of at most eighteen digits
pub at_most_eighteen : (w n : ℕ) → n ≤ 18 → w < 10 ^ n → w < 10 ^ 18
at_most_eighteen w n h l =
    let a : 10 ^ n ≤ 10 ^ 18 = pow-le-pow_right {n = 10} (omega arith) {i = n} {j = 18} h in omega (arith, a, l)

shifted : (n x a r s t : ℕ) → s ≡ (10 * n + x) * a + r → t ≡ (10 * 0 + x) * a + r → s ≡ n * (10 * a) + t
shifted n x a r s t p q = omega (arith, p, q)

-- what digits spell after others
pub apart : (n : ℕ) (ds : List ℕ) → number_after n ds ≡ n * 10 ^ length ds + number_of ds
apart n [] = omega arith
apart n (c ∷ cs) =
    rw (pow-succ' 10 (length cs))
    (shifted n (c - 48) (10 ^ length cs) (number_of cs) _ _ (apart (10 * n + (c - 48)) cs)
    (apart (10 * 0 + (c - 48)) cs))

padded_length : (p : ℕ) (ds : List ℕ) → length (padded p ds) ≡ p
padded_length zero ds = refl
padded_length (suc p) [] = ap suc (padded_length p [])
padded_length (suc p) (d ∷ ds) = ap suc (padded_length p ds)

-- the number of both parts, by those of each
pub both_parts : (w f : List ℕ) (p m n : ℕ) → m ≡ number_of (padded (length w) w) → n ≡ number_of (padded p f)
    → m * 10 ^ p + n ≡ number_after (number_of w) (padded p f)
both_parts w f p m n first second =
    rw (first ∙ ap number_of (padded_whole w), second)
    (sym (apart (number_of w) (padded p f) ∙ ap (λ k. number_of w * 10 ^ k + number_of (padded p f)) (padded_length p f)))

-- a sign is no part of an unsigned decimal
pub sign_first : (s : ℕ) (text : List ℕ) (p v : ℕ) → s < 46 → IsUnsigned (s ∷ text) p v → ⊥
sign_first s text p v low u = elim u.is [
  | inl none ↦ starts u.whole u.whole_digits none.0
  | inr point ↦ point_starts u.whole u.whole_digits point
]
  where
    starts : (w : List ℕ) → AreDigits w → s ∷ text ≡ w → ⊥
    starts [] d e = absurd cc
    starts (c ∷ cs) d e = let k = head_same s c text cs e in omega (arith, k, d.0, low)

    point_starts : (w : List ℕ) → AreDigits w → s ∷ text ≡ w ++ 46 ∷ u.fraction → ⊥
    point_starts [] d e = let k = head_same s 46 text u.fraction e in omega (arith, k, low)
    point_starts (c ∷ cs) d e = let k = head_same s c text (cs ++ 46 ∷ u.fraction) e in omega (arith, k, d.0, low)

-- if no number follows the sign, the text is no decimal
pub plus_none : (ds : List ℕ) (p : ℕ) (v : ℤ) → ((n : ℕ) → IsUnsigned ds p n → ⊥) → DecText (43 ∷ ds) p v → ⊥
plus_none ds p v none (bare _ _ n u) = sign_first 43 ds p n (omega arith) u
plus_none ds p v none (plus _ _ n u) = none n u

-- a minus before what spells no number spells none
pub minus_none : (ds : List ℕ) (p : ℕ) (v : ℤ) → ((n : ℕ) → IsUnsigned ds p n → ⊥) → DecText (45 ∷ ds) p v → ⊥
minus_none ds p v none (bare _ _ n u) = sign_first 45 ds p n (omega arith) u
minus_none ds p v none (minus _ _ n u) = none n u

-- a text without a sign that spells no number is no decimal
pub bare_none : (text : List ℕ) (p : ℕ) (v : ℤ) → ((rest : List ℕ) → text ≡ 43 ∷ rest → ⊥)
    → ((rest : List ℕ) → text ≡ 45 ∷ rest → ⊥) → ((n : ℕ) → IsUnsigned text p n → ⊥) → DecText text p v → ⊥
bare_none text p v no_plus no_minus none (bare _ _ n u) = none n u
bare_none _ p v no_plus no_minus none (plus ds _ n u) = no_plus ds refl
bare_none _ p v no_plus no_minus none (minus ds _ n u) = no_minus ds refl

-- a text is a decimal of one value at most
pub one_decimal : (text : List ℕ) (p : ℕ) (v w : ℤ) → DecText text p v → DecText text p w → v ≡ w
one_decimal text p v w (bare _ _ m a) (bare _ _ n b) = ap pos (one_unsigned text p m n a b)
one_decimal text p v w (bare _ _ m a) (plus ds _ n b) = absurd (sign_first 43 ds p m (omega arith) a)
one_decimal text p v w (bare _ _ m a) (minus ds _ n b) = absurd (sign_first 45 ds p m (omega arith) a)
one_decimal text p v w (plus ds _ m a) (bare _ _ n b) = absurd (sign_first 43 ds p n (omega arith) b)
one_decimal text p v w (plus ds _ m a) (plus _ _ n b) = ap pos (one_unsigned ds p m n a b)
one_decimal text p v w (minus ds _ m a) (bare _ _ n b) = absurd (sign_first 45 ds p n (omega arith) b)
one_decimal text p v w (minus ds _ m a) (minus _ _ n b) = ap (λ (k : ℕ). neg_ℤ (pos k)) (one_unsigned ds p m n a b)
