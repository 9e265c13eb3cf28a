-- One product at two precisions: a factor f in units of 10^-18 and a factor g in units of 10^-15 stay close.
use Rattle.std.proofs.Common.{◌≡◌, ℕ, ◌+◌, ◌*◌, ◌^◌, ◌<◌, ◌≤◌, ℤ, pos, negsuc, ◌+ℤ◌, ◌-ℤ◌, ◌*ℤ◌, ◌≤ℤ◌, ◌<ℤ◌}
use Rattle.std.proofs.Common.{unsigned_abs, refl, subst, arith, inl, inr}
use Rattle.std.proofs.Math.Nat.{mul-le-mul_left, mul-le-mul}
use Rattle.std.proofs.lemmas.Bool.{cases_lt}
use Rattle.std.proofs.lemmas.Int.{by_lt_z}
use borrow.Author.Differences.{up, down}
use Rattle.jiff_core.proofs.SignedLemmas.{signed_arith}
use Rattle.irs_base.specs.Limits.{Rounded}
use Rattle.irs_base.specs.declared.rounding.Direction.TheVariants.{Nearest}

-- a factor of an order goes
divided : (y a b : ℕ) → 0 < y → y * a ≤ y * b → a ≤ b
divided y a b some h = elim (cases_lt b a) [
  | inl past ↦
      let more : y * (b + 1) ≤ y * a = mul-le-mul_left y (omega (arith, past)) in
      absurd (omega (arith, some, h, more))
  | inr kept ↦ omega (arith, kept)
]

-- g is f * m / y to the nearest
pub record Next (y m f g : ℕ) : Type 0 where
  pub low : 2 * (y * g) ≤ 2 * (f * m) + y
  pub high : 2 * (f * m) < 2 * (y * g) + y

-- by a factor of at least 1 a number doesn't fall
pub not_fallen : (y m f g : ℕ) → 0 < y → y ≤ m → Next y m f g → f ≤ g
not_fallen y m f g some grows next = elim (cases_lt g f) [
  | inl fallen ↦
      let one : y * (g + 1) ≤ y * f = mul-le-mul_left y (omega (arith, fallen)) in
      let by : f * y ≤ f * m = mul-le-mul_left f grows in
      let high = next.high in
      absurd (omega (arith, some, one, by, high))
  | inr kept ↦ omega (arith, kept)
]

-- f and 1000 * g differ by at most 501 * 10^-18 of f for each day
pub record Close (w f g : ℕ) : Type 0 where
  pub above : 10 ^ 18 * f ≤ 10 ^ 21 * g + 501 * (w * f)
  pub below : 10 ^ 21 * g ≤ 10 ^ 18 * f + 501 * (w * f)

module _ (y m f g h k v w : ℕ) (some : 0 < y) (day : 1 ≤ w) (few : v ≤ 10 ^ 15) (large : 10 ^ 18 ≤ h)
    (fine : Next y m f h) (coarse : Next y m g k) where
  -- what rounding adds is within the share of a day
  room : 501 * v + 1001 * 10 ^ 18 ≤ 1002 * (w * h)
  room =
      let least : 1 * 10 ^ 18 ≤ w * h = mul-le-mul day large in
      omega (arith, few, least)

  grown : v * (2 * (f * m)) ≤ v * (2 * (y * h) + y)
  grown = let high = fine.high in mul-le-mul_left v (omega (arith, high))

  above_next : 10 ^ 18 * f ≤ 10 ^ 21 * g + 501 * (v * f) → 10 ^ 18 * h ≤ 10 ^ 21 * k + 501 * ((v + w) * h)
  above_next a =
      let by : m * (10 ^ 18 * f) ≤ m * (10 ^ 21 * g + 501 * (v * f)) = mul-le-mul_left m a in
      let low = fine.low in
      let high = coarse.high in
      let more = grown in
      let each : y * (2 * 10 ^ 18 * h) ≤ y * (2 * 10 ^ 21 * k + 1002 * (v * h) + 501 * v + 1001 * 10 ^ 18) =
      omega (arith, by, low, high, more) in
      let less = divided y (2 * 10 ^ 18 * h) (2 * 10 ^ 21 * k + 1002 * (v * h) + 501 * v + 1001 * 10 ^ 18) some each in
      let enough = room in
      omega (arith, less, enough)

  below_next : 10 ^ 21 * g ≤ 10 ^ 18 * f + 501 * (v * f) → 10 ^ 21 * k ≤ 10 ^ 18 * h + 501 * ((v + w) * h)
  below_next b =
      let by : m * (10 ^ 21 * g) ≤ m * (10 ^ 18 * f + 501 * (v * f)) = mul-le-mul_left m b in
      let low = coarse.low in
      let high = fine.high in
      let more = grown in
      let each : y * (2 * 10 ^ 21 * k) ≤ y * (2 * 10 ^ 18 * h + 1002 * (v * h) + 501 * v + 1001 * 10 ^ 18) =
      omega (arith, by, low, high, more) in
      let less = divided y (2 * 10 ^ 21 * k) (2 * 10 ^ 18 * h + 1002 * (v * h) + 501 * v + 1001 * 10 ^ 18) some each in
      let enough = room in
      omega (arith, less, enough)

  -- a step of both products keeps them close
  pub close_next : Close v f g → Close (v + w) h k
  close_next c = record { above = above_next c.above; below = below_next c.below }

-- both products begin at 1
pub close_one : Close 0 (10 ^ 18) (10 ^ 15)
close_one = record { above = omega arith; below = omega arith }

-- both factors as whole numbers, which are above 0, and close
pub record Stays (w : ℕ) (f g : ℤ) : Type 0 where
  pub fine : ℕ
  pub is_fine : f ≡ pos fine
  pub coarse : ℕ
  pub is_coarse : g ≡ pos coarse
  pub large : 10 ^ 18 ≤ fine
  pub large_coarse : 10 ^ 15 ≤ coarse
  pub close : Close w fine coarse

-- what is rounded from a number that isn't below 0 isn't below 0
natural : (y r w f : ℕ) (g : ℤ) → 0 < y → Rounded Nearest (pos f *ℤ (pos y +ℤ pos r *ℤ pos w)) (pos y) g
    → (h : ℕ) × (g ≡ pos h) × Next y (y + r * w) f h
natural y r w f (pos h) some by = (
  h,
  refl,
  record { low = omega (arith, signed_arith, by); high = omega (arith, signed_arith, by) },
)
natural y r w f (negsuc k) some by = absurd (omega (arith, signed_arith, by, some))

module _ (y w v : ℕ) (some : 0 < y) (day : 1 ≤ w) (few : v ≤ 10 ^ 15) where
  by_natural : (r : ℕ) (f g : ℕ) (h k : ℤ) → 10 ^ 18 ≤ f → 10 ^ 15 ≤ g → Close v f g
      → Rounded Nearest (pos f *ℤ (pos y +ℤ pos r *ℤ pos w)) (pos y) h
      → Rounded Nearest (pos g *ℤ (pos y +ℤ pos r *ℤ pos w)) (pos y) k → Stays (v + w) h k
  by_natural r f g h k large large_coarse close fine coarse =
      let a = natural y r w f h some fine in
      let b = natural y r w g k some coarse in
      let more : y ≤ y + r * w = omega arith in
      let kept = not_fallen y (y + r * w) f a.0 some more a.2 in
      let above : 10 ^ 18 ≤ a.0 = omega (arith, large, kept) in
      let kept_coarse = not_fallen y (y + r * w) g b.0 some more b.2 in
      record {
        fine = a.0;
        is_fine = a.1;
        coarse = b.0;
        is_coarse = b.1;
        large = above;
        large_coarse = omega (arith, large_coarse, kept_coarse);
        close = close_next y (y + r * w) f g a.0 b.0 v w some day few above a.2 b.2 close;
      }

  -- a rate that isn't below 0 leaves both products close
  pub stays_next : (r f g h k : ℤ) → pos 0 ≤ℤ r → Stays v f g
      → Rounded Nearest (f *ℤ (pos y +ℤ r *ℤ pos w)) (pos y) h
      → Rounded Nearest (g *ℤ (pos y +ℤ r *ℤ pos w)) (pos y) k → Stays (v + w) h k
  stays_next (negsuc r) f g h k low s fine coarse = absurd (omega (arith, signed_arith, low))
  stays_next (pos r) f g h k low s fine coarse =
      by_natural r s.fine s.coarse h k s.large s.large_coarse s.close
      (subst (λ (x : ℤ). Rounded Nearest (x *ℤ (pos y +ℤ pos r *ℤ pos w)) (pos y) h) s.is_fine fine)
      (subst (λ (x : ℤ). Rounded Nearest (x *ℤ (pos y +ℤ pos r *ℤ pos w)) (pos y) k) s.is_coarse coarse)

-- both begin so
pub stays_one : Stays 0 (pos (10 ^ 18)) (pos (10 ^ 15))
stays_one = record {
  fine = 10 ^ 18;
  is_fine = refl;
  coarse = 10 ^ 15;
  is_coarse = refl;
  large = omega arith;
  large_coarse = omega arith;
  close = close_one;
}

-- ---- the rates at the end

size_within : (z : ℤ) (n : ℕ) → z ≤ℤ pos n → pos 0 ≤ℤ (pos n +ℤ z) → unsigned_abs z ≤ n
size_within (pos m) n high low = omega (arith, signed_arith, high)
size_within (negsuc m) n high low = omega (arith, signed_arith, low)

-- what both factors are above 1, times the days of the year, where the finer isn't above 10
pub record Near (b w a c : ℕ) : Type 0 where
  pub above : b * a ≤ 1000 * (b * c) + 1828650 * w
  pub below : 1000 * (b * c) ≤ b * a + 1828650 * w

-- two factors that are close give fractions that are near
pub near_by : (b w a c : ℕ) → b ≤ 365 → 10 ^ 18 + a ≤ 10 ^ 19 → Close w (10 ^ 18 + a) (10 ^ 15 + c) → Near b w a c
near_by b w a c year small close =
    let size : w * (10 ^ 18 + a) ≤ w * 10 ^ 19 = mul-le-mul_left w small in
    let above = close.above in
    let below = close.below in
    let one : a ≤ 1000 * c + 5010 * w = omega (arith, size, above) in
    let other : 1000 * c ≤ a + 5010 * w = omega (arith, size, below) in
    let more : b * a ≤ b * (1000 * c + 5010 * w) = mul-le-mul_left b one in
    let less : b * (1000 * c) ≤ b * (a + 5010 * w) = mul-le-mul_left b other in
    let days : w * b ≤ w * 365 = mul-le-mul_left w year in
    record { above = omega (arith, more, days); below = omega (arith, less, days) }

module _ (b w a c : ℕ) (some : 0 < w) (near : Near b w a c) where
  crossed : unsigned_abs
      (pos a *ℤ pos b *ℤ (pos (10 ^ 15) *ℤ pos w) -ℤ pos c *ℤ pos b *ℤ (pos (10 ^ 18) *ℤ pos w))
      ≤ 1828650 * 10 ^ 15 * (w * w)
  crossed =
      let above : w * (b * a) ≤ w * (1000 * (b * c) + 1828650 * w) = mul-le-mul_left w near.above in
      let below : w * (1000 * (b * c)) ≤ w * (b * a + 1828650 * w) = mul-le-mul_left w near.below in
      size_within (pos a *ℤ pos b *ℤ (pos (10 ^ 15) *ℤ pos w) -ℤ pos c *ℤ pos b *ℤ (pos (10 ^ 18) *ℤ pos w))
      (1828650 * 10 ^ 15 * (w * w)) (omega (arith, signed_arith, above)) (omega (arith, signed_arith, below))

  -- the fractions differ by less than 2 * 10^-12
  pub near_fractions : unsigned_abs
      (pos a *ℤ pos b *ℤ (pos (10 ^ 15) *ℤ pos w) -ℤ pos c *ℤ pos b *ℤ (pos (10 ^ 18) *ℤ pos w)) * 10 ^ 12
      < 2 * unsigned_abs (pos (10 ^ 18) *ℤ pos w *ℤ (pos (10 ^ 15) *ℤ pos w))
  near_fractions =
      let size = crossed in
      let square : 1 * 1 ≤ w * w = mul-le-mul some some in
      let product : unsigned_abs (pos (10 ^ 18) *ℤ pos w *ℤ (pos (10 ^ 15) *ℤ pos w)) ≡ 10 ^ 33 * (w * w) =
      omega (arith, signed_arith) in
      omega (arith, size, square, product)

  apart : (m n : ℤ) → (m +ℤ pos 2) ≤ℤ n → (m *ℤ pos w +ℤ pos (2 * w)) ≤ℤ (n *ℤ pos w)
  apart m n h =
      let e : up m + 2 + down n ≤ up n + down m = omega (arith, signed_arith, h) in
      let f : w * (up m + 2 + down n) ≤ w * (up n + down m) = mul-le-mul_left w e in
      omega (arith, signed_arith, f)

  -- and so their nearest numbers of 10^-9 by at most 1
  module _ (z r : ℤ) (fine : Rounded Nearest (pos (10 ^ 9) *ℤ (pos a *ℤ pos b)) (pos (10 ^ 18) *ℤ pos w) z)
      (coarse : Rounded Nearest (pos c *ℤ pos b) (pos (10 ^ 6) *ℤ pos w) r) where
    not_above : (r +ℤ pos 2) ≤ℤ z → ⊥
    not_above h =
        let far = apart r z h in
        let close = near.above in
        omega (arith, signed_arith, far, close, fine, coarse, some)

    not_below : (z +ℤ pos 2) ≤ℤ r → ⊥
    not_below h =
        let far = apart z r h in
        let close = near.below in
        omega (arith, signed_arith, far, close, fine, coarse, some)

    pub near_printed : unsigned_abs (z -ℤ r) ≤ 1
    near_printed =
        let high : z ≤ℤ (r +ℤ pos 1) =
        by_lt_z (r +ℤ pos 1) z (λ (l : (r +ℤ pos 1) <ℤ z). absurd (not_above (omega (arith, signed_arith, l))))
        (λ (l : z ≤ℤ (r +ℤ pos 1)). l) in
        let low : r ≤ℤ (z +ℤ pos 1) =
        by_lt_z (z +ℤ pos 1) r (λ (l : (z +ℤ pos 1) <ℤ r). absurd (not_below (omega (arith, signed_arith, l))))
        (λ (l : r ≤ℤ (z +ℤ pos 1)). l) in
        size_within (z -ℤ r) 1 (omega (arith, signed_arith, high)) (omega (arith, signed_arith, low))
