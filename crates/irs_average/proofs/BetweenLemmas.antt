-- A rounded quotient lies within the bounds of what it is a mean of.
use Rattle.std.proofs.Common.{◌≡◌, ℕ, ◌+◌, ◌*◌, ◌≤◌, ℤ, pos, negsuc, ◌+ℤ◌, ◌-ℤ◌, ◌*ℤ◌, ◌≤ℤ◌, ◌<ℤ◌, unsigned_abs, neg_ℤ}
use Rattle.std.proofs.Common.{sym, ap, ◌∙◌, arith}
use Rattle.std.proofs.Math.Nat.{mul-le-mul_left}
use Rattle.std.proofs.lemmas.Int.{by_lt_z}
use borrow.Author.Differences.{up, down}
use Rattle.jiff_core.proofs.SignedLemmas.{signed_arith}
use Rattle.irs_base.specs.Limits.{Rounded}
use Rattle.irs_base.specs.declared.rounding.Direction.TheVariants.{Nearest}

-- the same number of times a greater number is no less
times : (k : ℕ) (a b : ℤ) → a ≤ℤ b → (pos k *ℤ a) ≤ℤ (pos k *ℤ b)
times k a b h =
    let e : up a + down b ≤ up b + down a = omega (arith, signed_arith, h) in
    let f : k * (up a + down b) ≤ k * (up b + down a) = mul-le-mul_left k e in
    omega (arith, signed_arith, f)

-- a weight keeps the order of two numbers
pub scaled : (a b w : ℤ) → a ≤ℤ b → pos 0 ≤ℤ w → (a *ℤ w) ≤ℤ (b *ℤ w)
scaled a b (pos k) h low = let f = times k a b h in omega (arith, signed_arith, f)
scaled a b (negsuc k) h low = absurd (omega (arith, signed_arith, low))

-- a weight spreads over a sum
pub spread : (a v w : ℤ) → a *ℤ (v +ℤ w) ≡ a *ℤ v +ℤ a *ℤ w
spread a v w =
    let e : up (v +ℤ w) + down v + down w ≡ up v + up w + down (v +ℤ w) = omega (arith, signed_arith) in
    let p : up a * (up (v +ℤ w) + down v + down w) ≡ up a * (up v + up w + down (v +ℤ w)) =
    ap (λ (n : ℕ). up a * n) e in
    let q : down a * (up (v +ℤ w) + down v + down w) ≡ down a * (up v + up w + down (v +ℤ w)) =
    ap (λ (n : ℕ). down a * n) e in
    omega (arith, signed_arith, p, q)

turned : (a b : ℤ) → a *ℤ b ≡ b *ℤ a
turned a b = omega (arith, signed_arith)

spread_left : (v w a : ℤ) → (v +ℤ w) *ℤ a ≡ v *ℤ a +ℤ w *ℤ a
spread_left v w a =
    let s = spread a v w in
    let t = turned (v +ℤ w) a in
    let x = turned v a in
    let y = turned w a in
    omega (arith, signed_arith, s, t, x, y)

multiple_order : (k : ℕ) (m n : ℤ) → (pos k *ℤ m) <ℤ (pos k *ℤ n +ℤ pos k) → m ≤ℤ n
multiple_order k m n h =
    by_lt_z n m
    (λ (l : n <ℤ m). let e : up n + down m + 1 ≤ up m + down n = omega (arith, signed_arith, l) in
    let f : k * (up n + down m + 1) ≤ k * (up m + down n) = mul-le-mul_left k e in
    absurd (omega (arith, signed_arith, h, f)))
    (λ (l : m ≤ℤ n). l)

-- p / q, rounded, lies between whole numbers between which it lies
pub rounded_within : (p q x l g : ℤ) → pos 0 <ℤ q → Rounded Nearest p q x → (l *ℤ q) ≤ℤ p → p ≤ℤ (g *ℤ q)
    → (l ≤ℤ x) × (x ≤ℤ g)
rounded_within p (negsuc k) x l g above r low high = absurd (omega (arith, signed_arith, above))
rounded_within p (pos k) x l g above r low high = (
  multiple_order (2 * k) l x (omega (arith, signed_arith, above, r, low)),
  multiple_order (2 * k) x g (omega (arith, signed_arith, above, r, high)),
)

-- what is within opposite bounds is small
pub small_within : (n : ℕ) (x : ℤ) → (neg_ℤ (pos n) ≤ℤ x) × (x ≤ℤ pos n) → unsigned_abs x ≤ n
small_within n (pos a) h = omega (arith, signed_arith, h)
small_within n (negsuc a) h = omega (arith, signed_arith, h)

-- a number of bounded size lies between the bounds
pub within_small : (n : ℕ) (x : ℤ) → unsigned_abs x ≤ n → (neg_ℤ (pos n) ≤ℤ x) × (x ≤ℤ pos n)
within_small n (pos a) h = (omega (arith, signed_arith, h), omega (arith, signed_arith, h))
within_small n (negsuc a) h = (omega (arith, signed_arith, h), omega (arith, signed_arith, h))

-- the line through two rates lies between bounds of both
pub line_within : (a b w d l g : ℤ) → pos 0 ≤ℤ d → d ≤ℤ w → (l ≤ℤ a) × (a ≤ℤ g) → (l ≤ℤ b) × (b ≤ℤ g) →
    ((l *ℤ w) ≤ℤ (a *ℤ w +ℤ (b -ℤ a) *ℤ d)) × ((a *ℤ w +ℤ (b -ℤ a) *ℤ d) ≤ℤ (g *ℤ w))
line_within a b w d l g low high first second =
    let rest : pos 0 ≤ℤ (w -ℤ d) = omega (arith, signed_arith, high) in
    let al = scaled l a (w -ℤ d) first.0 rest in
    let ag = scaled a g (w -ℤ d) first.1 rest in
    let bl = scaled l b d second.0 low in
    let bg = scaled b g d second.1 low in
    let whole : (w -ℤ d) +ℤ d ≡ w = omega (arith, signed_arith) in
    let rise : (b -ℤ a) +ℤ a ≡ b = omega (arith, signed_arith) in
    let by : (x : ℤ) → x *ℤ w ≡ x *ℤ (w -ℤ d) +ℤ x *ℤ d =
    λ x. ap (λ (y : ℤ). x *ℤ y) (sym whole) ∙ spread x (w -ℤ d) d in
    let up_by : b *ℤ d ≡ (b -ℤ a) *ℤ d +ℤ a *ℤ d = ap (λ (y : ℤ). y *ℤ d) (sym rise) ∙ spread_left (b -ℤ a) a d in
    summed (l *ℤ w) (g *ℤ w) (a *ℤ w) ((b -ℤ a) *ℤ d) _ _ _ _ _ _ _ (by l) (by g) (by a) up_by al ag bl bg
  where
    summed : (lw gw aw r l1 l2 g1 g2 a1 a2 b2 : ℤ) → lw ≡ l1 +ℤ l2 → gw ≡ g1 +ℤ g2 → aw ≡ a1 +ℤ a2 → b2 ≡ r +ℤ a2
        → l1 ≤ℤ a1 → a1 ≤ℤ g1 → l2 ≤ℤ b2 → b2 ≤ℤ g2 → (lw ≤ℤ (aw +ℤ r)) × ((aw +ℤ r) ≤ℤ gw)
    summed lw gw aw r l1 l2 g1 g2 a1 a2 b2 p q s t h i j k =
        (omega (arith, signed_arith, p, s, t, h, j), omega (arith, signed_arith, q, s, t, i, k))
