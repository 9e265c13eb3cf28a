use Rattle.std.proofs.Common.{rules, arith, ℕ, ◌≡◌, ◌+◌, ◌-◌, ◌*◌, ◌≤◌, ◌^◌, ap, sym, ◌∙◌, FitsSigned, unsigned_abs}
use Rattle.std.specs.Int.{w128}
use Rattle.std.proofs.lemmas.Int.{to_z-of_z}
use Rattle.std.proofs.lemmas.Nat.{pow-add}
use Rattle.irs_compound.proofs.Sizes.{product_of_two}
use Rattle.irs_compound.proofs.rates.scaled.Goals as goal

-- the product's size
scaled_size : (n t w : ℕ) → n ≤ 9 → t ≡ 10 ^ (9 - n) → w ≤ 11 * 10 ^ (n + 1) → w * t ≤ 11 * 10 ^ 10
scaled_size n t w h e k =
    let a : t ≤ 10 ^ (9 - n) = omega (arith, e) in
    let p = product_of_two w t (11 * 10 ^ (n + 1)) (10 ^ (9 - n)) k a in
    let f : n + 1 + (9 - n) ≡ 10 = omega (arith, h) in
    let q : 10 ^ (n + 1) * 10 ^ (9 - n) ≡ 10 ^ 10 = sym (pow-add 10 (n + 1) (9 - n)) ∙ ap (λ j. 10 ^ j) f in
    omega (arith, p, q)

pub product-requires : goal.product-requires
product-requires c =
    let fw : FitsSigned w128 c.args.whole = c.ranges.whole in
    let ft : FitsSigned w128 c.ten_to.result = search rules in
    let z = scaled_size c.args.places (unsigned_abs c.ten_to.result) (unsigned_abs c.args.whole) c.requires.places_fit
    (ap unsigned_abs c.ten_to.ensures.value) c.requires.whole_fits in
    simp to_z-of_z (omega (arith, z))

pub returns-clause-size : goal.returns-clause-size
returns-clause-size c =
    let fw : FitsSigned w128 c.args.whole = c.ranges.whole in
    let ft : FitsSigned w128 c.ten_to.result = search rules in
    let fp : FitsSigned w128 c.product.result = search rules in
    let z = scaled_size c.args.places (unsigned_abs c.ten_to.result) (unsigned_abs c.args.whole) c.requires.places_fit
    (ap unsigned_abs c.ten_to.ensures.value) c.requires.whole_fits in
    let s : unsigned_abs c.product.result ≡ unsigned_abs c.args.whole * unsigned_abs c.ten_to.result =
    simp to_z-of_z at c.product.ensures.size in
    simp to_z-of_z (omega (arith, z, s))
