-- What is known of the rows of a block.
use Rattle.std.proofs.Common.{◌≡◌, inl, inr, ℕ, ◌+◌, ◌-◌, ◌<◌, ◌≤◌, Bool, true, false, ◌&&◌, List, length}
use Rattle.std.proofs.Common.{ℤ, Some, arith, sym, subst, ap, ◌∙◌}
use Rattle.std.specs.List.{Contains}
use Rattle.std.proofs.lemmas.Bool.{and_left, and_right, cases_eq, cases_lt}
use Rattle.std.proofs.lemmas.Option.{get_or_from_slice_get, slice_get-get_or, slice_get_within}
use Rattle.irs_breaks.specs.Pairing.{At, row_before, ArePaired, are_together, rank_at, size_at}
use Rattle.irs_breaks.specs.Private.Blocks.{AreRising, AreTogether, IsBlock, IsEarlier, IsEdge, IsInside}
use Rattle.irs_breaks.specs.declared.blocks.Block.{Block}
use Rattle.irs_breaks.specs.declared.dated.DatedRow.{DatedRow}
use Rattle.irs_breaks.proofs.DateLemmas.{and_both, common_false, false_common, together_back, together_false}
use Rattle.irs_breaks.proofs.DateLemmas.{together_true, true_together}
use Rattle.irs_breaks.proofs.RowLemmas.{before_false, count_range, not_both_ways, not_itself_before, one_at, true_before}

-- a list contains the row at each of its places
pub contains_at : (xs : List DatedRow) (k : ℕ) (x : DatedRow) → At xs k x → Contains xs x
contains_at xs k x at = (k, slice_get_within xs k x at, get_or_from_slice_get xs k x x at)

-- a row that a list contains is at one of its places
pub at_contains : (xs : List DatedRow) (x : DatedRow) → Contains xs x → (k : ℕ) × At xs k x
at_contains xs x c = (c.0, slice_get-get_or xs c.0 x c.1 ∙ ap (λ (z : DatedRow). Some z) c.2)

-- the part of a block in one list: the rows from `lo` up to `hi` belong together with the date, and no others
-- do
pub record IsPart (rows : List DatedRow) (lo hi : ℕ) (a : ℤ) (Together : ℤ → ℤ → Bool) : Type 0 where
  pub order : lo ≤ hi
  pub high : hi ≤ length rows
  pub within : (k : ℕ) (r : DatedRow) → At rows k r → lo ≤ k → k < hi → Together a r.day ≡ true
  pub before : (k : ℕ) (r : DatedRow) → At rows k r → k < lo → Together a r.day ≡ false
  pub behind : (k : ℕ) (r : DatedRow) → At rows k r → hi ≤ k → Together a r.day ≡ false

size_is : (W : ℤ → ℤ → Bool) (rows : List DatedRow) (lo hi : ℕ) (a : ℤ) → IsPart rows lo hi a W
    → size_at W rows a ≡ hi - lo
size_is W rows lo hi a part =
    count_range (λ (r : DatedRow). W a r.day) rows lo hi part.order part.high part.within part.before part.behind

-- the rank of a row of the block is the number of rows of the block before it in its list
rank_is : (W : ℤ → ℤ → Bool) (rows : List DatedRow) (lo hi : ℕ) (a : ℤ) (k : ℕ) (x : DatedRow) → AreRising rows
    → IsPart rows lo hi a W → At rows k x → lo ≤ k → k < hi → rank_at W rows a x ≡ k - lo
rank_is W rows lo hi a k x rising part at low high =
    let bound = part.high in
    count_range (λ (r : DatedRow). W a r.day && row_before r x) rows lo k low (omega (arith, high, bound))
    (λ m r here l h. and_both _ _ (part.within m r here l (omega (arith, h, high))) (true_before r x (rising m k r x h here at)))
    (λ m r here h. and_left _ _ (part.before m r here h))
    (λ m r here h. and_right _ _ (before_false r x (λ earlier. elim (cases_eq k m) [
      | inl same ↦ let one : x ≡ r = one_at rows m x r (subst (λ (n : ℕ). At rows n x) same at) here in
          not_itself_before x (subst (λ (z : DatedRow). IsEarlier z x) (sym one) earlier)
      | inr other ↦ not_both_ways r x earlier (rising k m x r (let n : k < m = omega (arith, h, other) in n) at here)
    ])))

-- ---- a block of the two lists

inside_ours : (s t : List DatedRow) (i j p q k : ℕ) (x : DatedRow) → i ≤ k → k < p → At s k x → IsInside s t i j p q x
inside_ours s t i j p q k x low high at = record { left = inl (k, low, at); done = inl (k, high, at) }

inside_theirs : (s t : List DatedRow) (i j p q k : ℕ) (y : DatedRow) → j ≤ k → k < q → At t k y → IsInside s t i j p q y
inside_theirs s t i j p q k y low high at = record { left = inr (k, low, at); done = inr (k, high, at) }

part_ours : (s t : List DatedRow) (i j : ℕ) (b : Block) (z : DatedRow) → IsEdge s t i j → IsBlock s t i j b
    → IsInside s t i j b.ours b.theirs z → IsPart s i b.ours z.day (are_together s t)
part_ours s t i j b z edge block in' = record {
  order = block.from_ours;
  high = block.edge.in_ours;
  within = λ k r at low high. true_together s t z.day r.day
      (block.together z r in' (inside_ours s t i j b.ours b.theirs k r low high at));
  before = λ k r at less. together_false s t z.day r.day
      (λ h. edge.apart r z (inl (k, less, at)) in'.left (together_back s t z.day r.day h));
  behind = λ k r at more. together_false s t z.day r.day (λ h. block.edge.apart z r in'.done (inl (k, more, at)) h);
}

part_theirs : (s t : List DatedRow) (i j : ℕ) (b : Block) (z : DatedRow) → IsEdge s t i j → IsBlock s t i j b
    → IsInside s t i j b.ours b.theirs z → IsPart t j b.theirs z.day (are_together s t)
part_theirs s t i j b z edge block in' = record {
  order = block.from_theirs;
  high = block.edge.in_theirs;
  within = λ k r at low high. true_together s t z.day r.day
      (block.together z r in' (inside_theirs s t i j b.ours b.theirs k r low high at));
  before = λ k r at less. together_false s t z.day r.day
      (λ h. edge.apart r z (inr (k, less, at)) in'.left (together_back s t z.day r.day h));
  behind = λ k r at more. together_false s t z.day r.day (λ h. block.edge.apart z r in'.done (inr (k, more, at)) h);
}

-- the k-th rows of a block are paired, for each k below its number of pairs
pub paired_inside : (s t : List DatedRow) (i j : ℕ) (b : Block) → AreRising s → AreRising t → IsEdge s t i j
    → IsBlock s t i j b → (k : ℕ) (x y : DatedRow) → k < b.pairs → At s (i + k) x → At t (j + k) y → ArePaired s t x y
paired_inside s t i j b rs rt edge block k x y less atx aty =
    let n = block.ours_last in
    let m = block.theirs_last in
    let f = block.from_ours in
    let g = block.from_theirs in
    let high : i + k < b.ours = omega (arith, less, n, f) in
    let high' : j + k < b.theirs = omega (arith, less, m, g) in
    let inx = inside_ours s t i j b.ours b.theirs (i + k) x (omega arith) high atx in
    let iny = inside_theirs s t i j b.ours b.theirs (j + k) y (omega arith) high' aty in
    let ours = part_ours s t i j b x edge block inx in
    let theirs = part_theirs s t i j b x edge block inx in
    let rank = rank_is (are_together s t) s i b.ours x.day (i + k) x rs ours atx (omega arith) high in
    let rank' = rank_is (are_together s t) t j b.theirs x.day (j + k) y rt theirs aty (omega arith) high' in
    let size = size_is (are_together s t) s i b.ours x.day ours in
    let size' = size_is (are_together s t) t j b.theirs x.day theirs in
    record {
      one_of_ours = contains_at s (i + k) x atx;
      one_of_theirs = contains_at t (j + k) y aty;
      together = true_together s t x.day y.day (block.together x y inx iny);
      even = λ uncommon. elim (block.pairs x inx) [
        | inl common ↦ absurd (common_false s t x.day uncommon common.0)
        | inr free ↦ elim free.1 [
          | inl same ↦ let e = same.0 in size ∙ e ∙ sym size'
          | inr odd ↦ let e = odd.1 in absurd (omega (arith, less, e))
        ]
      ];
      same_rank = rank ∙ (let e : i + k - i ≡ j + k - j = omega arith in e) ∙ sym rank';
    }

-- two places of a block that hold its k-th rows of ours and of theirs, for a k below its number of pairs
pub record AreKth (i j p q pairs m n : ℕ) : Type 0 where
  pub low : i ≤ m
  pub high : m < p
  pub low_theirs : j ≤ n
  pub high_theirs : n < q
  pub same : m - i ≡ n - j
  pub few : m - i < pairs

ours_inside : (s t : List DatedRow) (i j : ℕ) (b : Block) (k : ℕ) (x y : DatedRow) → IsEdge s t i j → IsBlock s t i j b
    → At s k x → AreTogether s t x.day y.day → IsInside s t i j b.ours b.theirs y → (i ≤ k) × (k < b.ours)
ours_inside s t i j b k x y edge block at h iny = elim (cases_lt k i) [
  | inl less ↦ absurd (edge.apart x y (inl (k, less, at)) iny.left h)
  | inr low ↦ elim (cases_lt k b.ours) [
    | inl high ↦ (low, high)
    | inr more ↦ absurd (block.edge.apart y x iny.done (inl (k, more, at)) (together_back s t x.day y.day h))
  ]
]

theirs_inside : (s t : List DatedRow) (i j : ℕ) (b : Block) (k : ℕ) (x y : DatedRow) → IsEdge s t i j → IsBlock s t i j b
    → At t k y → AreTogether s t x.day y.day → IsInside s t i j b.ours b.theirs x → (j ≤ k) × (k < b.theirs)
theirs_inside s t i j b k x y edge block at h inx = elim (cases_lt k j) [
  | inl less ↦ absurd (edge.apart y x (inr (k, less, at)) inx.left (together_back s t x.day y.day h))
  | inr low ↦ elim (cases_lt k b.theirs) [
    | inl high ↦ (low, high)
    | inr more ↦ absurd (block.edge.apart x y inx.done (inr (k, more, at)) h)
  ]
]

kth : (s t : List DatedRow) (i j : ℕ) (b : Block) → AreRising s → AreRising t → IsEdge s t i j → IsBlock s t i j b
    → (m n : ℕ) (x y : DatedRow) → At s m x → At t n y → ArePaired s t x y → (i ≤ m) × (m < b.ours)
    → (j ≤ n) × (n < b.theirs) → AreKth i j b.ours b.theirs b.pairs m n
kth s t i j b rs rt edge block m n x y atx aty pair mx ny =
    let inx = inside_ours s t i j b.ours b.theirs m x mx.0 mx.1 atx in
    let ours = part_ours s t i j b x edge block inx in
    let theirs = part_theirs s t i j b x edge block inx in
    let rank = rank_is (are_together s t) s i b.ours x.day m x rs ours atx mx.0 mx.1 in
    let rank' = rank_is (are_together s t) t j b.theirs x.day n y rt theirs aty ny.0 ny.1 in
    let size = size_is (are_together s t) s i b.ours x.day ours in
    let size' = size_is (are_together s t) t j b.theirs x.day theirs in
    let same : m - i ≡ n - j = sym rank ∙ pair.same_rank ∙ rank' in
    let a = mx.0 in
    let z = mx.1 in
    let c = ny.0 in
    let d = ny.1 in
    let few : m - i < b.pairs = elim (block.pairs x inx) [
      | inl common ↦ elim common.1 [
        | inl all ↦ omega (arith, all, a, z)
        | inr all ↦ omega (arith, all, same, c, d)
      ]
      | inr free ↦ elim free.1 [
        | inl even ↦ let e = even.1 in omega (arith, e, a, z)
        | inr odd ↦
            absurd (odd.0 (sym size ∙ pair.even (false_common s t x.day free.0) ∙ size'))
      ]
    ] in
    record { low = a; high = z; low_theirs = c; high_theirs = d; same = same; few = few }

-- the partner of our k-th row of a block is their k-th row of that block
pub kth_of_ours : (s t : List DatedRow) (i j : ℕ) (b : Block) → AreRising s → AreRising t → IsEdge s t i j
    → IsBlock s t i j b → (m : ℕ) (x y : DatedRow) → i ≤ m → m < b.ours → At s m x → ArePaired s t x y
    → (n : ℕ) × At t n y × AreKth i j b.ours b.theirs b.pairs m n
kth_of_ours s t i j b rs rt edge block m x y low high at pair =
    let there = at_contains t y pair.one_of_theirs in
    let inx = inside_ours s t i j b.ours b.theirs m x low high at in
    let tog = together_true s t x.day y.day pair.together in
    let ny = theirs_inside s t i j b there.0 x y edge block there.1 tog inx in
    (there.0, there.1, kth s t i j b rs rt edge block m there.0 x y at there.1 pair (low, high) ny)

-- the partner of their k-th row of a block is our k-th row of that block
pub kth_of_theirs : (s t : List DatedRow) (i j : ℕ) (b : Block) → AreRising s → AreRising t → IsEdge s t i j
    → IsBlock s t i j b → (n : ℕ) (x y : DatedRow) → j ≤ n → n < b.theirs → At t n y → ArePaired s t x y
    → (m : ℕ) × At s m x × AreKth i j b.ours b.theirs b.pairs m n
kth_of_theirs s t i j b rs rt edge block n x y low high at pair =
    let there = at_contains s x pair.one_of_ours in
    let iny = inside_theirs s t i j b.ours b.theirs n y low high at in
    let tog = together_true s t x.day y.day pair.together in
    let mx = ours_inside s t i j b there.0 x y edge block there.1 tog iny in
    (there.0, there.1, kth s t i j b rs rt edge block there.0 n x y there.1 at pair mx (low, high))
