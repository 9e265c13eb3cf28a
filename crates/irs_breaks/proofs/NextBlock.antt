-- The rows up to the next common date are a block, and so are those of a common date.
use Rattle.std.proofs.Common.{◌≡◌, ◌⊎◌, inl, inr, ℕ, ◌+◌, ◌-◌, ◌<◌, ◌≤◌, List, length, ℤ, ◌<ℤ◌, ◌≤ℤ◌}
use Rattle.std.proofs.Common.{arith, refl, sym, subst, ap, ◌∙◌}
use Rattle.std.proofs.lemmas.Bool.{cases_lt}
use Rattle.std.proofs.lemmas.Option.{slice_get_within}
use Rattle.jiff_core.proofs.SignedLemmas.{signed_arith}
use Rattle.irs_breaks.specs.Pairing.{At}
use Rattle.irs_breaks.specs.Private.Blocks.{AreRising, AreTogether, IsBetween, IsBlock, IsCommon, IsDateEnd, IsDone}
use Rattle.irs_breaks.specs.Private.Blocks.{IsEarlier, IsEdge, IsGapTo, IsInside, IsLeft, MeetsAt, MeetsBoth}
use Rattle.irs_breaks.specs.declared.blocks.Block.{Block}
use Rattle.irs_breaks.specs.declared.dated.DatedRow.{DatedRow}
use Rattle.irs_breaks.proofs.RowLemmas.{one_at}

done_cases : (s t : List DatedRow) (i j p q : ℕ) (x : DatedRow) → IsDone s t p q x
    → IsDone s t i j x ⊎ IsInside s t i j p q x
done_cases s t i j p q x (inl h) = elim (cases_lt h.0 i) [
  | inl less ↦ inl (inl (h.0, less, h.2))
  | inr more ↦ inr (record { left = inl (h.0, more, h.2); done = inl h })
]
done_cases s t i j p q x (inr h) = elim (cases_lt h.0 j) [
  | inl less ↦ inl (inr (h.0, less, h.2))
  | inr more ↦ inr (record { left = inr (h.0, more, h.2); done = inr h })
]

left_more : (s t : List DatedRow) (i j p q : ℕ) (x : DatedRow) → i ≤ p → j ≤ q → IsLeft s t p q x → IsLeft s t i j x
left_more s t i j p q x f g (inl h) = let l = h.1 in inl (h.0, omega (arith, f, l), h.2)
left_more s t i j p q x f g (inr h) = let l = h.1 in inr (h.0, omega (arith, g, l), h.2)

-- a row inside a block is at a place of ours or at one of theirs
data Where (s t : List DatedRow) (i j p q : ℕ) (x : DatedRow) : Type 0 where
  at_ours : (k : ℕ) → i ≤ k → k < p → At s k x → Where s t i j p q x
  at_theirs : (k : ℕ) → j ≤ k → k < q → At t k x → Where s t i j p q x

-- a row that is a row of ours at one place and of theirs at another may count as either
where_inside : (s t : List DatedRow) (i j p q : ℕ) (x : DatedRow) → IsEdge s t i j → i ≤ p → j ≤ q → IsInside s t i j p q x
    → Where s t i j p q x
where_inside s t i j p q x edge f g h = elim h.done [
  | inl a ↦ elim (cases_lt a.0 i) [
    | inl less ↦
        let low = edge.later x x (inl (a.0, less, a.2)) h.left in absurd (omega (arith, signed_arith, low))
    | inr more ↦ at_ours a.0 more a.1 a.2
  ]
  | inr a ↦ elim (cases_lt a.0 j) [
    | inl less ↦
        let low = edge.later x x (inr (a.0, less, a.2)) h.left in absurd (omega (arith, signed_arith, low))
    | inr more ↦ at_theirs a.0 more a.1 a.2
  ]
]

-- an earlier row has a date that is not later
pub not_after : (x y : DatedRow) → IsEarlier x y → x.day ≤ℤ y.day
not_after x y (inl h) = omega (arith, signed_arith, h)
not_after x y (inr h) = let e = h.0 in omega (arith, signed_arith, e)

not_less : (a b : ℤ) → a ≡ b → ¬ (a <ℤ b)
not_less a b e h = omega (arith, signed_arith, e, h)

not_lower : (a b : ℤ) → a ≤ℤ b → ¬ (b <ℤ a)
not_lower a b e h = omega (arith, signed_arith, e, h)

less_most : (a b c : ℤ) → a <ℤ b → b ≤ℤ c → a <ℤ c
less_most a b c h k = omega (arith, signed_arith, h, k)

-- ---- a gap

gap_uncommon : (s t : List DatedRow) (i j p q : ℕ) (x : DatedRow) → IsEdge s t i j → IsGapTo s t i j p q
    → Where s t i j p q x → ¬ (IsCommon s t x.day)
gap_uncommon s t i j p q x edge gap (at_ours k low high at) common =
    let l = common.1.0 in
    let z = common.1.1 in
    let atz = common.1.2 in
    let same : z.day ≡ x.day = common.1.3 in
    elim (cases_lt l j) [
      | inl less ↦ not_less z.day x.day same (edge.later z x (inr (l, less, atz)) (inl (k, low, at)))
      | inr more ↦ elim (cases_lt l q) [
        | inl within ↦ gap.other k l x z low high more within at atz (sym same)
        | inr behind ↦ not_less x.day z.day (sym same) (gap.ours_before k l x z low high behind at atz)
      ]
    ]
gap_uncommon s t i j p q x edge gap (at_theirs k low high at) common =
    let l = common.0.0 in
    let z = common.0.1 in
    let atz = common.0.2 in
    let same : z.day ≡ x.day = common.0.3 in
    elim (cases_lt l i) [
      | inl less ↦ not_less z.day x.day same (edge.later z x (inl (l, less, atz)) (inr (k, low, at)))
      | inr more ↦ elim (cases_lt l p) [
        | inl within ↦ gap.other l k z x more within low high atz at same
        | inr behind ↦ not_less x.day z.day (sym same) (gap.theirs_before l k z x behind low high atz at)
      ]
    ]

-- a row of ours at p or after it isn't before one inside
gap_low : (s t : List DatedRow) (i j p q l : ℕ) (x r : DatedRow) → AreRising s → IsGapTo s t i j p q
    → Where s t i j p q x → p ≤ l → At s l r → x.day ≤ℤ r.day
gap_low s t i j p q l x r rs gap (at_ours k low high at) more atr =
    not_after x r (rs k l x r (omega (arith, high, more)) at atr)
gap_low s t i j p q l x r rs gap (at_theirs k low high at) more atr =
    let less = gap.theirs_before l k r x more low high atr at in omega (arith, signed_arith, less)

not_between_high : (a b d : ℤ) → a ≤ℤ d → b ≤ℤ d → ¬ (IsBetween a b d)
not_between_high a b d h k (inl e) = not_lower b d k e.1
not_between_high a b d h k (inr e) = not_lower a d h e.1

not_between_low : (a b d : ℤ) → d <ℤ a → d <ℤ b → ¬ (IsBetween a b d)
not_between_low a b d h k (inl e) = let l = e.0 in omega (arith, signed_arith, h, l)
not_between_low a b d h k (inr e) = let l = e.0 in omega (arith, signed_arith, k, l)

gap_uncut : (s t : List DatedRow) (i j p q : ℕ) (x z : DatedRow) → AreRising s → IsEdge s t i j → IsGapTo s t i j p q
    → Where s t i j p q x → Where s t i j p q z → IsLeft s t i j x → IsLeft s t i j z
    → (d : ℤ) → IsCommon s t d → ¬ (IsBetween x.day z.day d)
gap_uncut s t i j p q x z rs edge gap wx wz lx lz d common between =
    let k = common.0.0 in
    let r = common.0.1 in
    let at = common.0.2 in
    let same : r.day ≡ d = common.0.3 in
    let about : IsBetween x.day z.day r.day = subst (IsBetween x.day z.day) (sym same) between in
    elim (cases_lt k i) [
      | inl less ↦ not_between_low x.day z.day r.day (edge.later r x (inl (k, less, at)) lx)
          (edge.later r z (inl (k, less, at)) lz) about
      | inr more ↦ elim (cases_lt k p) [
        | inl within ↦ gap_uncommon s t i j p q r edge gap (at_ours k more within at) (subst (IsCommon s t) (sym same) common)
        | inr behind ↦ not_between_high x.day z.day r.day (gap_low s t i j p q k x r rs gap wx behind at)
            (gap_low s t i j p q k z r rs gap wz behind at) about
      ]
    ]

-- the next common date: no row that is left is earlier, and every row inside is
record IsNext (s t : List DatedRow) (i j p q : ℕ) (d : ℤ) : Type 0 where
  common : IsCommon s t d
  above : (z : DatedRow) → IsLeft s t p q z → d ≤ℤ z.day
  below : (x : DatedRow) → Where s t i j p q x → x.day <ℤ d

-- the first of the rows that are left has the earliest date of them
pub least : (rows : List DatedRow) (p k : ℕ) (m z : DatedRow) → AreRising rows → At rows p m → p ≤ k → At rows k z
    → m.day ≤ℤ z.day
least rows p k m z rising atm low at = elim (cases_lt p k) [
  | inl less ↦ not_after m z (rising p k m z less atm at)
  | inr most ↦
      let same : p ≡ k = omega (arith, low, most) in
      let one : m ≡ z = one_at rows k m z (subst (λ (n : ℕ). At rows n m) same atm) at in
      let e : m.day ≡ z.day = ap (λ (r : DatedRow). r.day) one in
      omega (arith, signed_arith, e)
]

next_date : (s t : List DatedRow) (i j p q : ℕ) (m n : DatedRow) → AreRising s → AreRising t → IsGapTo s t i j p q
    → At s p m → At t q n → m.day ≡ n.day → IsNext s t i j p q m.day
next_date s t i j p q m n rs rt gap atm atn same = record {
  common = ((p, m, atm, refl), (q, n, atn, sym same));
  above = λ z left. elim left [
    | inl h ↦ least s p h.0 m z rs atm h.1 h.2
    | inr h ↦ subst (λ (d : ℤ). d ≤ℤ z.day) (sym same) (least t q h.0 n z rt atn h.1 h.2)
  ];
  below = λ x place. elim place [
    | at_ours k low high at ↦
        subst (λ (d : ℤ). x.day <ℤ d) (sym same) (gap.ours_before k q x n low high (omega arith) at atn)
    | at_theirs k low high at ↦ gap.theirs_before p k m x (omega arith) low high atm at
  ];
}

-- no row is left after the ends of both lists
ended : (s t : List DatedRow) (p q : ℕ) (z : DatedRow) → p ≡ length s → q ≡ length t → ¬ (IsLeft s t p q z)
ended s t p q z e f (inl h) = let l = slice_get_within s h.0 z h.2 in let k = h.1 in omega (arith, e, l, k)
ended s t p q z e f (inr h) = let l = slice_get_within t h.0 z h.2 in let k = h.1 in omega (arith, f, l, k)

gap_later : (s t : List DatedRow) (i j p q : ℕ) (x z : DatedRow) → AreRising s → AreRising t → IsGapTo s t i j p q
    → MeetsAt s t p q → Where s t i j p q x → IsLeft s t p q z → x.day <ℤ z.day
gap_later s t i j p q x z rs rt gap (inl e) wx left = absurd (ended s t p q z e.0 e.1 left)
gap_later s t i j p q x z rs rt gap (inr e) wx left =
    let next = next_date s t i j p q e.0 e.1 rs rt gap e.2 e.3 e.4 in
    less_most x.day e.0.day z.day (next.below x wx) (next.above z left)

cases_at : (a b : ℤ) → a ≤ℤ b → (a ≡ b) ⊎ (a <ℤ b)
cases_at a b h = grind (arith, signed_arith)

gap_apart : (s t : List DatedRow) (i j p q : ℕ) (x z : DatedRow) → AreRising s → AreRising t → IsEdge s t i j
    → IsGapTo s t i j p q → MeetsAt s t p q → Where s t i j p q x → IsLeft s t p q z → ¬ (AreTogether s t x.day z.day)
gap_apart s t i j p q x z rs rt edge gap (inl e) wx left h = ended s t p q z e.0 e.1 left
gap_apart s t i j p q x z rs rt edge gap (inr e) wx left (inl h) = gap_uncommon s t i j p q x edge gap wx h.0
gap_apart s t i j p q x z rs rt edge gap (inr e) wx left (inr h) =
    let next = next_date s t i j p q e.0 e.1 rs rt gap e.2 e.3 e.4 in
    elim (cases_at e.0.day z.day (next.above z left)) [
      | inl same ↦ h.right (subst (IsCommon s t) same next.common)
      | inr more ↦ h.uncut e.0.day next.common (inl (next.below x wx, more))
    ]

gap_edge : (s t : List DatedRow) (i j p q : ℕ) → AreRising s → AreRising t → IsEdge s t i j → IsGapTo s t i j p q
    → MeetsAt s t p q → IsEdge s t p q
gap_edge s t i j p q rs rt edge gap meets = record {
  in_ours = gap.in_ours;
  in_theirs = gap.in_theirs;
  later = λ x z done left. elim (done_cases s t i j p q x done) [
    | inl old ↦ edge.later x z old (left_more s t i j p q z gap.from_ours gap.from_theirs left)
    | inr new ↦ gap_later s t i j p q x z rs rt gap meets
        (where_inside s t i j p q x edge gap.from_ours gap.from_theirs new) left
  ];
  apart = λ x z done left. elim (done_cases s t i j p q x done) [
    | inl old ↦ edge.apart x z old (left_more s t i j p q z gap.from_ours gap.from_theirs left)
    | inr new ↦ gap_apart s t i j p q x z rs rt edge gap meets
        (where_inside s t i j p q x edge gap.from_ours gap.from_theirs new) left
  ];
}

gap_moves : (s t : List DatedRow) (i j p q : ℕ) → IsEdge s t i j → IsGapTo s t i j p q → MeetsAt s t p q
    → ((x z : DatedRow) → At s i x → At t j z → ¬ (x.day ≡ z.day)) → i + j < length s + length t → i + j < p + q
gap_moves s t i j p q edge gap (inl e) apart left = let a = e.0 in let b = e.1 in omega (arith, a, b, left)
gap_moves s t i j p q edge gap (inr e) apart left = elim (cases_lt (i + j) (p + q)) [
  | inl less ↦ less
  | inr most ↦
      let f = gap.from_ours in
      let g = gap.from_theirs in
      let same : p ≡ i = omega (arith, f, g, most) in
      let same' : q ≡ j = omega (arith, f, g, most) in
      absurd (apart e.0 e.1 (subst (λ (n : ℕ). At s n e.0) same e.2) (subst (λ (n : ℕ). At t n e.1) same' e.3) e.4)
]

-- how many pairs a gap has
abbrev pub HasGapPairs : ℕ → ℕ → ℕ → Type 0
HasGapPairs n m pairs = ((n ≡ m) × (pairs ≡ n)) ⊎ ((¬ (n ≡ m)) × (pairs ≡ 0))

few_ours : (n m pairs : ℕ) → HasGapPairs n m pairs → pairs ≤ n
few_ours n m pairs (inl h) = let e = h.1 in omega (arith, e)
few_ours n m pairs (inr h) = let e = h.1 in omega (arith, e)

few_theirs : (n m pairs : ℕ) → HasGapPairs n m pairs → pairs ≤ m
few_theirs n m pairs (inl h) = let e = h.1 in let f = h.0 in omega (arith, e, f)
few_theirs n m pairs (inr h) = let e = h.1 in omega (arith, e)

-- the rows up to the next common date are a block
pub gap_block : (s t : List DatedRow) (i j : ℕ) (b : Block) → AreRising s → AreRising t → IsEdge s t i j
    → IsGapTo s t i j b.ours b.theirs → MeetsAt s t b.ours b.theirs
    → ((x z : DatedRow) → At s i x → At t j z → ¬ (x.day ≡ z.day)) → i + j < length s + length t
    → HasGapPairs (b.ours - i) (b.theirs - j) b.pairs → IsBlock s t i j b
gap_block s t i j b rs rt edge gap meets apart left pairs =
    let place : (x : DatedRow) → IsInside s t i j b.ours b.theirs x → Where s t i j b.ours b.theirs x =
    λ x h. where_inside s t i j b.ours b.theirs x edge gap.from_ours gap.from_theirs h in
    record {
      from_ours = gap.from_ours;
      from_theirs = gap.from_theirs;
      moves = gap_moves s t i j b.ours b.theirs edge gap meets apart left;
      edge = gap_edge s t i j b.ours b.theirs rs rt edge gap meets;
      together = λ x z hx hz. inr (record {
        left = gap_uncommon s t i j b.ours b.theirs x edge gap (place x hx);
        right = gap_uncommon s t i j b.ours b.theirs z edge gap (place z hz);
        uncut = gap_uncut s t i j b.ours b.theirs x z rs edge gap (place x hx) (place z hz) hx.left hz.left;
      });
      pairs = λ x h. inr (gap_uncommon s t i j b.ours b.theirs x edge gap (place x h), pairs);
      ours_last = few_ours (b.ours - i) (b.theirs - j) b.pairs pairs;
      theirs_last = few_theirs (b.ours - i) (b.theirs - j) b.pairs pairs;
    }

-- ---- a common date

date_inside : (s t : List DatedRow) (i j p q : ℕ) (d : ℤ) (x : DatedRow) → IsDateEnd s i d p → IsDateEnd t j d q
    → Where s t i j p q x → x.day ≡ d
date_inside s t i j p q d x a b (at_ours k low high at) = a.same k x low high at
date_inside s t i j p q d x a b (at_theirs k low high at) = b.same k x low high at

date_later : (s t : List DatedRow) (i j p q : ℕ) (d : ℤ) (z : DatedRow) → IsDateEnd s i d p → IsDateEnd t j d q
    → IsLeft s t p q z → d <ℤ z.day
date_later s t i j p q d z a b (inl h) = a.later h.0 z h.1 h.2
date_later s t i j p q d z a b (inr h) = b.later h.0 z h.1 h.2

-- where both lists have the date d next, its rows are a block
pub date_block : (s t : List DatedRow) (i j : ℕ) (b : Block) (d : ℤ) → IsEdge s t i j → IsCommon s t d
    → IsDateEnd s i d b.ours → IsDateEnd t j d b.theirs → b.pairs ≤ b.ours - i → b.pairs ≤ b.theirs - j
    → (b.pairs ≡ b.ours - i) ⊎ (b.pairs ≡ b.theirs - j) → IsBlock s t i j b
date_block s t i j b d edge common a c few few' pairs =
    let l = a.low in
    let m = c.low in
    let from_ours : i ≤ b.ours = omega (arith, l) in
    let from_theirs : j ≤ b.theirs = omega (arith, m) in
    let is : (x : DatedRow) → IsInside s t i j b.ours b.theirs x → x.day ≡ d =
    λ x h. date_inside s t i j b.ours b.theirs d x a c (where_inside s t i j b.ours b.theirs x edge from_ours from_theirs h) in
    let shared : (x : DatedRow) → IsInside s t i j b.ours b.theirs x → IsCommon s t x.day =
    λ x h. subst (IsCommon s t) (sym (is x h)) common in
    record {
      from_ours = from_ours;
      from_theirs = from_theirs;
      moves = omega (arith, l, m);
      edge = record {
        in_ours = a.high;
        in_theirs = c.high;
        later = λ x z done left. elim (done_cases s t i j b.ours b.theirs x done) [
          | inl old ↦ edge.later x z old (left_more s t i j b.ours b.theirs z from_ours from_theirs left)
          | inr new ↦ subst (λ (e : ℤ). e <ℤ z.day) (sym (is x new))
              (date_later s t i j b.ours b.theirs d z a c left)
        ];
        apart = λ x z done left h. elim (done_cases s t i j b.ours b.theirs x done) [
          | inl old ↦ edge.apart x z old (left_more s t i j b.ours b.theirs z from_ours from_theirs left) h
          | inr new ↦ elim h [
            | inl same ↦ not_less d z.day (sym (is x new) ∙ same.1) (date_later s t i j b.ours b.theirs d z a c left)
            | inr gap ↦ gap.left (shared x new)
          ]
        ];
      };
      together = λ x z hx hz. inl (shared x hx, is x hx ∙ sym (is z hz));
      pairs = λ x h. inl (shared x h, pairs);
      ours_last = few;
      theirs_last = few';
    }

-- a date that both lists have next is common
pub meets_common : (s t : List DatedRow) (i j : ℕ) → (m : MeetsBoth s t i j) → IsCommon s t m.0.day
meets_common s t i j m = ((i, m.0, m.2, refl), (j, m.1, m.3, sym m.4))

none_done : (s t : List DatedRow) (x : DatedRow) → ¬ (IsDone s t 0 0 x)
none_done s t x (inl h) = let l = h.1 in omega (arith, l)
none_done s t x (inr h) = let l = h.1 in omega (arith, l)

-- a block can begin at the start of both lists
pub first_edge : (s t : List DatedRow) → IsEdge s t 0 0
first_edge s t = record {
  in_ours = omega arith;
  in_theirs = omega arith;
  later = λ x z done left. absurd (none_done s t x done);
  apart = λ x z done left h. none_done s t x done;
}
