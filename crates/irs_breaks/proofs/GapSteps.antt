-- One more row of a gap, ours or theirs, and the end of a gap.
use Rattle.std.proofs.Common.{◌≡◌, ◌⊎◌, inl, inr, ℕ, ◌+◌, ◌<◌, ◌≤◌, List, length, ℤ, ◌<ℤ◌, ◌≤ℤ◌, arith, sym, subst, ap, ◌∙◌, true, false, not}
use Rattle.std.specs.Ordering.{int_cmp, int_eq, is_lt}
use Rattle.std.proofs.lemmas.Bool.{both_ways, cases_lt, not-false, not-true}
use Rattle.std.proofs.lemmas.Option.{slice_get_within}
use Rattle.jiff_core.proofs.SignedLemmas.{signed_arith}
use Rattle.irs_base.proofs.Orders.{lt_false, lt_true}
use Rattle.irs_breaks.specs.Pairing.{At}
use Rattle.irs_breaks.specs.Private.Blocks.{AreRising, IsGapTo, MeetsAt}
use Rattle.irs_breaks.specs.declared.dated.DatedRow.{DatedRow}
use Rattle.irs_breaks.proofs.NextBlock.{least}
use Rattle.irs_breaks.proofs.RowLemmas.{eq_true, one_at, true_eq}

-- a place up to p + 1 is before p, or it is p
last_or : (rows : List DatedRow) (p k : ℕ) (x r : DatedRow) → k < p + 1 → At rows p x → At rows k r → (k < p) ⊎ (x ≡ r)
last_or rows p k x r less atx atr = elim (cases_lt k p) [
  | inl low ↦ inl low
  | inr most ↦
      let e : k ≡ p = omega (arith, less, most) in inr (one_at rows p x r atx (subst (λ (n : ℕ). At rows n r) e atr))
]

not_same : (a b : ℤ) → a <ℤ b → ¬ (a ≡ b)
not_same a b h e = omega (arith, signed_arith, h, e)

not_same_back : (a b : ℤ) → b <ℤ a → ¬ (a ≡ b)
not_same_back a b h e = omega (arith, signed_arith, h, e)

upto : (a b c : ℤ) → a <ℤ b → b ≤ℤ c → a <ℤ c
upto a b c h k = omega (arith, signed_arith, h, k)

-- our next row is in the gap where it is earlier than their next row
pub gap_ours : (s t : List DatedRow) (i j p q : ℕ) (x z : DatedRow) → AreRising t → IsGapTo s t i j p q → At s p x → At t q z
    → x.day <ℤ z.day → IsGapTo s t i j (p + 1) q
gap_ours s t i j p q x z rt gap atx atz less =
    let f = gap.from_ours in
    record {
      from_ours = omega (arith, f);
      from_theirs = gap.from_theirs;
      in_ours = let h = slice_get_within s p x atx in omega (arith, h);
      in_theirs = gap.in_theirs;
      other = λ k l a b low high low' high' ata atb. elim (last_or s p k x a high atx ata) [
        | inl old ↦ gap.other k l a b low old low' high' ata atb
        | inr new ↦ not_same_back a.day b.day
            (subst (λ (r : DatedRow). b.day <ℤ r.day) new (gap.theirs_before p l x b (omega arith) low' high' atx atb))
      ];
      ours_before = λ k l a b low high low' ata atb. elim (last_or s p k x a high atx ata) [
        | inl old ↦ gap.ours_before k l a b low old low' ata atb
        | inr new ↦ subst (λ (r : DatedRow). r.day <ℤ b.day) new
            (upto x.day z.day b.day less (least t q l z b rt atz low' atb))
      ];
      theirs_before = λ k l a b low low' high' ata atb. gap.theirs_before k l a b (omega (arith, low)) low' high' ata atb;
    }

-- their next row is in the gap where it is earlier than our next row
pub gap_theirs : (s t : List DatedRow) (i j p q : ℕ) (x z : DatedRow) → AreRising s → IsGapTo s t i j p q → At s p x → At t q z
    → z.day <ℤ x.day → IsGapTo s t i j p (q + 1)
gap_theirs s t i j p q x z rs gap atx atz less =
    let f = gap.from_theirs in
    record {
      from_ours = gap.from_ours;
      from_theirs = omega (arith, f);
      in_ours = gap.in_ours;
      in_theirs = let h = slice_get_within t q z atz in omega (arith, h);
      other = λ k l a b low high low' high' ata atb. elim (last_or t q l z b high' atz atb) [
        | inl old ↦ gap.other k l a b low high low' old ata atb
        | inr new ↦ not_same a.day b.day
            (subst (λ (r : DatedRow). a.day <ℤ r.day) new (gap.ours_before k q a z low high (omega arith) ata atz))
      ];
      ours_before = λ k l a b low high low' ata atb. gap.ours_before k l a b low high (omega (arith, low')) ata atb;
      theirs_before = λ k l a b low low' high' ata atb. elim (last_or t q l z b high' atz atb) [
        | inl old ↦ gap.theirs_before k l a b low low' old ata atb
        | inr new ↦ subst (λ (r : DatedRow). r.day <ℤ a.day) new
            (upto z.day x.day a.day less (least s p k x a rs atx low ata))
      ];
    }

-- where one list ends, the gap goes on to the end of the other
pub gap_ends : (s t : List DatedRow) (i j p q : ℕ) → IsGapTo s t i j p q → (length s ≤ p) ⊎ (length t ≤ q)
    → IsGapTo s t i j (length s) (length t)
gap_ends s t i j p q gap ended =
    let f = gap.from_ours in
    let g = gap.from_theirs in
    let m = gap.in_ours in
    let n = gap.in_theirs in
    record {
      from_ours = omega (arith, f, m);
      from_theirs = omega (arith, g, n);
      in_ours = omega arith;
      in_theirs = omega arith;
      other = λ k l a b low high low' high' ata atb. elim (cases_lt k p) [
        | inl kp ↦ elim (cases_lt l q) [
          | inl lq ↦ gap.other k l a b low kp low' lq ata atb
          | inr lq ↦ not_same a.day b.day (gap.ours_before k l a b low kp lq ata atb)
        ]
        | inr kp ↦ elim ended [
          | inl e ↦ absurd (omega (arith, e, kp, high))
          | inr e ↦ not_same_back a.day b.day (gap.theirs_before k l a b kp low' (omega (arith, high', e)) ata atb)
        ]
      ];
      ours_before = λ k l a b low high low' ata atb.
          let h = slice_get_within t l b atb in absurd (omega (arith, low', h));
      theirs_before = λ k l a b low low' high' ata atb.
          let h = slice_get_within s k a ata in absurd (omega (arith, low, h));
    }

-- ---- as the walk compares the rows

-- our next row is in the gap where the comparison says that it is earlier
pub ours_first : (s t : List DatedRow) (i j p q : ℕ) (x z : DatedRow) → AreRising t → IsGapTo s t i j p q → At s p x
    → At t q z → is_lt (int_cmp x.day z.day) ≡ true → IsGapTo s t i j (p + 1) q
ours_first s t i j p q x z rt gap atx atz h = gap_ours s t i j p q x z rt gap atx atz (lt_true x.day z.day h)

after : (a b : ℤ) → b ≤ℤ a → ¬ (a ≡ b) → b <ℤ a
after a b h k = grind (arith, signed_arith)

-- their next row is in the gap where ours is neither earlier nor of the same date
pub theirs_first : (s t : List DatedRow) (i j p q : ℕ) (x z y w : DatedRow) → AreRising s → IsGapTo s t i j p q → At s p x
    → At t q z → At s p y → At t q w → is_lt (int_cmp x.day z.day) ≡ false → not (int_eq y.day w.day) ≡ true
    → IsGapTo s t i j p (q + 1)
theirs_first s t i j p q x z y w rs gap atx atz aty atw h k =
    let e = one_at s p x y atx aty in
    let f = one_at t q z w atz atw in
    let apart : ¬ (x.day ≡ z.day) = λ same. both_ways _ (not-true _ k)
    (true_eq y.day w.day (ap (λ (r : DatedRow). r.day) (sym e) ∙ same ∙ ap (λ (r : DatedRow). r.day) f)) in
    gap_theirs s t i j p q x z rs gap atx atz (after x.day z.day (lt_false x.day z.day h) apart)

-- the gap ends where both next rows have the same date
pub meeting : (s t : List DatedRow) (p q : ℕ) (x z : DatedRow) → At s p x → At t q z → not (int_eq x.day z.day) ≡ false
    → MeetsAt s t p q
meeting s t p q x z atx atz h = inr (x, z, atx, atz, eq_true x.day z.day (not-false _ h))
