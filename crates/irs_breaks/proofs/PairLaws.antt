-- No row is in two pairs, and pairs don't cross.
use Rattle.std.proofs.Common.{◌≡◌, ◌⊎◌, inl, inr, ℕ, zero, suc, ◌<◌, ◌≤◌, Bool, true, false, ◌&&◌, cond, List, [], ◌∷◌}
use Rattle.std.proofs.Common.{ℤ, ◌<ℤ◌, arith, refl, sym, subst, ap₂, ◌∙◌}
use Rattle.std.specs.List.{count_by}
use Rattle.std.proofs.lemmas.Bool.{and_parts, and_right, cases_order, false≢true}
use Rattle.std.proofs.lemmas.Option.{none-some, same_Some}
use Rattle.jiff_core.proofs.SignedLemmas.{signed_arith}
use Rattle.irs_breaks.specs.Pairing.{At, row_before, ArePaired, are_together, rank_at}
use Rattle.irs_breaks.specs.Private.Blocks.{AreTogether, IsBetween, IsCommon, IsEarlier}
use Rattle.irs_breaks.specs.Laws.{DontCross, HasOnePartner}
use Rattle.irs_breaks.specs.declared.dated.DatedRow.{DatedRow}
use Rattle.irs_breaks.proofs.Arrangements.{ranks_same, same_dates, swap_paired}
use Rattle.irs_breaks.proofs.BlockLemmas.{at_contains}
use Rattle.irs_breaks.proofs.DateLemmas.{and_both, together_back, together_more, together_true, true_together}
use Rattle.irs_breaks.proofs.RowLemmas.{before_true, counted, counted_none, counted_one, not_itself, true_before}

-- ---- counts of two tests, of which one passes what the other does

no_more : (a b : Bool) → (a ≡ true → b ≡ true) → cond a 1 0 ≤ cond b 1 0
no_more true true h = omega arith
no_more true false h = absurd (false≢true (h refl))
no_more false b h = omega arith

count_le : {X : Type 0} (p q : X → Bool) (xs : List X) → ((x : X) → p x ≡ true → q x ≡ true)
    → count_by p xs ≤ count_by q xs
count_le p q [] h = omega arith
count_le p q (x ∷ xs) h =
    let rest = count_le p q xs h in
    let head = no_more (p x) (q x) (h x) in
    let e = counted p x xs in
    let f = counted q x xs in
    omega (arith, rest, head, e, f)

-- a weaker test that also passes a further member counts more of them
pub count_less : {X : Type 0} (p q : X → Bool) (xs : List X) (k : ℕ) (z : X) → ((x : X) → p x ≡ true → q x ≡ true)
    → At xs k z → p z ≡ false → q z ≡ true → count_by p xs < count_by q xs
count_less p q [] k z h at fails holds = absurd (none-some z at)
count_less p q (x ∷ xs) zero z h at fails holds =
    let same = same_Some x z at in
    let rest = count_le p q xs h in
    let e = counted_none p x xs (subst (λ w. p w ≡ false) (sym same) fails) in
    let f = counted_one q x xs (subst (λ w. q w ≡ true) (sym same) holds) in
    omega (arith, rest, e, f)
count_less p q (x ∷ xs) (suc k) z h at fails holds =
    let rest = count_less p q xs k z h at fails holds in
    let head = no_more (p x) (q x) (h x) in
    let e = counted p x xs in
    let f = counted q x xs in
    omega (arith, rest, head, e, f)

-- ---- one partner

earlier_more : (x y z : DatedRow) → IsEarlier x y → IsEarlier y z → IsEarlier x z
earlier_more x y z (inl a) (inl b) = inl (omega (arith, signed_arith, a, b))
earlier_more x y z (inl a) (inr b) = let e = b.0 in inl (omega (arith, signed_arith, a, e))
earlier_more x y z (inr a) (inl b) = let e = a.0 in inl (omega (arith, signed_arith, e, b))
earlier_more x y z (inr a) (inr b) = let e = a.1 in let f = b.1 in inr (a.0 ∙ b.0, omega (arith, e, f))

cases_days : (c d : ℤ) → (c <ℤ d) ⊎ ((d <ℤ c) ⊎ (c ≡ d))
cases_days c d = grind (arith, signed_arith)

row_at : ℤ → ℕ → DatedRow
row_at d n = record { day = d; place = n }

one_row : (x y : DatedRow) → x.day ≡ y.day → x.place ≡ y.place → x ≡ y
unfolding row_at
one_row x y d p = ap₂ row_at d p

cases_rows : (x y : DatedRow) → (IsEarlier x y ⊎ IsEarlier y x) ⊎ (x ≡ y)
cases_rows x y = elim (cases_days x.day y.day) [
  | inl day ↦ inl (inl (inl day))
  | inr rest ↦ elim rest [
    | inl day ↦ inl (inr (inl day))
    | inr same ↦ elim (cases_order x.place y.place) [
      | inl place ↦ inr (one_row x y same place)
      | inr two ↦ elim two [
        | inl less ↦ inl (inl (inr (same, less)))
        | inr more ↦ inl (inr (inr (sym same, more)))
      ]
    ]
  ]
]

-- a row that belongs together with a date has a lower rank than each later one
rank_less : (s t rows : List DatedRow) (a : ℤ) (y z : DatedRow) (k : ℕ) → At rows k y → are_together s t a y.day ≡ true
    → IsEarlier y z → rank_at (are_together s t) rows a y < rank_at (are_together s t) rows a z
rank_less s t rows a y z k at tog less =
    count_less (λ (r : DatedRow). are_together s t a r.day && row_before r y)
    (λ (r : DatedRow). are_together s t a r.day && row_before r z) rows k y
    (λ r h. let both = and_parts (are_together s t a r.day) (row_before r y) h in
    and_both _ _ both.0 (true_before r z (earlier_more r y z (before_true r y both.1) less)))
    at (and_right _ _ (not_itself y)) (and_both _ _ tog (true_before y z less))

-- a row of ours has one partner at most
pub one_partner : (s t : List DatedRow) (x y z : DatedRow) → ArePaired s t x y → ArePaired s t x z → y ≡ z
one_partner s t x y z h g = elim (cases_rows y z) [
  | inr same ↦ same
  | inl either ↦
      let e = sym h.same_rank ∙ g.same_rank in
      elim either [
        | inl less ↦
            let there = at_contains t y h.one_of_theirs in
            let l = rank_less s t t x.day y z there.0 there.1 h.together less in
            absurd (omega (arith, l, e))
        | inr more ↦
            let there = at_contains t z g.one_of_theirs in
            let l = rank_less s t t x.day z y there.0 there.1 g.together more in
            absurd (omega (arith, l, e))
      ]
]

-- no row of either list is in two pairs
pub one_partner_each : (s t : List DatedRow) → HasOnePartner s t
one_partner_each s t = record {
  of_ours = λ x y z h g. one_partner s t x y z h g;
  of_theirs = λ x z y h g. one_partner t s y x z (swap_paired s t x y h) (swap_paired s t z y g);
}

-- ---- pairs don't cross

outside : (a c e : ℤ) → a <ℤ c → IsBetween a c e → (a <ℤ e) × (e <ℤ c)
outside a c e less (inl u) = u
outside a c e less (inr u) = let v = u.0 in let w = u.1 in absurd (omega (arith, signed_arith, v, w, less))

-- where a < c belong together with b and d, and d < b, a and c belong together
crossing : (s t : List DatedRow) (a b c d : ℤ) → AreTogether s t a b → AreTogether s t c d → a <ℤ c → d <ℤ b
    → AreTogether s t a c
crossing s t a b c d (inl h) (inl k) less more =
    let e = h.1 in let f = k.1 in absurd (omega (arith, signed_arith, e, f, less, more))
crossing s t a b c d (inl h) (inr k) less more =
    let e = h.1 in absurd (k.uncut a h.0 (inr (omega (arith, signed_arith, e, more), less)))
crossing s t a b c d (inr h) (inl k) less more =
    let f = k.1 in absurd (h.uncut c k.0 (inl (less, omega (arith, signed_arith, f, more))))
crossing s t a b c d (inr h) (inr k) less more = inr (record {
  left = h.left;
  right = k.left;
  uncut = λ e common between.
      let u = outside a c e less between in
      let above = u.0 in
      let below = u.1 in
      elim (cases_days e b) [
        | inl low ↦ h.uncut e common (inl (above, low))
        | inr rest ↦ elim rest [
          | inl high ↦ k.uncut e common (inr (omega (arith, signed_arith, high, more), below))
          | inr same ↦ h.right (subst (IsCommon s t) same common)
        ]
      ];
})

-- two pairs don't cross: the one with our earlier date doesn't have their later date
pub pairs_dont_cross : (s t : List DatedRow) → DontCross s t
pairs_dont_cross s t x y z w h g less more =
    let xy = together_true s t x.day y.day h.together in
    let zw = together_true s t z.day w.day g.together in
    let xz = crossing s t x.day y.day z.day w.day xy zw less more in
    let same = same_dates s t in
    let atx = at_contains s x h.one_of_ours in
    let atw = at_contains t w g.one_of_theirs in
    let xx : AreTogether s t x.day x.day = together_more s t x.day z.day x.day xz (together_back s t x.day z.day xz) in
    let xw : AreTogether s t x.day w.day = together_more s t x.day z.day w.day xz zw in
    let up = rank_less s t s x.day x z atx.0 atx.1 (true_together s t x.day x.day xx) (inl less) in
    let down = rank_less s t t x.day w y atw.0 atw.1 (true_together s t x.day w.day xw) (inl more) in
    let a = ranks_same s t s t s x.day z.day z same xz in
    let b = ranks_same s t s t t x.day z.day w same xz in
    let e = h.same_rank in
    let f = g.same_rank in
    omega (arith, up, down, a, b, e, f)
