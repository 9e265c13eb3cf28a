-- One more row of a merged list.
use Rattle.std.proofs.Common.{◌≡◌, ◌⊎◌, inl, inr, ⊎_elim, ℕ, zero, suc, ◌+◌, ◌<◌, ◌≤◌, List, [], ◌∷◌, ◌++◌, length, Option, Some, None}
use Rattle.std.proofs.Common.{ℤ, ◌<ℤ◌, ◌≤ℤ◌, arith, refl, sym, subst, true, false, ap, is_none, get_or, take}
use Rattle.irs_base.proofs.MemberLemmas.{pairs_more}
use Rattle.irs_base.proofs.Orders.{lt_false, lt_true}
use Rattle.irs_base.specs.Lists.{Pairs}
use Rattle.std.specs.Ordering.{int_cmp, is_lt}
use Rattle.irs_breaks.proofs.Arrangements.{swap_paired}
use Rattle.irs_breaks.proofs.NextBlock.{least}
use Rattle.std.specs.List.{Contains}
use Rattle.std.proofs.lemmas.Bool.{cases_lt}
use Rattle.std.proofs.lemmas.List.Elements.{Contains-append_left, Contains-push, Contains-push_cases}
use Rattle.std.proofs.lemmas.Option.{get_or_from_slice_get, none-some, same_Some, slice_get-get_or, slice_get_within}
use Rattle.jiff_core.proofs.SignedLemmas.{signed_arith}
use Rattle.irs_breaks.specs.Pairing.{At, AreRowsInOrder, ComesBefore, row_of_ours, row_of_theirs, ArePaired}
use Rattle.irs_breaks.specs.Private.Blocks.{AreRising, IsEarlier, IsPartner, IsAlone, IsBeforeAll, IsDatedRow}
use Rattle.irs_breaks.specs.Private.Blocks.{IsMergedBefore, IsMergedTo, IsNotBefore}
use Rattle.irs_breaks.specs.declared.dated.DatedRow.{DatedRow}
use Rattle.irs_breaks.specs.declared.dated.PairedRow.{PairedRow}
use Rattle.irs_breaks.proofs.RowLemmas.{one_at}

-- a list contains the member at each of its places
pub contains_at : {X : Type 0} (xs : List X) (k : ℕ) (x : X) → At xs k x → Contains xs x
contains_at xs k x at = (k, slice_get_within xs k x at, get_or_from_slice_get xs k x x at)

at_push_cases : {X : Type 0} (xs : List X) (y : X) (k : ℕ) (x : X) → At (xs ++ y ∷ []) k x
    → (At xs k x) ⊎ ((k ≡ length xs) × (x ≡ y))
at_push_cases [] y zero x at = inr (refl, sym (same_Some y x at))
at_push_cases [] y (suc k) x at = absurd (none-some x at)
at_push_cases (z ∷ zs) y zero x at = inl at
at_push_cases (z ∷ zs) y (suc k) x at =
    ⊎_elim (λ old. inl old) (λ (new : (k ≡ length zs) × (x ≡ y)). inr (let e = new.0 in omega (arith, e), new.1))
    (at_push_cases zs y k x at)

-- a list stays in order where a row that comes after all others is appended
pub order_push : (rows : List PairedRow) (n : PairedRow) → AreRowsInOrder rows
    → ((m : PairedRow) → Contains rows m → ComesBefore m n) → AreRowsInOrder (rows ++ n ∷ [])
order_push rows n ordered before p q a b less ata atb =
    elim (at_push_cases rows n q b atb) [
      | inl old ↦
          let high = slice_get_within rows q b old in
          elim (at_push_cases rows n p a ata) [
            | inl first ↦ ordered p q a b less first old
            | inr last ↦ let e = last.0 in absurd (omega (arith, high, e, less))
          ]
      | inr new ↦
          let e = new.0 in
          elim (at_push_cases rows n p a ata) [
            | inl first ↦ subst (ComesBefore a) (sym new.1) (before a (contains_at rows p a first))
            | inr last ↦ let f = last.0 in absurd (omega (arith, e, f, less))
          ]
    ]

-- every row meets P after one more that meets it is appended
pub push_every : {X : Type 0} (P : X → Type 0) (xs : List X) (y : X) → ((x : X) → Contains xs x → P x) → P y
    → (x : X) → Contains (xs ++ y ∷ []) x → P x
push_every P xs y old new x c =
    ⊎_elim (λ (h : Contains xs x). old x h) (λ (e : y ≡ x). subst P e new) (Contains-push_cases xs y x c)

-- ---- the order of rows with dates

ours_ours : (x z : DatedRow) (o u : Option ℕ) → IsEarlier x z → ComesBefore (row_of_ours x o) (row_of_ours z u)
ours_ours x z o u (inl day) = inl day
ours_ours x z o u (inr same) = inr (same.0, inl same.1)

theirs_theirs : (x z : DatedRow) → IsEarlier x z → ComesBefore (row_of_theirs x) (row_of_theirs z)
theirs_theirs x z (inl day) = inl day
theirs_theirs x z (inr same) = inr (same.0, inl same.1)

cases_at : (a b : ℤ) → a ≤ℤ b → (a ≡ b) ⊎ (a <ℤ b)
cases_at a b h = grind (arith, signed_arith)

ours_theirs : (x y : DatedRow) (o : Option ℕ) → x.day ≤ℤ y.day → ComesBefore (row_of_ours x o) (row_of_theirs y)
ours_theirs x y o h =
    ⊎_elim (λ (e : x.day ≡ y.day). inr (e, tt)) (λ (l : x.day <ℤ y.day). inl l) (cases_at x.day y.day h)

-- before the first row nothing is merged
pub merged_none : (s t : List DatedRow) → IsMergedTo s t 0 0 []
merged_none s t = record {
  sound = λ m c. let l = c.1 in absurd (omega (arith, l));
  of_ours = λ k x l at. absurd (omega (arith, l));
  of_theirs = λ k x l at a. absurd (omega (arith, l));
  in_order = λ p q a b l ata atb. absurd (none-some a ata);
  before_ours = λ m c. let l = c.1 in absurd (omega (arith, l));
  before_theirs = λ m c. let l = c.1 in absurd (omega (arith, l));
}

-- a place up to p is an earlier one or p itself
below_next : {X : Type 0} (xs : List X) (p k : ℕ) (x y : X) → k < p + 1 → At xs p x → At xs k y → (k < p) ⊎ (x ≡ y)
below_next xs p k x y less atx aty = elim (cases_lt k p) [
  | inl low ↦ inl low
  | inr most ↦
      let e : k ≡ p = omega (arith, less, most) in
      inr (one_at xs p x y atx (subst (λ (n : ℕ). At xs n y) e aty))
]

-- our next row is appended where no row of theirs is earlier
pub merged_ours : (s t : List DatedRow) (p q : ℕ) (rows : List PairedRow) (x : DatedRow) (o : Option ℕ) → AreRising s
    → IsMergedTo s t p q rows → At s p x → IsPartner s t x o
    → ((k : ℕ) (y : DatedRow) → q ≤ k → At t k y → x.day ≤ℤ y.day)
    → IsMergedTo s t (p + 1) q (rows ++ row_of_ours x o ∷ [])
merged_ours s t p q rows x o rising h at partner low = record {
  sound = push_every (IsDatedRow s t) rows (row_of_ours x o) h.sound (inl (x, o, contains_at s p x at, partner, refl));
  of_ours = λ k z less atz. elim (below_next s p k x z less at atz) [
    | inl old ↦ let there = h.of_ours k z old atz in
        (there.0, there.1, Contains-append_left rows (row_of_ours x o ∷ []) (row_of_ours z there.0) there.2)
    | inr new ↦ (
      o,
      subst (λ (w : DatedRow). IsPartner s t w o) new partner,
      subst (λ (w : DatedRow). Contains (rows ++ row_of_ours x o ∷ []) (row_of_ours w o)) new
          (Contains-push rows (row_of_ours x o)),
    )
  ];
  of_theirs = λ k y less aty alone.
      Contains-append_left rows (row_of_ours x o ∷ []) (row_of_theirs y) (h.of_theirs k y less aty alone);
  in_order = order_push rows (row_of_ours x o) h.in_order (λ m c. h.before_ours m c p x o (omega arith) at);
  before_ours = push_every (λ (m : PairedRow). (k : ℕ) (z : DatedRow) (u : Option ℕ) → p + 1 ≤ k → At s k z
      → ComesBefore m (row_of_ours z u)) rows (row_of_ours x o)
      (λ m c k z u less atz. h.before_ours m c k z u (omega (arith, less)) atz)
      (λ k z u less atz. ours_ours x z o u (rising p k x z (omega (arith, less)) at atz));
  before_theirs = push_every (λ (m : PairedRow). (k : ℕ) (y : DatedRow) → q ≤ k → At t k y → ComesBefore m (row_of_theirs y))
      rows (row_of_ours x o) h.before_theirs (λ k y less aty. ours_theirs x y o (low k y less aty));
}

-- their next row is appended where it has no partner and is earlier than our rows
pub merged_theirs : (s t : List DatedRow) (p q : ℕ) (rows : List PairedRow) (y : DatedRow) → AreRising t
    → IsMergedTo s t p q rows → At t q y → IsAlone s t y
    → ((k : ℕ) (x : DatedRow) → p ≤ k → At s k x → y.day <ℤ x.day)
    → IsMergedTo s t p (q + 1) (rows ++ row_of_theirs y ∷ [])
merged_theirs s t p q rows y rising h at alone low = record {
  sound = push_every (IsDatedRow s t) rows (row_of_theirs y) h.sound (inr (y, contains_at t q y at, alone, refl));
  of_ours = λ k x less atx. let there = h.of_ours k x less atx in
      (there.0, there.1, Contains-append_left rows (row_of_theirs y ∷ []) (row_of_ours x there.0) there.2);
  of_theirs = λ k z less atz lone. elim (below_next t q k y z less at atz) [
    | inl old ↦ Contains-append_left rows (row_of_theirs y ∷ []) (row_of_theirs z) (h.of_theirs k z old atz lone)
    | inr new ↦ subst (λ (w : DatedRow). Contains (rows ++ row_of_theirs y ∷ []) (row_of_theirs w)) new
        (Contains-push rows (row_of_theirs y))
  ];
  in_order = order_push rows (row_of_theirs y) h.in_order (λ m c. h.before_theirs m c q y (omega arith) at);
  before_ours = push_every (λ (m : PairedRow). (k : ℕ) (z : DatedRow) (u : Option ℕ) → p ≤ k → At s k z
      → ComesBefore m (row_of_ours z u)) rows (row_of_theirs y) h.before_ours (λ k z u less atz. inl (low k z less atz));
  before_theirs = push_every (λ (m : PairedRow). (k : ℕ) (z : DatedRow) → q + 1 ≤ k → At t k z → ComesBefore m (row_of_theirs z))
      rows (row_of_theirs y) (λ m c k z less atz. h.before_theirs m c k z (omega (arith, less)) atz)
      (λ k z less atz. theirs_theirs y z (rising q k y z (omega (arith, less)) at atz));
}

-- a row of theirs that has a partner is passed over, since it is listed with it
pub merged_skip : (s t : List DatedRow) (p q : ℕ) (rows : List PairedRow) (x y : DatedRow) → IsMergedTo s t p q rows
    → At t q y → ArePaired s t x y → IsMergedTo s t p (q + 1) rows
merged_skip s t p q rows x y h at pair = record {
  sound = h.sound;
  of_ours = h.of_ours;
  of_theirs = λ k z less atz lone. elim (below_next t q k y z less at atz) [
    | inl old ↦ h.of_theirs k z old atz lone
    | inr new ↦ absurd (lone x (subst (ArePaired s t x) new pair))
  ];
  in_order = h.in_order;
  before_ours = h.before_ours;
  before_theirs = λ m c k z less atz. h.before_theirs m c k z (omega (arith, less)) atz;
}

-- ---- by the partners of the rows

-- lists of related members have the same length
pub pairs_length : {X Y : Type 0} (R : X → Y → Type 0) (xs : List X) (ys : List Y) → Pairs R xs ys → length xs ≡ length ys
pairs_length R [] [] h = refl
pairs_length R [] (y ∷ ys) h = absurd h
pairs_length R (x ∷ xs) [] h = absurd h
pairs_length R (x ∷ xs) (y ∷ ys) h = let e = pairs_length R xs ys h.1 in omega (arith, e)

-- the members at the same place of two lists of related members are related
pub pairs_get : {X Y : Type 0} (R : X → Y → Type 0) (xs : List X) (ys : List Y) (k : ℕ) (x : X) (y : Y) → Pairs R xs ys
    → At xs k x → At ys k y → R x y
pairs_get R [] ys k x y h a b = absurd (none-some x a)
pairs_get R (z ∷ zs) [] k x y h a b = absurd h
pairs_get R (z ∷ zs) (w ∷ ws) zero x y h a b =
    subst (λ v. R x v) (same_Some w y b) (subst (λ v. R v w) (same_Some z x a) h.0)
pairs_get R (z ∷ zs) (w ∷ ws) (suc k) x y h a b = pairs_get R zs ws k x y h.1 a b

lone : (s t : List DatedRow) (y : DatedRow) (o : Option ℕ) → IsPartner t s y o → is_none o ≡ true → IsAlone s t y
lone s t y None partner h = λ x pair. partner x (swap_paired s t x y pair)
lone s t y (Some n) partner h = absurd (cc)

-- their next row is appended where it has no partner
pub push_step : (s t : List DatedRow) (p q : ℕ) (rows : List PairedRow) (y : DatedRow) (o : Option ℕ) → AreRising t
    → IsMergedTo s t p q rows → At t q y → IsPartner t s y o → is_none o ≡ true → IsBeforeAll s p t q
    → IsMergedTo s t p (q + 1) (rows ++ row_of_theirs y ∷ [])
push_step s t p q rows y o rising h at partner none low =
    merged_theirs s t p q rows y rising h at (lone s t y o partner none) (λ k x less atx. low k x y less atx at)

-- their next row is passed over where it has a partner
pub skip_step : (s t : List DatedRow) (p q : ℕ) (rows : List PairedRow) (y : DatedRow) (o : Option ℕ)
    → IsMergedTo s t p q rows → At t q y → IsPartner t s y o → is_none o ≡ false → IsMergedTo s t p (q + 1) rows
skip_step s t p q rows y None h at partner some = absurd (cc)
skip_step s t p q rows y (Some n) h at partner some =
    merged_skip s t p q rows partner.0 y h at (swap_paired t s y partner.0 partner.1)

-- the walk stops at the first row of theirs that is not earlier than our next row
pub stopped_before : (s t : List DatedRow) (p q : ℕ) (rows : List PairedRow) → AreRising t → IsMergedTo s t p q rows
    → q < length t → IsNotBefore s p t q → IsMergedBefore s t p q rows
stopped_before s t p q rows rising h within next = record {
  merged = h;
  not_before = λ k x y low atx aty.
      let z = get_or t q y in
      let atz = slice_get-get_or t q y within in
      let a = next.1 x z atx atz in
      let b = least t q k z y rising atz low aty in
      omega (arith, signed_arith, a, b);
  all = λ e. let l = next.0 in absurd (omega (arith, l, e));
}

-- the walk stops where their rows end
pub stopped_at_end : (s t : List DatedRow) (p q : ℕ) (rows : List PairedRow) → IsMergedTo s t p q rows → length t ≤ q
    → IsMergedBefore s t p q rows
stopped_at_end s t p q rows h past = record {
  merged = h;
  not_before = λ k x y low atx aty. let l = slice_get_within t k y aty in absurd (omega (arith, low, past, l));
  all = λ e. past;
}

-- once our rows end, both lists are merged
pub merged_end : (s t : List DatedRow) (q : ℕ) (rows : List PairedRow) → IsMergedBefore s t (length s) q rows
    → IsMergedTo s t (length s) (length t) rows
merged_end s t q rows h =
    let past = h.all refl in
    record {
      sound = h.merged.sound;
      of_ours = h.merged.of_ours;
      of_theirs = λ k y less at alone. h.merged.of_theirs k y (omega (arith, less, past)) at alone;
      in_order = h.merged.in_order;
      before_ours = h.merged.before_ours;
      before_theirs = λ m c k y low at. let l = slice_get_within t k y at in absurd (omega (arith, low, l));
    }

-- the partner of one more row of ours
pub row_more : (s t : List DatedRow) (k : ℕ) (partners : List (Option ℕ)) (o : Option ℕ) → k < length s
    → Pairs (IsPartner s t) (take k s) partners → ((x : DatedRow) → At s k x → IsPartner s t x o)
    → Pairs (IsPartner s t) (take (k + 1) s) (partners ++ o ∷ [])
row_more [] t k partners o within h partner = absurd (omega (arith, within))
row_more (z ∷ zs) t k partners o within h partner =
    let x = get_or (z ∷ zs) k z in
    let at = slice_get-get_or (z ∷ zs) k z within in
    pairs_more (IsPartner (z ∷ zs) t) (z ∷ zs) k partners x o at h (partner x at)

-- ---- which row comes first

-- where their row is earlier than our next row, it is earlier than all our rows from there on
pub before_all : (s t : List DatedRow) (p q : ℕ) (x y : DatedRow) → AreRising s → At s p x → At t q y
    → is_lt (int_cmp y.day x.day) ≡ true → IsBeforeAll s p t q
before_all s t p q x y rising atx aty h = λ k a b low ata atb.
    let less = lt_true y.day x.day h in
    let more = least s p k x a rising atx low ata in
    let same = ap (λ (r : DatedRow). r.day) (one_at t q y b aty atb) in
    omega (arith, signed_arith, less, more, same)

-- where their row isn't earlier than our next row, the walk stops there
pub none_before : (s t : List DatedRow) (p q : ℕ) (x y : DatedRow) → p < length s → At s p x → At t q y
    → is_lt (int_cmp y.day x.day) ≡ false → IsNotBefore s p t q
none_before s t p q x y within atx aty h = (
  within,
  λ a b ata atb.
      let more = lt_false y.day x.day h in
      let e = ap (λ (r : DatedRow). r.day) (one_at s p x a atx ata) in
      let f = ap (λ (r : DatedRow). r.day) (one_at t q y b aty atb) in
      omega (arith, signed_arith, more, e, f),
)

-- a row of ours is appended with its partner, after the rows of theirs that come first
pub push_ours : (s t : List DatedRow) (p q : ℕ) (rows : List PairedRow) (partners : List (Option ℕ)) (m : PairedRow)
    → AreRising s → Pairs (IsPartner s t) s partners → IsMergedBefore s t p q rows → p < length s
    → ((x : DatedRow) (o : Option ℕ) → At s p x → At partners p o → m ≡ row_of_ours x o)
    → IsMergedTo s t (p + 1) q (rows ++ m ∷ [])
push_ours [] t p q rows partners m rising paired h within is = absurd (omega (arith, within))
push_ours (z ∷ zs) t p q rows partners m rising paired h within is =
    let same = pairs_length (IsPartner (z ∷ zs) t) (z ∷ zs) partners paired in
    let x = get_or (z ∷ zs) p z in
    let o = get_or partners p None in
    let atx = slice_get-get_or (z ∷ zs) p z within in
    let ato = slice_get-get_or partners p None (omega (arith, within, same)) in
    let partner = pairs_get (IsPartner (z ∷ zs) t) (z ∷ zs) partners p x o paired atx ato in
    subst (λ (n : PairedRow). IsMergedTo (z ∷ zs) t (p + 1) q (rows ++ n ∷ [])) (sym (is x o atx ato))
    (merged_ours (z ∷ zs) t p q rows x o rising h.merged atx partner
    (λ k y low aty. h.not_before k x y low atx aty))

-- their next row is passed over where its entry in the list of partners is not empty
pub skip_there : (s t : List DatedRow) (p q : ℕ) (rows : List PairedRow) (partners : List (Option ℕ)) (o : Option ℕ)
    → IsMergedTo s t p q rows → Pairs (IsPartner t s) t partners → At partners q o → is_none o ≡ false
    → IsMergedTo s t p (q + 1) rows
skip_there s [] p q rows partners o h paired ato some =
    let same = pairs_length (IsPartner [] s) [] partners paired in
    let l = slice_get_within partners q o ato in absurd (omega (arith, same, l))
skip_there s (z ∷ zs) p q rows partners o h paired ato some =
    let same = pairs_length (IsPartner (z ∷ zs) s) (z ∷ zs) partners paired in
    let l = slice_get_within partners q o ato in
    let y = get_or (z ∷ zs) q z in
    let at = slice_get-get_or (z ∷ zs) q z (omega (arith, same, l)) in
    skip_step s (z ∷ zs) p q rows y o h at
    (pairs_get (IsPartner (z ∷ zs) s) (z ∷ zs) partners q y o paired at ato) some
