-- From the merged rows to all that is listed.
use Rattle.std.proofs.Common.{◌≡◌, ◌≢◌, ◌⊎◌, inl, inr, ⊎_elim, ℕ, ◌+◌, ◌<◌, ◌≤◌, List, [], ◌∷◌, ◌++◌, length, Option, Some, None}
use Rattle.std.proofs.Common.{ℤ, ◌<ℤ◌, arith, refl, sym, subst, ap, ◌∙◌, is_none, true, false}
use Rattle.std.specs.List.{Contains}
use Rattle.std.specs.List.Sorted.{IsPermutation}
use Rattle.std.proofs.lemmas.Bool.{cases_lt}
use Rattle.std.proofs.lemmas.List.Elements.{Contains-append_left, Contains-push}
use Rattle.std.proofs.lemmas.List.Sorted.{Contains-permutation, IsPermutation-sym}
use Rattle.std.proofs.lemmas.Option.{none-some, slice_get_within}
use Rattle.irs_breaks.specs.Pairing.{At, rows_from, Ahead, ComesBefore, IsListedRow, IsPairing, row_of_ours, extra}
use Rattle.irs_breaks.specs.Pairing.{missing, paired, undated, undated_extra, undated_ours, undated_theirs, ArePaired}
use Rattle.irs_breaks.specs.Private.Blocks.{IsPartner, IsDatedRow, IsMergedTo, AreListedTo, ListsUndated}
use Rattle.irs_breaks.specs.Private.Blocks.{ListsUndatedExtras}
use Rattle.irs_breaks.specs.declared.dated.DatedRow.{DatedRow}
use Rattle.irs_breaks.specs.declared.dated.PairedRow.{PairedRow}
use Rattle.irs_breaks.proofs.Arrangements.{arranged_paired, paired_back}
use Rattle.irs_breaks.proofs.BlockLemmas.{at_contains}
use Rattle.irs_breaks.proofs.PairLaws.{one_partner}
use Rattle.irs_breaks.proofs.Merging.{order_push, push_every}

-- a merged row is listed, where the merged lists are those of the dates in order
listed_row : (from : ℤ) (ours theirs : List (Option ℤ)) (s t : List DatedRow) (m : PairedRow)
    → IsPermutation (rows_from from 0 ours) s → IsPermutation (rows_from from 0 theirs) t → IsDatedRow s t m
    → IsListedRow from ours theirs m
listed_row from ours theirs s t m a b (inl (x, None, inside, alone, is)) =
    missing x (Contains-permutation s (rows_from from 0 ours) x (IsPermutation-sym _ s a) inside)
    (λ y h. alone y (arranged_paired (rows_from from 0 ours) s (rows_from from 0 theirs) t x y a b h)) is
listed_row from ours theirs s t m a b (inl (x, Some n, inside, partner, is)) =
    paired x partner.0 (paired_back (rows_from from 0 ours) s (rows_from from 0 theirs) t x partner.0 a b partner.1)
    (is ∙ ap (λ (k : ℕ). row_of_ours x (Some k)) partner.2)
listed_row from ours theirs s t m a b (inr (y, inside, alone, is)) =
    extra y (Contains-permutation t (rows_from from 0 theirs) y (IsPermutation-sym _ t b) inside)
    (λ x h. alone x (arranged_paired (rows_from from 0 ours) s (rows_from from 0 theirs) t x y a b h)) is

-- a row of ours is listed with its partner
has_pair : (s t : List DatedRow) (rows : List PairedRow) (x y : DatedRow) (o : Option ℕ) → ArePaired s t x y
    → IsPartner s t x o → Contains rows (row_of_ours x o) → Contains rows (row_of_ours x (Some y.place))
has_pair s t rows x y None h alone c = absurd (alone y h)
has_pair s t rows x y (Some n) h partner c =
    let same : partner.0 ≡ y = one_partner s t x partner.0 y partner.1 h in
    subst (λ (k : ℕ). Contains rows (row_of_ours x (Some k))) (partner.2 ∙ ap (λ (z : DatedRow). z.place) same) c

has_none : (s t : List DatedRow) (rows : List PairedRow) (x : DatedRow) (o : Option ℕ)
    → ((y : DatedRow) → ¬ (ArePaired s t x y)) → IsPartner s t x o → Contains rows (row_of_ours x o)
    → Contains rows (row_of_ours x None)
has_none s t rows x None alone partner c = c
has_none s t rows x (Some n) alone partner c = absurd (alone partner.0 partner.1)

-- each listed row with a date is among the merged rows
dated_row : (from : ℤ) (ours theirs : List (Option ℤ)) (s t : List DatedRow) (rows : List PairedRow)
    → IsPermutation (rows_from from 0 ours) s → IsPermutation (rows_from from 0 theirs) t
    → IsMergedTo s t (length s) (length t) rows → (m : PairedRow) → IsListedRow from ours theirs m → m.day ≢ None
    → Contains rows m
dated_row from ours theirs s t rows a b h m (paired x y pair is) day =
    let here = arranged_paired (rows_from from 0 ours) s (rows_from from 0 theirs) t x y a b pair in
    let place = at_contains s x here.one_of_ours in
    let there = h.of_ours place.0 x (slice_get_within s place.0 x place.1) place.1 in
    subst (Contains rows) (sym is) (has_pair s t rows x y there.0 here there.1 there.2)
dated_row from ours theirs s t rows a b h m (missing x inside alone is) day =
    let place = at_contains s x (Contains-permutation (rows_from from 0 ours) s x a inside) in
    let there = h.of_ours place.0 x (slice_get_within s place.0 x place.1) place.1 in
    subst (Contains rows) (sym is) (has_none s t rows x there.0
    (λ y k. alone y (paired_back (rows_from from 0 ours) s (rows_from from 0 theirs) t x y a b k)) there.1 there.2)
dated_row from ours theirs s t rows a b h m (extra y inside alone is) day =
    let place = at_contains t y (Contains-permutation (rows_from from 0 theirs) t y b inside) in
    subst (Contains rows) (sym is) (h.of_theirs place.0 y (slice_get_within t place.0 y place.1) place.1
    (λ x k. alone x (paired_back (rows_from from 0 ours) s (rows_from from 0 theirs) t x y a b k)))
dated_row from ours theirs s t rows a b h m (undated n at is) day =
    absurd (day (ap (λ (r : PairedRow). r.day) is))
dated_row from ours theirs s t rows a b h m (undated_extra n at is) day =
    absurd (day (ap (λ (r : PairedRow). r.day) is))

-- a row with a date comes before each without
dated_first : (s t : List DatedRow) (m n : PairedRow) → IsDatedRow s t m → n.day ≡ None → ComesBefore m n
dated_first s t m n (inl (x, o, inside, partner, is)) none =
    let first : Ahead ◌<ℤ◌ (Some x.day) None (Ahead ◌<◌ m.ours n.ours (Ahead ◌<◌ m.theirs n.theirs ⊥)) = tt in
    subst (λ (d : Option ℤ). Ahead ◌<ℤ◌ d n.day (Ahead ◌<◌ m.ours n.ours (Ahead ◌<◌ m.theirs n.theirs ⊥)))
    (sym (ap (λ (r : PairedRow). r.day) is))
    (subst (λ (d : Option ℤ). Ahead ◌<ℤ◌ (Some x.day) d (Ahead ◌<◌ m.ours n.ours (Ahead ◌<◌ m.theirs n.theirs ⊥)))
    (sym none) first)
dated_first s t m n (inr (y, inside, alone, is)) none =
    let first : Ahead ◌<ℤ◌ (Some y.day) None (Ahead ◌<◌ m.ours n.ours (Ahead ◌<◌ m.theirs n.theirs ⊥)) = tt in
    subst (λ (d : Option ℤ). Ahead ◌<ℤ◌ d n.day (Ahead ◌<◌ m.ours n.ours (Ahead ◌<◌ m.theirs n.theirs ⊥)))
    (sym (ap (λ (r : PairedRow). r.day) is))
    (subst (λ (d : Option ℤ). Ahead ◌<ℤ◌ (Some y.day) d (Ahead ◌<◌ m.ours n.ours (Ahead ◌<◌ m.theirs n.theirs ⊥)))
    (sym none) first)

-- the merged rows list all rows with a date, and none without
pub listed_start : (from : ℤ) (ours theirs : List (Option ℤ)) (s t : List DatedRow) (rows : List PairedRow)
    → IsPermutation (rows_from from 0 ours) s → IsPermutation (rows_from from 0 theirs) t
    → IsMergedTo s t (length s) (length t) rows → AreListedTo from ours theirs 0 0 rows
listed_start from ours theirs s t rows a b h = record {
  sound = λ m c. listed_row from ours theirs s t m a b (h.sound m c);
  dated = λ m is day. dated_row from ours theirs s t rows a b h m is day;
  of_ours = λ n l at. absurd (omega (arith, l));
  of_theirs = λ n l at. absurd (omega (arith, l));
  in_order = h.in_order;
  before_ours = λ m c n low high. dated_first s t m (undated_ours n) (h.sound m c) refl;
  before_theirs = λ m c n low. dated_first s t m (undated_theirs n) (h.sound m c) refl;
}

-- ---- one more row without a date

other : (d : ℤ) → Some None ≡ Some (Some d) → ⊥
other d e = cc

earlier_or : (i n : ℕ) → n < i + 1 → (n < i) ⊎ (n ≡ i)
earlier_or i n l = ⊎_elim (λ (a : n < i). inl a) (λ (b : i ≤ n). inr (omega (arith, l, b))) (cases_lt n i)

-- our next row without a date is listed
pub listed_ours : (from : ℤ) (ours theirs : List (Option ℤ)) (i : ℕ) (rows : List PairedRow)
    → AreListedTo from ours theirs i 0 rows → At ours i None
    → AreListedTo from ours theirs (i + 1) 0 (rows ++ undated_ours i ∷ [])
listed_ours from ours theirs i rows h at = record {
  sound = push_every (IsListedRow from ours theirs) rows (undated_ours i) h.sound (undated i at refl);
  dated = λ m is day. Contains-append_left rows (undated_ours i ∷ []) m (h.dated m is day);
  of_ours = λ n l atn. elim (earlier_or i n l) [
    | inl old ↦ Contains-append_left rows (undated_ours i ∷ []) (undated_ours n) (h.of_ours n old atn)
    | inr new ↦ subst (λ (k : ℕ). Contains (rows ++ undated_ours i ∷ []) (undated_ours k)) (sym new)
        (Contains-push rows (undated_ours i))
  ];
  of_theirs = λ n l atn. absurd (omega (arith, l));
  in_order = order_push rows (undated_ours i) h.in_order
      (λ m c. h.before_ours m c i (omega arith) (slice_get_within ours i None at));
  before_ours = push_every (λ (m : PairedRow). (n : ℕ) → i + 1 ≤ n → n < length ours → ComesBefore m (undated_ours n)) rows
      (undated_ours i) (λ m c n low high. h.before_ours m c n (omega (arith, low)) high)
      (λ n low high. inl (omega (arith, low)));
  before_theirs = push_every (λ (m : PairedRow). (n : ℕ) → 0 ≤ n → ComesBefore m (undated_theirs n)) rows (undated_ours i)
      h.before_theirs (λ n low. tt);
}

-- our next row has a date and is already listed
pub listed_skip : (from : ℤ) (ours theirs : List (Option ℤ)) (i : ℕ) (rows : List PairedRow) (d : ℤ)
    → AreListedTo from ours theirs i 0 rows → At ours i (Some d) → AreListedTo from ours theirs (i + 1) 0 rows
listed_skip from ours theirs i rows d h at = record {
  sound = h.sound;
  dated = h.dated;
  of_ours = λ n l atn. elim (earlier_or i n l) [
    | inl old ↦ h.of_ours n old atn
    | inr new ↦ absurd (other d (sym (subst (λ (k : ℕ). At ours k None) new atn) ∙ at))
  ];
  of_theirs = λ n l atn. absurd (omega (arith, l));
  in_order = h.in_order;
  before_ours = λ m c n low high. h.before_ours m c n (omega (arith, low)) high;
  before_theirs = h.before_theirs;
}

-- their next row without a date is listed
pub listed_theirs : (from : ℤ) (ours theirs : List (Option ℤ)) (j : ℕ) (rows : List PairedRow)
    → AreListedTo from ours theirs (length ours) j rows → At theirs j None
    → AreListedTo from ours theirs (length ours) (j + 1) (rows ++ undated_theirs j ∷ [])
listed_theirs from ours theirs j rows h at = record {
  sound = push_every (IsListedRow from ours theirs) rows (undated_theirs j) h.sound (undated_extra j at refl);
  dated = λ m is day. Contains-append_left rows (undated_theirs j ∷ []) m (h.dated m is day);
  of_ours = λ n l atn. Contains-append_left rows (undated_theirs j ∷ []) (undated_ours n) (h.of_ours n l atn);
  of_theirs = λ n l atn. elim (earlier_or j n l) [
    | inl old ↦ Contains-append_left rows (undated_theirs j ∷ []) (undated_theirs n) (h.of_theirs n old atn)
    | inr new ↦ subst (λ (k : ℕ). Contains (rows ++ undated_theirs j ∷ []) (undated_theirs k)) (sym new)
        (Contains-push rows (undated_theirs j))
  ];
  in_order = order_push rows (undated_theirs j) h.in_order (λ m c. h.before_theirs m c j (omega arith));
  before_ours = λ m c n low high. absurd (omega (arith, low, high));
  before_theirs = push_every (λ (m : PairedRow). (n : ℕ) → j + 1 ≤ n → ComesBefore m (undated_theirs n)) rows
      (undated_theirs j) (λ m c n low. h.before_theirs m c n (omega (arith, low))) (λ n low. inl (omega (arith, low)));
}

-- their next row has a date and is already listed
pub listed_theirs_skip : (from : ℤ) (ours theirs : List (Option ℤ)) (j : ℕ) (rows : List PairedRow) (d : ℤ)
    → AreListedTo from ours theirs (length ours) j rows → At theirs j (Some d)
    → AreListedTo from ours theirs (length ours) (j + 1) rows
listed_theirs_skip from ours theirs j rows d h at = record {
  sound = h.sound;
  dated = h.dated;
  of_ours = h.of_ours;
  of_theirs = λ n l atn. elim (earlier_or j n l) [
    | inl old ↦ h.of_theirs n old atn
    | inr new ↦ absurd (other d (sym (subst (λ (k : ℕ). At theirs k None) new atn) ∙ at))
  ];
  in_order = h.in_order;
  before_ours = h.before_ours;
  before_theirs = λ m c n low. h.before_theirs m c n (omega (arith, low));
}

whole : (from : ℤ) (ours theirs : List (Option ℤ)) (rows : List PairedRow)
    → AreListedTo from ours theirs (length ours) (length theirs) rows → (m : PairedRow) → IsListedRow from ours theirs m
    → Contains rows m
whole from ours theirs rows h m (paired x y pair is) =
    h.dated m (paired x y pair is) (λ e. none-some x.day (sym e ∙ ap (λ (r : PairedRow). r.day) is))
whole from ours theirs rows h m (missing x inside alone is) =
    h.dated m (missing x inside alone is) (λ e. none-some x.day (sym e ∙ ap (λ (r : PairedRow). r.day) is))
whole from ours theirs rows h m (extra y inside alone is) =
    h.dated m (extra y inside alone is) (λ e. none-some y.day (sym e ∙ ap (λ (r : PairedRow). r.day) is))
whole from ours theirs rows h m (undated n at is) =
    subst (Contains rows) (sym is) (h.of_ours n (slice_get_within ours n None at) at)
whole from ours theirs rows h m (undated_extra n at is) =
    subst (Contains rows) (sym is) (h.of_theirs n (slice_get_within theirs n None at) at)

-- once all rows without a date are added, the rows are the pairing
pub listed_all : (from : ℤ) (ours theirs : List (Option ℤ)) (rows : List PairedRow)
    → AreListedTo from ours theirs (length ours) (length theirs) rows → IsPairing from ours theirs rows
listed_all from ours theirs rows h = record {
  sound = h.sound;
  complete = λ m is. whole from ours theirs rows h m is;
  in_order = h.in_order;
}

-- ---- rows with and without a date

-- our next row is added where it has no date
pub ours_push : (ours : List (Option ℤ)) (old rows : List PairedRow) (i : ℕ) (date : Option ℤ) → At ours i date
    → is_none date ≡ true → ListsUndated ours old rows i → ListsUndated ours old (rows ++ undated_ours i ∷ []) (i + 1)
ours_push ours old rows i None at none h = λ from theirs start. listed_ours from ours theirs i rows (h from theirs start) at
ours_push ours old rows i (Some d) at none h = absurd (cc)

-- our next row is left out where it has a date
pub ours_skip : (ours : List (Option ℤ)) (old rows : List PairedRow) (i : ℕ) (date : Option ℤ) → At ours i date
    → is_none date ≡ false → ListsUndated ours old rows i → ListsUndated ours old rows (i + 1)
ours_skip ours old rows i None at some h = absurd (cc)
ours_skip ours old rows i (Some d) at some h =
    λ from theirs start. listed_skip from ours theirs i rows d (h from theirs start) at

-- their next row is added where it has no date
pub theirs_push : (theirs : List (Option ℤ)) (old rows : List PairedRow) (j : ℕ) (date : Option ℤ) → At theirs j date
    → is_none date ≡ true → ListsUndatedExtras theirs old rows j
    → ListsUndatedExtras theirs old (rows ++ undated_theirs j ∷ []) (j + 1)
theirs_push theirs old rows j None at none h =
    λ from ours start. listed_theirs from ours theirs j rows (h from ours start) at
theirs_push theirs old rows j (Some d) at none h = absurd (cc)

-- their next row is left out where it has a date
pub theirs_skip : (theirs : List (Option ℤ)) (old rows : List PairedRow) (j : ℕ) (date : Option ℤ) → At theirs j date
    → is_none date ≡ false → ListsUndatedExtras theirs old rows j → ListsUndatedExtras theirs old rows (j + 1)
theirs_skip theirs old rows j None at some h = absurd (cc)
theirs_skip theirs old rows j (Some d) at some h =
    λ from ours start. listed_theirs_skip from ours theirs j rows d (h from ours start) at

-- ---- the parts of the pairing, one after another

-- the merged rows, followed by the rows without a date, are the pairing
pub paired_all : (from : ℤ) (ours theirs : List (Option ℤ)) (s t : List DatedRow) (rows longer all : List PairedRow)
    → IsPermutation (rows_from from 0 ours) s → IsPermutation (rows_from from 0 theirs) t
    → IsMergedTo s t (length s) (length t) rows → ListsUndated ours rows longer (length ours)
    → ListsUndatedExtras theirs longer all (length theirs) → IsPairing from ours theirs all
paired_all from ours theirs s t rows longer all a b merged ours_more theirs_more =
    listed_all from ours theirs all
    (theirs_more from ours (ours_more from theirs (listed_start from ours theirs s t rows a b merged)))
