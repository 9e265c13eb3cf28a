-- Where nothing breaks and nothing is unstated each row has a partner.
use Rattle.std.proofs.Common.{◌≡◌, ◌⊎◌, inl, inr, ℕ, zero, suc, ◌+◌, true, List, [], ◌∷◌, length, map}
use Rattle.std.proofs.Common.{Option, Some, None, ℤ, arith, refl, sym, subst, ap, ◌∙◌}
use Rattle.std.specs.Prelude.{slice_get, option_map, IfSome}
use Rattle.std.specs.List.{Contains}
use Rattle.std.proofs.lemmas.Option.{cond_some, none-some, same_Some, slice_get-get_or, slice_get-map}
use Rattle.irs_breaks.specs.Pairing.{dated_row, in_front, is_due, rows_from, IsListedRow, row_of_ours, row_of_theirs}
use Rattle.irs_breaks.specs.Pairing.{undated_theirs, extra, missing, paired, undated_extra, ArePaired}
use Rattle.irs_breaks.specs.Findings.{Findings, OnRow, RowAt}
use Rattle.irs_breaks.specs.BreakLists.{FindsRows}
use Rattle.irs_breaks.specs.declared.dated.DatedRow.{DatedRow}
use Rattle.irs_breaks.specs.declared.dated.PairedRow.{PairedRow}
use Rattle.irs_breaks.proofs.Quiet.{IsQuiet, quiet_up_to}

-- ---- the rows of a list of dates

-- a row of a list stays one where another may come before it
front_more : (o : Option DatedRow) (rows : List DatedRow) (r : DatedRow) → Contains rows r → Contains (in_front o rows) r
front_more None rows r c = c
front_more (Some x) rows r c = let low = c.1 in (suc c.0, omega (arith, low), c.2)

-- a row is that in front or one of the others
front_of : (o : Option DatedRow) (rows : List DatedRow) (r : DatedRow) → Contains (in_front o rows) r
    → (o ≡ Some r) ⊎ Contains rows r
front_of None rows r c = inr c
front_of (Some x) rows r (zero, low, is) = inl (ap (λ (z : DatedRow). Some z) is)
front_of (Some x) rows r (suc k, low, is) = inr (k, omega (arith, low), is)

-- a date that is due gives the row in front
front_due : (from : ℤ) (d : ℤ) (n : ℕ) (rows : List DatedRow) → is_due from d ≡ true
    → Contains (in_front (dated_row from (Some d) n) rows) (record { day = d; place = n })
front_due from d n rows due = rw due (zero, omega arith, refl)

-- a stated date that is due is a row at its place
row_at : (from : ℤ) (dates : List (Option ℤ)) (n k place : ℕ) (d : ℤ) → slice_get dates k ≡ Some (Some d)
    → is_due from d ≡ true → place ≡ n + k → Contains (rows_from from n dates) (record { day = d; place = place })
unfolding rows_from
row_at from [] n k place d at due is = absurd (none-some (Some d) at)
row_at from (date ∷ dates) n zero place d at due is =
    let first : date ≡ Some d = same_Some date (Some d) at in
    let here : n ≡ place = omega (arith, is) in
    subst (λ (z : Option ℤ). Contains (in_front (dated_row from z n) (rows_from from (n + 1) dates)) (record { day = d; place = place }))
    (sym first)
    (subst (λ (j : ℕ). Contains (in_front (dated_row from (Some d) n) (rows_from from (n + 1) dates)) (record { day = d; place = j }))
    here (front_due from d n (rows_from from (n + 1) dates) due))
row_at from (date ∷ dates) n (suc k) place d at due is =
    front_more (dated_row from date n) (rows_from from (n + 1) dates) (record { day = d; place = place })
    (row_at from dates (n + 1) k place d at due (omega (arith, is)))

-- the date and the place of a row
date_of_row : (from : ℤ) (date : Option ℤ) (n : ℕ) (r : DatedRow) → dated_row from date n ≡ Some r
    → (date ≡ Some r.day) × (r.place ≡ n)
date_of_row from None n r h = absurd (none-some r h)
date_of_row from (Some d) n r h =
    let is = cond_some (is_due from d) (record { day = d; place = n }) r h in
    (ap (λ (z : DatedRow). Some z.day) is.1, sym (ap (λ (z : DatedRow). z.place) is.1))

-- each row has its date at its place
place_of_row : (from : ℤ) (dates : List (Option ℤ)) (n : ℕ) (r : DatedRow) → Contains (rows_from from n dates) r
    → (k : ℕ) × (r.place ≡ n + k) × (slice_get dates k ≡ Some (Some r.day))
unfolding rows_from
place_of_row from [] n r c = let low = c.1 in absurd (omega (arith, low))
place_of_row from (date ∷ dates) n r c = elim (front_of (dated_row from date n) (rows_from from (n + 1) dates) r c) [
  | inl first ↦
      let is = date_of_row from date n r first in
      let at = is.1 in
      (zero, omega (arith, at), ap (λ (z : Option ℤ). Some z) is.0)
  | inr later ↦
      let rest = place_of_row from dates (n + 1) r later in
      let at = rest.1 in
      (suc rest.0, omega (arith, at), rest.2)
]

-- so it is the date at the place of the row
date_at : (from : ℤ) (dates : List (Option ℤ)) (r : DatedRow) → Contains (rows_from from 0 dates) r
    → slice_get dates r.place ≡ Some (Some r.day)
date_at from dates r c =
    let row = place_of_row from dates 0 r c in
    let at = row.1 in
    let same : row.0 ≡ r.place = omega (arith, at) in
    subst (λ (k : ℕ). slice_get dates k ≡ Some (Some r.day)) same row.2

-- ---- all rows have partners

-- each listed row reports nothing, where all of them together do
quiet_row : (from : ℤ) (ours theirs : List (Option ℤ)) (Told : PairedRow → Findings → Type 0) (l : Findings)
    → FindsRows from ours theirs Told l → IsQuiet l → (m : PairedRow) → IsListedRow from ours theirs m
    → (a : Findings) × Told m a × IsQuiet a
quiet_row from ours theirs Told l h q m listed =
    let c = h.paired.complete m listed in
    let at : slice_get h.rows c.0 ≡ Some m =
    slice_get-get_or h.rows c.0 m c.1 ∙ ap (λ (z : PairedRow). Some z) c.2 in
    let row = quiet_up_to (RowAt Told h.rows) (length h.rows) l h.each q c.0 c.1 in
    (row.0, subst (λ (o : Option PairedRow). OnRow Told o row.0) at row.1, row.2)

-- Rows of two lists with dates: they report nothing, and a row alone would break.
pub record AreQuiet {X Y : Type 0} (from : ℤ) (xs : List X) (ys : List Y) (day : X → ℤ) (stated : Y → Option ℤ)
    (Told : PairedRow → Findings → Type 0) : Type 0 where
  pub all : Findings
  pub are_told : FindsRows from (map (λ (x : X). Some (day x)) xs) (map stated ys) Told all
  pub quiet : IsQuiet all
  pub our_dates : (n : ℕ) (x : X) → slice_get xs n ≡ Some x → is_due from (day x) ≡ true
  pub their_dates : (n : ℕ) (y : Y) → slice_get ys n ≡ Some y → IfSome (stated y) (λ d. is_due from d ≡ true)
  pub missing : (n : ℕ) (x : X) (d : ℤ) (a : Findings) → slice_get xs n ≡ Some x
      → Told (record { day = Some d; ours = Some n; theirs = None }) a → IsQuiet a → ⊥
  pub extra : (n : ℕ) (y : Y) (date : Option ℤ) (a : Findings) → slice_get ys n ≡ Some y
      → Told (record { day = date; ours = None; theirs = Some n }) a → IsQuiet a → ⊥

-- a member whose date is listed
member_of : {X : Type 0} (f : X → Option ℤ) (xs : List X) (n : ℕ) (date : Option ℤ) → slice_get (map f xs) n ≡ Some date
    → (x : X) × (slice_get xs n ≡ Some x) × (f x ≡ date)
member_of f [] n date h = absurd (none-some date h)
member_of f (x ∷ xs) zero date h = (x, refl, same_Some (f x) date h)
member_of f (x ∷ xs) (suc n) date h = member_of f xs n date h

-- the date of a member is listed
date_of : {X : Type 0} (f : X → Option ℤ) (xs : List X) (n : ℕ) (x : X) → slice_get xs n ≡ Some x
    → slice_get (map f xs) n ≡ Some (f x)
date_of f xs n x at = slice_get-map f xs n ∙ ap (λ (o : Option _). option_map f o) at

module _ {X Y : Type 0} (from : ℤ) (xs : List X) (ys : List Y) (day : X → ℤ) (stated : Y → Option ℤ)
    (Told : PairedRow → Findings → Type 0) (h : AreQuiet from xs ys day stated Told) where
  -- each row of ours has a partner, and the pair reports nothing
  pub has_partner : (n : ℕ) (x : X) → slice_get xs n ≡ Some x
      → ((s : DatedRow) (y : Y) (a : Findings) → ArePaired (rows_from from 0 (map (λ (z : X). Some (day z)) xs)) (rows_from from 0 (map stated ys)) (record { day = day x; place = n }) s
      → slice_get ys s.place ≡ Some y → Told (record { day = Some (day x); ours = Some n; theirs = Some s.place }) a
      → IsQuiet a → ⊥) → ⊥
  has_partner n x at next =
      let c = row_at from (map (λ (z : X). Some (day z)) xs) 0 n n (day x) (date_of (λ (z : X). Some (day z)) xs n x at)
      (h.our_dates n x at) (omega arith) in
      let alone = quiet_row from (map (λ (z : X). Some (day z)) xs) (map stated ys) Told h.all h.are_told h.quiet
      (row_of_ours (record { day = day x; place = n }) None)
      (missing (record { day = day x; place = n }) c (λ s pair.
      let both = quiet_row from (map (λ (z : X). Some (day z)) xs) (map stated ys) Told h.all h.are_told h.quiet
      (row_of_ours (record { day = day x; place = n }) (Some s.place)) (paired (record { day = day x; place = n }) s pair refl) in
      let y = member_of stated ys s.place (Some s.day) (date_at from (map stated ys) s pair.one_of_theirs) in
      next s y.0 both.0 pair y.1 both.1 both.2) refl) in
      h.missing n x (day x) alone.0 at alone.1 alone.2

  -- each row of theirs has one, where its date is stated so
  is_partner_of : (date : Option ℤ) (n : ℕ) (y : Y) → slice_get ys n ≡ Some y → stated y ≡ date
      → IfSome date (λ d. is_due from d ≡ true)
      → ((r : DatedRow) (x : X) (d : ℤ) → ArePaired (rows_from from 0 (map (λ (z : X). Some (day z)) xs)) (rows_from from 0 (map stated ys)) r (record { day = d; place = n })
      → slice_get xs r.place ≡ Some x → ⊥) → ⊥
  is_partner_of None n y at is due next =
      let none : slice_get (map stated ys) n ≡ Some None = date_of stated ys n y at ∙ ap (λ (z : Option ℤ). Some z) is in
      let alone = quiet_row from (map (λ (z : X). Some (day z)) xs) (map stated ys) Told h.all h.are_told h.quiet
      (undated_theirs n) (undated_extra n none refl) in
      h.extra n y None alone.0 at alone.1 alone.2
  is_partner_of (Some d) n y at is due next =
      let there : slice_get (map stated ys) n ≡ Some (Some d) = date_of stated ys n y at ∙ ap (λ (z : Option ℤ). Some z) is in
      let c = row_at from (map stated ys) 0 n n d there due (omega arith) in
      let alone = quiet_row from (map (λ (z : X). Some (day z)) xs) (map stated ys) Told h.all h.are_told h.quiet
      (row_of_theirs (record { day = d; place = n })) (extra (record { day = d; place = n }) c (λ r pair.
      let x = member_of (λ (z : X). Some (day z)) xs r.place (Some r.day)
      (date_at from (map (λ (z : X). Some (day z)) xs) r pair.one_of_ours) in
      next r x.0 d pair x.1) refl) in
      h.extra n y (Some d) alone.0 at alone.1 alone.2

  -- each row of theirs has one
  pub is_partner : (n : ℕ) (y : Y) → slice_get ys n ≡ Some y
      → ((r : DatedRow) (x : X) (d : ℤ) → ArePaired (rows_from from 0 (map (λ (z : X). Some (day z)) xs)) (rows_from from 0 (map stated ys)) r (record { day = d; place = n })
      → slice_get xs r.place ≡ Some x → ⊥) → ⊥
  is_partner n y at next = is_partner_of (stated y) n y at refl (h.their_dates n y at) next
