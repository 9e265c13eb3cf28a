-- The text of derived rates is a fixing file that has exactly their rates.
use Rattle.std.proofs.Common.{◌≡◌, ◌≢◌, ◌⊎◌, ◌==◌, ℕ, zero, suc, ◌+◌, ◌-◌, ◌^◌, ◌<◌, ◌≤◌, List, [], ◌∷◌, ◌++◌, length}
use Rattle.std.proofs.Common.{map, All, inl, inr, Bool, true, false, Option, Some, ℤ, refl, sym, subst, ap, ◌∙◌, arith}
use Rattle.std.proofs.Common.{◌&&◌, append_assoc, codes}
use Rattle.std.specs.Prelude.{get_or, slice_get}
use Rattle.std.specs.List.{flat_map}
use Rattle.std.specs.Fmt.{decimal}
use Rattle.std.proofs.lemmas.Bool.{cases_Bool}
use Rattle.std.proofs.lemmas.Bool.Decides.{nat_tests}
use Rattle.jiff_core.proofs.SignedLemmas.{signed_arith}
use Rattle.irs_base.proofs.DecimalLemmas.{one_decimal}
use Rattle.irs_base.specs.Days.{IsDay}
use Rattle.irs_base.specs.Texts.{lines_of, with_byte, day_text, dec_text}
use Rattle.irs_calendar.specs.Grammar.{is_end_line, is_false_end, is_none, seen_from, seen_lines}
use Rattle.irs_calendar.specs.Private.Files.{EndsTruly}
use Rattle.irs_calendar.proofs.EndLemmas.{truly_seen}
use Rattle.irs_terms.specs.Lawful.{IsRate}
use Rattle.irs_terms.specs.declared.frequency.Frequency.{Frequency}
use Rattle.irs_resets.specs.FixingFiles.{Fixes, IsBad, IsFaulty, IsLine, Repeats, line_at, SpellsRate, is_passed}
use Rattle.irs_resets.specs.FixingFiles.{tenor_text}
use Rattle.irs_resets.specs.declared.store.Slot.{Slot}
use Rattle.irs_resets.proofs.FileLemmas.{passed_none}
use Rattle.irs_overnight.specs.Texts.{AreFixings, AreKept, HasRate, IsSmallFound, file_text, IsLawfulLine}
use Rattle.irs_overnight.specs.Texts.{derived_text_of, derived_row_fields}
use Rattle.irs_overnight.specs.declared.derived.DerivedRow.{DerivedRow}
use Rattle.irs_overnight.specs.declared.derived.Found.{Found}
use Rattle.irs_overnight.specs.declared.derived.Found.TheVariants.{Rate, Missing}
use Rattle.irs_overnight.proofs.LinesRead.{reads_as}
use Rattle.irs_base.proofs.VisibleTexts.{Visible, day_visible, digits_visible, spells_decimal}
use Rattle.irs_overnight.proofs.VisibleTexts.{rate_visible, tenor_visible}

-- ---- lines

-- no byte ends a line
abbrev NoBreak : List ℕ → Type 0
NoBreak [] = Unit {0}
NoBreak (x ∷ xs) = (32 ≤ x) × NoBreak xs

no_feed : (x : ℕ) → 32 ≤ x → (x == 10) ≡ false
no_feed x h = grind (arith, nat_tests)

no_return : (x : ℕ) → 32 ≤ x → (x == 13) ≡ false
no_return x h = grind (arith, nat_tests)

line_step : (a rest : List ℕ) → NoBreak a → lines_of (a ++ 10 ∷ rest) ≡ a ∷ lines_of rest
line_step [] rest h = refl
line_step (x ∷ a) rest h = rw (no_feed x h.0, no_return x h.0) (ap (with_byte x) (line_step a rest h.1))

break_append : (a b : List ℕ) → NoBreak a → NoBreak b → NoBreak (a ++ b)
break_append [] b h k = k
break_append (x ∷ a) b h k = (h.0, break_append a b h.1 k)

visible_unbroken : (a : List ℕ) → Visible a → NoBreak a
visible_unbroken [] h = tt
visible_unbroken (x ∷ a) h = let low = h.0 in (omega (arith, low), visible_unbroken a h.1)

all_unbroken : (a : List ℕ) → All (λ b. (32 ≤ b) × (b ≢ 127)) a → NoBreak a
all_unbroken [] h = tt
all_unbroken (x ∷ a) h = ((h 0 0 (omega arith)).0, all_unbroken a (λ k d low. h (suc k) d (omega (arith, low))))

space : 32 ≤ 32
space = omega arith

fields_unbroken : (row : DerivedRow) (found : Found) (tenor : Option Frequency) (index : List ℕ)
    → IsLawfulLine index tenor → IsSmallFound found → row.period < 2 ^ 32 → NoBreak (derived_row_fields row found tenor index)
fields_unbroken row (Rate x) tenor index lawful rate period =
    let a = visible_unbroken (day_text row.fixing) (day_visible row.fixing) in
    let b = visible_unbroken (dec_text x 9) (rate_visible x rate) in
    let c = visible_unbroken (tenor_text tenor) (tenor_visible tenor lawful.lasting) in
    let d = all_unbroken index lawful.named.2 in
    let ab = break_append (day_text row.fixing) (32 ∷ dec_text x 9) a (space, b) in
    let abc = break_append (day_text row.fixing ++ 32 ∷ dec_text x 9) (32 ∷ tenor_text tenor) ab (space, c) in
    break_append (day_text row.fixing ++ 32 ∷ dec_text x 9 ++ 32 ∷ tenor_text tenor) (32 ∷ index) abc (space, d)
fields_unbroken row (Missing d) tenor index lawful rate period =
    let number =
    visible_unbroken (decimal row.period)
    (digits_visible (decimal row.period) (spells_decimal row.period (omega (arith, period))).0) in
    let day = visible_unbroken (day_text d) (day_visible d) in
    let words : NoBreak (codes "# missing") = (
      omega arith,
      (
        omega arith,
        (omega arith, (omega arith, (omega arith, (omega arith, (omega arith, (omega arith, (omega arith, tt))))))),
      ),
    ) in
    break_append (codes "# missing" ++ 32 ∷ decimal row.period) (32 ∷ day_text d)
    (break_append (codes "# missing") (32 ∷ decimal row.period) words (space, number)) (space, day)

-- the line of a row
abbrev line_of : Option Frequency → List ℕ → DerivedRow → List ℕ
line_of tenor index row = derived_row_fields row row.found tenor index

text_is : (row : DerivedRow) (tenor : Option Frequency) (index : List ℕ)
    → derived_text_of row tenor index ≡ line_of tenor index row ++ 10 ∷ []
unfolding derived_text_of
text_is row tenor index = refl

kept_rest : (row : DerivedRow) (rows : List DerivedRow) → AreKept (row ∷ rows) → AreKept rows
kept_rest row rows h = record {
  days = λ k r at. h.days (suc k) r at;
  rates = λ k r at. h.rates (suc k) r at;
  periods = λ k r at. h.periods (suc k) r at;
  rise = λ j k r s low a b. h.rise (suc j) (suc k) r s (omega (arith, low)) a b;
}

module _ (tenor : Option Frequency) (index : List ℕ) (lawful : IsLawfulLine index tenor) where
  row_lines : (rows : List DerivedRow) → AreKept rows
      → lines_of (flat_map (λ row. derived_text_of row tenor index) rows) ≡ map (line_of tenor index) rows
  row_lines [] h = refl
  row_lines (row ∷ rows) h =
      let rest = flat_map (λ (r : DerivedRow). derived_text_of r tenor index) rows in
      let text : derived_text_of row tenor index ++ rest ≡ line_of tenor index row ++ 10 ∷ rest =
      ap (λ (t : List ℕ). t ++ rest) (text_is row tenor index)
      ∙ append_assoc (line_of tenor index row) (10 ∷ []) rest in
      let unbroken = fields_unbroken row row.found tenor index lawful (h.rates 0 row refl) (h.periods 0 row refl) in
      ap lines_of text ∙ line_step (line_of tenor index row) rest unbroken
      ∙ ap (λ (ls : List (List ℕ)). line_of tenor index row ∷ ls) (row_lines rows (kept_rest row rows h))

-- ---- the file

-- the first line of a fixing file
abbrev head_line : List ℕ
head_line = codes "# irs-fixings 1"

-- the lines of a fixing file with these rows
abbrev lines_by : List DerivedRow → Option Frequency → List ℕ → List (List ℕ)
lines_by rows tenor index = head_line ∷ map (line_of tenor index) rows

head_step : (rest : List ℕ) → lines_of (codes "# irs-fixings 1\n" ++ rest) ≡ head_line ∷ lines_of rest
head_step rest = refl

row_at : (tenor : Option Frequency) (index : List ℕ) (rows : List DerivedRow) (k : ℕ)
    → k < length (map (line_of tenor index) rows)
    → (row : DerivedRow) × (slice_get rows k ≡ Some row)
    × (get_or (map (line_of tenor index) rows) k [] ≡ line_of tenor index row)
row_at tenor index [] k low = absurd (omega (arith, low))
row_at tenor index (row ∷ rows) zero low = (row, refl, refl)
row_at tenor index (row ∷ rows) (suc k) low = row_at tenor index rows k (omega (arith, low))

at_row : (tenor : Option Frequency) (index : List ℕ) (rows : List DerivedRow) (k : ℕ) (row : DerivedRow)
    → slice_get rows k ≡ Some row → (k < length (map (line_of tenor index) rows))
    × (get_or (map (line_of tenor index) rows) k [] ≡ line_of tenor index row)
at_row tenor index [] k row at = absurd (cc)
at_row tenor index (x ∷ rows) zero row at = let e : x ≡ row = cc in (omega arith, ap (line_of tenor index) e)
at_row tenor index (x ∷ rows) (suc k) row at = let rest = at_row tenor index rows k row at in let low = rest.0 in
    (omega (arith, low), rest.1)

-- ---- no line of the file is an end line

-- none of these lines is an end line
abbrev NoEnds : List (List ℕ) → Type 0
NoEnds [] = Unit {0}
NoEnds (l ∷ ls) = (is_end_line l ≡ false) × NoEnds ls

ends_truly : (before : ℕ) (ls : List (List ℕ)) → NoEnds ls → EndsTruly before ls
ends_truly before [] h = tt
ends_truly before (l ∷ ls) h = (no_false_end (is_none ls) before l h.0, ends_truly (before + 1) ls h.1)
  where
    no_false_end : (last : Bool) (before : ℕ) (line : List ℕ) → is_end_line line ≡ false
        → (last && is_false_end before line) ≡ false
    no_false_end true before line e = rw e refl
    no_false_end false before line e = refl

-- an end line is a comment of a fixing file
end_passed : (line : List ℕ) → is_end_line line ≡ true → is_passed line ≡ true
end_passed [] e = absurd (cc)
end_passed (b ∷ bs) e = hash (b == 35) refl
  where
    hash : (h : Bool) → h ≡ (b == 35) → is_passed (b ∷ bs) ≡ true
    hash true s = rw (sym s) refl
    hash false s = absurd (let x = rw (sym s) at e in cc)

-- what spells a fixing is no end line
spelt_no_end : (line name : List ℕ) (slot : Slot) (rate : ℤ) → SpellsRate line name slot rate → is_end_line line ≡ false
spelt_no_end line name slot rate s = elim (cases_Bool (is_end_line line)) [
  | inl end ↦ absurd (passed_none line name slot rate (end_passed line end) s)
  | inr other ↦ other
]

row_no_end : (row : DerivedRow) (found : Found) (tenor : Option Frequency) (index : List ℕ) → IsDay row.fixing
    → IsLawfulLine index tenor → IsSmallFound found → is_end_line (derived_row_fields row found tenor index) ≡ false
row_no_end row (Rate x) tenor index day lawful small =
    spelt_no_end (derived_row_fields row (Rate x) tenor index) index (record { date = row.fixing; tenor = tenor }) x
    (reads_as row (Rate x) tenor index day lawful small)
row_no_end row (Missing d) tenor index day lawful small = refl

rows_no_ends : (tenor : Option Frequency) (index : List ℕ) → IsLawfulLine index tenor → (rows : List DerivedRow)
    → AreKept rows → NoEnds (map (line_of tenor index) rows)
rows_no_ends tenor index lawful [] h = tt
rows_no_ends tenor index lawful (row ∷ rows) h = (
  row_no_end row row.found tenor index (h.days 0 row refl) lawful (h.rates 0 row refl),
  rows_no_ends tenor index lawful rows (kept_rest row rows h),
)

-- a line is the first one, or that of a row
pub record IsRowLine (tenor : Option Frequency) (index : List ℕ) (rows : List DerivedRow) (n : ℕ) : Type 0 where
  pub place : ℕ
  pub row : DerivedRow
  pub number : n ≡ place + 2
  pub at : slice_get rows place ≡ Some row
  pub is : line_at (lines_by rows tenor index) n ≡ line_of tenor index row

which_line : (tenor : Option Frequency) (index : List ℕ) (rows : List DerivedRow) (n : ℕ)
    → IsLine (lines_by rows tenor index) n → (line_at (lines_by rows tenor index) n ≡ head_line)
    ⊎ IsRowLine tenor index rows n
which_line tenor index rows zero h = absurd (let low = h.0 in omega (arith, low))
which_line tenor index rows (suc zero) h = inl refl
which_line tenor index rows (suc (suc k)) h =
    let high = h.1 in
    let found = row_at tenor index rows k (omega (arith, high)) in
    let e : suc (suc k) - 1 ≡ suc k = omega arith in
    inr (record {
      place = k;
      row = found.0;
      number = omega arith;
      at = found.1;
      is = ap (λ (m : ℕ). get_or (lines_by rows tenor index) m []) e ∙ found.2;
    })

some_day : (a b : ℤ) → Some a ≡ Some b → a ≡ b
some_day a b e = cc

some_tenor : (a b : Option Frequency) → Some a ≡ Some b → a ≡ b
some_tenor a b e = cc

-- the slot of a date and a tenor
abbrev slot_of : ℤ → Option Frequency → Slot
slot_of d t = record { date = d; tenor = t }

-- a line spells one rate
one_spelt : (line name other : List ℕ) (slot : Slot) (d : ℤ) (t : Option Frequency) (x y : ℤ) → SpellsRate line name slot x
    → SpellsRate line other (slot_of d t) y → (name ≡ other) × (slot ≡ slot_of d t) × (x ≡ y)
one_spelt line name other slot d t x y p q =
    let date = some_day slot.date d (sym p.date ∙ q.date) in
    let tenor = some_tenor slot.tenor t (sym p.tenor ∙ q.tenor) in (
      p.rest ∙ sym q.rest,
      (λ i. slot_of (date i) (tenor i)),
      one_decimal _ 9 x y p.rate_text.decimal q.rate_text.decimal,
    )

module _ (tenor : Option Frequency) (index : List ℕ) (rows : List DerivedRow) (lawful : IsLawfulLine index tenor)
    (kept : AreKept rows) where
  -- the lines of the file with these rows
  abbrev lines : List (List ℕ)
  lines = lines_by rows tenor index

  spelt_by : (row : DerivedRow) (found : Found) → row.found ≡ found → IsDay row.fixing → IsSmallFound row.found
      → (name : List ℕ) (slot : Slot) (rate : ℤ) → SpellsRate (line_of tenor index row) name slot rate
      → (row.found ≡ Rate rate) × (name ≡ index) × (slot ≡ slot_of row.fixing tenor)
  spelt_by row (Rate x) e day small name slot rate s =
      let small_rate : IsRate x = subst IsSmallFound e small in
      let line : SpellsRate (derived_row_fields row (Rate x) tenor index) name slot rate =
      subst (λ (f : Found). SpellsRate (derived_row_fields row f tenor index) name slot rate) e s in
      let own = reads_as row (Rate x) tenor index day lawful small_rate in
      let one = one_spelt (derived_row_fields row (Rate x) tenor index) name index slot row.fixing tenor rate x line own in
      (e ∙ ap Rate (sym one.2), one.0, one.1)
  spelt_by row (Missing d) e day small name slot rate s =
      let line : SpellsRate (derived_row_fields row (Missing d) tenor index) name slot rate =
      subst (λ (f : Found). SpellsRate (derived_row_fields row f tenor index) name slot rate) e s in
      absurd (passed_none (derived_row_fields row (Missing d) tenor index) name slot rate refl line)

  -- the row of a line that gives a rate
  fixes_row : (n : ℕ) (name : List ℕ) (slot : Slot) (rate : ℤ) → Fixes lines n name slot rate
      → (h : HasRate rows tenor index name slot rate) × (n ≡ h.place + 2)
  fixes_row n name slot rate f = elim (which_line tenor index rows n f.is_line) [
    | inl head ↦
        absurd (passed_none head_line name slot rate refl
        (subst (λ (l : List ℕ). SpellsRate l name slot rate) head f.spelt))
    | inr line ↦
        let s : SpellsRate (line_of tenor index line.row) name slot rate =
        subst (λ (l : List ℕ). SpellsRate l name slot rate) line.is f.spelt in
        let is = spelt_by line.row line.row.found refl (kept.days line.place line.row line.at)
        (kept.rates line.place line.row line.at) name slot rate s in (
          record { place = line.place; row = line.row; at = line.at; found = is.0; same_name = is.1; same_slot = is.2 },
          line.number,
        )
  ]

  row_fixes : (name : List ℕ) (slot : Slot) (rate : ℤ) → HasRate rows tenor index name slot rate
      → (n : ℕ) × Fixes lines n name slot rate
  row_fixes name slot rate h =
      let there = at_row tenor index rows h.place h.row h.at in
      let low = there.0 in
      let e : h.place + 2 - 1 ≡ suc h.place = omega arith in
      let line : line_at lines (h.place + 2) ≡ derived_row_fields h.row (Rate rate) tenor index =
      ap (λ (m : ℕ). get_or lines m []) e ∙ there.1 ∙ ap (λ (f : Found). derived_row_fields h.row f tenor index) h.found in
      let small : IsRate rate = subst IsSmallFound h.found (kept.rates h.place h.row h.at) in
      let own : SpellsRate (derived_row_fields h.row (Rate rate) tenor index) index (slot_of h.row.fixing tenor) rate =
      reads_as h.row (Rate rate) tenor index (kept.days h.place h.row h.at) lawful small in
      let named : SpellsRate (derived_row_fields h.row (Rate rate) tenor index) name (slot_of h.row.fixing tenor) rate =
      subst (λ (i : List ℕ). SpellsRate (derived_row_fields h.row (Rate rate) tenor index) i (slot_of h.row.fixing tenor) rate)
      (sym h.same_name) own in
      let spelt : SpellsRate (derived_row_fields h.row (Rate rate) tenor index) name slot rate =
      subst (λ (q : Slot). SpellsRate (derived_row_fields h.row (Rate rate) tenor index) name q rate) (sym h.same_slot) named in (
        h.place + 2,
        record {
          is_line = (omega arith, omega (arith, low));
          spelt =
              subst (λ (l : List ℕ). SpellsRate l name slot rate) (sym line) spelt;
        },
      )

  passed_by : (b : Bool) → b ≡ true → b ≡ false → ⊥
  passed_by b p q = cc

  good_row : (row : DerivedRow) (found : Found) → row.found ≡ found → IsDay row.fixing → IsSmallFound row.found
      → is_passed (line_of tenor index row) ≡ false
      → ((name : List ℕ) (slot : Slot) (rate : ℤ) → SpellsRate (line_of tenor index row) name slot rate → ⊥) → ⊥
  good_row row (Rate x) e day small not none =
      let small_rate : IsRate x = subst IsSmallFound e small in
      none index (slot_of row.fixing tenor) x
      (subst (λ (f : Found). SpellsRate (derived_row_fields row f tenor index) index (slot_of row.fixing tenor) x) (sym e)
      (reads_as row (Rate x) tenor index day lawful small_rate))
  good_row row (Missing d) e day small not none =
      passed_by (is_passed (line_of tenor index row))
      (ap (λ (f : Found). is_passed (derived_row_fields row f tenor index)) e) not

  not_bad : (n : ℕ) → IsBad lines n → ⊥
  not_bad n b = elim (which_line tenor index rows n b.is_line) [
    | inl head ↦ passed_by (is_passed (line_at lines n)) (ap is_passed head) b.bad.not_passed
    | inr line ↦
        good_row line.row line.row.found refl (kept.days line.place line.row line.at)
        (kept.rates line.place line.row line.at)
        (ap is_passed (sym line.is) ∙ b.bad.not_passed)
        (λ name slot rate s. b.bad.spells_none name slot rate
        (subst (λ (l : List ℕ). SpellsRate l name slot rate) (sym line.is) s))
  ]

  not_repeated : (n : ℕ) → Repeats lines n → ⊥
  not_repeated n r =
      let later = fixes_row n r.index r.slot r.rate r.here in
      let first = fixes_row r.earlier r.index r.slot r.old_rate r.there in
      let before = r.before in
      let a = later.1 in
      let b = first.1 in
      let order = kept.rise first.0.place later.0.place first.0.row later.0.row
      (omega (arith, before, a, b)) first.0.at later.0.at in
      let same : later.0.row.fixing ≡ first.0.row.fixing =
      ap (λ (q : Slot). q.date) (sym later.0.same_slot ∙ first.0.same_slot) in
      omega (arith, signed_arith, order, same)

  not_faulty : (n : ℕ) → IsFaulty lines n → ⊥
  not_faulty n f = elim f [ inl bad ↦ not_bad n bad | inr repeats ↦ not_repeated n repeats ]

  all_lines : lines_of (file_text rows tenor index) ≡ lines
  all_lines =
      let rest = flat_map (λ (r : DerivedRow). derived_text_of r tenor index) rows in
      head_step rest ∙ ap (λ (ls : List (List ℕ)). head_line ∷ ls) (row_lines tenor index lawful rows kept)

  -- the file holds no false end line, so its lines are read as they are
  all_seen : seen_lines (file_text rows tenor index) ≡ lines
  all_seen =
      ap (seen_from 0) all_lines
      ∙ truly_seen 0 lines (ends_truly 0 lines (refl, rows_no_ends tenor index lawful rows kept))

  -- the rows are those of a fixing file
  pub are_fixings : AreFixings rows tenor index
  are_fixings = record {
    clean = λ n f. not_faulty n (subst (λ (ls : List (List ℕ)). IsFaulty ls n) all_seen f);
    holds = λ name slot rate. (
      λ h. (fixes_row h.0 name slot rate (subst (λ (ls : List (List ℕ)). Fixes ls h.0 name slot rate) all_seen h.1)).0,
      λ h. let n = row_fixes name slot rate h in
          (n.0, subst (λ (ls : List (List ℕ)). Fixes ls n.0 name slot rate) (sym all_seen) n.1),
    );
  }
