-- Reading a fixing file line by line.
use Rattle.std.proofs.Common.{◌≡◌, ◌⊎◌, inl, inr, ℕ, zero, suc, ◌+◌, ◌-◌, ◌<◌, ◌≤◌, Bool, true, false, ◌&&◌, List, []}
use Rattle.std.proofs.Common.{◌∷◌, length, drop, Option, Some, None, IsSome, is_some, ℤ, refl, sym, ap₂, subst}
use Rattle.std.proofs.Common.{◌∙◌, arith, cond, ◌||◌, ◌==◌}
use Rattle.std.specs.Prelude.{nat_lt, slice_index_or, slice_index}
use Rattle.std.specs.Str.{bytes_eq}
use Rattle.irs_base.proofs.DecimalLemmas.{one_decimal}
use Rattle.std.specs.Prelude.{if◌then◌else◌}
use Rattle.std.proofs.lemmas.Bool.Decides.{nat_tests}
use Rattle.irs_base.specs.Texts.{is_space_or_tab, date_at, date_of_parts, digit_pair, lines_of}
use Rattle.irs_terms.specs.declared.frequency.Frequency.{Frequency}
use Rattle.irs_resets.specs.declared.store.Slot.{Slot}
use Rattle.irs_resets.specs.FixingFiles.{word, is_passed, SpellsRate, second_text, IsBadLine, line_at, IsLine, Fixes}
use Rattle.irs_resets.specs.FixingFiles.{IsBad, Repeats, IsFaulty, IsFirstFaultyLine, IsFixingFile, StopsAt}
use Rattle.std.proofs.lemmas.Slice.Eq.{bytes_eq-Decides}
use Rattle.std.proofs.lemmas.Bool.{cases_Bool}
use Rattle.irs_base.proofs.Firsts.{lt_false}
use Rattle.irs_base.proofs.Orders.{both_true}
use Rattle.irs_resets.proofs.SlotLemmas.{slot_same, slot_itself}
use Rattle.irs_calendar.specs.Grammar.{seen_from, seen_lines}
use Rattle.irs_base.specs.Outcomes.{First}
use Rattle.irs_resets.specs.Rates.{RateTable, rate_at, is_slot}
use Rattle.irs_resets.specs.Private.FixingFiles.{HasNewRate, HasOldRate, ReadsLine, TakesLine}

-- the lines before number were read into the table, and these are left
pub record ReadTo (lines : List (List ℕ)) (number : ℕ) (left : List (List ℕ)) (table : RateTable) : Type 0 where
  pub some : 1 ≤ number
  pub rest : drop (number - 1) lines ≡ left
  pub clean : (n : ℕ) → n < number → IsFaulty lines n → ⊥
  pub sound : (index : List ℕ) (slot : Slot) (rate : ℤ) → rate_at table index slot ≡ Some rate
      → (n : ℕ) × (n < number) × Fixes lines n index slot rate
  pub complete : (index : List ℕ) (slot : Slot) (rate : ℤ) (n : ℕ) → n < number → Fixes lines n index slot rate
      → rate_at table index slot ≡ Some rate

-- a line spells one rate
one_rate : (line i j : List ℕ) (s t : Slot) (rate other : ℤ) → SpellsRate line i s rate → SpellsRate line j t other
    → rate ≡ other
one_rate line i j s t rate other a b =
    one_decimal (second_text line) 9 rate other a.rate_text.decimal b.rate_text.decimal

-- a line spells one index, date and tenor
one_place : (line i j : List ℕ) (s t : Slot) (rate other : ℤ) → SpellsRate line i s rate → SpellsRate line j t other
    → (i ≡ j) × (s ≡ t)
one_place line i j s t rate other a b =
    let date : s.date ≡ t.date = cc (a.date, b.date) in
    let tenor : s.tenor ≡ t.tenor = cc (a.tenor, b.tenor) in
    let make : ℤ → Option Frequency → Slot = λ d f. record { date = d; tenor = f } in
    (a.rest ∙ sym b.rest, ap₂ make date tenor)

no_date : (c : Bool) (y m d : Option ℕ) (day : ℤ) → (if c then date_of_parts None y m d else None) ≡ Some day → ⊥
no_date true y m d day h = cc
no_date false y m d day h = cc

-- a line that is passed over spells nothing
pub passed_none : (line index : List ℕ) (slot : Slot) (rate : ℤ) → is_passed line ≡ true
    → SpellsRate line index slot rate → ⊥
passed_none [] index slot rate passed s = let d = s.date in cc
passed_none (b ∷ bs) index slot rate passed s = elim (cases_Bool (is_space_or_tab b)) [
  | inl gap ↦ let d : date_at [] ≡ Some slot.date = rw gap at s.date in cc
  | inr solid ↦
      let d : date_at (b ∷ word bs) ≡ Some slot.date = rw solid at s.date in
      let p : (b == 35) ≡ true = hash (b == 35) (rw solid at passed) in
      let is : b ≡ 35 = grind (arith, nat_tests, p) in
      let e : date_at (35 ∷ word bs) ≡ Some slot.date = rw is at d in
      no_date (length (35 ∷ word bs) == 10
      && ((slice_index (35 ∷ word bs) 4 == 45) && (slice_index (35 ∷ word bs) 7 == 45)))
      (digit_pair (slice_index (35 ∷ word bs) 2) (slice_index (35 ∷ word bs) 3))
      (digit_pair (slice_index (35 ∷ word bs) 5) (slice_index (35 ∷ word bs) 6))
      (digit_pair (slice_index (35 ∷ word bs) 8) (slice_index (35 ∷ word bs) 9)) slot.date e
]
  where
    hash : (c : Bool) → (c || false) ≡ true → c ≡ true
    hash true h = refl
    hash false h = h

drop_here : (lines : List (List ℕ)) (n : ℕ) (line : List ℕ) (more : List (List ℕ)) → drop n lines ≡ line ∷ more
    → (n < length lines) × (slice_index_or lines n [] ≡ line) × (drop (suc n) lines ≡ more)
drop_here [] zero line more h = absurd (cc)
drop_here [] (suc n) line more h = absurd (cc)
drop_here (l ∷ ls) zero line more h = let a : l ≡ line = cc in let b : ls ≡ more = cc in (omega arith, a, b)
drop_here (l ∷ ls) (suc n) line more h = let r = drop_here ls n line more h in (omega (arith, r.0), r.1, r.2)

drop_none : (lines : List (List ℕ)) (n : ℕ) → drop n lines ≡ [] → length lines ≤ n
drop_none [] n h = omega arith
drop_none (l ∷ ls) zero h = absurd (cc)
drop_none (l ∷ ls) (suc n) h = let r = drop_none ls n h in omega (arith, r)

-- the line that is next
record IsNext (lines : List (List ℕ)) (k : ℕ) (line : List ℕ) (more : List (List ℕ)) : Type 0 where
  is_line : IsLine lines k
  is : line_at lines k ≡ line
  rest : drop k lines ≡ more

next_line : (lines : List (List ℕ)) (k : ℕ) (line : List ℕ) (more : List (List ℕ)) → 1 ≤ k
    → drop (k - 1) lines ≡ line ∷ more → IsNext lines k line more
next_line lines zero line more some h = absurd (omega (arith, some))
next_line lines (suc n) line more some h =
    let e : suc n - 1 ≡ n = omega arith in
    let r = drop_here lines n line more (rw e at h) in
    record { is_line = (some, omega (arith, r.0)); is = rw e r.1; rest = r.2 }

at_line : (lines : List (List ℕ)) (k : ℕ) (line : List ℕ) (more : List (List ℕ)) (index : List ℕ) (slot : Slot)
    (rate : ℤ) → IsNext lines k line more → Fixes lines k index slot rate → SpellsRate line index slot rate
at_line lines k line more index slot rate next f = subst (λ (l : List ℕ). SpellsRate l index slot rate) next.is f.spelt

here_line : (lines : List (List ℕ)) (k : ℕ) (line : List ℕ) (more : List (List ℕ)) (index : List ℕ) (slot : Slot)
    (rate : ℤ) → IsNext lines k line more → SpellsRate line index slot rate → Fixes lines k index slot rate
here_line lines k line more index slot rate next s =
    record { is_line = next.is_line; spelt = subst (λ (l : List ℕ). SpellsRate l index slot rate) (sym next.is) s }

-- a number below the next one is below this one, or this one
pub below : (n k : ℕ) → n < k + 1 → (n < k) ⊎ (n ≡ k)
below n k h = grind (arith, h)

-- the rate that is there
pub some_rate : (o : Option ℤ) → IsSome o → (v : ℤ) × (o ≡ Some v)
some_rate None h = absurd (cc)
some_rate (Some v) h = (v, refl)

-- a line that is ignored changes nothing
pub passes : (lines : List (List ℕ)) (k : ℕ) (line : List ℕ) (more : List (List ℕ)) (table : RateTable)
    → ReadTo lines k (line ∷ more) table → is_passed line ≡ true → ReadTo lines (k + 1) more table
passes lines k line more table r passed =
    let next = next_line lines k line more r.some r.rest in
    let none : (index : List ℕ) (slot : Slot) (rate : ℤ) (n : ℕ) → n ≡ k → Fixes lines n index slot rate → ⊥ =
    λ index slot rate n e f.
    passed_none line index slot rate passed
    (at_line lines k line more index slot rate next (subst (λ (m : ℕ). Fixes lines m index slot rate) e f)) in
    record {
      some = omega arith;
      rest = rw (plus_one k) next.rest;
      clean = λ n low f. elim (below n k low) [
        | inl old ↦ r.clean n old f
        | inr now ↦ elim f [
          | inl bad ↦ let b : IsBadLine line = subst IsBadLine next.is (subst (λ (m : ℕ). IsBad lines m) now bad).bad in
              let x = b.not_passed in cc
          | inr rep ↦ none rep.index rep.slot rep.rate n now rep.here
        ]
      ];
      sound = λ index slot rate h. let p = r.sound index slot rate h in (p.0, omega (arith, p.1), p.2);
      complete = λ index slot rate n low f. elim (below n k low) [
        | inl old ↦ r.complete index slot rate n old f
        | inr now ↦ absurd (none index slot rate n now f)
      ];
    }
  where
    plus_one : (k : ℕ) → k + 1 - 1 ≡ k
    plus_one k = omega arith

-- the test of a place
same_place : (index i : List ℕ) (slot q : Slot) → (bytes_eq index i && is_slot slot q) ≡ true → (index ≡ i) × (slot ≡ q)
same_place index i slot q h = let p = both_true (bytes_eq index i) (is_slot slot q) h in
    ((bytes_eq-Decides index i).0 p.0, slot_same slot q p.1)

place_itself : (index i : List ℕ) (slot q : Slot) → index ≡ i → slot ≡ q → (bytes_eq index i && is_slot slot q) ≡ true
place_itself index i slot q e f =
    let a : bytes_eq index i ≡ true = (bytes_eq-Decides index i).1 e in
    let b : is_slot slot q ≡ true = subst (λ (t : Slot). is_slot slot t ≡ true) f (slot_itself slot) in
    rw (a, b) refl

-- a rate that is added at a place is found there
put_sound : (c : Bool) (o : Option ℤ) (new : Option ℤ) (rate r : ℤ) → new ≡ cond c (Some rate) o → new ≡ Some r
    → ((c ≡ true) × (rate ≡ r)) ⊎ (o ≡ Some r)
put_sound true o new rate r h k = let e : rate ≡ r = cc in inl (refl, e)
put_sound false o new rate r h k = inr (cc)

put_here : (c : Bool) (o new : Option ℤ) (rate r : ℤ) → new ≡ cond c (Some rate) o → c ≡ true → rate ≡ r → new ≡ Some r
put_here true o new rate r h k e = cc
put_here false o new rate r h k e = absurd (cc)

put_apart : (c : Bool) (o new : Option ℤ) (rate r : ℤ) → new ≡ cond c (Some rate) o → c ≡ false → o ≡ Some r
    → new ≡ Some r
put_apart true o new rate r h k e = absurd (cc)
put_apart false o new rate r h k e = cc

stood : (old : RateTable) (index i : List ℕ) (slot q : Slot) (r : ℤ) → rate_at old index slot ≡ None → index ≡ i
    → slot ≡ q → rate_at old i q ≡ Some r → ⊥
stood old index i slot q r absent e f there =
    let a : rate_at old i slot ≡ None = subst (λ (l : List ℕ). rate_at old l slot ≡ None) e absent in
    let b : rate_at old i q ≡ None = subst (λ (t : Slot). rate_at old i t ≡ None) f a in
    cc (b, there)

-- a line with a new rate is at no fault, as none before it is
fresh_clean : (lines : List (List ℕ)) (k : ℕ) (line : List ℕ) (more : List (List ℕ)) (old : RateTable)
    → ReadTo lines k (line ∷ more) old → HasNewRate old line → (n : ℕ) → n < k + 1 → IsFaulty lines n → ⊥
fresh_clean lines k line more old r t n low f =
    let next = next_line lines k line more r.some r.rest in
    elim (below n k low) [
      | inl before ↦ r.clean n before f
      | inr now ↦ elim f [
        | inl bad ↦
            let b : IsBadLine line = subst IsBadLine next.is (subst (λ (m : ℕ). IsBad lines m) now bad).bad in
            b.spells_none t.index t.slot t.rate t.spelt
        | inr rep ↦
            let s = at_line lines k line more rep.index rep.slot rep.rate next
            (subst (λ (m : ℕ). Fixes lines m rep.index rep.slot rep.rate) now rep.here) in
            let p = one_place line t.index rep.index t.slot rep.slot t.rate rep.rate t.spelt s in
            stood old t.index rep.index t.slot rep.slot rep.old_rate t.absent p.0 p.1
            (r.complete rep.index rep.slot rep.old_rate rep.earlier (omega (arith, rep.before, now)) rep.there)
      ]
    ]

-- a line with a new rate adds it
pub takes : (lines : List (List ℕ)) (k : ℕ) (line : List ℕ) (more : List (List ℕ)) (old new : RateTable)
    → ReadTo lines k (line ∷ more) old → TakesLine old line new → ReadTo lines (k + 1) more new
takes lines k line more old new r taken =
    let t = taken.more in
    let adds = taken.adds in
    let next = next_line lines k line more r.some r.rest in
    let here : (i : List ℕ) (q : Slot) (rate : ℤ) (n : ℕ) → n ≡ k → Fixes lines n i q rate → SpellsRate line i q rate =
    λ i q rate n e f.
    at_line lines k line more i q rate next (subst (λ (m : ℕ). Fixes lines m i q rate) e f) in
    record {
      some = omega arith;
      rest = rw (plus_one k) next.rest;
      clean = fresh_clean lines k line more old r t;
      sound = λ i q rate h.
          elim (put_sound (bytes_eq t.index i && is_slot t.slot q) (rate_at old i q) (rate_at new i q) t.rate rate
          (adds i q) h) [
            | inl put ↦
                let p = same_place t.index i t.slot q put.0 in
                let s : SpellsRate line i t.slot t.rate = subst (λ (l : List ℕ). SpellsRate line l t.slot t.rate) p.0 t.spelt in
                let u : SpellsRate line i q t.rate = subst (λ (x : Slot). SpellsRate line i x t.rate) p.1 s in
                let v : SpellsRate line i q rate = subst (λ (z : ℤ). SpellsRate line i q z) put.1 u in
                (k, omega arith, here_line lines k line more i q rate next v)
            | inr kept ↦ let p = r.sound i q rate kept in (p.0, omega (arith, p.1), p.2)
          ];
      complete = λ i q rate n low f. elim (below n k low) [
        | inl before ↦
            let kept = r.complete i q rate n before f in
            elim (cases_Bool (bytes_eq t.index i && is_slot t.slot q)) [
              | inl same ↦ let p = same_place t.index i t.slot q same in
                  absurd (stood old t.index i t.slot q rate t.absent p.0 p.1 kept)
              | inr other ↦
                  put_apart (bytes_eq t.index i && is_slot t.slot q) (rate_at old i q) (rate_at new i q) t.rate rate
                  (adds i q) other kept
            ]
        | inr now ↦
            let s = here i q rate n now f in
            let p = one_place line t.index i t.slot q t.rate rate t.spelt s in
            put_here (bytes_eq t.index i && is_slot t.slot q) (rate_at old i q) (rate_at new i q) t.rate rate
            (adds i q) (place_itself t.index i t.slot q p.0 p.1)
            (one_rate line t.index i t.slot q t.rate rate t.spelt s)
      ];
    }
  where
    plus_one : (k : ℕ) → k + 1 - 1 ≡ k
    plus_one k = omega arith

-- where memory runs out at a line with a new rate, no line up to it is at fault
pub stops : (lines : List (List ℕ)) (k : ℕ) (line : List ℕ) (left more : List (List ℕ)) (table : RateTable)
    → ReadTo lines k left table → left ≡ line ∷ more → HasNewRate table line → StopsAt lines
stops lines k line left more table r e t =
    let here = subst (λ (l : List (List ℕ)). ReadTo lines k l table) e r in
    record {
      number = k;
      index = t.index;
      slot = t.slot;
      rate = t.rate;
      fixes = here_line lines k line more t.index t.slot t.rate (next_line lines k line more here.some here.rest) t.spelt;
      clean = λ n low. fresh_clean lines k line more table here t n (omega (arith, low));
    }

-- a line more
pub reads : (lines : List (List ℕ)) (k : ℕ) (line : List ℕ) (left more : List (List ℕ)) (old new : RateTable)
    → ReadTo lines k left old → left ≡ line ∷ more → ReadsLine old line new → ReadTo lines (k + 1) more new
reads lines k line left more old new r e (inl passed) =
    subst (λ (t : RateTable). ReadTo lines (k + 1) more t) (sym passed.1)
    (passes lines k line more old (subst (λ (l : List (List ℕ)). ReadTo lines k l old) e r) passed.0)
reads lines k line left more old new r e (inr taken) =
    takes lines k line more old new (subst (λ (l : List (List ℕ)). ReadTo lines k l old) e r) taken

-- a fault of the next line is the first, since no earlier line has one
first_faulty : (lines : List (List ℕ)) (n : ℕ) → IsFaulty lines n → ((k : ℕ) → k < n → IsFaulty lines k → ⊥)
    → First nat_lt (IsFaulty lines) n
first_faulty lines n here none = (here, λ k f. lt_false k n (λ less. none k less f))

-- a line that spells no fixing is the first fault
pub bad_first : (lines : List (List ℕ)) (k : ℕ) (line : List ℕ) (left more : List (List ℕ)) (table : RateTable)
    → ReadTo lines k left table → left ≡ line ∷ more → IsBadLine line → IsFirstFaultyLine (IsBad lines) lines k
bad_first lines k line left more table r e bad =
    let next = next_line lines k line more r.some (r.rest ∙ e) in
    let fault : IsBad lines k = record { is_line = next.is_line; bad = subst IsBadLine (sym next.is) bad } in
    (fault, first_faulty lines k (inl fault) r.clean)

-- a line that repeats another is the first fault
pub repeat_first : (lines : List (List ℕ)) (k : ℕ) (line : List ℕ) (left more : List (List ℕ)) (table : RateTable)
    → ReadTo lines k left table → left ≡ line ∷ more → HasOldRate table line → IsFirstFaultyLine (Repeats lines) lines k
repeat_first lines k line left more table r e s =
    let next = next_line lines k line more r.some (r.rest ∙ e) in
    let v = some_rate (rate_at table s.index s.slot) s.there in
    let p = r.sound s.index s.slot v.0 v.1 in
    let fault : Repeats lines k = record {
      index = s.index;
      slot = s.slot;
      rate = s.rate;
      here = here_line lines k line more s.index s.slot s.rate next s.spelt;
      earlier = p.0;
      before = p.1;
      old_rate = v.0;
      there = p.2;
    } in
    (fault, first_faulty lines k (inr fault) r.clean)

-- the whole file
pub whole_file : (bytes rest : List ℕ) (k before : ℕ) (table : RateTable)
    → ReadTo (seen_lines bytes) k (seen_from before (lines_of rest)) table → length rest ≤ 0 → IsFixingFile bytes table
whole_file bytes [] k before table r none =
    let lines : List (List ℕ) = seen_lines bytes in
    let few : length lines ≤ k - 1 = drop_none lines (k - 1) r.rest in
    let below_k : (n : ℕ) → IsLine lines n → n < k = λ n l. omega (arith, l.1, few, r.some) in
    record {
      clean = λ n f. elim f [
        | inl bad ↦ r.clean n (below_k n bad.is_line) (inl bad)
        | inr rep ↦ r.clean n (below_k n rep.here.is_line) (inr rep)
      ];
      holds = λ index slot rate. (
        λ h. let p = r.sound index slot rate h in
            (p.0, p.2),
        λ p. r.complete index slot rate p.0 (below_k p.0 p.1.is_line) p.1,
      );
    }
whole_file bytes (b ∷ bs) k before table r none = absurd (omega (arith, none))

-- there is no rate where none was found
pub no_rate : (o : Option ℤ) → is_some o ≡ false → o ≡ None
no_rate None h = refl
no_rate (Some v) h = absurd (cc)
