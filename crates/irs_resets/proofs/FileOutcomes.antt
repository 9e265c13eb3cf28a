-- A file of fixings has one outcome: rates, or a first line at fault.
use Rattle.std.proofs.Common.{◌≡◌, ◌⊎◌, inl, inr, ℕ, ◌+◌, ◌≤◌, Bool, true, false, ◌&&◌, List, [], ◌∷◌, length, Option}
use Rattle.std.proofs.Common.{Some, None, ℤ, IsTrue, Err, refl, sym, ap, ap₂, subst, ◌∙◌, arith, cond, true≢false}
use Rattle.std.specs.Prelude.{nat_lt, ◌↔◌}
use Rattle.std.specs.Cmp.Lexicographic.{nat_list_eq_equiv}
use Rattle.std.specs.Map.{lookup}
use Rattle.std.specs.Str.{bytes_eq}
use Rattle.std.proofs.lemmas.Bool.{cases_Bool}
use Rattle.std.proofs.lemmas.Slice.Eq.{bytes_eq-Decides}
use Rattle.irs_base.specs.Texts.{lines_of}
use Rattle.irs_calendar.specs.Grammar.{bad_line, is_false_end, is_none, line_seen, seen_from, seen_lines}
use Rattle.irs_base.specs.Private.Order.{IsDecided}
use Rattle.irs_base.proofs.Firsts.{one_first, tied_last}
use Rattle.irs_resets.specs.FixingFiles.{IsBad, IsFaulty, IsFirstFaultyLine, IsFixingFault, IsFixingFile, Repeats}
use Rattle.irs_resets.specs.FixingFiles.{is_passed}
use Rattle.irs_resets.specs.Private.FixingFiles.{IsSpelt, line_of, Adds}
use Rattle.irs_resets.specs.Resets.{DeterminedUpTo, MeetsFile, answered, fixings_of, refused}
use Rattle.irs_resets.specs.Rates.{RateTable, SameRates, SlotRates, is_slot, rate_at, rate_of}
use Rattle.irs_resets.specs.declared.fixings.FixErr.{FixErr}
use Rattle.irs_resets.specs.declared.fixings.FixErr.TheVariants.{Syntax, Repeat, Memory}
use Rattle.irs_resets.specs.declared.store.Slot.{Slot}
use Rattle.irs_resets.proofs.FileLemmas.{ReadTo, bad_first, passes, repeat_first, takes, whole_file}
use Rattle.irs_resets.proofs.SlotLemmas.{slot_same, slot_itself}

-- ---- one outcome at most

same_line : (P Q : ℕ → Type 0) (lines : List (List ℕ)) (m n : ℕ) → IsFirstFaultyLine P lines m → IsFirstFaultyLine Q lines n → m ≡ n
same_line P Q lines m n h k = one_first nat_lt tied_last (IsFaulty lines) m n h.1 k.1

-- a line that spells no fixing repeats none
not_both : (lines : List (List ℕ)) (n : ℕ) → IsBad lines n → Repeats lines n → ⊥
not_both lines n h k = h.bad.spells_none k.index k.slot k.rate k.here.spelt

-- a file has one first line at fault
pub one_fault : (bytes : List ℕ) (f g : FixErr) → IsFixingFault bytes f → IsFixingFault bytes g → g ≡ f
one_fault bytes (Syntax m) (Syntax n) h k = let lines = seen_lines bytes in
    ap (λ (x : ℕ). Syntax x) (same_line (IsBad lines) (IsBad lines) lines n m k h)
one_fault bytes (Repeat m) (Repeat n) h k = let lines = seen_lines bytes in
    ap (λ (x : ℕ). Repeat x) (same_line (Repeats lines) (Repeats lines) lines n m k h)
one_fault bytes (Syntax m) (Repeat n) h k =
    let lines = seen_lines bytes in
    let e : m ≡ n = same_line (IsBad lines) (Repeats lines) lines m n h k in
    absurd (not_both lines n (subst (λ (x : ℕ). IsBad lines x) e h.0) k.0)
one_fault bytes (Repeat m) (Syntax n) h k =
    let lines = seen_lines bytes in
    let e : n ≡ m = same_line (IsBad lines) (Repeats lines) lines n m k h in
    absurd (not_both lines m (subst (λ (x : ℕ). IsBad lines x) e k.0) h.0)
one_fault bytes Memory g h k = absurd h
one_fault bytes (Syntax m) Memory h k = absurd k
one_fault bytes (Repeat m) Memory h k = absurd k

-- a file with a line at fault gives no rates
pub no_rates : (bytes : List ℕ) (f : FixErr) (table : RateTable) → IsFixingFault bytes f → IsFixingFile bytes table → ⊥
no_rates bytes (Syntax n) table h k = k.clean n (inl h.0)
no_rates bytes (Repeat n) table h k = k.clean n (inr h.0)
no_rates bytes Memory table h k = h

same_option : (a b : Option ℤ) → ((r : ℤ) → a ≡ Some r → b ≡ Some r) → ((r : ℤ) → b ≡ Some r → a ≡ Some r) → a ≡ b
same_option None None h k = refl
same_option None (Some y) h k = k y refl
same_option (Some x) b h k = sym (h x refl)

-- two tables of one file have the same rates
pub same_file : (bytes : List ℕ) (t u : RateTable) → IsFixingFile bytes t → IsFixingFile bytes u → SameRates t u
same_file bytes t u h k index slot = same_option (rate_at t index slot) (rate_at u index slot)
    (λ r e. (k.holds index slot r).1 ((h.holds index slot r).0 e))
    (λ r e. (h.holds index slot r).1 ((k.holds index slot r).0 e))

-- ---- one outcome

-- the rates that were found, or none yet
abbrev slots_of : Option SlotRates → SlotRates
slots_of None = []
slots_of (Some rates) = rates

slots_rate : (o : Option SlotRates) (q : Slot) → lookup (is_slot q) (slots_of o) ≡ rate_of o q
slots_rate None q = refl
slots_rate (Some rates) q = refl

-- a table with a rate more, in front of what it had
abbrev with_rate : RateTable → List ℕ → Slot → ℤ → RateTable
with_rate table index slot rate = (index, (slot, rate) ∷ slots_of (lookup (bytes_eq index) table)) ∷ table

slot_back : (a b : Slot) → is_slot a b ≡ is_slot b a
slot_back a b = elim (cases_Bool (is_slot a b)) [
  | inl same ↦ let e = slot_same a b same in
      subst (λ (x : Slot). is_slot a x ≡ is_slot x a) e refl
  | inr other ↦ elim (cases_Bool (is_slot b a)) [
    | inl same ↦
        let e = slot_same b a same in
        let itself : is_slot a b ≡ true = subst (λ (x : Slot). is_slot x b ≡ true) e (slot_itself b) in
        absurd (true≢false (sym itself ∙ other))
    | inr also ↦ other ∙ sym also
  ]
]

adds_rate : (table : RateTable) (index : List ℕ) (slot : Slot) (rate : ℤ)
    → Adds table index slot rate (with_rate table index slot rate)
adds_rate table index slot rate i q = elim (cases_Bool (bytes_eq index i)) [
  | inl same ↦
      let e : index ≡ i = (bytes_eq-Decides index i).0 same in
      let back : bytes_eq i index ≡ true = nat_list_eq_equiv.symm i index ∙ same in
      let olds : lookup (is_slot q) (slots_of (lookup (bytes_eq index) table)) ≡ rate_at table i q =
      slots_rate (lookup (bytes_eq index) table) q ∙ ap (λ (l : List ℕ). rate_at table l q) e in
      rw (back, same) (ap₂ (λ t o. cond t (Some rate) o) (slot_back q slot) olds)
  | inr other ↦
      let back : bytes_eq i index ≡ false = nat_list_eq_equiv.symm i index ∙ other in
      rw (back, other) refl
]

-- each line spells a fixing, or doesn't
abbrev pub EachDecided : List (List ℕ) → Type 0
EachDecided [] = Unit {0}
EachDecided (line ∷ lines) = IsDecided (IsSpelt line) × EachDecided lines

-- the file has a first line at fault, or it gives rates
abbrev FileOutcome : List ℕ → Type 0
FileOutcome bytes = ((f : FixErr) × IsFixingFault bytes f) ⊎ ((table : RateTable) × IsFixingFile bytes table)

module _ (bytes : List ℕ) where
  -- nothing was read yet
  begins : ReadTo (seen_lines bytes) 1 (seen_lines bytes) []
  begins = record {
    some = omega arith;
    rest = refl;
    clean = λ n low f. elim f [
      | inl bad ↦ omega (arith, low, bad.is_line.0)
      | inr rep ↦ omega (arith, low, rep.here.is_line.0)
    ];
    sound = λ index slot rate h. absurd (cc);
    complete = λ index slot rate n low f. absurd (omega (arith, low, f.is_line.0));
  }

  -- a line that spells a fixing is at fault, or its rate is taken and the next lines are read
  spelt_line : (line : List ℕ) (more : List (List ℕ)) (k : ℕ) (table : RateTable)
      → ReadTo (seen_lines bytes) k (line ∷ more) table → (s : IsSpelt line)
      → ((grown : RateTable) → ReadTo (seen_lines bytes) (k + 1) more grown → FileOutcome bytes) → (old : Option ℤ)
      → rate_at table s.index s.slot ≡ old → FileOutcome bytes
  spelt_line line more k table r s next None e =
      let grown = with_rate table s.index s.slot s.rate in
      next grown (takes (seen_lines bytes) k line more table grown r (record {
        more = record { index = s.index; slot = s.slot; rate = s.rate; spelt = s.spelt; absent = e };
        adds = adds_rate table s.index s.slot s.rate;
      }))
  spelt_line line more k table r s next (Some v) e = inl (
    Repeat k,
    repeat_first (seen_lines bytes) k line (line ∷ more) more table r refl (record {
      index = s.index;
      slot = s.slot;
      rate = s.rate;
      spelt = s.spelt;
      there = rw e refl;
    }),
  )

  read_on : (left : List (List ℕ)) (k : ℕ) (table : RateTable) → ReadTo (seen_lines bytes) k left table → EachDecided left
      → FileOutcome bytes
  read_on [] k table r d = inr (table, whole_file bytes [] k 0 table r (omega arith))
  read_on (line ∷ more) k table r d = elim (cases_Bool (is_passed line)) [
    | inl passed ↦ read_on more (k + 1) table (passes (seen_lines bytes) k line more table r passed) d.1
    | inr not ↦ elim d.0 [
      | inl s ↦
          spelt_line line more k table r s (λ grown next. read_on more (k + 1) grown next d.1)
          (rate_at table s.index s.slot) refl
      | inr none ↦ inl (
        Syntax k,
        bad_first (seen_lines bytes) k line (line ∷ more) more table r refl (record {
          not_passed = not;
          spells_none = λ index slot rate spelt.
              none (record { index = index; slot = slot; rate = rate; spelt = spelt });
        }),
      )
    ]
  ]

  -- a file gives one set of rates, or one first fault
  pub file_determined : EachDecided (seen_lines bytes) → DeterminedUpTo SameRates (fixings_of bytes)
  file_determined d = elim (read_on (seen_lines bytes) 1 [] begins d) [
    | inl fault ↦
        refused fault.0 (record { is = fault.1; only = λ g h. one_fault bytes fault.0 g fault.1 h })
        (λ table h. no_rates bytes fault.0 table fault.1 h)
    | inr file ↦
        answered file.0 file.1 (λ u h. same_file bytes file.0 u file.1 h)
        (λ f h. no_rates bytes f file.0 h file.1)
  ]

-- ---- what the calls need

-- a test decides whether a line spells a fixing
pub decided_by : (line : List ℕ) (b : Bool) → IsTrue b ↔ IsSpelt line → IsDecided (IsSpelt line)
decided_by line b h = elim (cases_Bool b) [
  | inl is ↦ inl (h.0 is)
  | inr not ↦ inr (λ s. true≢false (sym (h.1 s) ∙ not))
]

-- no lines are decided
pub none_left : (rest : List ℕ) → length rest ≤ 0 → EachDecided (lines_of rest)
none_left [] h = tt
none_left (b ∷ bs) h = absurd (omega (arith, h))

-- a false end line spells no fixing: it has no date
bad_spells_none : IsSpelt bad_line → ⊥
bad_spells_none s = let d = s.spelt.date in cc

one_decided : (last : Bool) (before : ℕ) (line : List ℕ) → IsDecided (IsSpelt line)
    → IsDecided (IsSpelt (line_seen last before line))
one_decided last before line d = elim (cases_Bool (last && is_false_end before line)) [
  | inl false_end ↦ rw false_end (inr bad_spells_none)
  | inr other ↦ rw other d
]

-- lines that are decided are so as they are read
pub seen_decided : (before : ℕ) (lines : List (List ℕ)) → EachDecided lines → EachDecided (seen_from before lines)
seen_decided before [] d = tt
seen_decided before (line ∷ lines) d =
    (one_decided (is_none lines) before line d.0, seen_decided (before + 1) lines d.1)

-- the fault of the next line is the first of the file
pub next_fault : (bytes : List ℕ) (k : ℕ) (line : List ℕ) (left more : List (List ℕ)) (table : RateTable) (e : FixErr)
    → ReadTo (seen_lines bytes) k left table → left ≡ line ∷ more → MeetsFile (line_of table line k) (Err e)
    → MeetsFile (fixings_of bytes) (Err e)
next_fault bytes k line left more table (Syntax n) r is h =
    let lines = seen_lines bytes in
    subst (λ (m : ℕ). IsFirstFaultyLine (IsBad lines) lines m) (sym h.0) (bad_first lines k line left more table r is h.1)
next_fault bytes k line left more table (Repeat n) r is h =
    let lines = seen_lines bytes in
    subst (λ (m : ℕ). IsFirstFaultyLine (Repeats lines) lines m) (sym h.0) (repeat_first lines k line left more table r is h.1)
next_fault bytes k line left more table Memory r is h = tt
