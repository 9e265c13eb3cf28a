-- Reading line by line stops exactly at the first faulty line.
use Rattle.std.proofs.Common.{◌≡◌, ◌⊎◌, inl, inr, ℕ, suc, ◌+◌, ◌≤◌, Bool, true, ◌&&◌, List, [], ◌∷◌, ◌++◌, length}
use Rattle.std.proofs.Common.{Result, Ok, Err, nat_le, append_assoc, arith, refl, sym, ◌∙◌, ap, subst, ℤ}
use Rattle.std.specs.Ordering.{int_cmp, is_le}
use Rattle.std.proofs.lemmas.List.{append-nil}
use Rattle.std.proofs.lemmas.Bool.{cases_Bool}
use Rattle.jiff_core.specs.Calendar.{days_from_civil, day_count, days_of_years, days_of_months}
use Rattle.irs_base.specs.Limits.{most_holidays}
use Rattle.irs_calendar.specs.Grammar.{seen_lines, Said, Nothing, Center, Cover, Weekend, Holiday, Wrong, line_said}
use Rattle.irs_calendar.specs.Grammar.{no_days, Spot, RisesWithin, CalFiles, SpellsSections, CanGoOn, IsRepeat}
use Rattle.irs_calendar.specs.Grammar.{IsOneTooMany, IsFaultKind, IsFaultBehind, IsFirstCalendarFault}
use Rattle.irs_base.proofs.Orders.{le_true, true_le, both_true}
use Rattle.irs_calendar.specs.declared.sections.Section.{Section}
use Rattle.irs_calendar.specs.declared.part.Part.{Part}
use Rattle.irs_calendar.specs.declared.part.Part.TheVariants.{Between, Named, Covered, Open}
use Rattle.irs_calendar.specs.declared.part.State.{State}
use Rattle.irs_calendar.specs.declared.machine.Fault.{Fault}
use Rattle.irs_calendar.specs.declared.machine.Fault.TheVariants.{Syntax, Repeat, TooMany}
use Rattle.irs_calendar.specs.Private.Files.{begun, after_center, after_cover, after_weekend, after_holiday}
use Rattle.irs_calendar.specs.Private.Rising.{all_before}
use Rattle.irs_calendar.specs.Private.Files.{after_line, at_end, fits_section, Place, numbered, then_read, sections_in}
use Rattle.irs_calendar.specs.Private.Files.{sections_of, in_file, then_file, calendars_in}
use Rattle.irs_calendar.specs.Sections.{is_named, AreDistinct}
use Rattle.irs_calendar.proofs.DistinctLemmas.{same_state, then_ok, numbered_ok, then_file_ok, file_ok, calendars_apart}
use Rattle.irs_calendar.proofs.DistinctLemmas.{sections_apart}
use Rattle.irs_calendar.proofs.GrammarLemmas.{reads_continue, lines_read, rises_more, rises_to}
use Rattle.irs_calendar.proofs.GrammarLemmas.{lawful_back, read_is_spelt, spelt_is_read}

-- a file's beginning
abbrev fresh : List Section → State
fresh earlier = record { done = earlier; part = Between }

-- lines that end the section at hand

cover_line : List ℕ
cover_line =
    99 ∷ 111 ∷ 118 ∷ 101 ∷ 114 ∷ 32 ∷ 49 ∷ 57 ∷ 55 ∷ 48 ∷ 45 ∷ 48 ∷ 49 ∷ 45 ∷ 48 ∷ 49 ∷ 32 ∷ 49 ∷ 57 ∷ 55 ∷ 48 ∷ 45 ∷ 48
    ∷ 49 ∷ 45 ∷ 48 ∷ 49 ∷ []

weekend_line : List ℕ
weekend_line = 119 ∷ 101 ∷ 101 ∷ 107 ∷ 101 ∷ 110 ∷ 100 ∷ []

says_weekend : line_said weekend_line ≡ Weekend no_days
unfolding weekend_line
says_weekend = refl

says_cover : (a : ℤ) × (b : ℤ) × (line_said cover_line ≡ Cover a b)
unfolding cover_line days_from_civil day_count days_of_years days_of_months
says_cover = (_, _, refl)

-- reading lines and more lines goes through the state after the first

-- what the lines make of a state, whatever follows
record Reaches (s t : State) (ls : List (List ℕ)) : Type 0 where
  reads : (n : ℕ) (more : List (List ℕ)) → sections_in n s (ls ++ more) ≡ sections_in (n + length ls) t more
  grown : (x : List Section) × (t.done ≡ s.done ++ x)
  -- no section has begun where none has begun after the lines
  quiet : t.part ≡ Between → t ≡ s

reaches_none : (s : State) → Reaches s s []
reaches_none s =
    record {
      reads = λ n more. ap (λ (k : ℕ). sections_in k s more) (plus_none n);
      grown =
          ([], sym (append-nil s.done));
      quiet = λ e. refl;
    }
  where
    plus_none : (n : ℕ) → n ≡ n + 0
    plus_none n = omega arith

begun_grown : (done : List Section) (n : List ℕ) (t : State) → begun done n ≡ Ok t → t.done ≡ done
begun_grown done n t e = elim (cases_Bool (is_named n done)) [
  | inl named ↦ absurd (let k = rw named at e in cc k)
  | inr new ↦ ap (λ (u : State). u.done) (sym (same_state (rw new at e)))
]

-- the sections that are done begin with those given
abbrev Grown : List Section → State → Type 0
Grown done t = (x : List Section) × (t.done ≡ done ++ x)

same_done : (done : List Section) (t : State) → t.done ≡ done → Grown done t
same_done done t e = ([], e ∙ sym (append-nil done))

center_grown : (done : List Section) (part : Part) (n : List ℕ) (t : State) → after_center done part n ≡ Ok t
    → Grown done t
center_grown done Between n t e = same_done done t (begun_grown done n t e)
center_grown done (Named m) n t e = absurd (cc e)
center_grown done (Covered m a b) n t e = absurd (cc e)
center_grown done (Open s) n t e = (s ∷ [], begun_grown (done ++ s ∷ []) n t e)

cover_grown : (done : List Section) (part : Part) (a b : ℤ) (t : State) → after_cover done part a b ≡ Ok t
    → Grown done t
cover_grown done Between a b t e = absurd (cc e)
cover_grown done (Named m) a b t e = same_done done t (ap (λ (u : State). u.done) (sym (same_state e)))
cover_grown done (Covered m c d) a b t e = absurd (cc e)
cover_grown done (Open s) a b t e = absurd (cc e)

weekend_grown : (done : List Section) (part : Part) (w : List Bool) (t : State) → after_weekend done part w ≡ Ok t
    → Grown done t
weekend_grown done Between w t e = absurd (cc e)
weekend_grown done (Named m) w t e = absurd (cc e)
weekend_grown done (Covered m a b) w t e = same_done done t (ap (λ (u : State). u.done) (sym (same_state e)))
weekend_grown done (Open s) w t e = absurd (cc e)

holiday_grown : (done : List Section) (part : Part) (d : ℤ) (t : State) → after_holiday done part d ≡ Ok t
    → Grown done t
holiday_grown done Between d t e = absurd (cc e)
holiday_grown done (Named m) d t e = absurd (cc e)
holiday_grown done (Covered m a b) d t e = absurd (cc e)
holiday_grown done (Open s) d t e = elim (cases_Bool (fits_section s d)) [
  | inl fits ↦
      let e' = rw fits at e in
      elim (cases_Bool (nat_le most_holidays (length s.holidays))) [
        | inl full ↦ absurd (let x = rw full at e' in cc x)
        | inr room ↦ same_done done t (ap (λ (u : State). u.done) (sym (same_state (rw room at e'))))
      ]
  | inr unfit ↦ absurd (let x = rw unfit at e in cc x)
]

line_grown : (s t : State) (said : Said) → after_line s said ≡ Ok t → Grown s.done t
line_grown s t Nothing e = same_done s.done t (ap (λ (u : State). u.done) (sym (same_state e)))
line_grown s t (Center n) e = center_grown s.done s.part n t e
line_grown s t (Cover a b) e = cover_grown s.done s.part a b t e
line_grown s t (Weekend w) e = weekend_grown s.done s.part w t e
line_grown s t (Holiday d) e = holiday_grown s.done s.part d t e
line_grown s t Wrong e = absurd (cc e)

-- after a line that says something a section has begun

not_between : (t u : State) → t ≡ u → (u.part ≡ Between → ⊥) → t.part ≡ Between → ⊥
not_between t u e never = subst (λ (x : State). x.part ≡ Between → ⊥) (sym e) never

begun_begins : (done : List Section) (n : List ℕ) (t : State) → begun done n ≡ Ok t → t.part ≡ Between → ⊥
begun_begins done n t e = elim (cases_Bool (is_named n done)) [
  | inl named ↦ absurd (let k = rw named at e in cc k)
  | inr new ↦ not_between t (record { done = done; part = Named n }) (sym (same_state (rw new at e))) (λ k. cc k)
]

center_begins : (done : List Section) (part : Part) (n : List ℕ) (t : State) → after_center done part n ≡ Ok t
    → t.part ≡ Between → ⊥
center_begins done Between n t e = begun_begins done n t e
center_begins done (Named m) n t e = absurd (cc e)
center_begins done (Covered m a b) n t e = absurd (cc e)
center_begins done (Open s) n t e = begun_begins (done ++ s ∷ []) n t e

cover_begins : (done : List Section) (part : Part) (a b : ℤ) (t : State) → after_cover done part a b ≡ Ok t
    → t.part ≡ Between → ⊥
cover_begins done Between a b t e = absurd (cc e)
cover_begins done (Named m) a b t e =
    not_between t (record { done = done; part = Covered m a b }) (sym (same_state e)) (λ k. cc k)
cover_begins done (Covered m c d) a b t e = absurd (cc e)
cover_begins done (Open s) a b t e = absurd (cc e)

weekend_begins : (done : List Section) (part : Part) (w : List Bool) (t : State) → after_weekend done part w ≡ Ok t
    → t.part ≡ Between → ⊥
weekend_begins done Between w t e = absurd (cc e)
weekend_begins done (Named m) w t e = absurd (cc e)
weekend_begins done (Covered m a b) w t e =
    not_between t (record {
      done = done;
      part =
          Open (record { name = m; first = a; last = b; weekend = w; holidays = [] });
    }) (sym (same_state e)) (λ k. cc k)
weekend_begins done (Open s) w t e = absurd (cc e)

holiday_begins : (done : List Section) (part : Part) (d : ℤ) (t : State) → after_holiday done part d ≡ Ok t
    → t.part ≡ Between → ⊥
holiday_begins done Between d t e = absurd (cc e)
holiday_begins done (Named m) d t e = absurd (cc e)
holiday_begins done (Covered m a b) d t e = absurd (cc e)
holiday_begins done (Open s) d t e = elim (cases_Bool (fits_section s d)) [
  | inl fits ↦
      let e' = rw fits at e in
      elim (cases_Bool (nat_le most_holidays (length s.holidays))) [
        | inl full ↦ absurd (let x = rw full at e' in cc x)
        | inr room ↦
            not_between t (record { done = done; part = Open (record s { holidays = s.holidays ++ d ∷ [] }) })
            (sym (same_state (rw room at e'))) (λ k. cc k)
      ]
  | inr unfit ↦ absurd (let x = rw unfit at e in cc x)
]

-- where none has begun the line said nothing
line_quiet : (s t : State) (said : Said) → after_line s said ≡ Ok t → t.part ≡ Between → t ≡ s
line_quiet s t Nothing e none = sym (same_state e)
line_quiet s t (Center n) e none = absurd (center_begins s.done s.part n t e none)
line_quiet s t (Cover a b) e none = absurd (cover_begins s.done s.part a b t e none)
line_quiet s t (Weekend w) e none = absurd (weekend_begins s.done s.part w t e none)
line_quiet s t (Holiday d) e none = absurd (holiday_begins s.done s.part d t e none)
line_quiet s t Wrong e none = absurd (cc e)

read_one : (n : ℕ) (s t : State) (l : List ℕ) (ls : List (List ℕ)) → after_line s (line_said l) ≡ Ok t
    → sections_in n s (l ∷ ls) ≡ sections_in (n + 1) t ls
unfolding sections_in
read_one n s t l ls e = rw e refl

reaches_more : (s t u : State) (l : List ℕ) (ls : List (List ℕ)) → after_line s (line_said l) ≡ Ok t → Reaches t u ls
    → Reaches s u (l ∷ ls)
reaches_more s t u l ls e r =
    let g = line_grown s t (line_said l) e in
    record {
      reads = λ n more. read_one n s t l (ls ++ more) e ∙ r.reads (n + 1) more
          ∙ ap (λ (k : ℕ). sections_in k u more) (plus_one n (length ls));
      grown = (
        g.0 ++ r.grown.0,
        r.grown.1 ∙ ap (λ (x : List Section). x ++ r.grown.0) g.1
            ∙ append_assoc s.done g.0 r.grown.0,
      );
      quiet = λ none.
          let same = r.quiet none in
          same ∙ line_quiet s t (line_said l) e (subst (λ (x : State). x.part ≡ Between) same none);
    }
  where
    plus_one : (n k : ℕ) → (n + 1) + k ≡ n + suc k
    plus_one n k = omega arith

-- what comes next fails
abbrev FailsNext : State → List (List ℕ) → Fault → Type 0
FailsNext t [] f = at_end t.done t.part ≡ Err f
FailsNext t (l ∷ ls) f = after_line t (line_said l) ≡ Err f

-- where reading fails
record Stops (n : ℕ) (s : State) (ls : List (List ℕ)) (f : Fault) (m : ℕ) : Type 0 where
  front : List (List ℕ)
  rest : List (List ℕ)
  at : State
  split : ls ≡ front ++ rest
  place : m ≡ n + length front
  reaches : Reaches s at front
  fails : FailsNext at rest f

same_place : {A : Type 0} {p q : Place} → ◌≡◌ {A = Result A Place} (Err p) (Err q) → p ≡ q
same_place e = cc e

numbered_err : {A : Type 0} (n m : ℕ) (r : Result A Fault) (f : Fault) → numbered n r ≡ Err (f, m)
    → (r ≡ Err f) × (m ≡ n)
numbered_err n m (Ok x) f e = absurd (cc e)
numbered_err n m (Err g) f e =
    (ap (λ (p : Place). Err p.0) (same_place e), sym (ap (λ (p : Place). p.1) (same_place e)))

then_err : {A B : Type 0} (n m : ℕ) (r : Result A Fault) (g : A → Result B Place) (f : Fault)
    → then_read (numbered n r) g ≡ Err (f, m) → ((r ≡ Err f) × (m ≡ n)) ⊎ ((x : A) × (r ≡ Ok x) × (g x ≡ Err (f, m)))
then_err n m (Ok x) g f e = inr (x, refl, e)
then_err n m (Err h) g f e =
    inl (ap (λ (p : Place). Err p.0) (same_place e), sym (ap (λ (p : Place). p.1) (same_place e)))

plus_none : (n : ℕ) → n ≡ n + 0
plus_none n = omega arith

stop : (n m : ℕ) (s : State) (ls : List (List ℕ)) (f : Fault) → sections_in n s ls ≡ Err (f, m) → Stops n s ls f m
unfolding sections_in
stop n m s [] f e =
    let p = numbered_err n m (at_end s.done s.part) f e in
    record {
      front = [];
      rest = [];
      at = s;
      split = refl;
      place = p.1 ∙ plus_none n;
      reaches =
          reaches_none s;
      fails = p.0;
    }
stop n m s (l ∷ ls) f e = elim (then_err n m (after_line s (line_said l)) (λ t. sections_in (n + 1) t ls) f e) [
  | inl here' ↦
      record {
        front = [];
        rest = l ∷ ls;
        at = s;
        split = refl;
        place = here'.1 ∙ plus_none n;
        reaches =
            reaches_none s;
        fails = here'.0;
      }
  | inr later' ↦
      let r = stop (n + 1) m later'.0 ls f later'.2 in
      record {
        front = l ∷ r.front;
        rest = r.rest;
        at = r.at;
        split = ap (λ (x : List (List ℕ)). l ∷ x) r.split;
        place = omega (arith, r.place);
        reaches = reaches_more s later'.0 r.at l r.front later'.1 r.reaches;
        fails = r.fails;
      }
]

-- lines that end the section at hand

ending : Part → List (List ℕ)
ending Between = []
ending (Named n) = cover_line ∷ weekend_line ∷ []
ending (Covered n a b) = weekend_line ∷ []
ending (Open s) = []

ended_covered : (n : ℕ) (done : List Section) (m : List ℕ) (a b : ℤ)
    → (ss : List Section) × (sections_in n (record { done = done; part = Covered m a b }) (weekend_line ∷ []) ≡ Ok ss)
unfolding sections_in
ended_covered n done m a b =
    (done ++ (record { name = m; first = a; last = b; weekend = no_days; holidays = [] }) ∷ [], rw says_weekend refl)

can_end : (n : ℕ) (done : List Section) (part : Part)
    → (more : List (List ℕ)) × (ss : List Section) × (sections_in n (record { done = done; part = part }) more ≡ Ok ss)
unfolding sections_in
can_end n done Between = ([], done, refl)
can_end n done (Named m) =
    let c = says_cover in
    let r = ended_covered (n + 1) done m c.0 c.1 in
    (cover_line ∷ weekend_line ∷ [], r.0, rw c.2 r.1)
can_end n done (Covered m a b) = let r = ended_covered n done m a b in (weekend_line ∷ [], r.0, r.1)
can_end n done (Open s) = ([], done ++ s ∷ [], refl)

-- reading is spelling

reads_spell : (n : ℕ) (files lines : List (List ℕ)) (earlier ss : List Section) → CalFiles files earlier
    → sections_in n (fresh earlier) lines ≡ Ok ss
    → (own : List Section) × (ss ≡ earlier ++ own) × SpellsSections files lines earlier own
reads_spell n files lines earlier ss before e =
    let go = reads_continue n (fresh earlier) lines ss tt e in
    let apart = sections_apart n (fresh earlier) lines ss (record { done = before.distinct; part = tt }) e in (
      go.new,
      go.is,
      record {
        before = before;
        says = go.says;
        distinct = subst AreDistinct go.is apart;
        lawful =
            go.lawful;
      },
    )

spelt_reads : (n : ℕ) (files lines : List (List ℕ)) (earlier own : List Section) → SpellsSections files lines earlier own
    → sections_in n (fresh earlier) lines ≡ Ok (earlier ++ own)
spelt_reads n files lines earlier own s =
    lines_read n (fresh earlier) lines (earlier ++ own)
    (record { new = own; is = refl; says = s.says; lawful = s.lawful }) s.distinct

same_sections : {E : Type 0} {x y : List Section} → ◌≡◌ {A = Result (List Section) E} (Ok x) (Ok y) → x ≡ y
same_sections e = cc e

-- files spell one list of sections
one_earlier : (files : List (List ℕ)) (a b : List Section) → CalFiles files a → CalFiles files b → a ≡ b
one_earlier files a b ha hb = same_sections (sym (spelt_is_read files a ha) ∙ spelt_is_read files b hb)

-- a state that is reached can go on
can_go_on : (files lines : List (List ℕ)) (earlier : List Section) (t : State) → CalFiles files earlier
    → Reaches (fresh earlier) t lines → CanGoOn files lines
can_go_on files lines earlier t before r =
    let c = can_end (1 + length lines) t.done t.part in
    let s = reads_spell 1 files (lines ++ c.0) earlier c.1 before (r.reads 1 c.0 ∙ c.2) in
    record { more = c.0; earlier = earlier; own = s.0; spells = s.2 }

-- what reading the lines to the end gives, from a state after them

end_reads : (n : ℕ) (t : State) → sections_in n t [] ≡ numbered n (at_end t.done t.part)
unfolding sections_in
end_reads n t = refl

lines_end : (earlier : List Section) (t : State) (lines : List (List ℕ)) → Reaches (fresh earlier) t lines
    → sections_in 1 (fresh earlier) lines ≡ numbered (1 + length lines) (at_end t.done t.part)
lines_end earlier t lines r =
    subst (λ (ls : List (List ℕ)). sections_in 1 (fresh earlier) ls
    ≡ numbered (1 + length lines) (at_end t.done t.part)) (append-nil lines) (r.reads 1 []
    ∙ end_reads (1 + length lines) t)

reads_err : (n : ℕ) (t : State) (l : List ℕ) (ls : List (List ℕ)) (f : Fault) → after_line t (line_said l) ≡ Err f
    → sections_in n t (l ∷ ls) ≡ Err (f, n)
unfolding sections_in
reads_err n t l ls f e = rw e refl

reads_from : (files lines : List (List ℕ)) (earlier before own : List Section) → CalFiles files earlier
    → SpellsSections files lines before own → sections_in 1 (fresh earlier) lines ≡ Ok (earlier ++ own)
reads_from files lines earlier before own c s =
    subst (λ (x : List Section). sections_in 1 (fresh x) lines ≡ Ok (x ++ own))
    (one_earlier files before earlier s.before c) (spelt_reads 1 files lines before own s)

-- where the lines are whole sections, the end of the state after them is those
ends_with : (files lines : List (List ℕ)) (earlier before own : List Section) (t : State) → CalFiles files earlier
    → Reaches (fresh earlier) t lines → SpellsSections files lines before own → at_end t.done t.part ≡ Ok (earlier ++ own)
ends_with files lines earlier before own t c r s =
    numbered_ok (1 + length lines) (at_end t.done t.part) (earlier ++ own) (sym (lines_end earlier t lines r)
    ∙ reads_from files lines earlier before own c s)

apart_results : {A : Type 0} {p : Place} {x : A} → ◌≡◌ {A = Result A Place} (Err p) (Ok x) → ⊥
apart_results e = cc e

-- nothing goes on after a line that fails
goes_no_further : (files lines : List (List ℕ)) (earlier : List Section) (t : State) (l : List ℕ) (f : Fault)
    → CalFiles files earlier → Reaches (fresh earlier) t lines → after_line t (line_said l) ≡ Err f
    → CanGoOn files (lines ++ l ∷ []) → ⊥
goes_no_further files lines earlier t l f c r e go =
    let read = reads_from files ((lines ++ l ∷ []) ++ go.more) earlier go.earlier go.own c go.spells in
    let whole = subst (λ (ls : List (List ℕ)). sections_in 1 (fresh earlier) ls ≡ Ok (earlier ++ go.own))
    (append_assoc lines (l ∷ []) go.more) read in
    apart_results (sym (r.reads 1 (l ∷ go.more) ∙ reads_err (1 + length lines) t l go.more f e) ∙ whole)

-- a repeated centre

begun_repeat : (done : List Section) (n : List ℕ) → begun done n ≡ Err Repeat → is_named n done ≡ true
begun_repeat done n e = elim (cases_Bool (is_named n done)) [
  | inl named ↦ named
  | inr new ↦ absurd (let k = rw new at e in cc k)
]

-- the line names a centre that an earlier section has
abbrev Repeats : List Section → Part → Said → Type 0
Repeats done part said =
    (name : List ℕ) × (said ≡ Center name) × (all : List Section) × (at_end done part ≡ Ok all)
    × (is_named name all ≡ true)

center_repeat : (done : List Section) (part : Part) (n : List ℕ) → after_center done part n ≡ Err Repeat
    → Repeats done part (Center n)
center_repeat done Between n e = (n, refl, done, refl, begun_repeat done n e)
center_repeat done (Named m) n e = absurd (cc e)
center_repeat done (Covered m a b) n e = absurd (cc e)
center_repeat done (Open s) n e = (n, refl, done ++ s ∷ [], refl, begun_repeat (done ++ s ∷ []) n e)

cover_syntax : (done : List Section) (part : Part) (a b : ℤ) (f : Fault) → after_cover done part a b ≡ Err f
    → f ≡ Syntax
cover_syntax done Between a b f e = cc e
cover_syntax done (Named m) a b f e = absurd (cc e)
cover_syntax done (Covered m c d) a b f e = cc e
cover_syntax done (Open s) a b f e = cc e

weekend_syntax : (done : List Section) (part : Part) (w : List Bool) (f : Fault) → after_weekend done part w ≡ Err f
    → f ≡ Syntax
weekend_syntax done Between w f e = cc e
weekend_syntax done (Named m) w f e = cc e
weekend_syntax done (Covered m a b) w f e = absurd (cc e)
weekend_syntax done (Open s) w f e = cc e

holiday_never_repeat : (done : List Section) (part : Part) (d : ℤ) → after_holiday done part d ≡ Err Repeat → ⊥
holiday_never_repeat done Between d e = cc e
holiday_never_repeat done (Named m) d e = cc e
holiday_never_repeat done (Covered m a b) d e = cc e
holiday_never_repeat done (Open s) d e = elim (cases_Bool (fits_section s d)) [
  | inl fits ↦
      let e' = rw fits at e in
      elim (cases_Bool (nat_le most_holidays (length s.holidays))) [
        | inl full ↦ let x = rw full at e' in cc x
        | inr room ↦ let x = rw room at e' in cc x
      ]
  | inr unfit ↦ let x = rw unfit at e in cc x
]

not_syntax_repeat : Repeat ≡ Syntax → ⊥
not_syntax_repeat e = cc e

not_syntax_many : TooMany ≡ Syntax → ⊥
not_syntax_many e = cc e

line_repeat : (done : List Section) (part : Part) (said : Said)
    → after_line (record { done = done; part = part }) said ≡ Err Repeat → Repeats done part said
line_repeat done part Nothing e = absurd (cc e)
line_repeat done part (Center n) e = center_repeat done part n e
line_repeat done part (Cover a b) e = absurd (not_syntax_repeat (cover_syntax done part a b Repeat e))
line_repeat done part (Weekend w) e = absurd (not_syntax_repeat (weekend_syntax done part w Repeat e))
line_repeat done part (Holiday d) e = absurd (holiday_never_repeat done part d e)
line_repeat done part Wrong e = absurd (cc e)

-- a holiday too many

begun_never_many : (done : List Section) (n : List ℕ) → begun done n ≡ Err TooMany → ⊥
begun_never_many done n e = elim (cases_Bool (is_named n done)) [
  | inl named ↦ let k = rw named at e in cc k
  | inr new ↦ let k = rw new at e in cc k
]

center_never_many : (done : List Section) (part : Part) (n : List ℕ) → after_center done part n ≡ Err TooMany → ⊥
center_never_many done Between n e = begun_never_many done n e
center_never_many done (Named m) n e = cc e
center_never_many done (Covered m a b) n e = cc e
center_never_many done (Open s) n e = begun_never_many (done ++ s ∷ []) n e

-- the line is a holiday that fits, and its section is full
record Overflows (part : Part) (said : Said) : Type 0 where
  section : Section
  day : ℤ
  at_hand : part ≡ Open section
  says : said ≡ Holiday day
  fits : fits_section section day ≡ true
  full : nat_le most_holidays (length section.holidays) ≡ true

holiday_many : (done : List Section) (part : Part) (d : ℤ) → after_holiday done part d ≡ Err TooMany
    → Overflows part (Holiday d)
holiday_many done Between d e = absurd (cc e)
holiday_many done (Named m) d e = absurd (cc e)
holiday_many done (Covered m a b) d e = absurd (cc e)
holiday_many done (Open s) d e = elim (cases_Bool (fits_section s d)) [
  | inl fits ↦
      let e' = rw fits at e in
      elim (cases_Bool (nat_le most_holidays (length s.holidays))) [
        | inl full ↦ record { section = s; day = d; at_hand = refl; says = refl; fits = fits; full = full }
        | inr room ↦ absurd (let x = rw room at e' in cc x)
      ]
  | inr unfit ↦ absurd (let x = rw unfit at e in cc x)
]

line_many : (done : List Section) (part : Part) (said : Said)
    → after_line (record { done = done; part = part }) said ≡ Err TooMany → Overflows part said
line_many done part Nothing e = absurd (cc e)
line_many done part (Center n) e = absurd (center_never_many done part n e)
line_many done part (Cover a b) e = absurd (not_syntax_many (cover_syntax done part a b TooMany e))
line_many done part (Weekend w) e = absurd (not_syntax_many (weekend_syntax done part w TooMany e))
line_many done part (Holiday d) e = holiday_many done part d e
line_many done part Wrong e = absurd (cc e)

-- the last of two lists
same_front : (a b c : List Section) → a ++ b ≡ a ++ c → b ≡ c
same_front [] b c e = e
same_front (s ∷ a) b c e = same_front a b c (same_rest e)
  where
    same_rest : {x y : Section} {xs ys : List Section} → x ∷ xs ≡ y ∷ ys → xs ≡ ys
    same_rest e = cc e

same_last : (a b : List Section) (x y : Section) → a ++ x ∷ [] ≡ b ++ y ∷ [] → x ≡ y
same_last [] [] x y e = cc e
same_last [] (t ∷ []) x y e = absurd (cc e)
same_last [] (t ∷ (u ∷ b)) x y e = absurd (cc e)
same_last (s ∷ []) [] x y e = absurd (cc e)
same_last (s ∷ (u ∷ a)) [] x y e = absurd (cc e)
same_last (s ∷ a) (t ∷ b) x y e = same_last a b x y (same_rest e)
  where
    same_rest : {p q : Section} {xs ys : List Section} → p ∷ xs ≡ q ∷ ys → xs ≡ ys
    same_rest e = cc e

never_empty : (a : List Section) (x : Section) → a ++ x ∷ [] ≡ [] → ⊥
never_empty [] x e = cc e
never_empty (s ∷ a) x e = cc e

exactly : (a b : ℕ) → nat_le a b ≡ true → b ≤ a → b ≡ a
exactly a b h k = grind arith

-- a line that fails is of its kind

repeat_kind : (files lines : List (List ℕ)) (earlier : List Section) (t : State) (l : List ℕ) → CalFiles files earlier
    → Reaches (fresh earlier) t lines → after_line t (line_said l) ≡ Err Repeat → IsRepeat files lines l
repeat_kind files lines earlier t l c r e =
    let p = line_repeat t.done t.part (line_said l) e in
    let s = reads_spell 1 files lines earlier p.2 c (lines_end earlier t lines r
    ∙ ap (λ (x : Result (List Section) Fault). numbered (1 + length lines) x) p.3) in
    record {
      earlier = earlier;
      own = s.0;
      name = p.0;
      spells = s.2;
      says = p.1;
      named =
          subst (λ (x : List Section). is_named p.0 x ≡ true) s.1 p.4;
    }

end_open : (done : List Section) (part : Part) (s : Section) → part ≡ Open s → at_end done part ≡ Ok (done ++ s ∷ [])
end_open done part s e = rw e refl

many_kind : (files lines : List (List ℕ)) (earlier : List Section) (t : State) (l : List ℕ) → CalFiles files earlier
    → Reaches (fresh earlier) t lines → after_line t (line_said l) ≡ Err TooMany → IsOneTooMany files lines l
many_kind files lines earlier t l c r e =
    let p = line_many t.done t.part (line_said l) e in
    let x = p.section in
    let s = reads_spell 1 files lines earlier (t.done ++ x ∷ []) c (lines_end earlier t lines r
    ∙ ap (λ (y : Result (List Section) Fault). numbered (1 + length lines) y)
    (end_open t.done t.part x p.at_hand)) in
    let front = r.grown.0 in
    let own : s.0 ≡ front ++ x ∷ [] =
    same_front earlier s.0 (front ++ x ∷ []) (sym s.1 ∙ ap (λ (y : List Section). y ++ x ∷ []) r.grown.1
    ∙ append_assoc earlier front (x ∷ [])) in
    let spells = subst (λ (y : List Section). SpellsSections files lines earlier y) own s.2 in
    let lawful = (lawful_back front (x ∷ []) spells.lawful).0 in
    let from = both_true (is_le (int_cmp x.first p.day)) (is_le (int_cmp p.day x.last)
    && all_before p.day x.holidays) p.fits in
    let to = both_true (is_le (int_cmp p.day x.last)) (all_before p.day x.holidays) from.1 in
    record {
      earlier = earlier;
      own = front;
      section = x;
      day = p.day;
      spells = spells;
      says = p.says;
      rises = rises_more x.first x.last p.day x.holidays lawful.rise (le_true x.first p.day from.0)
          (le_true p.day x.last to.0) to.1;
      full = exactly most_holidays (length x.holidays) p.full lawful.few;
    }

center_at_end : (done : List Section) (part : Part) (n : List ℕ) (all : List Section) → at_end done part ≡ Ok all
    → after_center done part n ≡ begun all n
center_at_end done Between n all e = ap (λ (x : List Section). begun x n) (same_sections e)
center_at_end done (Named m) n all e = absurd (cc e)
center_at_end done (Covered m a b) n all e = absurd (cc e)
center_at_end done (Open s) n all e = ap (λ (x : List Section). begun x n) (same_sections e)

apart_faults : {A : Type 0} → ◌≡◌ {A = Result A Fault} (Err Repeat) (Err Syntax) → ⊥
apart_faults e = cc e

apart_many : {A : Type 0} → ◌≡◌ {A = Result A Fault} (Err TooMany) (Err Syntax) → ⊥
apart_many e = cc e

begun_named : (all : List Section) (n : List ℕ) → is_named n all ≡ true → begun all n ≡ Err Repeat
begun_named all n h = rw h refl

no_repeat : (files lines : List (List ℕ)) (earlier : List Section) (t : State) (l : List ℕ) → CalFiles files earlier
    → Reaches (fresh earlier) t lines → after_line t (line_said l) ≡ Err Syntax → IsRepeat files lines l → ⊥
no_repeat files lines earlier t l c r e is =
    let same = one_earlier files is.earlier earlier is.spells.before c in
    let end = ends_with files lines earlier is.earlier is.own t c r is.spells in
    let named = subst (λ (x : List Section). is_named is.name (x ++ is.own) ≡ true) same is.named in
    let says = subst (λ (s : Said). after_line t s ≡ Err Syntax) is.says e in
    apart_faults (sym (center_at_end t.done t.part is.name (earlier ++ is.own) end
    ∙ begun_named (earlier ++ is.own) is.name named) ∙ says)

fitting : (s : Section) (d : ℤ) → RisesWithin s.first s.last (s.holidays ++ d ∷ []) → fits_section s d ≡ true
fitting s d rise =
    let r = rises_to s.first s.last d s.holidays [] rise in
    rw (true_le s.first d r.0, true_le d s.last r.1, r.2) refl

is_full : (n limit : ℕ) → n ≡ limit → nat_le limit n ≡ true
is_full n limit e = grind arith

overflows : (done : List Section) (s : Section) (d : ℤ) → fits_section s d ≡ true
    → nat_le most_holidays (length s.holidays) ≡ true → after_holiday done (Open s) d ≡ Err TooMany
overflows done s d fits full = rw (fits, full) refl

many_fails : (done : List Section) (part : Part) (earlier own : List Section) (s : Section) (d : ℤ)
    → (part ≡ Between → done ≡ earlier) → at_end done part ≡ Ok (earlier ++ (own ++ s ∷ []))
    → RisesWithin s.first s.last (s.holidays ++ d ∷ []) → length s.holidays ≡ most_holidays
    → after_holiday done part d ≡ Err TooMany
many_fails done Between earlier own s d quiet e rise full =
    absurd (never_empty own s
    (same_front earlier (own ++ s ∷ []) [] (sym (same_sections e) ∙ quiet refl ∙ sym (append-nil earlier))))
many_fails done (Named m) earlier own s d quiet e rise full = absurd (cc e)
many_fails done (Covered m a b) earlier own s d quiet e rise full = absurd (cc e)
many_fails done (Open x) earlier own s d quiet e rise full =
    let same = same_last done (earlier ++ own) x s (same_sections e ∙ sym (append_assoc earlier own (s ∷ []))) in
    subst (λ (y : Section). after_holiday done (Open y) d ≡ Err TooMany) (sym same)
    (overflows done s d (fitting s d rise) (is_full (length s.holidays) most_holidays full))

no_many : (files lines : List (List ℕ)) (earlier : List Section) (t : State) (l : List ℕ) → CalFiles files earlier
    → Reaches (fresh earlier) t lines → after_line t (line_said l) ≡ Err Syntax → IsOneTooMany files lines l → ⊥
no_many files lines earlier t l c r e is =
    let end = ends_with files lines earlier is.earlier (is.own ++ is.section ∷ []) t c r is.spells in
    let says = subst (λ (s : Said). after_line t s ≡ Err Syntax) is.says e in
    let quiet = λ (none : t.part ≡ Between). ap (λ (s : State). s.done) (r.quiet none) in
    apart_many (sym (many_fails t.done t.part earlier is.own is.section is.day quiet end is.rises is.full) ∙ says)

line_kind : (f : Fault) (files lines : List (List ℕ)) (earlier : List Section) (t : State) (l : List ℕ)
    → CalFiles files earlier → Reaches (fresh earlier) t lines → after_line t (line_said l) ≡ Err f
    → IsFaultKind f files lines l
line_kind Syntax files lines earlier t l c r e =
    (no_repeat files lines earlier t l c r e, no_many files lines earlier t l c r e)
line_kind Repeat files lines earlier t l c r e = repeat_kind files lines earlier t l c r e
line_kind TooMany files lines earlier t l c r e = many_kind files lines earlier t l c r e

end_syntax : (done : List Section) (part : Part) (f : Fault) → at_end done part ≡ Err f → f ≡ Syntax
end_syntax done Between f e = absurd (cc e)
end_syntax done (Named m) f e = cc e
end_syntax done (Covered m a b) f e = cc e
end_syntax done (Open s) f e = absurd (cc e)

end_differs : {A : Type 0} {f : Fault} {x : A} → ◌≡◌ {A = Result A Fault} (Err f) (Ok x) → ⊥
end_differs e = cc e

fault_behind : (f : Fault) (files lines rest : List (List ℕ)) (earlier : List Section) (t : State)
    → CalFiles files earlier → Reaches (fresh earlier) t lines → FailsNext t rest f → IsFaultBehind f files lines rest
fault_behind f files lines [] earlier t c r e = (
  end_syntax t.done t.part f e,
  (λ before own s. end_differs (sym e ∙ ends_with files lines earlier before own t c r s)),
)
fault_behind f files lines (l ∷ ls) earlier t c r e =
    (goes_no_further files lines earlier t l f c r e, line_kind f files lines earlier t l c r e)

-- over the files in order

spot_at : Fault → ℕ → ℕ → Spot
spot_at f k n = record { fault = f; file = k; line = n }

first_in_file : (before after : List (List ℕ)) (file : List ℕ) (earlier : List Section) (p : Place)
    → CalFiles before earlier → sections_of earlier file ≡ Err p
    → IsFirstCalendarFault (before ++ file ∷ after) (record { fault = p.0; file = 1 + length before; line = p.1 })
first_in_file before after file earlier p c e =
    let st = stop 1 p.1 (fresh earlier) (seen_lines file) p.0 e in
    record {
      before = before;
      file = file;
      after = after;
      lines = st.front;
      rest = st.rest;
      files_are = refl;
      lines_are = st.split;
      file_number = refl;
      line_number = st.place;
      goes_on = can_go_on before st.front earlier st.at c st.reaches;
      behind = fault_behind p.0 before st.front st.rest earlier st.at c st.reaches st.fails;
    }

then_file_err : {A B : Type 0} (r : Result A Spot) (f : A → Result B Spot) (s : Spot) → then_file r f ≡ Err s
    → (r ≡ Err s) ⊎ ((x : A) × (r ≡ Ok x) × (f x ≡ Err s))
then_file_err (Ok x) f s e = inr (x, refl, e)
then_file_err (Err p) f s e = inl (same_error e)
  where
    same_error : {X Y : Type 0} {p q : Spot} → ◌≡◌ {A = Result X Spot} (Err p) (Err q)
        → ◌≡◌ {A = Result Y Spot} (Err p) (Err q)
    same_error e = cc e

in_file_err : {A : Type 0} (k : ℕ) (r : Result A Place) (s : Spot) → in_file k r ≡ Err s
    → (p : Place) × (r ≡ Err p) × (s ≡ record { fault = p.0; file = k; line = p.1 })
in_file_err k (Ok x) s e = absurd (cc e)
in_file_err k (Err p) s e = (p, refl, sym (same_spot e))
  where
    same_spot : {X : Type 0} {p q : Spot} → ◌≡◌ {A = Result X Spot} (Err p) (Err q) → p ≡ q
    same_spot e = cc e

one_file_more : (k : ℕ) (d done next : List Section) (before : List (List ℕ)) (f : List ℕ)
    → calendars_in k d before ≡ Ok done → sections_of done f ≡ Ok next → calendars_in k d (before ++ f ∷ []) ≡ Ok next
unfolding calendars_in
one_file_more k d done next [] f e h =
    rw (subst (λ (x : List Section). sections_of x f ≡ Ok next) (sym (same_sections e)) h) refl
one_file_more k d done next (g ∷ gs) f e h =
    let p = then_file_ok (in_file k (sections_of d g)) (λ x. calendars_in (k + 1) x gs) done e in
    rw (file_ok k (sections_of d g) p.0 p.1) (one_file_more (k + 1) p.0 done next gs f p.2 h)

length_one_more : (before : List (List ℕ)) (f : List ℕ) → length (before ++ f ∷ []) ≡ suc (length before)
length_one_more [] f = refl
length_one_more (g ∷ gs) f = ap suc (length_one_more gs f)

next_file : (k n m : ℕ) → k ≡ 1 + n → m ≡ suc n → k + 1 ≡ 1 + m
next_file k n m h g = omega (arith, h, g)

first_from : (before fs : List (List ℕ)) (done : List Section) (k : ℕ) (s : Spot) → calendars_in 1 [] before ≡ Ok done
    → k ≡ 1 + length before → calendars_in k done fs ≡ Err s → IsFirstCalendarFault (before ++ fs) s
unfolding calendars_in
first_from before [] done k s read number e = absurd (cc e)
first_from before (f ∷ fs) done k s read number e =
    elim (then_file_err (in_file k (sections_of done f)) (λ d. calendars_in (k + 1) d fs) s e) [
      | inl fails ↦
          let p = in_file_err k (sections_of done f) s fails in
          let c = read_is_spelt before done (calendars_apart 1 [] before done tt read) read in
          let spot : s ≡ record { fault = p.0.0; file = 1 + length before; line = p.0.1 } =
          subst (λ (n : ℕ). s ≡ record { fault = p.0.0; file = n; line = p.0.1 }) number p.2 in
          subst (IsFirstCalendarFault (before ++ f ∷ fs)) (sym spot) (first_in_file before fs f done p.0 c p.1)
      | inr goes ↦
          let here' = file_ok k (sections_of done f) goes.0 goes.1 in
          subst (λ (x : List (List ℕ)). IsFirstCalendarFault x s) (append_assoc before (f ∷ []) fs)
          (first_from (before ++ f ∷ []) fs goes.0 (k + 1) s (one_file_more 1 [] done goes.0 before f read here')
          (next_file k (length before) (length (before ++ f ∷ [])) number (length_one_more before f)) goes.2)
    ]

nothing_read : calendars_in 1 [] [] ≡ Ok []
unfolding calendars_in
nothing_read = refl

-- reading fails at the first fault alone
pub fault_is_first : (files : List (List ℕ)) (s : Spot) → calendars_in 1 [] files ≡ Err s → IsFirstCalendarFault files s
fault_is_first files s e = first_from [] files [] 1 s nothing_read refl e

-- and the first fault is where reading fails

walk : (n : ℕ) (s : State) (ls more : List (List ℕ)) (ss : List Section) → sections_in n s (ls ++ more) ≡ Ok ss
    → (t : State) × Reaches s t ls
unfolding sections_in
walk n s [] more ss e = (s, reaches_none s)
walk n s (l ∷ ls) more ss e =
    let p = then_ok (numbered n (after_line s (line_said l))) (λ t. sections_in (n + 1) t (ls ++ more)) ss e in
    let step = numbered_ok n (after_line s (line_said l)) p.0 p.1 in
    let r = walk (n + 1) p.0 ls more ss p.2 in
    (r.0, reaches_more s p.0 r.0 l ls step r.1)

either : {A E : Type 0} (r : Result A E) → ((x : A) × (r ≡ Ok x)) ⊎ ((e : E) × (r ≡ Err e))
either (Ok x) = inl (x, refl)
either (Err e) = inr (e, refl)

center_or_holiday : (s : Said) (n : List ℕ) (d : ℤ) → s ≡ Center n → s ≡ Holiday d → ⊥
center_or_holiday s n d a b = cc (a, b)

one_kind : (f g : Fault) (files lines : List (List ℕ)) (l : List ℕ) → IsFaultKind f files lines l
    → IsFaultKind g files lines l → f ≡ g
one_kind Syntax Syntax files lines l a b = refl
one_kind Syntax Repeat files lines l a b = absurd (a.0 b)
one_kind Syntax TooMany files lines l a b = absurd (a.1 b)
one_kind Repeat Syntax files lines l a b = absurd (b.0 a)
one_kind Repeat Repeat files lines l a b = refl
one_kind Repeat TooMany files lines l a b = absurd (center_or_holiday (line_said l) a.name b.day a.says b.says)
one_kind TooMany Syntax files lines l a b = absurd (b.1 a)
one_kind TooMany Repeat files lines l a b = absurd (center_or_holiday (line_said l) b.name a.day b.says a.says)
one_kind TooMany TooMany files lines l a b = refl

end_fails : (f : Fault) (files lines : List (List ℕ)) (earlier : List Section) (t : State) → CalFiles files earlier
    → Reaches (fresh earlier) t lines → IsFaultBehind f files lines [] → at_end t.done t.part ≡ Err f
end_fails f files lines earlier t c r b = elim (either (at_end t.done t.part)) [
  | inl ends ↦
      let s = reads_spell 1 files lines earlier ends.0 c (lines_end earlier t lines r
      ∙ ap (λ (x : Result (List Section) Fault). numbered (1 + length lines) x) ends.1) in
      absurd (b.1 earlier s.0 s.2)
  | inr fails ↦ fails.1 ∙ ap (λ (g : Fault). Err g) (end_syntax t.done t.part fails.0 fails.1 ∙ sym b.0)
]

line_fails : (f : Fault) (files lines ls : List (List ℕ)) (l : List ℕ) (earlier : List Section) (t : State)
    → CalFiles files earlier → Reaches (fresh earlier) t lines → IsFaultBehind f files lines (l ∷ ls)
    → after_line t (line_said l) ≡ Err f
line_fails f files lines ls l earlier t c r b = elim (either (after_line t (line_said l))) [
  | inl goes ↦
      let u = goes.0 in
      let end = can_end ((1 + length lines) + 1) u.done u.part in
      let read = r.reads 1 (l ∷ end.0) ∙ read_one (1 + length lines) t u l end.0 goes.1 ∙ end.2 in
      let s = reads_spell 1 files (lines ++ l ∷ end.0) earlier end.1 c read in
      let behind' =
      subst (λ (x : List (List ℕ)). SpellsSections files x earlier s.0) (sym (append_assoc lines (l ∷ []) end.0)) s.2 in
      absurd (b.0 (record { more = end.0; earlier = earlier; own = s.0; spells = behind' }))
  | inr fails ↦
      fails.1 ∙ ap (λ (g : Fault). Err g)
      (one_kind fails.0 f files lines l (line_kind fails.0 files lines earlier t l c r fails.1) b.1)
]

end_err : (n : ℕ) (t : State) (f : Fault) → at_end t.done t.part ≡ Err f → sections_in n t [] ≡ Err (f, n)
unfolding sections_in
end_err n t f e = rw e refl

behind_fails : (f : Fault) (files lines rest : List (List ℕ)) (earlier : List Section) (t : State)
    → CalFiles files earlier → Reaches (fresh earlier) t lines → IsFaultBehind f files lines rest
    → sections_in 1 (fresh earlier) (lines ++ rest) ≡ Err (f, 1 + length lines)
behind_fails f files lines [] earlier t c r b =
    r.reads 1 [] ∙ end_err (1 + length lines) t f (end_fails f files lines earlier t c r b)
behind_fails f files lines (l ∷ ls) earlier t c r b =
    r.reads 1 (l ∷ ls) ∙ reads_err (1 + length lines) t l ls f (line_fails f files lines ls l earlier t c r b)

files_behind : (k : ℕ) (d done : List Section) (before fs : List (List ℕ)) → calendars_in k d before ≡ Ok done
    → calendars_in k d (before ++ fs) ≡ calendars_in (k + length before) done fs
unfolding calendars_in
files_behind k d done [] fs e =
    subst (λ (x : List Section). calendars_in k d fs ≡ calendars_in (k + 0) x fs) (same_sections e)
    (ap (λ (n : ℕ). calendars_in n d fs) (plus_none k))
files_behind k d done (g ∷ gs) fs e =
    let p = then_file_ok (in_file k (sections_of d g)) (λ x. calendars_in (k + 1) x gs) done e in
    rw (file_ok k (sections_of d g) p.0 p.1) (files_behind (k + 1) p.0 done gs fs p.2
    ∙ ap (λ (n : ℕ). calendars_in n done fs) (plus_one k (length gs)))
  where
    plus_one : (n k : ℕ) → (n + 1) + k ≡ n + suc k
    plus_one n k = omega arith

file_fails : (k : ℕ) (done : List Section) (file : List ℕ) (fs : List (List ℕ)) (p : Place)
    → sections_of done file ≡ Err p → calendars_in k done (file ∷ fs)
    ≡ Err (record { fault = p.0; file = k; line = p.1 })
unfolding calendars_in
file_fails k done file fs p e = rw e refl

-- the first fault of the files is what reading them gives
pub first_is_fault : (files : List (List ℕ)) (s : Spot) → IsFirstCalendarFault files s → calendars_in 1 [] files ≡ Err s
first_is_fault files s x =
    let go = x.goes_on in
    let c = go.spells.before in
    let w = walk 1 (fresh go.earlier) x.lines go.more (go.earlier ++ go.own)
    (spelt_reads 1 x.before (x.lines ++ go.more) go.earlier go.own go.spells) in
    let fails = behind_fails s.fault x.before x.lines x.rest go.earlier w.0 c w.1 x.behind in
    let file_errs =
    subst (λ (ls : List (List ℕ)). sections_in 1 (fresh go.earlier) ls ≡ Err (s.fault, 1 + length x.lines))
    (sym x.lines_are) fails in
    let whole = files_behind 1 [] go.earlier x.before (x.file ∷ x.after) (spelt_is_read x.before go.earlier c)
    ∙ file_fails (1 + length x.before) go.earlier x.file x.after (s.fault, 1 + length x.lines) file_errs in
    let here' = subst (λ (fs : List (List ℕ)). calendars_in 1 [] fs
    ≡ Err (record { fault = s.fault; file = 1 + length x.before; line = 1 + length x.lines }))
    (sym x.files_are) whole in
    here' ∙ ap (λ (k : ℕ). Err (record { fault = s.fault; file = k; line = 1 + length x.lines })) (sym x.file_number)
    ∙ ap (λ (n : ℕ). Err (record { fault = s.fault; file = s.file; line = n })) (sym x.line_number)

same_spots : {A : Type 0} {p q : Spot} → ◌≡◌ {A = Result A Spot} (Err p) (Err q) → p ≡ q
same_spots e = cc e

apart_spots : {A : Type 0} {p : Spot} {x : A} → ◌≡◌ {A = Result A Spot} (Err p) (Ok x) → ⊥
apart_spots e = cc e

-- at most one fault is the first
pub one_first_fault : (files : List (List ℕ)) (s t : Spot) → IsFirstCalendarFault files s → IsFirstCalendarFault files t → s ≡ t
one_first_fault files s t a b = same_spots (sym (first_is_fault files s a) ∙ first_is_fault files t b)

-- files with a fault spell no sections
pub faulty_spell_none : (files : List (List ℕ)) (s : Spot) (ss : List Section) → IsFirstCalendarFault files s
    → CalFiles files ss → ⊥
faulty_spell_none files s ss a c = apart_spots (sym (first_is_fault files s a) ∙ spelt_is_read files ss c)

-- files spell sections, or have a first fault
pub spelt_or_faulty : (files : List (List ℕ))
    → ((ss : List Section) × CalFiles files ss) ⊎ ((s : Spot) × IsFirstCalendarFault files s)
spelt_or_faulty files = elim (either (calendars_in 1 [] files)) [
  | inl read ↦ inl (read.0, read_is_spelt files read.0 (calendars_apart 1 [] files read.0 tt read.1) read.1)
  | inr fails ↦ inr (fails.0, fault_is_first files fails.0 fails.1)
]
