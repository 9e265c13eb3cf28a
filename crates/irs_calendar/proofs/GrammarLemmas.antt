-- Reading line by line gives the sections that the files spell, and gives some wherever they spell some.
use Rattle.std.proofs.Common.{◌≡◌, inl, inr, ℕ, suc, ◌+◌, ◌<◌, ◌≤◌, Bool, true, false, ◌&&◌, ◌||◌, List, [], ◌∷◌}
use Rattle.std.proofs.Common.{◌++◌, map, length, Result, Ok, nat_le, append_assoc, arith, refl, sym, ◌∙◌, ap, subst, ℤ}
use Rattle.std.proofs.Common.{pos, ◌+ℤ◌, ◌≤ℤ◌}
use Rattle.std.specs.Ordering.{int_cmp, is_le, is_lt}
use Rattle.std.specs.Str.{bytes_eq}
use Rattle.std.proofs.lemmas.List.{append-nil}
use Rattle.std.proofs.lemmas.Bool.{cases_Bool}
use Rattle.jiff_core.proofs.SignedLemmas.{signed_arith}
use Rattle.irs_calendar.specs.Grammar.{seen_lines, Said, Nothing, Center, Cover, Weekend, Holiday, Wrong, line_said}
use Rattle.irs_calendar.specs.Grammar.{with_said, said_lines, section_lines, spelt, RisesWithin, IsLawfulSection}
use Rattle.irs_calendar.specs.Grammar.{AreLawful, AreSpelt, joined_sections, CalFiles}
use Rattle.irs_base.proofs.Orders.{le_true, true_le, lt_true, true_lt, both_true}
use Rattle.irs_calendar.specs.declared.sections.Section.{Section}
use Rattle.irs_base.specs.Limits.{most_holidays}
use Rattle.irs_calendar.specs.declared.part.Part.{Part}
use Rattle.irs_calendar.specs.declared.part.Part.TheVariants.{Between, Named, Covered, Open}
use Rattle.irs_calendar.specs.declared.part.State.{State}
use Rattle.irs_calendar.specs.declared.machine.Fault.{Fault}
use Rattle.irs_calendar.specs.Private.Files.{begun, after_center, after_cover, after_weekend, after_holiday}
use Rattle.irs_calendar.specs.Private.Rising.{all_before}
use Rattle.irs_calendar.specs.Private.Files.{after_line, at_end, fits_section, numbered, sections_in, sections_of}
use Rattle.irs_calendar.specs.Private.Files.{in_file, calendars_in}
use Rattle.irs_calendar.specs.Sections.{is_named, AreDistinct}
use Rattle.irs_calendar.proofs.DistinctLemmas.{numbered_ok, then_ok, file_ok, then_file_ok, same_state, or_false}
use Rattle.irs_calendar.proofs.DistinctLemmas.{turned}

-- holidays that rise

-- a later day in the cover may be appended to holidays that rise
pub rises_more : (low last d : ℤ) (hs : List ℤ) → RisesWithin low last hs → low ≤ℤ d → d ≤ℤ last
    → all_before d hs ≡ true → RisesWithin low last (hs ++ d ∷ [])
rises_more low last d [] rise from to before = (from, to, tt)
rises_more low last d (h ∷ hs) rise from to before =
    let b = both_true (is_lt (int_cmp h d)) (all_before d hs) before in
    let later = lt_true h d b.0 in
    (rise.0, rise.1, rises_more (h +ℤ pos 1) last d hs rise.2 (omega (arith, signed_arith, later)) to b.1)

-- a holiday that rises lies in the cover, after those before it
pub rises_to : (low last d : ℤ) (hs ys : List ℤ) → RisesWithin low last (hs ++ d ∷ ys)
    → (low ≤ℤ d) × (d ≤ℤ last) × (all_before d hs ≡ true)
rises_to low last d [] ys rise = (rise.0, rise.1, refl)
rises_to low last d (h ∷ hs) ys rise =
    let rest = rises_to (h +ℤ pos 1) last d hs ys rise.2 in (
      omega (arith, signed_arith, rise.0, rest.0),
      rest.1,
      rw (true_lt h d (omega (arith, signed_arith, rest.0)), rest.2) refl,
    )

at_most : (a b : ℕ) → nat_le a b ≡ false → suc b ≤ a
at_most a b h = grind arith

not_full : (a b : ℕ) → b < a → nat_le a b ≡ false
not_full a b h = grind arith

length_push : (hs : List ℤ) (d : ℤ) → length (hs ++ d ∷ []) ≡ suc (length hs)
length_push [] d = refl
length_push (h ∷ hs) d = ap suc (length_push hs d)

length_front : (hs : List ℤ) (d : ℤ) (ys : List ℤ) → length hs < length (hs ++ d ∷ ys)
length_front [] d ys = omega arith
length_front (h ∷ hs) d ys = let r = length_front hs d ys in omega (arith, r)

-- what the section at hand has said so far

-- the lines of the section at hand
abbrev said_part : Part → List Said
said_part Between = []
said_part (Named n) = Center n ∷ []
said_part (Covered n a b) = Center n ∷ Cover a b ∷ []
said_part (Open s) = section_lines s

-- the section at hand is lawful once it is open
abbrev pub IsLawfulPart : Part → Type 0
IsLawfulPart Between = Unit {0}
IsLawfulPart (Named n) = Unit {0}
IsLawfulPart (Covered n a b) = Unit {0}
IsLawfulPart (Open s) = IsLawfulSection s

-- the sections are those that are done, and new ones that the part at hand and the lines to come spell
pub record Continues (s : State) (more : List Said) (ss : List Section) : Type 0 where
  pub new : List Section
  pub is : ss ≡ s.done ++ new
  pub says : said_part s.part ++ more ≡ spelt new
  pub lawful : AreLawful new

-- a state that goes on does so with the line in front
record Steps (s t : State) (said : Said) : Type 0 where
  lawful : IsLawfulPart t.part
  back : (more : List Said) (ss : List Section) → Continues t more ss → Continues s (with_said said more) ss

begun_ok : (done : List Section) (n : List ℕ) (t : State) → begun done n ≡ Ok t
    → t ≡ record { done = done; part = Named n }
begun_ok done n t e = elim (cases_Bool (is_named n done)) [
  | inl named ↦ absurd (let k = rw named at e in cc k)
  | inr new ↦ sym (same_state (rw new at e))
]

center_steps : (done : List Section) (part : Part) (n : List ℕ) (t : State) → IsLawfulPart part
    → after_center done part n ≡ Ok t → Steps (record { done = done; part = part }) t (Center n)
center_steps done Between n t lawful e =
    subst (λ (u : State). Steps (record { done = done; part = Between }) u (Center n)) (sym (begun_ok done n t e))
    (record {
      lawful = tt;
      back = λ more ss go. record { new = go.new; is = go.is; says = go.says; lawful = go.lawful };
    })
center_steps done (Named m) n t lawful e = absurd (cc e)
center_steps done (Covered m a b) n t lawful e = absurd (cc e)
center_steps done (Open s) n t lawful e =
    subst (λ (u : State). Steps (record { done = done; part = Open s }) u (Center n))
    (sym (begun_ok (done ++ s ∷ []) n t e)) (record {
      lawful = tt;
      back = λ more ss go. record {
        new = s ∷ go.new;
        is = go.is ∙ append_assoc done (s ∷ []) go.new;
        says = ap (λ (l : List Said). section_lines s ++ l) go.says;
        lawful = (lawful, go.lawful);
      };
    })

cover_steps : (done : List Section) (part : Part) (a b : ℤ) (t : State) → after_cover done part a b ≡ Ok t
    → Steps (record { done = done; part = part }) t (Cover a b)
cover_steps done Between a b t e = absurd (cc e)
cover_steps done (Named m) a b t e =
    subst (λ (u : State). Steps (record { done = done; part = Named m }) u (Cover a b)) (same_state e) (record {
      lawful = tt;
      back = λ more ss go. record { new = go.new; is = go.is; says = go.says; lawful = go.lawful };
    })
cover_steps done (Covered m c d) a b t e = absurd (cc e)
cover_steps done (Open s) a b t e = absurd (cc e)

weekend_steps : (done : List Section) (part : Part) (w : List Bool) (t : State) → after_weekend done part w ≡ Ok t
    → Steps (record { done = done; part = part }) t (Weekend w)
weekend_steps done Between w t e = absurd (cc e)
weekend_steps done (Named m) w t e = absurd (cc e)
weekend_steps done (Covered m a b) w t e =
    subst (λ (u : State). Steps (record { done = done; part = Covered m a b }) u (Weekend w)) (same_state e) (record {
      lawful = record { rise = tt; few = omega arith };
      back = λ more ss go. record { new = go.new; is = go.is; says = go.says; lawful = go.lawful };
    })
weekend_steps done (Open s) w t e = absurd (cc e)

holidays_push : (hs : List ℤ) (d : ℤ) (more : List Said)
    → map (λ x. Holiday x) (hs ++ d ∷ []) ++ more ≡ map (λ x. Holiday x) hs ++ Holiday d ∷ more
holidays_push [] d more = refl
holidays_push (h ∷ hs) d more = ap (λ (l : List Said). Holiday h ∷ l) (holidays_push hs d more)

holiday_steps : (done : List Section) (part : Part) (d : ℤ) (t : State) → IsLawfulPart part
    → after_holiday done part d ≡ Ok t → Steps (record { done = done; part = part }) t (Holiday d)
holiday_steps done Between d t lawful e = absurd (cc e)
holiday_steps done (Named m) d t lawful e = absurd (cc e)
holiday_steps done (Covered m a b) d t lawful e = absurd (cc e)
holiday_steps done (Open s) d t lawful e = elim (cases_Bool (fits_section s d)) [
  | inl fits ↦
      let e' = rw fits at e in
      elim (cases_Bool (nat_le most_holidays (length s.holidays))) [
        | inl full ↦ absurd (let x = rw full at e' in cc x)
        | inr room ↦
            let from = both_true (is_le (int_cmp s.first d)) (is_le (int_cmp d s.last)
            && all_before d s.holidays) fits in
            let to = both_true (is_le (int_cmp d s.last)) (all_before d s.holidays) from.1 in
            subst (λ (u : State). Steps (record { done = done; part = Open s }) u (Holiday d))
            (same_state (rw room at e')) (record {
              lawful = record {
                rise = rises_more s.first s.last d s.holidays lawful.rise (le_true s.first d from.0)
                    (le_true d s.last to.0) to.1;
                few = subst (λ (n : ℕ). n ≤ most_holidays) (sym (length_push s.holidays d))
                    (at_most most_holidays (length s.holidays) room);
              };
              back = λ more ss go. record {
                new = go.new;
                is = go.is;
                says = ap (λ (l : List Said). Center s.name ∷ Cover s.first s.last ∷ Weekend s.weekend ∷ l)
                    (sym (holidays_push s.holidays d more)) ∙ go.says;
                lawful = go.lawful;
              };
            })
      ]
  | inr unfit ↦ absurd (let x = rw unfit at e in cc x)
]

line_steps : (s t : State) (said : Said) → IsLawfulPart s.part → after_line s said ≡ Ok t → Steps s t said
line_steps s t Nothing lawful e =
    subst (λ (u : State). Steps s u Nothing) (same_state e) (record { lawful = lawful; back = λ more ss go. go })
line_steps s t (Center n) lawful e = center_steps s.done s.part n t lawful e
line_steps s t (Cover a b) lawful e = cover_steps s.done s.part a b t e
line_steps s t (Weekend w) lawful e = weekend_steps s.done s.part w t e
line_steps s t (Holiday d) lawful e = holiday_steps s.done s.part d t lawful e
line_steps s t Wrong lawful e = absurd (cc e)

same_list : {E : Type 0} {x y : List Section} → ◌≡◌ {A = Result (List Section) E} (Ok x) (Ok y) → x ≡ y
same_list e = cc e

end_continues : (done : List Section) (part : Part) (ss : List Section) → IsLawfulPart part → at_end done part ≡ Ok ss
    → Continues (record { done = done; part = part }) [] ss
end_continues done Between ss lawful e =
    record { new = []; is = sym (same_list e) ∙ sym (append-nil done); says = refl; lawful = tt }
end_continues done (Named m) ss lawful e = absurd (cc e)
end_continues done (Covered m a b) ss lawful e = absurd (cc e)
end_continues done (Open s) ss lawful e =
    record { new = s ∷ []; is = sym (same_list e); says = refl; lawful = (lawful, tt) }

-- lines that are read continue the state to the sections
pub reads_continue : (n : ℕ) (s : State) (ls : List (List ℕ)) (ss : List Section) → IsLawfulPart s.part
    → sections_in n s ls ≡ Ok ss → Continues s (said_lines ls) ss
unfolding sections_in
reads_continue n s [] ss lawful e = end_continues s.done s.part ss lawful (numbered_ok n (at_end s.done s.part) ss e)
reads_continue n s (l ∷ ls) ss lawful e =
    let p = then_ok (numbered n (after_line s (line_said l))) (λ t. sections_in (n + 1) t ls) ss e in
    let step = line_steps s p.0 (line_said l) lawful (numbered_ok n (after_line s (line_said l)) p.0 p.1) in
    step.back (said_lines ls) ss (reads_continue (n + 1) p.0 ls ss step.lawful p.2)

lawful_joined : (a b : List Section) → AreLawful a → AreLawful b → AreLawful (a ++ b)
lawful_joined [] b ha hb = hb
lawful_joined (s ∷ a) b ha hb = (ha.0, lawful_joined a b ha.1 hb)

-- the files from some position on, after sections that are done
record Files (done : List Section) (fs : List (List ℕ)) (ss : List Section) : Type 0 where
  parts : List (List Section)
  whole : ss ≡ done ++ joined_sections parts
  each : AreSpelt fs parts
  lawful : AreLawful (joined_sections parts)

files_continue : (k : ℕ) (done : List Section) (fs : List (List ℕ)) (ss : List Section) → calendars_in k done fs ≡ Ok ss
    → Files done fs ss
unfolding calendars_in
files_continue k done [] ss e =
    record { parts = []; whole = sym (same_list e) ∙ sym (append-nil done); each = tt; lawful = tt }
files_continue k done (f ∷ fs) ss e =
    let p = then_file_ok (in_file k (sections_of done f)) (λ d. calendars_in (k + 1) d fs) ss e in
    let here = reads_continue 1 (record { done = done; part = Between }) (seen_lines f) p.0 tt
    (file_ok k (sections_of done f) p.0 p.1) in
    let rest = files_continue (k + 1) p.0 fs ss p.2 in
    record {
      parts = here.new ∷ rest.parts;
      whole = rest.whole ∙ ap (λ (l : List Section). l ++ joined_sections rest.parts) here.is
          ∙ append_assoc done here.new (joined_sections rest.parts);
      each = (here.says, rest.each);
      lawful = lawful_joined here.new (joined_sections rest.parts) here.lawful rest.lawful;
    }

-- what is read is spelt so
pub read_is_spelt : (files : List (List ℕ)) (ss : List Section) → AreDistinct ss → calendars_in 1 [] files ≡ Ok ss
    → CalFiles files ss
read_is_spelt files ss distinct e =
    let f = files_continue 1 [] files ss e in
    record {
      parts = f.parts;
      whole = f.whole;
      each = f.each;
      distinct = distinct;
      lawful =
          subst AreLawful (sym f.whole) f.lawful;
    }

-- what can follow the part at hand, where some sections are spelt

begins : (c : Said) (more : List Said) (new : List Section) → c ∷ more ≡ spelt new → (n : List ℕ) × (c ≡ Center n)
begins c more [] e = absurd (cc e)
begins c more (x ∷ xs) e = (x.name, cc e)

after_named : (m : List ℕ) (c : Said) (more : List Said) (new : List Section) → Center m ∷ c ∷ more ≡ spelt new
    → (a : ℤ) × (b : ℤ) × (c ≡ Cover a b)
after_named m c more [] e = absurd (cc e)
after_named m c more (x ∷ xs) e = (x.first, x.last, cc e)

after_covered : (m : List ℕ) (a b : ℤ) (c : Said) (more : List Said) (new : List Section)
    → Center m ∷ Cover a b ∷ c ∷ more ≡ spelt new → (w : List Bool) × (c ≡ Weekend w)
after_covered m a b c more [] e = absurd (cc e)
after_covered m a b c more (x ∷ xs) e = (x.weekend, cc e)

-- the lines of holidays
abbrev days_said : List ℤ → List Said
days_said hs = map (λ d. Holiday d) hs

same_tail : {A : Type 0} {x y : A} {xs ys : List A} → x ∷ xs ≡ y ∷ ys → xs ≡ ys
same_tail e = cc e

same_holiday : (a b : ℤ) (as' bs' : List Said) → Holiday a ∷ as' ≡ Holiday b ∷ bs' → a ≡ b
same_holiday a b as' bs' e = cc e

no_center : (d : ℤ) (n : List ℕ) → Holiday d ≡ Center n → ⊥
no_center d n e = cc e

-- the holidays end where another line comes
holidays_then : (hs xs : List ℤ) (c : Said) (more : List Said) (rest : List Section) → ((d : ℤ) → c ≡ Holiday d → ⊥)
    → days_said hs ++ c ∷ more ≡ days_said xs ++ spelt rest → (hs ≡ xs) × (c ∷ more ≡ spelt rest)
holidays_then [] [] c more rest other e = (refl, e)
holidays_then [] (x ∷ xs) c more rest other e = absurd (other x (cc e))
holidays_then (h ∷ hs) [] c more rest other e = let b = begins (Holiday h) (days_said hs ++ c ∷ more) rest e in
    absurd (no_center h b.0 b.1)
holidays_then (h ∷ hs) (x ∷ xs) c more rest other e =
    let same = same_holiday h x (days_said hs ++ c ∷ more) (days_said xs ++ spelt rest) e in
    let r = holidays_then hs xs c more rest other (same_tail e) in
    (rw (same, r.0) refl, r.1)

-- or go on
holidays_more : (hs xs : List ℤ) (d : ℤ) (more : List Said) (rest : List Section)
    → days_said hs ++ Holiday d ∷ more ≡ days_said xs ++ spelt rest → (ys : List ℤ) × (xs ≡ hs ++ d ∷ ys)
holidays_more [] [] d more rest e = let b = begins (Holiday d) more rest e in absurd (no_center d b.0 b.1)
holidays_more [] (x ∷ xs) d more rest e =
    (xs, ap (λ (z : ℤ). z ∷ xs) (sym (same_holiday d x more (days_said xs ++ spelt rest) e)))
holidays_more (h ∷ hs) [] d more rest e = let b = begins (Holiday h) (days_said hs ++ Holiday d ∷ more) rest e in
    absurd (no_center h b.0 b.1)
holidays_more (h ∷ hs) (x ∷ xs) d more rest e =
    let same = same_holiday h x (days_said hs ++ Holiday d ∷ more) (days_said xs ++ spelt rest) e in
    let r = holidays_more hs xs d more rest (same_tail e) in
    (r.0, ap (λ (z : ℤ). z ∷ xs) (sym same) ∙ ap (λ (l : List ℤ). h ∷ l) r.1)

-- or are the last lines
holidays_end : (hs xs : List ℤ) (rest : List Section) → days_said hs ++ [] ≡ days_said xs ++ spelt rest
    → (hs ≡ xs) × (rest ≡ [])
holidays_end [] [] [] e = (refl, refl)
holidays_end [] [] (y ∷ ys) e = absurd (cc e)
holidays_end [] (x ∷ xs) rest e = absurd (cc e)
holidays_end (h ∷ hs) [] rest e = let b = begins (Holiday h) (days_said hs ++ []) rest e in absurd (no_center h b.0 b.1)
holidays_end (h ∷ hs) (x ∷ xs) rest e =
    let same = same_holiday h x (days_said hs ++ []) (days_said xs ++ spelt rest) e in
    let r = holidays_end hs xs rest (same_tail e) in
    (rw (same, r.0) refl, r.1)

-- the first lines of a section are those of the first section that is spelt
record Heads (s x : Section) (a b : List Said) : Type 0 where
  name : s.name ≡ x.name
  first : s.first ≡ x.first
  last : s.last ≡ x.last
  weekend : s.weekend ≡ x.weekend
  left : days_said s.holidays ++ a ≡ days_said x.holidays ++ b

heads : (s x : Section) (a b : List Said) → section_lines s ++ a ≡ section_lines x ++ b → Heads s x a b
heads s x a b e = record { name = cc e; first = cc e; last = cc e; weekend = cc e; left = cc e }

same_section : (s x : Section) (a b : List Said) → Heads s x a b → s.holidays ≡ x.holidays → s ≡ x
same_section s x a b h days =
    ap (λ (n : List ℕ). section n s.first s.last s.weekend s.holidays) h.name
    ∙ ap (λ (f : ℤ). section x.name f s.last s.weekend s.holidays) h.first
    ∙ ap (λ (l : ℤ). section x.name x.first l s.weekend s.holidays) h.last
    ∙ ap (λ (w : List Bool). section x.name x.first x.last w s.holidays) h.weekend
    ∙ ap (λ (d : List ℤ). section x.name x.first x.last x.weekend d) days
  where
    section : List ℕ → ℤ → ℤ → List Bool → List ℤ → Section
    section name first last weekend holidays =
        record { name = name; first = first; last = last; weekend = weekend; holidays = holidays }

after_open : (s : Section) (c : Said) (more : List Said) (new : List Section) → ((d : ℤ) → c ≡ Holiday d → ⊥)
    → section_lines s ++ c ∷ more ≡ spelt new → (n : List ℕ) × (c ≡ Center n)
after_open s c more [] other e = absurd (cc e)
after_open s c more (x ∷ xs) other e =
    let h = heads s x (c ∷ more) (spelt xs) e in
    let r = holidays_then s.holidays x.holidays c more xs other h.left in
    begins c more xs r.1

-- names that are apart

both_false : (a b : Bool) → a ≡ false → b ≡ false → (a || b) ≡ false
both_false a b h k = rw (h, k) refl

unnamed_front : (n : List ℕ) (a b : List Section) → is_named n (a ++ b) ≡ false → is_named n a ≡ false
unnamed_front n [] b h = refl
unnamed_front n (s ∷ a) b h = let p = or_false (bytes_eq s.name n) (is_named n (a ++ b)) h in
    both_false (bytes_eq s.name n) (is_named n a) p.0 (unnamed_front n a b p.1)

distinct_front : (a b : List Section) → AreDistinct (a ++ b) → AreDistinct a
distinct_front [] b h = tt
distinct_front (s ∷ a) b h = (unnamed_front s.name a b h.0, distinct_front a b h.1)

unnamed_at : (n : List ℕ) (a : List Section) (y : Section) (ys : List Section) → is_named n (a ++ y ∷ ys) ≡ false
    → bytes_eq y.name n ≡ false
unnamed_at n [] y ys h = (or_false (bytes_eq y.name n) (is_named n ys) h).0
unnamed_at n (s ∷ a) y ys h = unnamed_at n a y ys (or_false (bytes_eq s.name n) (is_named n (a ++ y ∷ ys)) h).1

new_name : (a : List Section) (y : Section) (ys : List Section) → AreDistinct (a ++ y ∷ ys) → is_named y.name a ≡ false
new_name [] y ys h = refl
new_name (s ∷ a) y ys h =
    both_false (bytes_eq s.name y.name) (is_named y.name a) (turned y.name s.name (unnamed_at s.name a y ys h.0))
    (new_name a y ys h.1)

-- where sections are spelt, each line is read

-- the state after one line, from which the rest goes on
record Next (s : State) (said : Said) (more : List Said) (ss : List Section) : Type 0 where
  state : State
  reads : after_line s said ≡ Ok state
  goes : Continues state more ss

begun_new : (done : List Section) (n : List ℕ) → is_named n done ≡ false
    → begun done n ≡ Ok (record { done = done; part = Named n })
begun_new done n new = rw new refl

center_between : (done : List Section) (n : List ℕ) (more : List Said) (ss new : List Section) → ss ≡ done ++ new
    → Center n ∷ more ≡ spelt new → AreLawful new → AreDistinct ss
    → Next (record { done = done; part = Between }) (Center n) more ss
center_between done n more ss [] is says lawful distinct = absurd (cc says)
center_between done n more ss (x ∷ xs) is says lawful distinct =
    let named : x.name ≡ n = cc says in
    let fresh = subst (λ (m : List ℕ). is_named m done ≡ false) named
    (new_name done x xs (subst AreDistinct is distinct)) in
    record {
      state = record { done = done; part = Named n };
      reads = begun_new done n fresh;
      goes = record { new = x ∷ xs; is = is; says = says; lawful = lawful };
    }

center_open : (done : List Section) (s : Section) (n : List ℕ) (more : List Said) (ss new : List Section)
    → ss ≡ done ++ new → section_lines s ++ Center n ∷ more ≡ spelt new → AreLawful new → AreDistinct ss
    → Next (record { done = done; part = Open s }) (Center n) more ss
center_open done s n more ss [] is says lawful distinct = absurd (cc says)
center_open done s n more ss (x ∷ xs) is says lawful distinct =
    let h = heads s x (Center n ∷ more) (spelt xs) says in
    let r = holidays_then s.holidays x.holidays (Center n) more xs (λ d e. cc e) h.left in
    let same = same_section s x (Center n ∷ more) (spelt xs) h r.0 in
    let is' : ss ≡ (done ++ s ∷ []) ++ xs =
    is ∙ ap (λ (z : Section). done ++ z ∷ xs) (sym same) ∙ sym (append_assoc done (s ∷ []) xs) in
    let next = center_between (done ++ s ∷ []) n more ss xs is' r.1 lawful.1 distinct in
    record { state = next.state; reads = next.reads; goes = next.goes }

holiday_open : (done : List Section) (s : Section) (d : ℤ) (more : List Said) (ss new : List Section) → ss ≡ done ++ new
    → section_lines s ++ Holiday d ∷ more ≡ spelt new → AreLawful new
    → Next (record { done = done; part = Open s }) (Holiday d) more ss
holiday_open done s d more ss [] is says lawful = absurd (cc says)
holiday_open done s d more ss (x ∷ xs) is says lawful =
    let h = heads s x (Holiday d ∷ more) (spelt xs) says in
    let ys = holidays_more s.holidays x.holidays d more xs h.left in
    let rise = rises_to x.first x.last d s.holidays ys.0 (subst (RisesWithin x.first x.last) ys.1 lawful.0.rise) in
    let from : s.first ≤ℤ d = subst (λ (z : ℤ). z ≤ℤ d) (sym h.first) rise.0 in
    let to : d ≤ℤ s.last = subst (λ (z : ℤ). d ≤ℤ z) (sym h.last) rise.1 in
    let fits : fits_section s d ≡ true = rw (true_le s.first d from, true_le d s.last to, rise.2) refl in
    let few : length (s.holidays ++ d ∷ ys.0) ≤ most_holidays =
    subst (λ (l : List ℤ). length l ≤ most_holidays) ys.1 lawful.0.few in
    let room : nat_le most_holidays (length s.holidays) ≡ false =
    not_full most_holidays (length s.holidays) (omega (arith, few, length_front s.holidays d ys.0)) in
    record {
      state = record { done = done; part = Open (record s { holidays = s.holidays ++ d ∷ [] }) };
      reads = rw (fits, room) refl;
      goes = record {
        new = x ∷ xs;
        is = is;
        says = ap (λ (l : List Said). Center s.name ∷ Cover s.first s.last ∷ Weekend s.weekend ∷ l)
            (holidays_push s.holidays d more) ∙ says;
        lawful = lawful;
      };
    }

next_center : (done : List Section) (part : Part) (n : List ℕ) (more : List Said) (ss : List Section)
    → Continues (record { done = done; part = part }) (Center n ∷ more) ss → AreDistinct ss
    → Next (record { done = done; part = part }) (Center n) more ss
next_center done Between n more ss go distinct = center_between done n more ss go.new go.is go.says go.lawful distinct
next_center done (Named m) n more ss go distinct = let a = after_named m (Center n) more go.new go.says in
    absurd (let e = a.2 in cc e)
next_center done (Covered m a b) n more ss go distinct = let w = after_covered m a b (Center n) more go.new go.says in
    absurd (let e = w.1 in cc e)
next_center done (Open s) n more ss go distinct = center_open done s n more ss go.new go.is go.says go.lawful distinct

next_cover : (done : List Section) (part : Part) (a b : ℤ) (more : List Said) (ss : List Section)
    → Continues (record { done = done; part = part }) (Cover a b ∷ more) ss
    → Next (record { done = done; part = part }) (Cover a b) more ss
next_cover done Between a b more ss go = let c = begins (Cover a b) more go.new go.says in absurd (let e = c.1 in cc e)
next_cover done (Named m) a b more ss go = record {
  state = record { done = done; part = Covered m a b };
  reads = refl;
  goes = record { new = go.new; is = go.is; says = go.says; lawful = go.lawful };
}
next_cover done (Covered m c d) a b more ss go = let w = after_covered m c d (Cover a b) more go.new go.says in
    absurd (let e = w.1 in cc e)
next_cover done (Open s) a b more ss go = let c = after_open s (Cover a b) more go.new (λ d e. cc e) go.says in
    absurd (let e = c.1 in cc e)

next_weekend : (done : List Section) (part : Part) (w : List Bool) (more : List Said) (ss : List Section)
    → Continues (record { done = done; part = part }) (Weekend w ∷ more) ss
    → Next (record { done = done; part = part }) (Weekend w) more ss
next_weekend done Between w more ss go = let c = begins (Weekend w) more go.new go.says in absurd (let e = c.1 in cc e)
next_weekend done (Named m) w more ss go = let a = after_named m (Weekend w) more go.new go.says in
    absurd (let e = a.2 in cc e)
next_weekend done (Covered m a b) w more ss go = record {
  state = record { done = done; part = Open (record { name = m; first = a; last = b; weekend = w; holidays = [] }) };
  reads = refl;
  goes = record { new = go.new; is = go.is; says = go.says; lawful = go.lawful };
}
next_weekend done (Open s) w more ss go = let c = after_open s (Weekend w) more go.new (λ d e. cc e) go.says in
    absurd (let e = c.1 in cc e)

next_holiday : (done : List Section) (part : Part) (d : ℤ) (more : List Said) (ss : List Section)
    → Continues (record { done = done; part = part }) (Holiday d ∷ more) ss
    → Next (record { done = done; part = part }) (Holiday d) more ss
next_holiday done Between d more ss go = let c = begins (Holiday d) more go.new go.says in absurd (let e = c.1 in cc e)
next_holiday done (Named m) d more ss go = let a = after_named m (Holiday d) more go.new go.says in
    absurd (let e = a.2 in cc e)
next_holiday done (Covered m a b) d more ss go = let w = after_covered m a b (Holiday d) more go.new go.says in
    absurd (let e = w.1 in cc e)
next_holiday done (Open s) d more ss go = holiday_open done s d more ss go.new go.is go.says go.lawful

no_wrong : (done : List Section) (part : Part) (more : List Said) (new : List Section)
    → said_part part ++ Wrong ∷ more ≡ spelt new → ⊥
no_wrong done Between more new e = let c = begins Wrong more new e in let k = c.1 in cc k
no_wrong done (Named m) more new e = let a = after_named m Wrong more new e in let k = a.2 in cc k
no_wrong done (Covered m a b) more new e = let w = after_covered m a b Wrong more new e in let k = w.1 in cc k
no_wrong done (Open s) more new e = let c = after_open s Wrong more new (λ d k. cc k) e in let k = c.1 in cc k

next_line : (s : State) (said : Said) (more : List Said) (ss : List Section) → Continues s (with_said said more) ss
    → AreDistinct ss → Next s said more ss
next_line s Nothing more ss go distinct = record { state = s; reads = refl; goes = go }
next_line s (Center n) more ss go distinct = next_center s.done s.part n more ss go distinct
next_line s (Cover a b) more ss go distinct = next_cover s.done s.part a b more ss go
next_line s (Weekend w) more ss go distinct = next_weekend s.done s.part w more ss go
next_line s (Holiday d) more ss go distinct = next_holiday s.done s.part d more ss go
next_line s Wrong more ss go distinct = absurd (no_wrong s.done s.part more go.new go.says)

none_spelt : (new : List Section) → [] ≡ spelt new → new ≡ []
none_spelt [] e = refl
none_spelt (x ∷ xs) e = absurd (cc e)

end_open : (done : List Section) (s : Section) (ss new : List Section) → ss ≡ done ++ new
    → section_lines s ++ [] ≡ spelt new → ◌≡◌ {A = Result (List Section) Fault} (Ok (done ++ s ∷ [])) (Ok ss)
end_open done s ss [] is says = absurd (cc says)
end_open done s ss (x ∷ xs) is says =
    let h = heads s x [] (spelt xs) says in
    let r = holidays_end s.holidays x.holidays xs h.left in
    let same = same_section s x [] (spelt xs) h r.0 in
    let is' : ss ≡ done ++ s ∷ [] =
    is ∙ ap (λ (z : Section). done ++ z ∷ xs) (sym same) ∙ ap (λ (l : List Section). done ++ s ∷ l) r.1 in
    ap (λ (l : List Section). Ok l) (sym is')

named_ends : (m : List ℕ) (new : List Section) → Center m ∷ [] ≡ spelt new → ⊥
named_ends m [] e = cc e
named_ends m (x ∷ xs) e = cc e

covered_ends : (m : List ℕ) (a b : ℤ) (new : List Section) → Center m ∷ Cover a b ∷ [] ≡ spelt new → ⊥
covered_ends m a b [] e = cc e
covered_ends m a b (x ∷ xs) e = cc e

ends : (done : List Section) (part : Part) (ss : List Section) → Continues (record { done = done; part = part }) [] ss
    → at_end done part ≡ Ok ss
ends done Between ss go =
    ap (λ (l : List Section). Ok l)
    (sym (go.is ∙ ap (λ (l : List Section). done ++ l) (none_spelt go.new go.says) ∙ append-nil done))
ends done (Named m) ss go = absurd (named_ends m go.new go.says)
ends done (Covered m a b) ss go = absurd (covered_ends m a b go.new go.says)
ends done (Open s) ss go = end_open done s ss go.new go.is go.says

-- lines that continue the state to sections of different names are read
pub lines_read : (n : ℕ) (s : State) (ls : List (List ℕ)) (ss : List Section) → Continues s (said_lines ls) ss
    → AreDistinct ss → sections_in n s ls ≡ Ok ss
unfolding sections_in
lines_read n s [] ss go distinct = rw (ends s.done s.part ss go) refl
lines_read n s (l ∷ ls) ss go distinct =
    let next = next_line s (line_said l) (said_lines ls) ss go distinct in
    rw next.reads (lines_read (n + 1) next.state ls ss next.goes distinct)

-- the front of lawful sections is lawful
pub lawful_front : (a b : List Section) → AreLawful (a ++ b) → AreLawful a
lawful_front [] b h = tt
lawful_front (s ∷ a) b h = (h.0, lawful_front a b h.1)

-- the rest of lawful sections is lawful
pub lawful_back : (a b : List Section) → AreLawful (a ++ b) → AreLawful b
lawful_back [] b h = h
lawful_back (s ∷ a) b h = lawful_back a b h.1

files_read : (k : ℕ) (done : List Section) (fs : List (List ℕ)) (ss : List Section) (ps : List (List Section))
    → ss ≡ done ++ joined_sections ps → AreSpelt fs ps → AreLawful (joined_sections ps) → AreDistinct ss → calendars_in k done fs ≡ Ok ss
unfolding calendars_in
files_read k done [] ss [] whole each lawful distinct = ap (λ (l : List Section). Ok l) (sym (whole ∙ append-nil done))
files_read k done [] ss (p ∷ ps) whole each lawful distinct = absurd each
files_read k done (f ∷ fs) ss [] whole each lawful distinct = absurd each
files_read k done (f ∷ fs) ss (p ∷ ps) whole each lawful distinct =
    let behind : ss ≡ (done ++ p) ++ joined_sections ps = whole ∙ sym (append_assoc done p (joined_sections ps)) in
    let apart = distinct_front (done ++ p) (joined_sections ps) (subst AreDistinct behind distinct) in
    let go : Continues (record { done = done; part = Between }) (said_lines (seen_lines f)) (done ++ p) =
    record { new = p; is = refl; says = each.0; lawful = lawful_front p (joined_sections ps) lawful } in
    let here = lines_read 1 (record { done = done; part = Between }) (seen_lines f) (done ++ p) go apart in
    rw here (files_read (k + 1) (done ++ p) fs ss ps behind each.1 (lawful_back p (joined_sections ps) lawful) distinct)

-- what is spelt is read
pub spelt_is_read : (files : List (List ℕ)) (ss : List Section) → CalFiles files ss → calendars_in 1 [] files ≡ Ok ss
spelt_is_read files ss c = files_read 1 [] files ss c.parts c.whole c.each (subst AreLawful c.whole c.lawful) c.distinct
