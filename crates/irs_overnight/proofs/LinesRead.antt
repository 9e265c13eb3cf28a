-- The line of a rate spells it, and that of a missing rate is passed over.
use Rattle.std.proofs.Common.{◌≡◌, ◌≢◌, ℕ, ◌-◌, ◌<◌, ◌≤◌, List, [], ◌∷◌, ◌++◌, length, false, Option, ℤ, refl, sym, ap}
use Rattle.std.proofs.Common.{◌∙◌, arith, append_assoc}
use Rattle.std.specs.Prelude.{get_or}
use Rattle.std.proofs.lemmas.List.{take_all}
use Rattle.irs_base.specs.Days.{IsDay}
use Rattle.irs_base.specs.Texts.{is_space_or_tab, day_text, dec_text, without_gap}
use Rattle.irs_terms.specs.Lawful.{IsLawfulIndex, IsRate}
use Rattle.irs_terms.specs.declared.frequency.Frequency.{Frequency}
use Rattle.irs_resets.specs.FixingFiles.{SpellsRate, behind_gap, behind_word, trimmed, word, tenor_text}
use Rattle.irs_resets.proofs.WordLemmas.{trimmed_to}
use Rattle.irs_overnight.specs.Texts.{IsLawfulLine, ReadsAsRow}
use Rattle.irs_resets.proofs.TenorWords.{tenor_back}
use Rattle.irs_overnight.specs.declared.derived.DerivedRow.{DerivedRow}
use Rattle.irs_overnight.specs.declared.derived.Found.{Found}
use Rattle.irs_overnight.specs.declared.derived.Found.TheVariants.{Rate, Missing}
use Rattle.irs_base.proofs.VisibleTexts.{Visible, day_visible}
use Rattle.irs_overnight.proofs.VisibleTexts.{day_back, no_space, rate_back, rate_starts, rate_visible}
use Rattle.irs_overnight.proofs.VisibleTexts.{tenor_starts, tenor_visible, StartsVisible}

-- ---- words

word_of : (a rest : List ℕ) → Visible a → word (a ++ 32 ∷ rest) ≡ a
word_of [] rest h = refl
word_of (x ∷ a) rest h = rw (no_space x h.0) (ap (λ (t : List ℕ). x ∷ t) (word_of a rest h.1))

behind_of : (a rest : List ℕ) → Visible a → behind_word (a ++ 32 ∷ rest) ≡ 32 ∷ rest
behind_of [] rest h = refl
behind_of (x ∷ a) rest h = rw (no_space x h.0) (behind_of a rest h.1)

gap_none : (rest : List ℕ) → StartsVisible rest → without_gap (32 ∷ rest) ≡ rest
gap_none [] h = absurd h
gap_none (x ∷ rest) h = rw (no_space x h) refl

gap_of : (a rest : List ℕ) → Visible a → StartsVisible rest → behind_gap (a ++ 32 ∷ rest) ≡ rest
gap_of a rest h starts = ap without_gap (behind_of a rest h) ∙ gap_none rest starts

starts_append : (a b : List ℕ) → StartsVisible a → StartsVisible (a ++ b)
starts_append [] b h = absurd h
starts_append (x ∷ a) b h = h

-- ---- the index

index_starts : (index : List ℕ) → IsLawfulIndex index → StartsVisible index
index_starts [] h = let some = h.0 in omega (arith, some)
index_starts (x ∷ index) h =
    let low : 32 ≤ x = (h.2 0 0 (omega arith)).0 in
    let not : x ≢ 32 = h.3 in
    omega (arith, low, not)

index_trimmed : (index : List ℕ) → IsLawfulIndex index → trimmed index ≡ index
index_trimmed index h =
    let n = length index in
    let some : 0 < n = omega (arith, h.0) in
    let low : 32 ≤ get_or index (n - 1) 0 = (h.2 (n - 1) 0 (omega (arith, some))).0 in
    let not : get_or index (n - 1) 0 ≢ 32 = h.4 in
    let solid : is_space_or_tab (get_or index (n - 1) 0) ≡ false =
    no_space (get_or index (n - 1) 0) (omega (arith, low, not)) in
    sym (trimmed_to index n some (omega arith) solid (λ k from within. absurd (omega (arith, from, within))))
    ∙ take_all n index (omega arith)

-- ---- lines

module _ (d : ℤ) (x : ℤ) (tenor : Option Frequency) (index : List ℕ) (day : IsDay d) (rate : IsRate x)
    (lawful : IsLawfulLine index tenor) where
  -- the text of a date, a rate, a tenor and an index spells that rate
  pub spells_whole : SpellsRate (day_text d ++ 32 ∷ (dec_text x 9 ++ 32 ∷ (tenor_text tenor ++ 32 ∷ index))) index
      (record { date = d; tenor = tenor }) x
  spells_whole =
      let t : List ℕ = tenor_text tenor ++ 32 ∷ index in
      let r : List ℕ = dec_text x 9 ++ 32 ∷ t in
      let line : List ℕ = day_text d ++ 32 ∷ r in
      let ends = index_starts index lawful.named in
      let later : StartsVisible t = starts_append (tenor_text tenor) (32 ∷ index) (tenor_starts tenor lawful.lasting) in
      let middle : StartsVisible r = starts_append (dec_text x 9) (32 ∷ t) (rate_starts x rate) in
      let first : word line ≡ day_text d = word_of (day_text d) r (day_visible d) in
      let behind_first : behind_gap line ≡ r = gap_of (day_text d) r (day_visible d) middle in
      let second : word (behind_gap line) ≡ dec_text x 9 =
      ap word behind_first ∙ word_of (dec_text x 9) t (rate_visible x rate) in
      let behind_second : behind_gap (behind_gap line) ≡ t =
      ap behind_gap behind_first ∙ gap_of (dec_text x 9) t (rate_visible x rate) later in
      let third : word (behind_gap (behind_gap line)) ≡ tenor_text tenor =
      ap word behind_second ∙ word_of (tenor_text tenor) index (tenor_visible tenor lawful.lasting) in
      let behind_third : behind_gap (behind_gap (behind_gap line)) ≡ index =
      ap behind_gap behind_second ∙ gap_of (tenor_text tenor) index (tenor_visible tenor lawful.lasting) ends in
      record {
        date = rw first (day_back d day);
        rate_text = record { decimal = rw second (rate_back x rate); small = rate };
        tenor = rw third (tenor_back tenor lawful.lasting);
        rest = sym (ap trimmed behind_third ∙ index_trimmed index lawful.named);
        lawful = record { some = lawful.named.0; short = lawful.named.1; no_control = lawful.named.2 };
      }

-- what each line reads as
pub reads_as : (row : DerivedRow) (found : Found) (tenor : Option Frequency) (index : List ℕ) → IsDay row.fixing
    → IsLawfulLine index tenor → ReadsAsRow row found tenor index
reads_as row (Rate x) tenor index day lawful =
    λ rate. simp append_assoc (spells_whole row.fixing x tenor index day rate lawful)
reads_as row (Missing d) tenor index day lawful = refl
