-- A word is one parameter at most, and parameters lie in their ranges.
use Rattle.std.proofs.Common.{◌≡◌, inl, inr, ℕ, ◌+◌, ◌*◌, ◌-◌, ◌≤◌, List, [], ◌∷◌, Option, Some, None}
use Rattle.std.proofs.Common.{codes, length, length-append, refl, sym, ◌∙◌, ap, subst, arith, ℤ}
use Rattle.std.proofs.lemmas.Fmt.{decimal_injective}
use Rattle.std.proofs.lemmas.Option.{same_Some}
use Rattle.irs_average.specs.declared.means.Mean.{Mean}
use Rattle.irs_average.specs.declared.means.Mean.TheVariants.{Plain, Weighted}
use Rattle.irs_average.specs.declared.stubs.Side.{Side}
use Rattle.irs_average.specs.declared.stubs.Side.TheVariants.{Initial, Last}
use Rattle.irs_average.specs.Averages.{most_step}
use Rattle.irs_base.specs.Texts.{IsDateText}
use Rattle.irs_elements.proofs.DatesAt.{day_is}
use Rattle.irs_terms.specs.declared.frequency.Frequency.{Frequency}
use Rattle.irs_terms.specs.declared.frequency.Unit.{Unit as FrequencyUnit}
use Rattle.irs_terms.specs.declared.frequency.Unit.TheVariants.{D, W, M, Y, T}
use Rattle.irs_cli.specs.Commands.{At, IsCountWord, IsDateWord, IsFromWord, IsMeanWord, IsSideWord, IsStepWord}
use Rattle.irs_cli.specs.Commands.{IsStreamWord, days_of_unit, mean_name, side_name}
use Rattle.irs_resets.specs.FixingFiles.{IsTenorWord}
use Rattle.irs_resets.proofs.TenorWords.{tenor_read}

-- the word at a place spells one x at most, where every word does
pub one_at : {X : Type 0} (Is : List ℕ → X → Type 0) → ((w : List ℕ) (x y : X) → Is w x → Is w y → y ≡ x)
    → (ps : List (List ℕ)) (i : ℕ) (x y : X) → At Is ps i x → At Is ps i y → y ≡ x
one_at Is one ps i x y h k =
    let same : k.word ≡ h.word = same_Some k.word h.word (sym k.there ∙ h.there) in
    one h.word x y h.is (subst (λ (w : List ℕ). Is w y) same k.is)

-- a word spells one date
pub one_date : (w : List ℕ) (d e : ℤ) → IsDateWord w d → IsDateWord w e → e ≡ d
one_date w d e h k =
    same_Some e d (day_is w (Some e) (k.in_range, k.is) tt ∙ sym (day_is w (Some d) (h.in_range, h.is) tt))

-- a date has ten bytes, or eleven with a Z
long_date : (text : List ℕ) (d : ℤ) → IsDateText text d → 10 ≤ length text
long_date text d (inl p) = let n : length text ≡ 10 = ap length p.is in omega (arith, n)
long_date text d (inr h) =
    let n : length h.0 ≡ 10 = ap length h.2.is in
    let m : length text ≡ length h.0 + 1 = ap length h.1 ∙ length-append h.0 (90 ∷ []) in
    omega (arith, n, m)

-- `-` is no date
no_date : (d : ℤ) → IsDateWord (codes "-") d → ⊥
no_date d h = let n : 10 ≤ 1 = long_date (codes "-") d h.is in omega (arith, n)

-- a word spells one first day, or asks for all
pub one_from : (w : List ℕ) (f g : Option ℤ) → IsFromWord w f → IsFromWord w g → g ≡ f
one_from w None None h k = refl
one_from w None (Some e) h k = absurd (no_date e (subst (λ (v : List ℕ). IsDateWord v e) h k))
one_from w (Some d) None h k = absurd (no_date d (subst (λ (v : List ℕ). IsDateWord v d) k h))
one_from w (Some d) (Some e) h k = ap Some (one_date w d e h k)

-- a word spells one count
pub one_count : (w : List ℕ) (n m : ℕ) → IsCountWord w n → IsCountWord w m → m ≡ n
one_count w n m h k =
    decimal_injective m n (let l = k.to_most in omega (arith, l)) (let l = h.to_most in
    omega (arith, l)) (sym k.is ∙ h.is)

one_byte : (x y : ℕ) → (let l : List ℕ = x ∷ [] in l ≡ y ∷ []) → x ≡ y
one_byte x y e = cc

-- a word spells one stream
pub one_stream : (w : List ℕ) (n m : ℕ) → IsStreamWord w n → IsStreamWord w m → m ≡ n
one_stream w n m h k = let e : 48 + m ≡ 48 + n = one_byte (48 + m) (48 + n) (sym k.is ∙ h.is) in omega (arith, e)

same_mean : (m n : Mean) → mean_name m ≡ mean_name n → m ≡ n
same_mean Plain Plain e = refl
same_mean Plain Weighted e = absurd (cc)
same_mean Weighted Plain e = absurd (cc)
same_mean Weighted Weighted e = refl

-- a word names one mean
pub one_mean : (w : List ℕ) (m n : Mean) → IsMeanWord w m → IsMeanWord w n → n ≡ m
one_mean w m n h k = same_mean n m (sym k.is ∙ h.is)

same_side : (m n : Side) → side_name m ≡ side_name n → m ≡ n
same_side Initial Initial e = refl
same_side Initial Last e = absurd (cc)
same_side Last Initial e = absurd (cc)
same_side Last Last e = refl

-- a word names one side
pub one_side : (w : List ℕ) (s t : Side) → IsSideWord w s → IsSideWord w t → t ≡ s
one_side w s t h k = same_side t s (sym k.is ∙ h.is)

-- a word spells one tenor
pub one_tenor : (w : List ℕ) (f g : Frequency) → IsTenorWord w f → IsTenorWord w g → g ≡ f
one_tenor w f g h k = same_Some g f (same_Some (Some g) (Some f) (sym (tenor_read w g k) ∙ tenor_read w f h))

-- a word spells one step
pub one_step : (w : List ℕ) (n m : ℕ) → IsStepWord w n → IsStepWord w m → m ≡ n
one_step w n m h k =
    let same : k.step ≡ h.step = one_tenor w h.step k.step h.is_tenor k.is_tenor in
    same_Some m n (sym k.days ∙ ap (λ (f : Frequency). days_of_unit f.unit f.count) same ∙ h.days)

-- ---- tenors lie in their range

days_few : (u : FrequencyUnit) (count n : ℕ) → 1 ≤ count → count ≤ 999 → days_of_unit u count ≡ Some n
    → (1 ≤ n) × (n ≤ most_step)
days_few D count n low high e = let same : count ≡ n = same_Some count n e in
    (omega (arith, low, same), omega (arith, high, same))
days_few W count n low high e = let same : 7 * count ≡ n = same_Some (7 * count) n e in
    (omega (arith, low, same), omega (arith, high, same))
days_few M count n low high e = cc
days_few Y count n low high e = cc
days_few T count n low high e = cc

-- a step that a word spells is within its limits
pub step_lawful : (w : List ℕ) (n : ℕ) → IsStepWord w n → (1 ≤ n) × (n ≤ most_step)
step_lawful w n h = let f = h.is_tenor.lawful in days_few h.step.unit h.step.count n f.0.0 f.0.1 h.days
