-- Each leaf reads back as its value.
use Rattle.irs_flows.specs.FlowReading.{stated}
use Rattle.irs_elements.specs.Leaves.{leaf_date_at, currency_at, is_currency, is_capital}
use Rattle.irs_elements.specs.Numbers.{fraction_at, amount_at, whole_at}
use Rattle.irs_base.specs.Texts.{day_text, dec_text}
use Rattle.irs_base.specs.Limits.{rounded}
use Rattle.irs_base.specs.declared.rounding.Direction.TheVariants.{Nearest}
use Rattle.irs_emit.proofs.PlainTexts.{text_kept}
use Rattle.irs_base.proofs.VisibleTexts.{Visible, day_visible}
use Rattle.irs_emit.proofs.LeafTextsRead.{count_back, count_visible, currency_back, currency_visible, day_back}
use Rattle.irs_emit.proofs.LeafTextsRead.{fraction_back, number_back, number_visible, visible_text}
use Rattle.irs_emit.specs.RowLaws.{DayReadsBack, AmountReadsBack, NotionalReadsBack, RateReadsBack, CountReadsBack}
use Rattle.irs_emit.specs.RowLaws.{FractionReadsBack, CurrencyReadsBack}
use Rattle.jiff_core.proofs.SignedLemmas.{signed_arith}
use Rattle.serde_json.specs.Data.{string}
use Rattle.std.proofs.Common.{◌≡◌, ℕ, ◌/◌, ◌^◌, ◌<◌, ◌≤◌, ◌-◌, ◌==◌, List, [], ◌∷◌, length, ℤ, pos, negsuc, ◌*ℤ◌, ◌≤ℤ◌}
use Rattle.std.proofs.Common.{unsigned_abs, true, Option, Some, option_and_then, option_map, ap, ◌∙◌, arith}
use Rattle.std.proofs.lemmas.Bool.Decides.{nat_tests}
use Rattle.std.proofs.lemmas.Str.Ascii.{IsAscii-nil, IsAscii-cons}
use Rattle.std.specs.Fmt.{signed_decimal}
use Rattle.std.specs.List.{list_all}
use Rattle.std.specs.Str.{IsAscii}
use Rattle.irs_elements.proofs.Exact.{both_true}
use Rattle.irs_read.specs.Readings.{said}

said_text : {A : Type 0} (f : List ℕ → Option A) (s : List ℕ) → Visible s → said f (Some (string s)) ≡ f s
said_text f s h = ap (option_and_then f) (visible_text s h)

-- the leaf of a day reads back as the day
pub day_reads : DayReadsBack
day_reads d h = said_text leaf_date_at (day_text d) (day_visible d) ∙ day_back d h

number_reads : (z : ℤ) (p : ℕ) → p ≤ 12 → unsigned_abs z / 10 ^ p < 10 ^ 18
    → said amount_at (Some (string (dec_text z p))) ≡ Some (z *ℤ pos (10 ^ (12 - p)))
number_reads z p l h = said_text amount_at (dec_text z p) (number_visible z p h) ∙ number_back z p l h

-- the leaf of an amount reads back as the amount
pub amount_reads : AmountReadsBack
amount_reads v l h = number_reads v.units v.places l h

-- the leaf of a notional reads back as the notional
pub notional_reads : NotionalReadsBack
notional_reads z h = number_reads z 4 (omega arith) h

-- the leaf of a rate reads back as the rate
pub rate_reads : RateReadsBack
rate_reads z h = number_reads z 9 (omega arith) h

-- the leaf of a number of days reads back as the number
pub count_reads : CountReadsBack
count_reads n h = said_text whole_at (signed_decimal n) (count_visible n h) ∙ count_back n h

fraction_read : (z : ℤ) → pos 0 ≤ℤ z → unsigned_abs z / 10 ^ 10 < 10 ^ 18
    → option_map stated (said fraction_at (Some (string (dec_text z 10)))) ≡ Some (record { units = z; places = 10 })
fraction_read (pos n) some h =
    ap (option_map stated) (said_text fraction_at (dec_text (pos n) 10) (number_visible (pos n) 10 h)
    ∙ fraction_back n h)
fraction_read (negsuc n) some h = absurd (omega (arith, signed_arith, some))

-- the leaf of a fraction reads back as the fraction
pub fraction_reads : FractionReadsBack
fraction_reads f some h = fraction_read (rounded Nearest (f.num *ℤ pos (10 ^ 10)) f.den) some h

below : (c : ℕ) → is_capital c ≡ true → c < 128
below c e = grind (arith, nat_tests)

capitals_ascii : (s : List ℕ) → list_all is_capital s ≡ true → IsAscii s
capitals_ascii [] h = IsAscii-nil
capitals_ascii (c ∷ cs) h = let b = both_true (is_capital c) (list_all is_capital cs) h in
    IsAscii-cons c cs (below c b.0) (capitals_ascii cs b.1)

-- the letters of a currency are ASCII
pub currency_ascii : (s : List ℕ) → is_currency s ≡ true → IsAscii s
currency_ascii s h = capitals_ascii s (both_true (length s == 3) (list_all is_capital s) h).1

-- the leaf of a currency reads back as the currency
pub currency_reads : CurrencyReadsBack
currency_reads c h =
    ap (λ s. said currency_at (Some (string s))) (text_kept c.letters (currency_ascii c.letters h))
    ∙ said_text currency_at c.letters (currency_visible c.letters h) ∙ currency_back c.letters h
