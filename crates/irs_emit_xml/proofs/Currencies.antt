-- The letters of a currency are plain in XML.
use Rattle.irs_terms.specs.declared.currency.Currency.{Currency}
use Rattle.irs_schedule.specs.Parts.{IsCode}
use Rattle.irs_emit_xml.proofs.PlainTexts.{ArePlain, capitals_plain}

-- the letters of a lawful currency are plain
pub letters_plain : (currency : Currency) → IsCode currency → ArePlain currency.letters
letters_plain currency h = capitals_plain currency.letters h.capitals
