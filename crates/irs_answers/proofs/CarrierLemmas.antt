-- The text of a carrier: the value as serde_json writes it, and LF; it reads as the value.
use Rattle.std.proofs.Common.{◌≡◌, ℕ, ◌-◌, ◌^◌, ◌<◌, ◌≤◌, List, [], ◌∷◌, ◌++◌, length, false, Some, Result, Ok, Err}
use Rattle.std.proofs.Common.{ap, inl, inr, ◌∙◌, sym, subst, refl, arith}
use Rattle.std.specs.Prelude.{IfErr, IfOk, IsErr}
use Rattle.irs_base.specs.declared.memory.Memory.{Memory as WantOfMemory}
use Rattle.std.specs.Result.{IsErrAnd}
use Rattle.std.proofs.lemmas.Str.{IsUtf8-append, IsUtf8-from_ascii}
use Rattle.std.proofs.lemmas.Str.Ascii.{IsAscii-nil, IsAscii-cons}
use Rattle.std.specs.Str.{IsUtf8}
use Rattle.serde_json.specs.Data.{Data, depth}
use Rattle.serde_json.specs.Read.{max_depth, read}
use Rattle.serde_json.specs.Written.{compact_text, has_float}
use Rattle.irs_emit.proofs.ReadBack.{Built, built_depth, built_floatless, line_feed}
use Rattle.irs_json.specs.Reading.{PlaceIn as PlaceInJson, ReadsNone as JsonReadsNone, Reads}
use Rattle.irs_json.specs.declared.reading.JsonErr.{JsonErr}
use Rattle.irs_json.specs.declared.reading.JsonErr.TheVariants as json
use Rattle.irs_xml.specs.Document.{XmlReads, PlaceIn, ReadsNone}
use Rattle.irs_xml.specs.declared.reading.XmlErr.{XmlErr}
use Rattle.irs_xml.specs.declared.reading.XmlErr.TheVariants as xml
use Rattle.irs_answers.specs.Tasks.{DueCarrier, ReadsBack, carrier_text}
use Rattle.irs_answers.specs.Private.Outcomes.{IfRefused, MeansXml}
use Rattle.irs_answers.specs.Forms.{json_text, xml_text}
use Rattle.irs_answers.specs.Due.{Ends, ReadFails, answer_of, of_json, of_read, of_xml}
use Rattle.irs_answers.specs.declared.forms.ReadErr.{ReadErr}
use Rattle.irs_answers.specs.declared.forms.ReadErr.TheVariants as reading
use Rattle.irs_answers.specs.Messages.{reply_status, reply_text}
use Rattle.irs_answers.specs.declared.refusals.Refusal.{Refusal}
use Rattle.irs_answers.specs.declared.replies.Reply.{Reply}
use Rattle.irs_answers.proofs.DueLemmas.{ends_by}
use Rattle.irs_answers.proofs.XmlValues.{xml_built}

-- the line feed
abbrev LF : List ℕ
LF = 10 ∷ []

feed_utf8 : IsUtf8 LF
feed_utf8 = IsUtf8-from_ascii LF (IsAscii-cons 10 [] (omega arith) IsAscii-nil)

module _ (v : Data) (bytes new : List ℕ) (from : MeansXml v) (text : has_float v ≡ false → bytes ≡ compact_text v)
    (e : new ≡ bytes ++ LF) where
  built : Built 127 v
  built = xml_built from.0 v from.1

  same : bytes ≡ compact_text v
  same = text (built_floatless 127 v built)

  -- the line is the text of the value and its end
  pub line_is : new ≡ carrier_text v
  line_is = e ∙ ap (λ (t : List ℕ). t ++ LF) same

  -- the line reads as the value
  pub line_reads : (depth v ≤ max_depth → read bytes ≡ Some v) → IsUtf8 bytes → Reads new v
  line_reads back utf8 =
      let deep = built_depth 127 v built in
      let reads : read new ≡ Some v =
      ap read line_is ∙ line_feed 127 v built ∙ ap read (sym same) ∙ back (omega (arith, deep)) in
      (subst IsUtf8 (sym e) (IsUtf8-append bytes LF utf8 feed_utf8), reads)

-- ---- an error of the reader

xml_fails : (e : XmlErr) (bytes : List ℕ) → ReadsNone bytes e → (length bytes < 2 ^ 32 - 1 → PlaceIn bytes e)
    → ReadFails (xml_text bytes) (of_xml e)
xml_fails (xml.NotXml line column) bytes none place =
    record { none = λ r. none r.0 r.1; stops = (refl, place) }
xml_fails xml.Memory bytes none place = tt

-- an error of the reader of XML says that the bytes mean nothing, and where the reading stopped
pub no_reading : {A : Type 0} (r : Result A ReadErr) (e : XmlErr) (bytes : List ℕ) → IsErr r
    → IsErrAnd r (λ x. x ≡ of_xml e) → ReadsNone bytes e → (length bytes < 2 ^ 32 - 1 → PlaceIn bytes e)
    → IfErr r (λ x. ReadFails (xml_text bytes) x)
no_reading (Ok x) e bytes h k none place = tt
no_reading (Err x) e bytes h k none place =
    subst (λ (y : ReadErr). ReadFails (xml_text bytes) y) (sym k) (xml_fails e bytes none place)

json_fails : (e : JsonErr) (bytes : List ℕ) → JsonReadsNone bytes e → (length bytes < 2 ^ 32 - 1 → PlaceInJson bytes e)
    → ReadFails (json_text bytes) (of_json e)
json_fails (json.NotJson line column) bytes none place =
    record { none = λ r. none r.0 r.1; stops = (refl, place) }
json_fails json.Memory bytes none place = tt

-- so does an error of the reader of JSON
pub no_json : {A : Type 0} (r : Result A ReadErr) (e : JsonErr) (bytes : List ℕ) → IsErr r
    → IsErrAnd r (λ x. x ≡ of_json e) → JsonReadsNone bytes e → (length bytes < 2 ^ 32 - 1 → PlaceInJson bytes e)
    → IfErr r (λ x. ReadFails (json_text bytes) x)
no_json (Ok x) e bytes h k none place = tt
no_json (Err x) e bytes h k none place =
    subst (λ (y : ReadErr). ReadFails (json_text bytes) y) (sym k) (json_fails e bytes none place)

-- ---- what a carrier comes to

-- status and text are due for the bytes, and at status 0 the text reads back
abbrev pub Carries : List ℕ → ℕ → List ℕ → Type 0
Carries bytes status text = Ends (DueCarrier bytes) status text × (status ≡ 0 → ReadsBack bytes text)

-- bytes that mean nothing are refused
pub refuse_carrier : (bytes : List ℕ) (e : ReadErr) → ReadFails (xml_text bytes) e
    → IfRefused (of_read e) (Carries bytes)
refuse_carrier bytes (reading.Unreadable u) h =
    (record { due = inr (inl (tt, h.none, refl)); verdict = omega arith }, λ e. absurd (omega (arith, e)))
refuse_carrier bytes reading.Memory h = tt

-- the text of the value is due
pub carries : (bytes text : List ℕ) (v : Data) → XmlReads bytes v → text ≡ carrier_text v → Reads text v
    → Carries bytes 0 text
carries bytes text v is e back =
    (record { due = inl (v, is, (λ i. (0, e i))); verdict = omega arith }, λ _. (v, is, back))

-- a refusal replies with its line, as is due for the bytes
pub refused_carries : (r : Refusal) (bytes : List ℕ) (o : Result Reply WantOfMemory) → IfRefused r (Carries bytes)
    → IfOk o (λ p. answer_of r ≡ Some (reply_status p, reply_text p))
    → IfOk o (λ p. reply_status p ≡ 0 → ReadsBack bytes (reply_text p))
refused_carries r bytes (Ok p) h e = (ends_by r p (Carries bytes) e h).1
refused_carries r bytes (Err m) h e = tt
