-- What is due for the audit of emitted cash flows.
use Rattle.std.proofs.Common.{List, refl}
use Rattle.irs_schedule.specs.Parts.{IsWithin, Part}
use Rattle.irs_audit.specs.StatedFlows.{stated_flows}
use Rattle.irs_audit.specs.Verdicts.{IsVerdict, row_count, unfixed_count}
use Rattle.irs_audit.specs.declared.departures.Verdict.{Verdict}
use Rattle.irs_audit.specs.declared.departures.Verdict.TheVariants.{Yes}
use Rattle.irs_audit.proofs.VerdictLemmas.{one_verdict}
use Rattle.irs_emit.specs.Emitted.{emit_text}
use Rattle.irs_emit.proofs.Built.{text_reads}
use Rattle.irs_emit.proofs.CleanParts.{states}
use Rattle.irs_emit_xml.specs.Flows.{flows_text}
use Rattle.irs_emit_xml.proofs.Document.{text_reads as xml_reads}
use Rattle.irs_emit_xml.proofs.Stated.{states as states_in_xml}
use Rattle.irs_answers.specs.Tasks.{IsAuditedYes}
use Rattle.irs_answers.specs.Forms.{SourceText, json_text, xml_text}
use Rattle.irs_answers.specs.Private.Outcomes.{SpellsFlows}

-- the audit of a text that states the flows of the schedule is yes
audited : (w : SourceText) (s : List Part) → SpellsFlows w (stated_flows s)
    → IsVerdict (stated_flows s) s (Yes (row_count s) (unfixed_count s)) → IsAuditedYes s w
audited w s spells is =
    let v : Verdict = Yes (row_count s) (unfixed_count s) in
    (stated_flows s, spells, (v, record { is = is; only = λ o h. one_verdict (stated_flows s) s o v h is }, refl))

-- the audit of the text that `emit` prints is yes
pub json_audited : (s : List Part) → IsWithin s → IsAuditedYes s (json_text (emit_text s))
json_audited s within =
    let x = states s (emit_text s) (text_reads s (emit_text s) within refl) within in
    audited (json_text (emit_text s)) s (x.value, x.reads, x.flows) x.audit

-- the audit of the text that `emit-xml` prints is yes
pub xml_audited : (s : List Part) → IsWithin s → IsAuditedYes s (xml_text (flows_text s))
xml_audited s within =
    let x = states_in_xml s (flows_text s) (xml_reads s (flows_text s) within refl) within in
    audited (xml_text (flows_text s)) s (x.value, x.reads, x.flows) x.audit
