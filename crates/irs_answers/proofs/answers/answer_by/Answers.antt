use Rattle.std.proofs.Common.{subst, sym}
use Rattle.irs_answers.specs.declared.tasks.Task.{Task}
use Rattle.irs_answers.specs.Due.{PassesEachStep, facts_by, answer_for}
use Rattle.irs_answers.specs.Forms.{source_by, given_with}
use Rattle.irs_answers.specs.Private.Outcomes.{MeetsReply}
use Rattle.irs_answers.proofs.NetLemmas.{sided_by}
use Rattle.irs_answers.proofs.answers.answer_by.Goals as goal

pub net_answer-requires : goal.net_answer-requires
net_answer-requires c = let g = given_with c.args.files.now c.args.common.now.files in let f = facts_by c.args.found in
    sided_by g f (subst (λ (t : Task). PassesEachStep t g f) c.in-Net.is c.requires.passes)

pub returns-in-Average-clause-meets : goal.returns-in-Average-clause-meets
returns-in-Average-clause-meets c =
    let g = given_with c.args.files.now c.args.common.now.files in
    let f = facts_by c.args.found in
    subst (λ (t : Task). MeetsReply (answer_for t g f) c.average_answer.result) (sym c.in-Average.is)
    c.average_answer.ensures.meets

pub returns-in-Interpolate-clause-meets : goal.returns-in-Interpolate-clause-meets
returns-in-Interpolate-clause-meets c =
    let g = given_with c.args.files.now c.args.common.now.files in
    let f = facts_by c.args.found in
    subst (λ (t : Task). MeetsReply (answer_for t g f) c.interpolate_answer.result) (sym c.in-Interpolate.is)
    c.interpolate_answer.ensures.meets

pub returns-in-Check-clause-placed : goal.returns-in-Check-clause-placed
returns-in-Check-clause-placed c =
    c.check_answer.ensures.placed (source_by c.args.files.now.document) (source_by c.args.files.now.flows)

pub returns-in-Emit-clause-placed : goal.returns-in-Emit-clause-placed
returns-in-Emit-clause-placed c =
    c.emit_answer.ensures.placed (source_by c.args.files.now.document) (source_by c.args.files.now.flows)

pub returns-in-EmitXml-clause-placed : goal.returns-in-EmitXml-clause-placed
returns-in-EmitXml-clause-placed c =
    c.emit_xml_answer.ensures.placed (source_by c.args.files.now.document) (source_by c.args.files.now.flows)

pub returns-in-Accrue-clause-placed : goal.returns-in-Accrue-clause-placed
returns-in-Accrue-clause-placed c =
    c.accrue_answer.ensures.placed (source_by c.args.files.now.document) (source_by c.args.files.now.flows)

pub returns-in-Net-clause-placed : goal.returns-in-Net-clause-placed
returns-in-Net-clause-placed c =
    c.net_answer.ensures.placed (source_by c.args.files.now.document) (source_by c.args.files.now.flows)

pub returns-in-Observations-clause-placed : goal.returns-in-Observations-clause-placed
returns-in-Observations-clause-placed c =
    c.observations_answer.ensures.placed (source_by c.args.files.now.document) (source_by c.args.files.now.flows)

pub returns-in-Overnight-clause-placed : goal.returns-in-Overnight-clause-placed
returns-in-Overnight-clause-placed c =
    c.overnight_answer.ensures.placed (source_by c.args.files.now.document) (source_by c.args.files.now.flows)

pub returns-in-Average-clause-placed : goal.returns-in-Average-clause-placed
returns-in-Average-clause-placed c =
    c.average_answer.ensures.placed (source_by c.args.files.now.document) (source_by c.args.files.now.flows)

pub returns-in-Interpolate-clause-placed : goal.returns-in-Interpolate-clause-placed
returns-in-Interpolate-clause-placed c =
    c.interpolate_answer.ensures.placed (source_by c.args.files.now.document) (source_by c.args.files.now.flows)

pub returns-in-Audit-clause-placed : goal.returns-in-Audit-clause-placed
returns-in-Audit-clause-placed c = c.audit_answer.ensures.placed (source_by c.args.files.now.document)

pub returns-in-Breaks-clause-placed : goal.returns-in-Breaks-clause-placed
returns-in-Breaks-clause-placed c = c.breaks_answer.ensures.placed (source_by c.args.files.now.document)
