use Rattle.std.proofs.Common.{inl, refl}
use Rattle.std.proofs.lemmas.Option.{IfSome_then}
use Rattle.irs_answers.specs.Tasks.{audit_of}
use Rattle.irs_answers.specs.Forms.{source_by}
use Rattle.irs_answers.specs.Due.{RefusedBy, answer_of}
use Rattle.irs_answers.specs.Private.Outcomes.{IsOfFlows}
use Rattle.irs_answers.proofs.FlowLemmas.{flows_placed, refuse_flows}
use Rattle.irs_answers.proofs.StepLemmas.{refused_by}
use Rattle.irs_answers.proofs.flows.verdict_on.Goals as goal

pub returns-in_err-flows-clause-refused : goal.returns-in_err-flows-clause-refused
returns-in_err-flows-clause-refused c =
    let e = c.in_err-flows.field-0.0 in
    let file = source_by c.args.source.now in
    refused_by c.from_residual.result e (RefusedBy (audit_of c.args.schedule.now file)) c.from_residual.ensures.0
    c.from_residual.ensures.1
    (IfSome_then (answer_of e) (refuse_flows file e c.in_err-flows.ensures.fault) (λ a r. inl r))

pub returns-in_err-flows-clause-placed : goal.returns-in_err-flows-clause-placed
returns-in_err-flows-clause-placed c =
    let e = c.in_err-flows.field-0.0 in
    let file = source_by c.args.source.now in
    refused_by c.from_residual.result e (IsOfFlows file) c.from_residual.ensures.0 c.from_residual.ensures.1
    (flows_placed file e c.in_err-flows.ensures.fault)

pub returns-clause-verdict : goal.returns-clause-verdict
returns-clause-verdict c = (
  _,
  c.in_ok-flows.ensures.spells,
  (c.audit.result, record { is = c.audit.ensures.verdict; only = c.audit.ensures.only }, refl),
)
