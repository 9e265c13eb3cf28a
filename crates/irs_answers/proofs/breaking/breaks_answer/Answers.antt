use Rattle.std.proofs.Common.{◌∙◌, inl}
use Rattle.std.proofs.lemmas.Option.{IfSome_then}
use Rattle.irs_base.specs.Outcomes.{Only}
use Rattle.irs_breaks.specs.BreakLists.{IsBreakList}
use Rattle.irs_answers.specs.Tasks.{breaks_of}
use Rattle.irs_answers.specs.Forms.{source_by}
use Rattle.irs_answers.specs.Due.{answer_of}
use Rattle.irs_answers.specs.Messages.{reply_status}
use Rattle.irs_answers.proofs.FlowLemmas.{flows_placed, refuse_flows}
use Rattle.irs_answers.proofs.StepLemmas.{replied_by}
use Rattle.irs_answers.proofs.UnreadLemmas.{placed_by}
use Rattle.irs_answers.proofs.breaking.breaks_answer.Goals as goal

pub returns-in_err-stated-clause-meets : goal.returns-in_err-stated-clause-meets
returns-in_err-stated-clause-meets c =
    let e = c.in_err-stated.field-0.0 in
    let made = c.from_residual in
    let file = source_by c.args.flows.now in
    replied_by (breaks_of c.args.from.now c.args.schedule.now file) made.result e made.ensures.0 made.ensures.1
    (IfSome_then (answer_of e) (refuse_flows file e c.in_err-stated.ensures.fault) (λ a r. inl r))

pub returns-in_err-stated-clause-placed : goal.returns-in_err-stated-clause-placed
returns-in_err-stated-clause-placed c =
    let e = c.in_err-stated.field-0.0 in
    let made = c.from_residual in
    let file = source_by c.args.flows.now in
    λ document. placed_by document file made.result e made.ensures.0 made.ensures.1
    (flows_placed file e c.in_err-stated.ensures.fault document)

pub returns-clause-meets : goal.returns-clause-meets
returns-clause-meets c =
    let from = c.args.from.now in
    let s = c.args.schedule.now in
    let flows = c.in_ok-stated.stated in
    let list = c.in_ok-list.list in
    let one : Only (IsBreakList from s flows) list =
    record { is = c.in_ok-list.ensures.list; only = λ l k. c.breaks.ensures.only l list k c.in_ok-list.ensures.list } in
    let text = c.listed.ensures.text ∙ c.in_ok-text.ensures in (
      flows,
      c.in_ok-stated.ensures.spells,
      (
        list,
        one,
        (
          reply_status c.listed.result,
          c.listed.ensures.status,
          (λ i. (reply_status c.listed.result, text i)),
        ),
      ),
    )
