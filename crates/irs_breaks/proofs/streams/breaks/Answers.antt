use Rattle.irs_breaks.specs.BreakLists.{first_due}
use Rattle.irs_breaks.proofs.OneList.{one_list}
use Rattle.irs_breaks.proofs.StreamsTold.{list_of}
use Rattle.irs_breaks.proofs.streams.breaks.Goals as goal

pub returns-clause-list : goal.returns-clause-list
returns-clause-list c =
    list_of c.first_due-from.result (first_due c.args.from.now) c.streams.result.now c.args.schedule.now c.streams-2.result.now
    c.args.flows.now c.new-list.result c.push_streams.new.list c.first_due-from.ensures c.streams.ensures.value
    c.streams-2.ensures c.new-list.ensures c.in_ok-push_streams.ensures

pub returns-clause-only : goal.returns-clause-only
returns-clause-only c = λ l m h k. one_list c.args.from.now c.args.schedule.now c.args.flows.now l m h k

pub returns-in_err-push_streams-clause-only : goal.returns-in_err-push_streams-clause-only
returns-in_err-push_streams-clause-only c = λ l m h k. one_list c.args.from.now c.args.schedule.now c.args.flows.now l m h k
