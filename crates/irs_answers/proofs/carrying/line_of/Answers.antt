use Rattle.serde_json.specs.View.{view}
use Rattle.irs_answers.proofs.CarrierLemmas.{line_is, line_reads}
use Rattle.irs_answers.proofs.carrying.line_of.Goals as goal

pub returns-clause-text : goal.returns-clause-text
returns-clause-text c =
    line_is (view c.args.value.now) c.in_ok-text.text.items c.push.new.self.items c.requires
    c.in_ok-text.ensures.text c.in_ok-push.ensures.items

pub returns-clause-reads : goal.returns-clause-reads
returns-clause-reads c =
    line_reads (view c.args.value.now) c.in_ok-text.text.items c.push.new.self.items c.requires
    c.in_ok-text.ensures.text c.in_ok-push.ensures.items c.in_ok-text.ensures.reads_back c.in_ok-text.ensures.utf8
