use Rattle.std.proofs.Common.{sym, ◌∙◌}
use Rattle.irs_xml.proofs.Steps.{past_found}
use Rattle.irs_xml.proofs.comments.skip_past.Goals as goal

pub returns : goal.returns
returns c = sym c.loop-reader.invariant ∙ past_found c.args.mark.now c.loop-reader.reader c.eat.new.self c.loop-reader-test.ensures
