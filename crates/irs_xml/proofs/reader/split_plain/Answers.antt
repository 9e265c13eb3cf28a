use Rattle.irs_xml.proofs.PlainSteps.{plain_cut, plain_taken}
use Rattle.irs_xml.proofs.reader.split_plain.Goals as goal

pub split_at-requires : goal.split_at-requires
split_at-requires c = plain_cut c.args.text.now c.plain_rest-left.result.now c.plain_rest-left.ensures c.plain_rest-left.utf8

pub returns : goal.returns
returns c =
    plain_taken c.args.text.now c.plain_rest-left.result.now c.split_at.result.0.now c.split_at.result.1.now c.plain_rest-left.ensures
    c.utf8.text c.split_at.ensures.front c.split_at.ensures.back
