use Rattle.irs_c.proofs.LentLemmas.{common_read}
use Rattle.irs_c.proofs.each.common_of.Goals as goal

pub returns-in-Ok : goal.returns-in-Ok
returns-in-Ok c =
    common_read c.args.words.now c.in-Ok.words c.deref.result.now c.args.common.now c.new.result.files.now
    c.new.result.own.now c.read_common.result c.in-Ok.is c.deref.ensures.value c.new.ensures.files c.new.ensures.own
    c.read_common.ensures.common
