use Rattle.std.proofs.Common.{◌-◌}
use Rattle.irs_overnight.proofs.SourceLemmas.{part_read}
use Rattle.irs_answers.proofs.observing.part_at.Goals as goal

pub bounds-streams-number : goal.bounds-streams-number
bounds-streams-number c = rw c.streams.ensures.value c.requires.high

pub returns : goal.returns
returns c =
    part_read c.args.schedule.now c.streams.result.now (c.args.number - 1) c.index-streams-number.result
    c.streams.ensures.value c.requires.high c.index-streams-number.is
