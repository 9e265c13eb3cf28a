use Rattle.std.proofs.Common.{sym}
use Rattle.irs_locate.proofs.Opens.{root_at_once, root_whole}
use Rattle.irs_locate.proofs.lines.last_on_way.Goals as goal

pub returns-then-root-clause-last : goal.returns-then-root-clause-last
returns-then-root-clause-last c =
    root_at_once c.args.text.now c.args.place.now c.args.root c.requires c.if-root.true

pub returns-in-None-clause-last : goal.returns-in-None-clause-last
returns-in-None-clause-last c =
    root_whole c.args.text.now c.args.place.now c.args.root c.requires c.if-root.false (sym c.in-None.ensures.is)
