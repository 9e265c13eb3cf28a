use Rattle.irs_locate.proofs.OneMember.{member_is_determined}
use Rattle.irs_locate.proofs.members.member_is_determined.Goals as goal

pub returns : goal.returns
returns c = member_is_determined
