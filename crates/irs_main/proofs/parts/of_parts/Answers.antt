use Rattle.std.proofs.Common.{length, refl}
use Rattle.irs_main.proofs.PartLemmas.{dropped_empty, said_front}
use Rattle.irs_main.proofs.parts.of_parts.Goals as goal

pub returns : goal.returns
returns c =
    rw c.copy_from_slice.ensures.after
    (said_front c.args.first.now _
    (dropped_empty (length c.args.first.now) _
    (refl, (refl, (refl, (refl, (refl, (refl, (refl, (refl, (refl, (refl, (refl, (refl, (refl, tt)))))))))))))))
