use Rattle.std.proofs.Common.{refl}
use Rattle.irs_xml.specs.Private.Reading.{character_at}
use Rattle.irs_xml.proofs.Allowed.{no_char}
use Rattle.irs_xml.proofs.references.character.Goals as goal

pub returns-in_err-c : goal.returns-in_err-c
unfolding character_at
returns-in_err-c c =
    let e = c.in_ok-number.ensures in
    let n = no_char c.in_ok-number.field-0 c.in_err-c.ensures.value in
    rw (c.from_residual-in_err-c.ensures) (rw (e) (rw n refl))
