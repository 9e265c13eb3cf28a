use Rattle.std.proofs.Common.{◌≡◌, None, refl, sym}
use Rattle.std.specs.Prelude.{option_copied}
use Rattle.std.proofs.lemmas.Result.{on_ok_weaker}
use Rattle.irs_breaks.specs.Findings.{joined_findings, one_break}
use Rattle.irs_breaks.specs.Private.Findings.{Adds}
use Rattle.irs_breaks.specs.BreakLists.{FindsReset, extra_reset}
use Rattle.irs_breaks.proofs.PaymentsTold.{reset_extra, reset_none}
use Rattle.irs_breaks.proofs.period_breaks.push_reset.Goals as goal

pub returns-in-None-Some : goal.returns-in-None-Some
returns-in-None-Some c =
    let ours : None ≡ option_copied c.args.reset = rw c.in-None-Some.is-0 refl in
    on_ok_weaker {P = c.push_extra_reset.new.list ≡ joined_findings c.args.list.now (one_break (extra_reset c.args.place.now c.in-None-Some.y))}
    {Q = Adds (FindsReset c.args.place.now (option_copied c.args.reset) c.args.stated) c.args.list.now c.push_extra_reset.new.list}
    c.push_extra_reset.result (λ h. reset_extra c.args.place.now (option_copied c.args.reset) c.args.stated c.in-None-Some.y c.args.list.now c.push_extra_reset.new.list
    ours (sym c.in-None-Some.is-1) h)
    c.push_extra_reset.ensures

pub returns-in-None-None : goal.returns-in-None-None
returns-in-None-None c =
    let ours : None ≡ option_copied c.args.reset = rw c.in-None-None.is-0 refl in
    reset_none c.args.place.now (option_copied c.args.reset) c.args.stated c.args.list.now ours (sym c.in-None-None.is-1)
