use Rattle.std.proofs.Common.{◌≡◌, Some, None, refl}
use Rattle.std.specs.Prelude.{option_copied}
use Rattle.std.proofs.lemmas.Result.{on_ok_weaker}
use Rattle.irs_breaks.specs.BreakLists.{ArePaymentsOf, IsStream, whole_stream}
use Rattle.irs_breaks.specs.Findings.{joined_findings}
use Rattle.irs_breaks.specs.Private.Findings.{Adds}
use Rattle.irs_breaks.specs.declared.findings.What.TheVariants as what
use Rattle.irs_breaks.proofs.StreamsTold.{both_told, neither_told, ours_told, theirs_told}
use Rattle.irs_breaks.proofs.streams.push_both.Goals as goal

pub returns-in_ok-push_exchanges-in-Some-Some : goal.returns-in_ok-push_exchanges-in-Some-Some
returns-in_ok-push_exchanges-in-Some-Some c =
    let ours : Some c.in-Some-Some.part.now ≡ option_copied c.args.ours = rw c.in-Some-Some.is-0 refl in
    let theirs : Some c.in-Some-Some.flow.now ≡ option_copied c.args.theirs = rw c.in-Some-Some.is-1 refl in
    on_ok_weaker {P = Adds (ArePaymentsOf c.args.from c.args.stream c.in-Some-Some.part.now c.in-Some-Some.flow.now)
    c.push_exchanges.new.list c.push_payments.new.list}
    {Q = Adds (IsStream c.args.from c.args.stream (option_copied c.args.ours) (option_copied c.args.theirs)) c.args.list.now
    c.push_payments.new.list} c.push_payments.result
    (λ h. both_told c.args.from c.args.stream (option_copied c.args.ours) (option_copied c.args.theirs)
    c.in-Some-Some.part.now c.in-Some-Some.flow.now c.args.list.now c.push_exchanges.new.list c.push_payments.new.list ours theirs c.in_ok-push_exchanges-in-Some-Some.ensures h)
    c.push_payments.ensures

pub returns-in-Some-None : goal.returns-in-Some-None
returns-in-Some-None c =
    let ours : Some c.in-Some-None.field-0-0.now ≡ option_copied c.args.ours = rw c.in-Some-None.is-0 refl in
    let theirs : None ≡ option_copied c.args.theirs = rw c.in-Some-None.is-1 refl in
    on_ok_weaker {P = c.push_stream.new.list ≡ joined_findings c.args.list.now (whole_stream c.args.stream (what.Missing None))}
    {Q = Adds (IsStream c.args.from c.args.stream (option_copied c.args.ours) (option_copied c.args.theirs)) c.args.list.now
    c.push_stream.new.list} c.push_stream.result
    (λ h. ours_told c.args.from c.args.stream (option_copied c.args.ours) (option_copied c.args.theirs)
    c.in-Some-None.field-0-0.now c.args.list.now c.push_stream.new.list ours theirs h) c.push_stream.ensures

pub returns-in-None-Some : goal.returns-in-None-Some
returns-in-None-Some c =
    let ours : None ≡ option_copied c.args.ours = rw c.in-None-Some.is-0 refl in
    let theirs : Some c.in-None-Some.field-0-1.now ≡ option_copied c.args.theirs = rw c.in-None-Some.is-1 refl in
    on_ok_weaker {P = c.push_stream-in-None-Some.new.list ≡ joined_findings c.args.list.now (whole_stream c.args.stream (what.Extra 0 None))}
    {Q = Adds (IsStream c.args.from c.args.stream (option_copied c.args.ours) (option_copied c.args.theirs)) c.args.list.now
    c.push_stream-in-None-Some.new.list} c.push_stream-in-None-Some.result
    (λ h. theirs_told c.args.from c.args.stream (option_copied c.args.ours) (option_copied c.args.theirs)
    c.in-None-Some.field-0-1.now c.args.list.now c.push_stream-in-None-Some.new.list ours theirs h) c.push_stream-in-None-Some.ensures

pub returns-in-None-None : goal.returns-in-None-None
returns-in-None-None c =
    let ours : None ≡ option_copied c.args.ours = rw c.in-None-None.is-0 refl in
    let theirs : None ≡ option_copied c.args.theirs = rw c.in-None-None.is-1 refl in
    neither_told c.args.from c.args.stream (option_copied c.args.ours) (option_copied c.args.theirs) c.args.list.now ours theirs
