use Rattle.irs_emit.proofs.emitting.one_period.Goals as goal
use Rattle.irs_emit.proofs.Pieces.{later_there, none_listed, period_listed}
use Rattle.irs_emit.proofs.Values.{found}
use Rattle.irs_emit.specs.Emitted.{period_value}
use Rattle.serde_json.specs.Written.{compact_text}
use Rattle.std.proofs.Common.{◌≡◌, ◌++◌, ◌∙◌, ap, option_map}
use Rattle.std.specs.Prelude.{slice_get}

-- nothing is appended where there is no period
pub returns-in-None-clause-text : goal.returns-in-None-clause-text
returns-in-None-clause-text c =
    (none_listed c.args.part.now c.args.place c.args.later c.args.out.now.items c.in-None.ensures.value).0

pub returns-in-None-clause-later : goal.returns-in-None-clause-later
returns-in-None-clause-later c =
    (none_listed c.args.part.now c.args.place c.args.later c.args.out.now.items c.in-None.ensures.value).1

pub returns-in_ok-period-in-Some-clause-text : goal.returns-in_ok-period-in-Some-clause-text
returns-in_ok-period-in-Some-clause-text c =
    let look = c.get.ensures.lookup in
    let p = c.args.part.now in
    let j = c.args.place in
    let reset : option_map (λ r. r.now) c.get.result ≡ slice_get p.resets j =
    found c.resets.result.now j c.get.result look.1 look.3 ∙ ap (λ rs. slice_get rs j) c.resets.ensures.value in
    let row = c.in_ok-period-in-Some.ensures
    ∙ ap (λ o. c.comma.new.out.items ++ compact_text (period_value c.in-Some.x o)) reset in
    period_listed p j c.in-Some.x c.args.later c.args.out.now.items c.comma.new.out.items c.period-in-Some.new.out.items
    c.in-Some.ensures.value c.in_ok-comma-in-Some.ensures row

pub returns-in_ok-period-in-Some-clause-later : goal.returns-in_ok-period-in-Some-clause-later
returns-in_ok-period-in-Some-clause-later c =
    later_there c.args.part.now c.args.place c.in-Some.x c.args.later c.in-Some.ensures.value
