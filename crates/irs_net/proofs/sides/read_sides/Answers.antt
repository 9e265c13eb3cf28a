use Rattle.std.proofs.Common.{◌≡◌, length, map, sym, ap, ◌∙◌, arith}
use Rattle.std.proofs.lemmas.List.{length-map}
use Rattle.serde_json.specs.View.{view}
use Rattle.irs_base.specs.Outcomes.{First}
use Rattle.irs_terms.specs.Faults.{is_before}
use Rattle.irs_read.specs.Documents.{ended}
use Rattle.irs_read.specs.Readings.{streams_in}
use Rattle.irs_net.specs.Parties.{BreaksK8, BreaksK8Of}
use Rattle.irs_net.proofs.SideLemmas.{first_of, if_err, one_k8, one_sides_of, streams_few}
use Rattle.irs_net.proofs.sides.read_sides.Goals as goal

pub sides_of-requires-clause-some : goal.sides_of-requires-clause-some
sides_of-requires-clause-some c =
    let d = view c.args.v.now in
    let s = view c.in-Ok.swap.now in
    let few = streams_few d s c.requires.clean (sym c.in-Ok.ensures) in
    let e : length c.values_at.result.now ≡ length (streams_in s) =
    sym (length-map c.values_at.result.now view) ∙ ap length c.values_at.ensures in
    omega (arith, few, e)

pub sides_of-requires-clause-few : goal.sides_of-requires-clause-few
sides_of-requires-clause-few c =
    let d = view c.args.v.now in
    let s = view c.in-Ok.swap.now in
    let few = streams_few d s c.requires.clean (sym c.in-Ok.ensures) in
    let e : length c.values_at.result.now ≡ length (streams_in s) =
    sym (length-map c.values_at.result.now view) ∙ ap length c.values_at.ensures in
    omega (arith, few, e)

pub unreachable-requires : goal.unreachable-requires
unreachable-requires c = c.requires.clean c.in-Err.field-0 (ended c.in-Err.field-0 (sym c.in-Err.ensures))

pub returns-clause-broken : goal.returns-clause-broken
returns-clause-broken c =
    let d = view c.args.v.now in
    let s = view c.in-Ok.swap.now in
    let vs = map view c.values_at.result.now in
    if_err c.sides_of.result (First is_before (BreaksK8 vs)) (First is_before (BreaksK8Of d))
    (λ x h. first_of d s vs x (sym c.in-Ok.ensures) c.values_at.ensures h) c.sides_of.ensures.broken

pub returns-clause-one : goal.returns-clause-one
returns-clause-one c = λ a b h k. one_sides_of (view c.args.v.now) a b h k

pub returns-clause-one_broken : goal.returns-clause-one_broken
returns-clause-one_broken c = λ x y h k. one_k8 (view c.args.v.now) x y h k
