use Rattle.std.proofs.Common.{inl, inr, refl}
use Rattle.irs_average.specs.Interpolations.{stub_asked}
use Rattle.irs_average.proofs.StubLemmas.{one_interpolated}
use Rattle.irs_answers.specs.Derived.{interpolate_of}
use Rattle.irs_answers.specs.declared.refusals.Refusal.TheVariants.{Rule}
use Rattle.irs_answers.proofs.DerivedLemmas.{stub_is_asked, stub_short}
use Rattle.irs_answers.proofs.StepLemmas.{replied_by}
use Rattle.irs_answers.proofs.derived.interpolate_answer.Goals as goal

pub interpolate-requires : goal.interpolate-requires
interpolate-requires c =
    let f = c.args.found.now in
    let q = c.requires in
    stub_is_asked f.swap f.calendars.now f.schedule q.unfixed c.args.number _ c.in_ok-floating.ensures.floats c.args.side
    c.args.low c.args.high f.fixings.now q.low q.high

pub returns-in_err-row-clause-meets : goal.returns-in_err-row-clause-meets
returns-in_err-row-clause-meets c =
    let f = c.args.found.now in
    let made = c.from_residual-in_err-row in
    let e = c.in_err-row.field-0.0 in
    replied_by (interpolate_of c.args.number c.args.side c.args.low c.args.high f.swap f.fixings.now f.schedule)
    made.result (Rule e) made.ensures.0 made.ensures.1
    (inr (_, c.in_ok-floating.ensures.floats, inl (e, c.in_err-row.ensures.broken, refl)))

pub unreachable-requires : goal.unreachable-requires
unreachable-requires c = let has = c.in_ok-row.ensures.ok.has in c.in_default.ensures.none _ _ has.gives

pub fixings_page-requires : goal.fixings_page-requires
fixings_page-requires c = let f = c.args.found.now in
    stub_short f.swap c.args.number c.args.side c.in-Some.index.now c.in-Some.tenor c.requires.unfixed.lawful
    c.in-Some.ensures.some

pub returns-clause-meets : goal.returns-clause-meets
returns-clause-meets c =
    let f = c.args.found.now in
    let a = stub_asked f.swap c.args.number c.args.side c.args.low c.args.high f.schedule f.fixings.now in
    let row = c.in_ok-row.row in
    let made = c.in_ok-row.ensures in (
      _,
      c.in_ok-floating.ensures.floats,
      (
        tt,
        made.kept,
        (
          row,
          record { is = made.ok; only = λ y other. one_interpolated a y row other made.ok },
          (c.in-Some.index.now, (c.in-Some.tenor, c.in-Some.ensures.some, (λ i. (0, c.in_ok-fixings_page.ensures i)))),
        ),
      ),
    )
