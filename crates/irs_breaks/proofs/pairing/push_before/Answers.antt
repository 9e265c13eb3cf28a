use Rattle.std.proofs.Common.{None, arith, get_or, length, refl, sym, ◌∙◌}
use Rattle.std.proofs.lemmas.Option.{slice_get-get_or, slice_get_read}
use Rattle.irs_breaks.specs.Pairing.{At}
use Rattle.irs_breaks.specs.Private.Blocks.{IsPartner}
use Rattle.irs_breaks.proofs.Merging.{pairs_get, pairs_length, push_step, skip_there, stopped_at_end, stopped_before}
use Rattle.irs_breaks.proofs.pairing.push_before.Goals as goal
use Rattle.irs_breaks.proofs.pairing.push_before.Goals.{then-is_alone+in_ok-push, else-is_alone}

pub is_alone-requires : goal.is_alone-requires
is_alone-requires c =
    let same = pairs_length (IsPartner c.args.theirs.now c.args.ours.now) c.args.theirs.now c.args.partners.now
    c.requires.partners in
    omega (arith, same)

pub loop-next-preserved : goal.loop-next-preserved
loop-next-preserved c =
    let s = c.args.ours.now in
    let t = c.args.theirs.now in
    let same = pairs_length (IsPartner t s) t c.args.partners.now c.requires.partners in
    let o = get_or c.args.partners.now c.loop-next.next None in
    let there : At c.args.partners.now c.loop-next.next o =
    slice_get-get_or c.args.partners.now c.loop-next.next None (omega (arith, same)) in
    let is = c.is_alone.ensures o there in
    elim c.if-is_alone.branch [
      | then-is_alone+in_ok-push w ↦
          let y = w.index-theirs-next.result in
          let at : At t c.loop-next.next y =
          slice_get_read t (length t) c.loop-next.next y refl (omega arith) w.index-theirs-next.is in
          rw (w.rows-is, w.in_ok-push.ensures.items)
          (push_step s t c.args.p c.loop-next.next c.loop-next.rows.items y o c.requires.theirs c.loop-next.invariant at
          (pairs_get (IsPartner t s) t c.args.partners.now c.loop-next.next y o c.requires.partners at there)
          (sym is ∙ w.if-is_alone.true) (c.comes_first.ensures.first c.if-comes_first.true))
      | else-is_alone w ↦
          rw w.rows-is (skip_there s t c.args.p c.loop-next.next c.loop-next.rows.items c.args.partners.now o
          c.loop-next.invariant c.requires.partners there (sym is ∙ w.if-is_alone.false))
    ]

pub returns-else-comes_first : goal.returns-else-comes_first
returns-else-comes_first c =
    stopped_before c.args.ours.now c.args.theirs.now c.args.p c.loop-next.next c.loop-next.rows.items c.requires.theirs
    c.loop-next.invariant (omega arith) (c.comes_first.ensures.after c.if-comes_first.false)

pub returns-after-loop-next : goal.returns-after-loop-next
returns-after-loop-next c =
    stopped_at_end c.args.ours.now c.args.theirs.now c.args.p c.loop-next.next c.loop-next.rows.items
    c.loop-next.invariant (omega arith)
