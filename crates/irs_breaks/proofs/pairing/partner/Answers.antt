use Rattle.std.proofs.Common.{◌≡◌, ℕ, ◌+◌, ◌-◌, ◌<◌, arith, get_or, length, refl, subst}
use Rattle.std.proofs.lemmas.Option.{slice_get-get_or}
use Rattle.irs_breaks.specs.Pairing.{At}
use Rattle.irs_breaks.proofs.BlockLemmas.{kth_of_ours, paired_inside}
use Rattle.irs_breaks.proofs.pairing.partner.Goals as goal

pub returns-then-k-i : goal.returns-then-k-i
returns-then-k-i c = λ x at.
    let place : c.args.k ≡ c.args.i + (c.args.k - c.args.i) = omega arith in
    let last = c.requires.block.theirs_last in
    let high = c.requires.block.edge.in_theirs in
    let low = c.requires.block.from_theirs in
    let within : c.args.j + (c.args.k - c.args.i) < length c.args.theirs.now = omega (arith, last, high, low) in
    let y = get_or c.args.theirs.now (c.args.j + (c.args.k - c.args.i)) c.index-theirs-j.result in (
      y,
      paired_inside c.args.ours.now c.args.theirs.now c.args.i c.args.j c.args.block c.requires.ours c.requires.theirs
          c.requires.edge c.requires.block (c.args.k - c.args.i) x y (omega arith)
          (subst (λ (n : ℕ). At c.args.ours.now n x) place at)
          (slice_get-get_or c.args.theirs.now (c.args.j + (c.args.k - c.args.i)) c.index-theirs-j.result within),
      refl,
    )

pub returns-else-k-i : goal.returns-else-k-i
returns-else-k-i c = λ x at y h.
    let there = kth_of_ours c.args.ours.now c.args.theirs.now c.args.i c.args.j c.args.block c.requires.ours
    c.requires.theirs c.requires.edge c.requires.block c.args.k x y c.requires.low c.requires.high at h in
    let few = there.2.few in
    omega (arith, few)
