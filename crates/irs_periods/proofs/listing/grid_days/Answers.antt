use Rattle.std.proofs.Common.{◌≡◌, ◌≤◌, ◌+◌, [], ◌∷◌, ◌++◌, List, ℤ, pos, ◌+ℤ◌, to_z, of_z, w64, arith, ap, ◌∙◌}
use Rattle.std.proofs.Common.{add-one, append_assoc}
use Rattle.jiff_core.proofs.SignedLemmas.{signed_arith}
use Rattle.irs_periods.specs.Private.Spans.{days_from}
use Rattle.irs_periods.proofs.listing.grid_days.Goals as goal

pub loop-j-preserved : goal.loop-j-preserved
loop-j-preserved g c =
    let f : ℤ → ℤ = g.G.Grid.at c.args.grid.now in
    let start : ℤ = to_z w64 (of_z w64 c.args.start) in
    let j = c.loop-j.j in
    let count : j + 1 ≤ 4_294_967_295 = omega (arith, c.loop-j-test.true, c.ranges.count) in
    let place : to_z w64 (of_z w64 (start +ℤ to_z w64 (of_z w64 c.from.result))) ≡ start +ℤ pos j =
    omega (arith, signed_arith, c.requires.near, c.from.ensures, count) in
    let is : c.in-Some.d ≡ f (start +ℤ pos j) = (c.in-Some.ensures {u = tt}).1 ∙ ap f place in
    let so_far : c.loop-j.list ≡ c.args.list ++ days_from f start j = c.loop-j.invariant in
    let joined : c.push.new.self ≡ c.args.list ++ (days_from f start j ++ f (start +ℤ pos j) ∷ []) =
    c.in_ok-push-in-Some.ensures.ok
    ∙ ap (λ (xs : List ℤ). xs ++ c.in-Some.d ∷ []) so_far
    ∙ append_assoc c.args.list (days_from f start j) (c.in-Some.d ∷ [])
    ∙ ap (λ (z : ℤ). c.args.list ++ (days_from f start j ++ z ∷ [])) is in
    rw add-one joined
