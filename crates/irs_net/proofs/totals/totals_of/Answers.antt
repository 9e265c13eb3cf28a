use Rattle.std.proofs.Common.{◌≡◌, ◌+◌, ◌++◌, ◌∷◌, [], take, sym, ap, ◌∙◌, Option}
use Rattle.std.specs.BTreeMap.{get}
use Rattle.std.specs.Prelude.{unwrap_or}
use Rattle.std.proofs.lemmas.List.{take_more}
use Rattle.irs_net.specs.Nets.{key_order, part_key}
use Rattle.irs_net.specs.Private.FoundParties.{no_total, total_with}
use Rattle.irs_net.specs.declared.parts.NetPart.{NetPart}
use Rattle.irs_net.specs.declared.totals.NetKey.{NetKey}
use Rattle.irs_net.specs.declared.totals.NetTotal.{NetTotal}
use Rattle.irs_net.proofs.TotalLemmas.{total_fits, total_step}
use Rattle.irs_net.proofs.totals.totals_of.Goals as goal

pub total_with-total-requires-clause-known : goal.total_with-total-requires-clause-known
total_with-total-requires-clause-known c =
    let k = c.key_of-key.result in
    (total_fits c.args.parts.now c.loop-part.part-index k c.total_so_far.result c.requires.few c.requires.small
    (c.total_so_far.ensures
    ∙ ap (λ (o : Option NetTotal). unwrap_or o no_total) (c.loop-part.invariant.totals k))).0

pub total_with-total-requires-clause-unknown : goal.total_with-total-requires-clause-unknown
total_with-total-requires-clause-unknown c =
    let k = c.key_of-key.result in
    (total_fits c.args.parts.now c.loop-part.part-index k c.total_so_far.result c.requires.few c.requires.small
    (c.total_so_far.ensures
    ∙ ap (λ (o : Option NetTotal). unwrap_or o no_total) (c.loop-part.invariant.totals k))).1

pub loop-part-preserved : goal.loop-part-preserved
loop-part-preserved c =
    let i = c.loop-part.part-index in
    let ps = c.args.parts.now in
    let p = c.part-item.result in
    let longer : take (i + 1) ps ≡ take i ps ++ p ∷ [] =
    take_more ps i p c.loop-part-test.true ∙ ap (λ (z : NetPart). take i ps ++ z ∷ []) (sym c.part-item.is) in
    let k : c.key_of-key.result ≡ part_key p = c.key_of-key.ensures in
    let w : c.total_with-total.result
    ≡ total_with (unwrap_or (get key_order c.loop-part.totals (part_key p)) no_total) p.units =
    c.total_with-total.ensures
    ∙ ap (λ (t : NetTotal). total_with t p.units) (c.total_so_far.ensures
    ∙ ap (λ (q : NetKey). unwrap_or (get key_order c.loop-part.totals q) no_total) k) in
    record {
      ordered = c.in_ok-insert.ensures.ordered;
      totals =
          rw longer (total_step (get key_order c.loop-part.totals) (get key_order c.insert.new.self)
          (take i ps) p c.total_with-total.result c.loop-part.invariant.totals
          (rw k at c.in_ok-insert.ensures.updates.0) w);
    }
