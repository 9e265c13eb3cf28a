use Rattle.std.proofs.Common.{rules, FitsSigned}
use Rattle.std.specs.Int.{w128}
use Rattle.std.proofs.lemmas.Int.{to_z-of_z}
use Rattle.irs_terms.specs.declared.codes.CompCode.TheVariants.{Flat, SpreadExclusive}
use Rattle.irs_compound.specs.Private.AmountLaws.{at_exists}
use Rattle.irs_compound.proofs.StepLemmas.{takes, stops, stops_at_rates}
use Rattle.irs_compound.proofs.balances.next_balance.Goals as goal

pub returns-then-not-are_within-clause-none : goal.returns-then-not-are_within-clause-none
returns-then-not-are_within-clause-none c =
    let p = c.args.p.now in
    let r = c.unwrap-rates.result in
    let x = at_exists c.args.code p r c.args.before.kept c.requires.term.1 in
    stops_at_rates c.args.code p r c.args.before x.0 c.unwrap-rates.ensures x.1 c.if-not-are_within.ensures

pub returns-in-Flat-clause-some : goal.returns-in-Flat-clause-some
returns-in-Flat-clause-some c =
    let p = c.args.p.now in
    let r = c.unwrap-rates.result in
    let fb : FitsSigned w128 c.args.before.kept = search rules in
    rw c.in-Flat.is (takes c.add_parts-in-Flat.result Flat p r c.args.before c.flat_parts.result c.unwrap-rates.ensures
    c.if-not-are_within.ensures (simp to_z-of_z at c.flat_parts.ensures)
    (rw c.in-Flat.is at c.add_parts-in-Flat.ensures))

pub returns-in-Flat-clause-none : goal.returns-in-Flat-clause-none
returns-in-Flat-clause-none c =
    let p = c.args.p.now in
    let r = c.unwrap-rates.result in
    let fb : FitsSigned w128 c.args.before.kept = search rules in
    rw c.in-Flat.is (stops c.add_parts-in-Flat.result Flat p r c.args.before c.flat_parts.result c.unwrap-rates.ensures
    (simp to_z-of_z at c.flat_parts.ensures) (rw c.in-Flat.is at c.add_parts-in-Flat.ensures))

pub returns-in-SpreadExclusive-clause-some : goal.returns-in-SpreadExclusive-clause-some
returns-in-SpreadExclusive-clause-some c =
    let p = c.args.p.now in
    let r = c.unwrap-rates.result in
    let fb : FitsSigned w128 c.args.before.kept = search rules in
    rw c.in-SpreadExclusive.is
    (takes c.add_parts-in-SpreadExclusive.result SpreadExclusive p r c.args.before c.exclusive_parts.result
    c.unwrap-rates.ensures c.if-not-are_within.ensures (simp to_z-of_z at c.exclusive_parts.ensures)
    (rw c.in-SpreadExclusive.is at c.add_parts-in-SpreadExclusive.ensures))

pub returns-in-SpreadExclusive-clause-none : goal.returns-in-SpreadExclusive-clause-none
returns-in-SpreadExclusive-clause-none c =
    let p = c.args.p.now in
    let r = c.unwrap-rates.result in
    let fb : FitsSigned w128 c.args.before.kept = search rules in
    rw c.in-SpreadExclusive.is
    (stops c.add_parts-in-SpreadExclusive.result SpreadExclusive p r c.args.before c.exclusive_parts.result
    c.unwrap-rates.ensures (simp to_z-of_z at c.exclusive_parts.ensures)
    (rw c.in-SpreadExclusive.is at c.add_parts-in-SpreadExclusive.ensures))
