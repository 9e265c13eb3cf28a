use Rattle.std.proofs.Common.{rules, ◌≡◌, pos, FitsSigned, sym, ◌∙◌, ap, to_z, of_z}
use Rattle.std.specs.Int.{w128, int_div_euclid, int_rem_euclid}
use Rattle.std.proofs.lemmas.Int.{to_z-of_z}
use Rattle.irs_audit.proofs.ValueLemmas.{divides, same_bits, equal_bits}
use Rattle.irs_audit.proofs.comparisons.is_multiple.Goals as goal

pub returns-then-rest-eq0 : goal.returns-then-rest-eq0
returns-then-rest-eq0 c =
    let p = c.args.p in
    let q = c.args.q in
    let m = c.args.m in
    let fp : FitsSigned w128 p = c.ranges.p in
    let fq : FitsSigned w128 q = c.ranges.q in
    let fm : FitsSigned w128 m = c.ranges.m in
    let fr : FitsSigned w128 c.rest.result = search rules in
    let fk : FitsSigned w128 c.quotient.result = search rules in
    let r : c.rest.result ≡ int_rem_euclid p q = simp to_z-of_z at c.rest.ensures in
    let k : c.quotient.result ≡ int_div_euclid p q = simp to_z-of_z at c.quotient.ensures in
    let z : c.rest.result ≡ pos 0 = sym (to_z-of_z w128 c.rest.result fr) ∙ ap (to_z w128) c.if-rest-eq0.true in
    let d = divides p q m c.requires in
    let e = same_bits w128 c.quotient.result m fk fm in
    (λ t. d.0 (sym r ∙ z, sym k ∙ e.0 t), λ f. e.1 (k ∙ (d.1 f).1))

pub returns-else-rest-eq0 : goal.returns-else-rest-eq0
returns-else-rest-eq0 c =
    let p = c.args.p in
    let q = c.args.q in
    let m = c.args.m in
    let fp : FitsSigned w128 p = c.ranges.p in
    let fq : FitsSigned w128 q = c.ranges.q in
    let fr : FitsSigned w128 c.rest.result = search rules in
    let r : c.rest.result ≡ int_rem_euclid p q = simp to_z-of_z at c.rest.ensures in
    let d = divides p q m c.requires in (
      λ t. absurd (c.if-rest-eq0.false (equal_bits (of_z w128 c.rest.result) 0 t)),
      λ f. absurd (c.if-rest-eq0.false (ap (of_z w128) (r ∙ (d.1 f).0))),
    )
