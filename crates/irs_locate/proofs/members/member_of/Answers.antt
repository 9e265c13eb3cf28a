use Rattle.std.proofs.Common.{ℕ, List, sym, ap, subst, ◌∙◌}
use Rattle.std.proofs.lemmas.Option.{same_Some}
use Rattle.irs_terms.specs.Faults.{rule_number}
use Rattle.irs_elements.specs.declared.table.Row.{Row}
use Rattle.irs_locate.proofs.OneMember.{named}
use Rattle.irs_locate.specs.Ways.{IsRowOf, Known, first_odd, table_of}
use Rattle.irs_locate.proofs.members.member_of.Goals as goal
use Rattle.serde_json.specs.View.{view}

pub returns-in_err-r-clause-found : goal.returns-in_err-r-clause-found
returns-in_err-r-clause-found c = λ name m.
    let elem : ℕ = c.args.broken.place.elem in
    absurd (c.in_err-r.ensures.none m.row
    (subst (λ (rows : List Row). IsRowOf rows elem m.row)
    (sym (ap (λ (t : Known). t.rows) c.table_of-table.ensures)) m.is_row))

pub returns-clause-found : goal.returns-clause-found
returns-clause-found c = λ name m.
    let elem : ℕ = c.args.broken.place.elem in
    let k : ℕ = rule_number c.args.broken.rule in
    let names : List (List ℕ) = c.in_ok-listed.listed in
    let is_row : IsRowOf (table_of elem).rows elem c.in_ok-r.r =
    subst (λ (rows : List Row). IsRowOf rows elem c.in_ok-r.r)
    (ap (λ (t : Known). t.rows) c.table_of-table.ensures) c.in_ok-r.ensures.some in
    c.first_odd.ensures ∙ ap (λ (t : Known). first_odd k t c.in_ok-r.r names) c.table_of-table.ensures
    ∙ named (view c.args.document.now) c.args.broken (view c.in_ok-object.object.now) names c.in_ok-r.r name
    (λ e lies. same_Some (view c.in_ok-object.object.now) e (c.in_ok-object.ensures.only e lies))
    (sym c.in_ok-listed.ensures.names) is_row m
