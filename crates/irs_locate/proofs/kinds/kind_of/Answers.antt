use Rattle.std.proofs.Common.{ℕ, List, sym, ap, subst, ◌∙◌}
use Rattle.irs_elements.specs.declared.table.Row.{Row}
use Rattle.irs_locate.proofs.OneKind.{leaf_at, only_kind}
use Rattle.irs_locate.specs.Ways.{IsRowOf, Known, table_of}
use Rattle.irs_locate.proofs.kinds.kind_of.Goals as goal

pub returns-in-None-clause-found : goal.returns-in-None-clause-found
returns-in-None-clause-found c = λ kind k.
    let elem : ℕ = c.args.elem in
    absurd (c.in-None.ensures.none k.number
    (subst (λ (rows : List Row). IsRowOf rows elem k.number)
    (sym (ap (λ (t : Known). t.rows) c.table_of-table.ensures)) (k.row, (k.at, k.is_row))))

pub returns-in-Some-clause-found : goal.returns-in-Some-clause-found
returns-in-Some-clause-found c = λ kind k.
    let elem : ℕ = c.args.elem in
    let same = ap (λ (t : Known). t.rows) c.table_of-table.ensures in
    let is_row : IsRowOf (table_of elem).rows elem c.in-Some.r =
    subst (λ (rows : List Row). IsRowOf rows elem c.in-Some.r) same c.in-Some.ensures.some in
    c.leaf_at.ensures ∙ ap (λ (rows : List Row). leaf_at rows c.in-Some.r) same
    ∙ only_kind elem c.in-Some.r kind is_row k
