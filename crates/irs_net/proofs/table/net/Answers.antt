use Rattle.std.proofs.Common.{◌≡◌, List, map, sym, ap, subst, ◌∙◌}
use Rattle.std.proofs.lemmas.Result.{IfOk-weaker}
use Rattle.irs_base.specs.Lists.{Every}
use Rattle.irs_net.specs.Nets.{parts_of, NetRowHasPlaces, IsNet}
use Rattle.irs_net.specs.Private.FoundParties.{row_of, total_at}
use Rattle.irs_net.specs.declared.parts.NetPart.{NetPart}
use Rattle.irs_net.proofs.NetLemmas.{few_places, net_is, one_net}
use Rattle.irs_net.proofs.NetThere.{net_there}
use Rattle.irs_net.proofs.SumLemmas.{adds_up}
use Rattle.irs_net.proofs.table.net.Goals as goal

pub returns-in_err-parts-clause-exists : goal.returns-in_err-parts-clause-exists
returns-in_err-parts-clause-exists c = net_there (parts_of c.args.s.now c.args.sides.now.forward)

pub returns-in_err-totals-clause-exists : goal.returns-in_err-totals-clause-exists
returns-in_err-totals-clause-exists c = net_there (parts_of c.args.s.now c.args.sides.now.forward)

pub returns-clause-exists : goal.returns-clause-exists
returns-clause-exists c = net_there (parts_of c.args.s.now c.args.sides.now.forward)

pub returns-in_err-parts-clause-one : goal.returns-in_err-parts-clause-one
returns-in_err-parts-clause-one c = λ a b h k. one_net (parts_of c.args.s.now c.args.sides.now.forward) a b h k

pub returns-in_err-totals-clause-one : goal.returns-in_err-totals-clause-one
returns-in_err-totals-clause-one c = λ a b h k. one_net (parts_of c.args.s.now c.args.sides.now.forward) a b h k

pub returns-clause-one : goal.returns-clause-one
returns-clause-one c = λ a b h k. one_net (parts_of c.args.s.now c.args.sides.now.forward) a b h k

pub returns-in_err-parts-clause-adds_up : goal.returns-in_err-parts-clause-adds_up
returns-in_err-parts-clause-adds_up c =
    λ currency rows h. adds_up currency (parts_of c.args.s.now c.args.sides.now.forward) rows h

pub returns-in_err-totals-clause-adds_up : goal.returns-in_err-totals-clause-adds_up
returns-in_err-totals-clause-adds_up c =
    λ currency rows h. adds_up currency (parts_of c.args.s.now c.args.sides.now.forward) rows h

pub returns-clause-adds_up : goal.returns-clause-adds_up
returns-clause-adds_up c = λ currency rows h. adds_up currency (parts_of c.args.s.now c.args.sides.now.forward) rows h

pub returns-clause-ok : goal.returns-clause-ok
returns-clause-ok c =
    let parts = parts_of c.args.s.now c.args.sides.now.forward in
    let m = c.in_ok-totals.totals in
    let e : c.deref.result.now ≡ parts = c.deref.ensures.value ∙ c.in_ok-parts.ensures.parts in
    let is : IsNet parts (map row_of m.entries) =
    net_is parts m c.in_ok-totals.ensures.ordered (λ key. c.in_ok-totals.ensures.totals key
    ∙ ap (λ (ps : List NetPart). total_at ps key) e) in
    IfOk-weaker c.table_of.result (λ rows. rows ≡ map row_of m.entries) (IsNet parts)
    (λ rows h. subst (IsNet parts) (sym h) is) c.table_of.ensures

pub returns-clause-places : goal.returns-clause-places
returns-clause-places c =
    let parts = parts_of c.args.s.now c.args.sides.now.forward in
    let m = c.in_ok-totals.totals in
    let e : c.deref.result.now ≡ parts = c.deref.ensures.value ∙ c.in_ok-parts.ensures.parts in
    let is : IsNet parts (map row_of m.entries) =
    net_is parts m c.in_ok-totals.ensures.ordered (λ key. c.in_ok-totals.ensures.totals key
    ∙ ap (λ (ps : List NetPart). total_at ps key) e) in
    IfOk-weaker c.table_of.result (λ rows. rows ≡ map row_of m.entries) (Every NetRowHasPlaces)
    (λ rows h. subst (Every NetRowHasPlaces) (sym h) (few_places parts (map row_of m.entries) is.sums)) c.table_of.ensures
