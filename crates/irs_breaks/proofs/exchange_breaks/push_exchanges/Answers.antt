use Rattle.std.proofs.Common.{◌≡◌, length, Some, refl, ap, ◌∙◌}
use Rattle.std.proofs.lemmas.List.{length-map}
use Rattle.irs_terms.specs.declared.results.Exchange.{Exchange}
use Rattle.irs_flows.specs.declared.flows.FlowExchange.{FlowExchange}
use Rattle.irs_breaks.specs.BreakLists.{exchange_dates, stated_exchange_dates, IsExchangeRow}
use Rattle.irs_breaks.proofs.TablesTold.{same_placed, told_of}
use Rattle.irs_breaks.proofs.exchange_breaks.push_exchanges.Goals as goal

pub push_exchange_rows-requires : goal.push_exchange_rows-requires
push_exchange_rows-requires c =
    let ours : c.deref.result.now ≡ exchange_dates c.args.part.now.exchanges =
    c.deref.ensures.value ∙ (c.in_ok-ours.ensures ∙ ap exchange_dates c.exchanges.ensures.value) in
    let theirs : c.deref-2.result.now ≡ stated_exchange_dates c.args.flow.now.exchanges =
    c.deref-2.ensures.value ∙ (c.in_ok-theirs.ensures ∙ ap stated_exchange_dates c.exchanges-2.ensures) in
    same_placed (length c.deref.result.now) (length c.deref-2.result.now) (length c.args.part.now.exchanges)
    (length c.args.flow.now.exchanges) c.in_ok-rows.rows.items c.deref-3.result.now
    (ap length ours ∙ length-map c.args.part.now.exchanges (λ (x : Exchange). Some x.adjusted))
    (ap length theirs ∙ length-map c.args.flow.now.exchanges (λ (y : FlowExchange). y.adjusted)) c.deref-3.ensures.value
    c.in_ok-rows.ensures.placed

pub returns : goal.returns
returns c =
    let ours : c.deref.result.now ≡ exchange_dates c.args.part.now.exchanges =
    c.deref.ensures.value ∙ (c.in_ok-ours.ensures ∙ ap exchange_dates c.exchanges.ensures.value) in
    let theirs : c.deref-2.result.now ≡ stated_exchange_dates c.args.flow.now.exchanges =
    c.deref-2.ensures.value ∙ (c.in_ok-theirs.ensures ∙ ap stated_exchange_dates c.exchanges-2.ensures) in
    told_of c.args.from c.args.from c.deref.result.now c.deref-2.result.now (exchange_dates c.args.part.now.exchanges)
    (stated_exchange_dates c.args.flow.now.exchanges) (IsExchangeRow c.args.stream c.args.part.now c.args.flow.now)
    c.in_ok-rows.rows.items c.deref-3.result.now c.args.list.now c.push_exchange_rows.new.list refl ours theirs
    c.deref-3.ensures.value c.in_ok-rows.ensures.pairing c.in_ok-push_exchange_rows.ensures
