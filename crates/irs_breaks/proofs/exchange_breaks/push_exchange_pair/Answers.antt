use Rattle.std.proofs.Common.{◌≡◌, ap, subst, ◌∙◌, List}
use Rattle.irs_breaks.specs.Findings.{counts_in, exchange_fields, one_pair, joined_findings}
use Rattle.irs_breaks.specs.Private.Findings.{Adds}
use Rattle.irs_breaks.specs.BreakLists.{AreFieldBreaks}
use Rattle.irs_breaks.specs.declared.counting.Counts.{Counts}
use Rattle.irs_breaks.specs.declared.values.FieldValues.{FieldValues}
use Rattle.irs_breaks.proofs.RowsTold.{counted_then}
use Rattle.irs_breaks.proofs.exchange_breaks.push_exchange_pair.Goals as goal

pub returns : goal.returns
returns c =
    let fields = exchange_fields c.args.x.now c.args.y.now in
    let counts : c.counts_of.result ≡ counts_in fields =
    c.counts_of.ensures ∙ ap counts_in c.exchange_fields-fields.ensures.fields in
    let first : c.push_pair.new.self ≡ joined_findings c.args.list.now (one_pair (counts_in fields)) =
    c.in_ok-push_pair.ensures ∙ ap (λ (z : Counts). joined_findings c.args.list.now (one_pair z)) counts in
    let more : Adds (AreFieldBreaks c.args.place.now fields) c.push_pair.new.self c.push_fields.new.list =
    subst (λ (z : List FieldValues). Adds (AreFieldBreaks c.args.place.now z) c.push_pair.new.self c.push_fields.new.list)
    c.exchange_fields-fields.ensures.fields c.in_ok-push_fields.ensures in
    counted_then (one_pair (counts_in fields)) (AreFieldBreaks c.args.place.now fields) c.args.list.now
    c.push_pair.new.self c.push_fields.new.list first more
