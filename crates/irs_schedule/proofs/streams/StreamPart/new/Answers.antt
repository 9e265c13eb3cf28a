use Rattle.std.proofs.Common.{rules}
use Rattle.irs_schedule.specs.declared.streams.StreamPart.TheInside.{Inside}
use Rattle.irs_schedule.specs.Views.{IsKept}
use Rattle.irs_schedule.proofs.PartLemmas.{kept}
use Rattle.irs_schedule.proofs.streams.StreamPart.new.Goals as goal

pub invariant_of-result : goal.invariant_of-result
invariant_of-result c =
    let s : Inside =
    record {
      terms = c.args.terms;
      unadjusted = c.args.unadjusted;
      adjusted = c.args.adjusted;
      exchanges =
          c.args.exchanges;
      payments = c.args.payments;
      resets = c.args.resets;
      rates = c.args.rates;
    } in
    kept s c.requires c.as_slice-days.ensures.days c.as_slice-moved.ensures.days (search rules)

pub returns-clause-bounds : goal.returns-clause-bounds
returns-clause-bounds c =
    let s : Inside =
    record {
      terms = c.args.terms;
      unadjusted = c.args.unadjusted;
      adjusted = c.args.adjusted;
      exchanges =
          c.args.exchanges;
      payments = c.args.payments;
      resets = c.args.resets;
      rates = c.args.rates;
    } in
    let k : IsKept s = kept s c.requires c.as_slice-days.ensures.days c.as_slice-moved.ensures.days (search rules) in
    k.bounds
