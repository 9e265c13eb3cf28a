use Rattle.std.proofs.Common.{rules, FitsSigned}
use Rattle.std.specs.Int.{w64}
use Rattle.std.proofs.lemmas.Int.{to_z-of_z}
use Rattle.irs_accrue.proofs.daily.inside.Goals as goal

pub returns : goal.returns
returns g c =
    let r = c.args.running.now in
    let fd : FitsSigned w64 c.share_of-share.result.days = search rules in
    let kind = rw c.periods.ensures.count at c.period_kind-kind.ensures in
    let accrues = rw c.currency.ensures at c.in_ok-amount.ensures in
    let has_run = rw c.day_count.ensures at c.share_of-share.ensures.share in
    simp to_z-of_z (record {
      accrual = record {
        period = r.period;
        runs = c.requires.runs;
        has_run = has_run;
        span = c.span_of.result;
        regular = c.span_of.ensures;
        kind = c.period_kind-kind.result;
        is_kind = kind;
        accrues = accrues;
      };
    })
