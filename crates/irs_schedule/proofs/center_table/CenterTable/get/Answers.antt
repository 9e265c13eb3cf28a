use Rattle.std.proofs.Common.{true≢false, option_copied, sym, arith}
use Rattle.irs_schedule.proofs.CenterLemmas.{not_among}
use Rattle.irs_schedule.proofs.center_table.CenterTable.get.Goals as goal

pub returns-clause-there : goal.returns-clause-there
returns-clause-there c = (
  λ e. absurd (true≢false (sym e)),
  λ there.
      let listed = rw (← c.self.view_is, ← c.deref-days-items.ensures.value) at there in
      absurd (not_among c.deref-days-items.result.now (option_copied c.args.names)
      (λ k days within named. c.loop-days.invariant k days (omega arith) named) listed),
)
