use Rattle.irs_audit.specs.StatedFlows.{stated_flows}
use Rattle.irs_audit.proofs.StatedLemmas.{flows_agree}
use Rattle.irs_breaks.proofs.Agreed.{no_break}
use Rattle.irs_breaks.proofs.Stated.{none_left_unstated}
use Rattle.irs_breaks.proofs.laws.stated_is_unbroken.Goals as goal

pub returns-clause-unbroken : goal.returns-clause-unbroken
returns-clause-unbroken c =
    λ from s l within h broken. broken (no_break from s (stated_flows s) l within (flows_agree s within) h)

pub returns-clause-whole : goal.returns-clause-whole
returns-clause-whole c = λ from s l within h. none_left_unstated from s l within h
