-- The call of this crate has one outcome: a right one is given, and there is one at most.
use Rattle.std.proofs.Common.{◌⊎◌, inl, inr, List, Option, Some, None}
use Rattle.irs_base.specs.Outcomes.{Checks, Determined, First}
use Rattle.irs_terms.specs.Faults.{is_before}
use Rattle.irs_terms.specs.declared.places.Broken.{Broken}
use Rattle.irs_terms.proofs.FaultOrder.{broken_ties}
use Rattle.irs_base.proofs.Firsts.{one_first}
use Rattle.irs_base.proofs.Outcomes.{unbroken_determined}
use Rattle.irs_calendar.specs.declared.sections.Section.{Section}
use Rattle.irs_terms.specs.declared.stream_list.Swap.{Swap}
use Rattle.irs_rules.specs.TermsRules.{terms_of, BreaksNone, BreaksTerms}

-- the first rule of the terms that the swap breaks, in the order of stream, rule, element and index
abbrev IsFirstBrokenRule : Swap → List Section → Broken → Type 0
IsFirstBrokenRule swap cal f = First is_before (BreaksTerms swap cal) f

decided_by : (swap : Swap) (cal : List Section) (outcome : Option Broken) → Checks (terms_of swap cal) outcome
    → ((f : Broken) × IsFirstBrokenRule swap cal f) ⊎ BreaksNone swap cal
decided_by swap cal None none = inr none
decided_by swap cal (Some f) first = inl (f, first)

-- the terms break no rule, or one is the first
pub terms_determined : (swap : Swap) (cal : List Section) (outcome : Option Broken) → Checks (terms_of swap cal) outcome
    → Determined (terms_of swap cal)
terms_determined swap cal outcome checks =
    unbroken_determined is_before (BreaksTerms swap cal) (decided_by swap cal outcome checks)
    (one_first is_before broken_ties (BreaksTerms swap cal))
