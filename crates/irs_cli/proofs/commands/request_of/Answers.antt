use Rattle.std.proofs.Common.{sym, subst}
use Rattle.std.specs.Prelude.{IfNone}
use Rattle.irs_cli.specs.declared.commands.Kind.{Kind}
use Rattle.irs_cli.specs.declared.commands.Request.{Request}
use Rattle.irs_cli.specs.Commands.{word_texts, IsRequest}
use Rattle.irs_cli.proofs.commands.request_of.Goals as goal

pub returns-in-Accrue-clause-none : goal.returns-in-Accrue-clause-none
returns-in-Accrue-clause-none c =
    subst (λ (k : Kind). IfNone c.accrue_of.result ((r : Request) → IsRequest k (word_texts c.args.words.now) r → ⊥))
    (sym c.in-Accrue.is) c.accrue_of.ensures.none

pub returns-in-Breaks-clause-none : goal.returns-in-Breaks-clause-none
returns-in-Breaks-clause-none c =
    subst (λ (k : Kind). IfNone c.breaks_of.result ((r : Request) → IsRequest k (word_texts c.args.words.now) r → ⊥))
    (sym c.in-Breaks.is) c.breaks_of.ensures.none

pub returns-in-Bulk-clause-none : goal.returns-in-Bulk-clause-none
returns-in-Bulk-clause-none c =
    subst (λ (k : Kind). IfNone c.bulk_of.result ((r : Request) → IsRequest k (word_texts c.args.words.now) r → ⊥))
    (sym c.in-Bulk.is) c.bulk_of.ensures.none

pub returns-in-Observations-clause-none : goal.returns-in-Observations-clause-none
returns-in-Observations-clause-none c =
    subst (λ (k : Kind). IfNone c.observations_of.result ((r : Request) → IsRequest k (word_texts c.args.words.now) r → ⊥))
    (sym c.in-Observations.is) c.observations_of.ensures.none

pub returns-in-Overnight-clause-none : goal.returns-in-Overnight-clause-none
returns-in-Overnight-clause-none c =
    subst (λ (k : Kind). IfNone c.overnight_of.result ((r : Request) → IsRequest k (word_texts c.args.words.now) r → ⊥))
    (sym c.in-Overnight.is) c.overnight_of.ensures.none

pub returns-in-Average-clause-none : goal.returns-in-Average-clause-none
returns-in-Average-clause-none c =
    subst (λ (k : Kind). IfNone c.average_of.result ((r : Request) → IsRequest k (word_texts c.args.words.now) r → ⊥))
    (sym c.in-Average.is) c.average_of.ensures.none

pub returns-in-Interpolate-clause-none : goal.returns-in-Interpolate-clause-none
returns-in-Interpolate-clause-none c =
    subst (λ (k : Kind). IfNone c.interpolate_of.result ((r : Request) → IsRequest k (word_texts c.args.words.now) r → ⊥))
    (sym c.in-Interpolate.is) c.interpolate_of.ensures.none

pub returns-in-Carrier-clause-none : goal.returns-in-Carrier-clause-none
returns-in-Carrier-clause-none c =
    subst (λ (k : Kind). IfNone c.carrier_of.result ((r : Request) → IsRequest k (word_texts c.args.words.now) r → ⊥))
    (sym c.in-Carrier.is) c.carrier_of.ensures.none
