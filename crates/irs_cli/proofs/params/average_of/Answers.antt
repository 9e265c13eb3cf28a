use Rattle.irs_cli.specs.Commands.{word_texts, IsRequest}
use Rattle.irs_cli.specs.declared.commands.Kind.TheVariants.{Average}
use Rattle.irs_cli.specs.declared.commands.Request.{Request}
use Rattle.irs_cli.proofs.HandedReplies.{if_none}
use Rattle.irs_cli.proofs.params.average_of.Goals as goal

pub returns-in_err-stream-clause-none : goal.returns-in_err-stream-clause-none
returns-in_err-stream-clause-none c =
    let none : (r : Request) → IsRequest Average (word_texts c.args.words.now) r → ⊥ =
    λ r h. c.in_err-stream.ensures.none h.stream h.is_stream in
    if_none c.from_residual.result ((r : Request) → IsRequest Average (word_texts c.args.words.now) r → ⊥) none

pub returns-in_err-mean-clause-none : goal.returns-in_err-mean-clause-none
returns-in_err-mean-clause-none c =
    let none : (r : Request) → IsRequest Average (word_texts c.args.words.now) r → ⊥ =
    λ r h. c.in_err-mean.ensures.none h.mean h.is_mean in
    if_none c.from_residual-in_err-mean.result ((r : Request) → IsRequest Average (word_texts c.args.words.now) r → ⊥) none

pub returns-in_err-step-clause-none : goal.returns-in_err-step-clause-none
returns-in_err-step-clause-none c =
    let none : (r : Request) → IsRequest Average (word_texts c.args.words.now) r → ⊥ =
    λ r h. c.in_err-step.ensures.none h.step h.is_step in
    if_none c.from_residual-in_err-step.result ((r : Request) → IsRequest Average (word_texts c.args.words.now) r → ⊥) none
