use Rattle.irs_cli.specs.Commands.{word_texts, IsRequest}
use Rattle.irs_cli.specs.declared.commands.Kind.TheVariants.{Interpolate}
use Rattle.irs_cli.specs.declared.commands.Request.{Request}
use Rattle.irs_cli.proofs.HandedReplies.{if_none}
use Rattle.irs_cli.proofs.params.interpolate_of.Goals as goal

pub returns-in_err-stream-clause-none : goal.returns-in_err-stream-clause-none
returns-in_err-stream-clause-none c =
    let none : (r : Request) → IsRequest Interpolate (word_texts c.args.words.now) r → ⊥ =
    λ r h. c.in_err-stream.ensures.none h.stream h.is_stream in
    if_none c.from_residual.result ((r : Request) → IsRequest Interpolate (word_texts c.args.words.now) r → ⊥) none

pub returns-in_err-side-clause-none : goal.returns-in_err-side-clause-none
returns-in_err-side-clause-none c =
    let none : (r : Request) → IsRequest Interpolate (word_texts c.args.words.now) r → ⊥ =
    λ r h. c.in_err-side.ensures.none h.side h.is_side in
    if_none c.from_residual-in_err-side.result ((r : Request) → IsRequest Interpolate (word_texts c.args.words.now) r
    → ⊥) none

pub returns-in_err-low-clause-none : goal.returns-in_err-low-clause-none
returns-in_err-low-clause-none c =
    let none : (r : Request) → IsRequest Interpolate (word_texts c.args.words.now) r → ⊥ =
    λ r h. c.in_err-low.ensures.none h.low h.is_low in
    if_none c.from_residual-in_err-low.result ((r : Request) → IsRequest Interpolate (word_texts c.args.words.now) r
    → ⊥) none

pub returns-in_err-high-clause-none : goal.returns-in_err-high-clause-none
returns-in_err-high-clause-none c =
    let none : (r : Request) → IsRequest Interpolate (word_texts c.args.words.now) r → ⊥ =
    λ r h. c.in_err-high.ensures.none h.high h.is_high in
    if_none c.from_residual-in_err-high.result ((r : Request) → IsRequest Interpolate (word_texts c.args.words.now) r
    → ⊥) none
