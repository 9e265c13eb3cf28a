use Rattle.std.proofs.Common.{ℕ, List, subst, sym, ◌∙◌}
use Rattle.std.proofs.lemmas.Option.{same_Some}
use Rattle.irs_cli.specs.Commands.{word_texts, At, IsStepWord}
use Rattle.irs_cli.proofs.CommandLemmas.{word_at}
use Rattle.irs_cli.proofs.HandedReplies.{none_then}
use Rattle.irs_cli.proofs.params.step_at.Goals as goal

pub returns-clause-none : goal.returns-clause-none
returns-clause-none c =
    let there = word_at c.args.words.now c.args.index c.in_ok-word.word.now c.in_ok-word.ensures.lookup.3.0
    c.in_ok-word.ensures.lookup.1 in
    none_then c.step_of.result ((n : ℕ) → IsStepWord c.as_str.result.now n → ⊥) ((n : ℕ)
    → At IsStepWord (word_texts c.args.words.now) c.args.index n → ⊥) c.step_of.ensures.none
    (λ never n h. never n
    (subst (λ (w : List ℕ). IsStepWord w n) (same_Some h.word _ (sym h.there ∙ there)
    ∙ sym c.as_str.ensures.value) h.is))
