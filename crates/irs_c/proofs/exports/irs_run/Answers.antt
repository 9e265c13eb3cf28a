use Rattle.std.proofs.Common.{inl, inr, refl}
use Rattle.irs_cli.proofs.OneAnswer.{one_answer}
use Rattle.irs_c.specs.Each.{status_alone, words_in, file_in}
use Rattle.irs_c.specs.Private.Each.{outcome_by}
use Rattle.irs_c.proofs.ShownLemmas.{nothing_shown}
use Rattle.irs_c.proofs.exports.irs_run.Goals as goal

pub returns-in-Ok-clause-run : goal.returns-in-Ok-clause-run
returns-in-Ok-clause-run c = (
  outcome_by c.in-Ok.told,
  inl (c.in-Ok.ensures.text, c.in-Ok.ensures.run),
  refl,
  c.show_text.ensures,
  c.show_sentence.ensures,
)

pub returns-in-Err-clause-run : goal.returns-in-Err-clause-run
returns-in-Err-clause-run c =
    let text = nothing_shown c.args.out.now in
    let sentence = nothing_shown c.args.said.now in
    elim c.in-Err.ensures.err [
      | inl is7 ↦ (status_alone 7, inr (inl refl), is7, text, sentence)
      | inr is9 ↦ (status_alone 9, inr (inr (c.in-Err.ensures.not_text is9, refl)), is9, text, sentence)
    ]

pub returns-in-Ok-clause-one : goal.returns-in-Ok-clause-one
returns-in-Ok-clause-one c = one_answer (words_in c.args.words.now) (file_in c.args.files.now)

pub returns-in-Err-clause-one : goal.returns-in-Err-clause-one
returns-in-Err-clause-one c = one_answer (words_in c.args.words.now) (file_in c.args.files.now)
