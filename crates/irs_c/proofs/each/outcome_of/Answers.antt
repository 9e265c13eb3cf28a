use Rattle.std.proofs.Common.{◌≡◌, ℕ, List, ◌++◌, vec_len, refl}
use Rattle.irs_c.specs.Each.{Outcome, slot_of}
use Rattle.irs_c.specs.Private.Each.{outcome_by}
use Rattle.irs_c.proofs.EachLemmas.{memory_stops, run_by}
use Rattle.irs_c.specs.declared.each.Answer.{Answer}
use Rattle.irs_c.specs.declared.telling.Told.{Told}
use Rattle.irs_c.proofs.each.outcome_of.Goals as goal

pub returns-in_err-status-clause-no_text : goal.returns-in_err-status-clause-no_text
returns-in_err-status-clause-no_text c =
    memory_stops c.args.words.now c.in-Ok.words (c.args.common.now ++ c.args.own.now) c.from_residual.result
    c.in_err-status.field-0.0 _ _ c.in-Ok.is c.from_residual.ensures.1 c.in_err-status.ensures.err refl

pub returns-in_err-append-clause-no_text : goal.returns-in_err-append-clause-no_text
returns-in_err-append-clause-no_text c =
    memory_stops c.args.words.now c.in-Ok.words (c.args.common.now ++ c.args.own.now)
    c.from_residual-in_err-append.result c.in_err-append.field-0.0 _ _ c.in-Ok.is
    c.from_residual-in_err-append.ensures.1 c.in_err-append.ensures.err refl

pub returns-in_err-append-2-clause-no_text : goal.returns-in_err-append-2-clause-no_text
returns-in_err-append-2-clause-no_text c =
    memory_stops c.args.words.now c.in-Ok.words (c.args.common.now ++ c.args.own.now)
    c.from_residual-in_err-append-2.result c.in_err-append-2.field-0.0 _ _ c.in-Ok.is
    c.from_residual-in_err-append-2.ensures.1 c.in_err-append-2.ensures.err c.in_err-append-2.ensures.same

-- the slot has the lengths of the text and the sentence
slot : (told : Told) (n m : ℕ) → n ≡ vec_len told.text → m ≡ vec_len told.sentence
    → ◌≡◌ {A = Answer} (record { status = told.status; text = n; sentence = m }) (slot_of (outcome_by told))
slot told n m text sentence = cc

-- the sentence is appended to the text, and then both are appended
both_said : (before now text part sentence whole both : List ℕ) → now ≡ before ++ both → both ≡ whole
    → whole ≡ text ++ part → part ≡ sentence → now ≡ before ++ (text ++ sentence)
both_said before now text part sentence whole both grown same joined told = cc

pub returns-clause-said : goal.returns-clause-said
returns-clause-said c =
    let o : Outcome = outcome_by c.in_ok-status.field-0 in (
      o,
      run_by c.args.words.now c.in-Ok.words c.deref.result.now (c.args.common.now ++ c.args.own.now) o c.in-Ok.is
          c.deref.ensures.value c.in_ok-status.ensures.run,
      slot c.in_ok-status.field-0 c.len.result c.len-2.result c.len.ensures c.len-2.ensures,
      both_said _ _ _ _ _ _ _ c.in_ok-append-2.ensures.text c.deref-3.ensures.value c.in_ok-append.ensures.text
          c.deref-2.ensures.value,
    )
