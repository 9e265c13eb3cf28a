-- What a sentence adds to a reply: the payments without an amount, and where the document breaks a rule.
use Rattle.std.proofs.Common.{◌≡◌, ℕ, ◌==◌, Bool, true, false, List, Result, Ok, Err, refl, sym, subst}
use Rattle.std.specs.Prelude.{IfOk, if◌then◌else◌}
use Rattle.irs_audit.specs.Verdicts.{unfixed_count}
use Rattle.irs_audit.specs.declared.departures.Verdict.{Verdict as Judgement}
use Rattle.irs_audit.specs.declared.departures.Verdict.TheVariants.{Yes, No}
use Rattle.irs_resets.specs.Rates.{RateTable}
use Rattle.irs_schedule.specs.Parts.{Part}
use Rattle.irs_terms.specs.Lawful.{IsLawfulSwap}
use Rattle.irs_unfixed.specs.Unfixed.{payment_count, Fixing, IsFirstLacking, IsFirstMissing, IsMadeFrom, MadeFrom}
use Rattle.irs_unfixed.specs.Unfixed.{made_from, missing_fixing, missing_place}
use Rattle.irs_unfixed.specs.declared.missing.Missing.{Missing}
use Rattle.irs_unfixed.specs.declared.places.PaymentPlace.{PaymentPlace}
use Rattle.irs_answers.specs.Messages.{IsCause, IsCauseOf, IsJudged, cause_of, verdict_cause, reply_status, reply_text}
use Rattle.irs_answers.specs.Due.{Facts, PassesEachStep, rates_for}
use Rattle.irs_answers.specs.Forms.{SourceText, Given, IsPlacedRefusal, IsPlacedReply}
use Rattle.irs_answers.specs.Notes.{IsAmountsNote, IsAmountsNoteIf, IsFixedNote, IsNoteOf, IsPassedNote, IsRefusalNote}
use Rattle.irs_answers.specs.Notes.{IsUnfixed, unfixed_fixing, made_by, unfixed_place}
use Rattle.irs_answers.specs.Private.Outcomes.{IsCarriedOut}
use Rattle.irs_answers.specs.Tasks.{states_amounts}
use Rattle.irs_answers.specs.declared.causes.Cause.TheVariants.{Done, Uncompared}
use Rattle.irs_answers.specs.declared.notes.Note.{Note}
use Rattle.irs_answers.specs.declared.notes.Note.TheVariants.{Nothing}
use Rattle.irs_answers.specs.declared.notes.NotedReply.{NotedReply}
use Rattle.irs_answers.specs.declared.notes.Unfixed.{Unfixed}
use Rattle.irs_answers.specs.declared.refusals.Refusal.{Refusal}
use Rattle.irs_answers.specs.declared.replies.Reply.{Reply}
use Rattle.irs_answers.specs.declared.replies.Reply.TheVariants.{Text, Rows, Breaks, Verdict, Refused}
use Rattle.irs_answers.specs.declared.tasks.Task.{Task}
use Rattle.irs_answers.specs.declared.tasks.Task.TheVariants as task
use Rattle.irs_answers.proofs.CauseLemmas.{cause_holds, judged_holds}

-- ---- payments without an amount

-- the schedule of a task that states amounts is made with the rates of the file of fixings
uses_table : (t : Task) (table : RateTable) → states_amounts t ≡ true → rates_for t table ≡ table
uses_table task.Check table e = refl
uses_table task.Schedule table e = refl
uses_table task.Audit table e = refl
uses_table (task.Breaks from) table e = refl
uses_table task.Emit table e = refl
uses_table task.EmitXml table e = refl
uses_table (task.Accrue date) table e = refl
uses_table task.Net table e = refl
uses_table (task.Observations stream) table e = refl
uses_table (task.Overnight stream) table e = absurd (cc)
uses_table (task.Average stream mean step) table e = absurd (cc)
uses_table (task.Interpolate stream side low high) table e = absurd (cc)

-- what passes every step is what the schedule is made from
pub made_by_passing : (t : Task) (g : Given) (f : Facts) → IsLawfulSwap f.swap → PassesEachStep t g f → IsMadeFrom (made_by t f) f.parts
made_by_passing t g f lawful p =
    record { lawful = lawful; terms = p.terms; dated = p.dated; schedule = p.schedule.is }

module _ (t : Task) (f : Facts) where
  -- for a task that states amounts, it is made from the file of fixings
  pub made_with_table : states_amounts t ≡ true → IsMadeFrom (made_by t f) f.parts
      → IsMadeFrom (made_from f.swap f.cal f.table) f.parts
  made_with_table states made =
      subst (λ (r : RateTable). IsMadeFrom (made_from f.swap f.cal r) f.parts) (uses_table t f.table states) made

  -- what is added for a task that states amounts
  pub amounts_fixed : states_amounts t ≡ true → (n : Note) → IsAmountsNote (made_from f.swap f.cal f.table) f.parts n
      → IsFixedNote t f n
  amounts_fixed states n h =
      subst (λ (b : Bool). IsAmountsNoteIf b (made_by t f) f.parts n) (sym states)
      (subst (λ (r : RateTable). IsAmountsNote (made_from f.swap f.cal r) f.parts n) (sym (uses_table t f.table states)) h)

  -- nothing is added for another task
  pub nothing_fixed : states_amounts t ≡ false → IsFixedNote t f Nothing
  nothing_fixed other = subst (λ (b : Bool). IsAmountsNoteIf b (made_by t f) f.parts Nothing) (sym other) refl

-- the first payment without an amount, with the counts of the schedule
pub counted_is : (x : MadeFrom) (parts : List Part) (m : Missing) (u : Unfixed) → u.count ≡ unfixed_count parts
    → u.payments ≡ payment_count parts → unfixed_place u ≡ missing_place m → unfixed_fixing u ≡ missing_fixing m
    → IsFirstMissing x parts m → IsUnfixed x parts u
counted_is x parts m u count payments place fixing first = record {
  count = count;
  payments = payments;
  first = subst (λ (f : Fixing). IsFirstLacking x parts (unfixed_place u) f) (sym fixing)
      (subst (λ (p : PaymentPlace). IsFirstLacking x parts p (missing_fixing m)) (sym place) first);
}

-- ---- the note of a reply

module _ (t : Task) (g : Given) where
  yes_noted : (k : ℕ) (b : Bool) (n : Note) → IsPassedNote t g n → IsNoteOf t g (if b then Done else Uncompared k) n
  yes_noted k true n p = p
  yes_noted k false n p = p

  verdict_noted : (w : Judgement) (n : Note) → IsPassedNote t g n → IsNoteOf t g (verdict_cause w) n
  verdict_noted (Yes rows unfixed) n p = yes_noted unfixed (unfixed == 0) n p
  verdict_noted (No d) n p = p

  -- what is added to the reply of a task that is carried out
  pub carried_noted : (f : Facts) (r : Reply) (n : Note) → PassesEachStep t g f → IsCarriedOut r → IsFixedNote t f n
      → IsNoteOf t g (cause_of r) n
  carried_noted f (Text x) n p c h = record { facts = f; passes = p; note = h }
  carried_noted f (Rows s) n p c h = record { facts = f; passes = p; note = h }
  carried_noted f (Breaks x) n p c h = record { facts = f; passes = p; note = h }
  carried_noted f (Verdict w) n p c h = verdict_noted w n (record { facts = f; passes = p; note = h })
  carried_noted f (Refused e) n p c h = absurd c

  -- what is added to a refusal
  pub refused_noted : {E : Type 0} (r : Result NotedReply E) (e : Refusal) → IfOk r (λ x. x.reply ≡ Refused e)
      → IfOk r (λ x. IsRefusalNote g.document g.calendars e x.note)
      → IfOk r (λ x. IsNoteOf t g (cause_of x.reply) x.note)
  refused_noted (Ok x) e is h = subst (λ (y : Reply). IsNoteOf t g (cause_of y) x.note) (sym is) h
  refused_noted (Err m) e is h = tt

-- ---- the reply that a note goes with

-- a verdict or a refusal has its cause
pub noted_caused : {E : Type 0} (t : Task) (r : Result NotedReply E) → IfOk r (λ x. IsJudged x.reply)
    → IfOk r (λ x. IsCauseOf t (cause_of x.reply) (reply_status x.reply) (reply_text x.reply))
noted_caused t (Ok x) j = judged_holds t x.reply j
noted_caused t (Err m) j = tt

-- the reply that a refusal is, with a note
pub noted_placed : {E : Type 0} (document flows : SourceText) (r : Result NotedReply E) (e : Refusal)
    → IfOk r (λ x. x.reply ≡ Refused e) → IsPlacedRefusal document flows e → IfOk r (λ x. IsPlacedReply document flows x.reply)
noted_placed document flows (Ok x) e is p = subst (λ (y : Reply). IsPlacedReply document flows y) (sym is) p
noted_placed document flows (Err m) e is p = tt

-- whatever is replied, with a note, has its cause
pub any_noted_cause : {E : Type 0} (r : Result NotedReply E)
    → IfOk r (λ x. IsCause (cause_of x.reply) (reply_status x.reply) (reply_text x.reply))
any_noted_cause (Ok x) = cause_holds x.reply
any_noted_cause (Err m) = tt
