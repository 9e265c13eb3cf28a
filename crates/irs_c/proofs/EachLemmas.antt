-- Trade after trade: the outcomes so far, and with one more.
use Rattle.std.proofs.Common.{◌≡◌, ◌≢◌, inl, inr, ◌⊎◌, ℕ, zero, suc, ◌+◌, ◌<◌, ◌≤◌, List, [], ◌∷◌, ◌++◌, length}
use Rattle.std.proofs.Common.{map, take, drop, get_or, set, Result, Ok, Err, Vec, String, refl, sym, ◌∙◌, ap, subst}
use Rattle.std.proofs.Common.{arith, append_assoc}
use Rattle.std.specs.Prelude.{IfOk, IfErr}
use Rattle.std.specs.Result.{IsErrAnd}
use Rattle.std.specs.declared.alloc.Global.{Global}
use Rattle.std.proofs.lemmas.List.{append-nil, take_all}
use Rattle.irs_cli.specs.Commands.{IsListed, Words, word_texts}
use Rattle.irs_cli.specs.Run.{Due}
use Rattle.irs_cli.proofs.OneAnswer.{one_answer}
use Rattle.irs_c.specs.Each.{AreOutcomes, IsExplained, IsOutcome, IsRun, Outcome, status_alone, said_by, slot_of}
use Rattle.irs_c.specs.Each.{AreText, IsAbsent, file_in, gives_in, words_in}
use Rattle.irs_c.specs.Private.Each.{AreRuns, Made}
use Rattle.irs_c.specs.Private.Each.{RunFor}
use Rattle.irs_c.specs.declared.each.Answer.{Answer}
use Rattle.irs_c.specs.declared.given.Bytes.{Bytes}
use Rattle.irs_c.specs.declared.given.File.{File}
use Rattle.irs_c.specs.declared.given.Trade.{Trade}

-- ---- one more

runs_more : (words : Made) (common : List File) (ts : List Trade) (os : List Outcome) (t : Trade) (o : Outcome)
    → AreRuns words common ts os → RunFor words (common ++ t.files.now) o
    → AreRuns words common (ts ++ t ∷ []) (os ++ o ∷ [])
runs_more words common [] [] t o are run = (run, refl)
runs_more words common [] (x ∷ os) t o are run = absurd (cc)
runs_more words common (y ∷ ts) [] t o are run = absurd are
runs_more words common (y ∷ ts) (x ∷ os) t o are run = (are.0, runs_more words common ts os t o are.1 run)

said_more : (os : List Outcome) (o : Outcome) → said_by (os ++ o ∷ []) ≡ said_by os ++ (o.text ++ o.sentence)
said_more [] o = append-nil (o.text ++ o.sentence)
said_more (x ∷ os) o =
    ap (λ (l : List ℕ). (x.text ++ x.sentence) ++ l) (said_more os o)
    ∙ sym (append_assoc (x.text ++ x.sentence) (said_by os) (o.text ++ o.sentence))

slots_more : (os : List Outcome) (o : Outcome) (answers : List Answer) → length os < length answers
    → set (map slot_of os ++ drop (length os) answers) (length os) (slot_of o)
    ≡ map slot_of (os ++ o ∷ []) ++ drop (suc (length os)) answers
slots_more [] o [] less = absurd (omega (arith, less))
slots_more [] o (a ∷ answers) less = refl
slots_more (x ∷ os) o [] less = absurd (omega (arith, less))
slots_more (x ∷ os) o (a ∷ answers) less =
    ap (λ (l : List Answer). slot_of x ∷ l) (slots_more os o answers (omega (arith, less)))

more_long : (os : List Outcome) (o : Outcome) → length (os ++ o ∷ []) ≡ suc (length os)
more_long [] o = refl
more_long (x ∷ os) o = ap suc (more_long os o)

take_next : (ts : List Trade) (k : ℕ) (d : Trade) → k < length ts → take (suc k) ts ≡ take k ts ++ get_or ts k d ∷ []
take_next [] k d less = absurd (omega (arith, less))
take_next (x ∷ ts) zero d less = refl
take_next (x ∷ ts) (suc k) d less = ap (λ (l : List Trade). x ∷ l) (take_next ts k d (omega (arith, less)))

-- the outcomes of the first k trades, their slots, and their texts
pub record SoFar (words : Made) (common : List File) (trades : List Trade) (before : List Answer) (k : ℕ)
    (answers : List Answer) (said : List ℕ) : Type 0 where
  pub outcomes : List Outcome
  pub are : AreRuns words common (take k trades) outcomes
  pub count : length outcomes ≡ k
  pub within : k ≤ length before
  pub slots : answers ≡ map slot_of outcomes ++ drop k before
  pub texts : said ≡ said_by outcomes

-- no trade yet
pub none_yet : (words : Made) (common : List File) (trades : List Trade) (before : List Answer) (said : List ℕ)
    → said ≡ [] → SoFar words common trades before 0 before said
none_yet words common trades before said e =
    record { outcomes = []; are = refl; count = refl; within = omega arith; slots = refl; texts = e }

-- one trade more
pub one_more : (words : Made) (common : List File) (trades : List Trade) (before answers now : List Answer) (k : ℕ)
    (d : Trade) (a : Answer) (said more : List ℕ) → SoFar words common trades before k answers said
    → k < length trades → k < length before
    → (o : Outcome) × RunFor words (common ++ (get_or trades k d).files.now) o × (a ≡ slot_of o)
    × (more ≡ said ++ (o.text ++ o.sentence))
    → now ≡ set answers k a → SoFar words common trades before (k + 1) now more
one_more words common trades before answers now k d a said more h less room (o, run, slot, grown) is =
    let os = h.outcomes in
    let t = get_or trades k d in
    let next : suc k ≡ k + 1 = omega arith in
    let count : length os ≡ k = h.count in
    record {
      outcomes = os ++ o ∷ [];
      are = subst (λ (j : ℕ). AreRuns words common (take j trades) (os ++ o ∷ [])) next
          (subst (λ (l : List Trade). AreRuns words common l (os ++ o ∷ [])) (sym (take_next trades k d less))
          (runs_more words common (take k trades) os t o h.are run));
      count = more_long os o ∙ ap suc count ∙ next;
      within = omega (arith, room);
      slots = is ∙ ap (λ (x : Answer). set answers k x) slot ∙ ap (λ (l : List Answer). set l k (slot_of o)) h.slots
          ∙ subst (λ (j : ℕ). set (map slot_of os ++ drop j before) j (slot_of o)
          ≡ map slot_of (os ++ o ∷ []) ++ drop (suc j) before) count
          (slots_more os o before (omega (arith, count, room)))
          ∙ ap (λ (j : ℕ). map slot_of (os ++ o ∷ []) ++ drop j before) next;
      texts = grown ∙ ap (λ (l : List ℕ). l ++ (o.text ++ o.sentence)) h.texts ∙ sym (said_more os o);
    }

-- all trades for which there is room
pub all_done : (words : Made) (common : List File) (trades : List Trade) (before answers : List Answer) (k : ℕ)
    (said : List ℕ) → SoFar words common trades before k answers said
    → (length trades ≤ k) ⊎ (length before ≤ k)
    → (os : List Outcome) × AreRuns words common (take (length before) trades) os
    × (answers ≡ map slot_of os ++ drop (length os) before) × (said ≡ said_by os)
all_done words common trades before answers k said h stop =
    let same : take k trades ≡ take (length before) trades = elim stop [
      | inl few ↦ take_all k trades few
          ∙ sym (take_all (length before) trades (omega (arith, few, h.within)))
      | inr full ↦ let e : k ≡ length before = omega (arith, full, h.within) in ap (λ (j : ℕ). take j trades) e
    ] in (
      h.outcomes,
      subst (λ (l : List Trade). AreRuns words common l h.outcomes) same h.are,
      h.slots ∙ ap (λ (j : ℕ). map slot_of h.outcomes ++ drop j before) (sym h.count),
      h.texts,
    )

-- ---- one run

-- out of memory, so no text
pub memory_run : (ws : Words) (fs : List File) → IsRun ws fs (status_alone 7)
memory_run ws fs = record {
  memory = λ _. refl;
  absent = λ e. absurd (omega (arith, e));
  due = λ _ no. absurd (no refl);
  only_unlisted = λ e. absurd (omega (arith, e));
  unlisted = λ _ no. absurd (no refl);
  listed = (omega arith, λ e. omega (arith, e));
  one = one_answer ws (file_in fs);
  explained = λ no. absurd (no refl);
}

-- what a run comes to, and its sentence
pub text_run : (ws : Words) (fs : List File) (status : ℕ) (text sentence : List ℕ)
    → (status ≢ 5 → Due ws (file_in fs) status text) → (status ≡ 5 → IsAbsent ws (file_in fs) text)
    → (status ≡ 4 → IsListed ws → ⊥) → ((IsListed ws → ⊥) → status ≡ 4)
    → (status < 9) × (status ≢ 6) × (status ≢ 7) → IsExplained ws (gives_in fs) status text sentence
    → IsRun ws fs (record { status = status; text = text; sentence = sentence })
text_run ws fs status text sentence due absent listed unlisted few is =
    record {
      memory = λ e. absurd (few.2 e);
      absent = absent;
      due = λ no _. due no;
      only_unlisted = listed;
      unlisted = λ none _. unlisted none;
      listed = (few.0, few.1);
      one = one_answer ws (file_in fs);
      explained = λ _. is;
    }

-- what a run of words that were made into text comes to
pub run_of : (words : Made) (v : Vec (String Global) Global) (fs : List File) (o : Outcome) → words ≡ Ok v
    → IsRun (word_texts v.items) fs o → RunFor words fs o
run_of words v fs o e run = subst (λ (r : Made). RunFor r fs o) (sym e) run

-- what a run of words that were made into text comes to, by the slice of them
pub run_by : (words : Made) (v : Vec (String Global) Global) (ws : List (String Global)) (fs : List File) (o : Outcome)
    → words ≡ Ok v → ws ≡ v.items → IsRun (word_texts ws) fs o → RunFor words fs o
run_by words v ws fs o e same run =
    run_of words v fs o e (subst (λ (l : List (String Global)). IsRun (word_texts l) fs o) same run)

-- an error where memory ran out gives no text
pub memory_stops : (words : Made) (v : Vec (String Global) Global) (fs : List File) (r : Result Answer ℕ) (e : ℕ)
    (before after : List ℕ) → words ≡ Ok v → IsErrAnd r (λ x. x ≡ e) → e ≡ 7 → after ≡ before
    → IfErr r (λ s. RunFor words fs (status_alone s) × (after ≡ before))
memory_stops words v fs (Ok a) e before after is h seven same = tt
memory_stops words v fs (Err s) e before after is h seven same = (
  run_of words v fs (status_alone s) is
      (subst (λ (n : ℕ). IsRun (word_texts v.items) fs (status_alone n)) (sym (h ∙ seven)) (memory_run (word_texts v.items) fs)),
  same,
)

-- ---- words as they are lent

run_is : (ws : List Bytes) (r : Made) (fs : List File) (o : Outcome) → IfOk r (λ v. word_texts v.items ≡ words_in ws)
    → IfOk r (λ _. AreText ws) → IfErr r (λ s. s ≡ 9 → AreText ws → ⊥) → IfErr r (λ s. (s ≡ 7) ⊎ (s ≡ 9))
    → RunFor r fs o → IsOutcome ws fs o
run_is ws (Ok v) fs o same is none either run =
    inl (is, subst (λ (w : Words). IsRun w fs o) same run)
run_is ws (Err s) fs o same is none (inl is7) run = inr (inl (run ∙ ap status_alone is7))
run_is ws (Err s) fs o same is none (inr is9) run = inr (inr (none is9, run ∙ ap status_alone is9))

-- the outcomes for words that were made into text are those for the lent words
pub outcomes_are : (ws : List Bytes) (r : Made) (common : List File) (ts : List Trade) (os : List Outcome)
    → IfOk r (λ v. word_texts v.items ≡ words_in ws) → IfOk r (λ _. AreText ws)
    → IfErr r (λ s. s ≡ 9 → AreText ws → ⊥) → IfErr r (λ s. (s ≡ 7) ⊎ (s ≡ 9)) → AreRuns r common ts os
    → AreOutcomes ws common ts os
outcomes_are ws r common [] os same is none either are = are
outcomes_are ws r common (t ∷ ts) [] same is none either are = are
outcomes_are ws r common (t ∷ ts) (o ∷ os) same is none either are = (
  run_is ws r (common ++ t.files.now) o same is none either are.0,
  outcomes_are ws r common ts os same is none either are.1,
)
