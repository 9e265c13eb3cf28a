-- What is said of what the words came to, written piece by piece: the sentence, its end, and the listed commands.
use Rattle.std.proofs.Common.{◌≡◌, ℕ, List, [], ◌++◌, codes, Option, inl, inr, refl, sym, ◌∙◌, ap, subst, append_assoc}
use Rattle.std.proofs.Common.{◌==◌, if◌then◌else◌, arith, map, Bool, true, false}
use Rattle.irs_outside.specs.Outside.{Grew, GrewByFront}
use Rattle.irs_main.specs.Sentences.{is_silent, sentence_of}
use Rattle.irs_main.proofs.PieceLemmas.{grew_nothing, through_all}
use Rattle.irs_cli.proofs.PutLemmas.{Through, first_part, through_last, through_last_part, through_more, through_part}
use Rattle.irs_cli.specs.Run.{run_status}
use Rattle.irs_cli.specs.declared.causes.RunCause.{RunCause}
use Rattle.irs_main.specs.Answering.{Explained, explanation_of, ended_lines, listing_of}
use Rattle.irs_main.specs.Private.Answering.{SaysNoWord}
use Rattle.irs_main.specs.WrongWords.{commands}
use Rattle.irs_main.specs.declared.help.TheConstants.{COMMANDS}
use Rattle.irs_main.proofs.TableLaws.{commands_are}

-- where there is nothing to say, the explanation is empty
pub unsaid : (words : List (List ℕ)) (c : RunCause) → is_silent c ≡ true → explanation_of words c ≡ []
unfolding explanation_of
unsaid words c silent =
    let full = (sentence_of words c ++ codes "\n") ++ listing_of c in
    ap (λ (b : Bool). if b then [] else full) silent

-- where there is nothing to say, nothing is said
pub nothing_said : (words : List (List ℕ)) (c : RunCause) (a : Option (List ℕ)) (faults : ℕ)
    → is_silent c ≡ true → Explained (explanation_of words c) a a faults faults
nothing_said words c a faults silent =
    let E : List ℕ → Type 0 = λ t. Explained t a a faults faults in
    subst E (sym (unsaid words c silent)) (inl (grew_nothing a, refl))

-- what is said of a failed write and of memory doesn't depend on the words, nor where nothing is said
pub said_of_plain : (words others : List (List ℕ)) (c : RunCause) → SaysNoWord c
    → explanation_of words c ≡ explanation_of others c
unfolding explanation_of
said_of_plain words others c (inl silent) =
    unsaid words c silent ∙ sym (unsaid others c silent)
said_of_plain words others c (inr (inl is)) =
    subst (λ (x : RunCause). explanation_of words x ≡ explanation_of others x) (sym is) refl
said_of_plain words others c (inr (inr is)) =
    subst (λ (x : RunCause). explanation_of words x ≡ explanation_of others x) (sym is) refl

-- an explanation that was written is also one of an equal text
pub explained_as : (text other : List ℕ) (old now : Option (List ℕ)) (before after : ℕ)
    → Explained text old now before after → text ≡ other → Explained other old now before after
explained_as text other old now before after h is = subst (λ (t : List ℕ). Explained t old now before after) is h

-- the same words have the same explanation
pub said_of_same : (words others : List (List ℕ)) (c : RunCause) → words ≡ others
    → explanation_of words c ≡ explanation_of others c
said_of_same words others c same = ap (λ (ws : List (List ℕ)). explanation_of ws c) same

-- a list of lines for status 4 alone
listing_at : (n : ℕ) → n ≡ 4 → ended_lines (map (λ n. n.now) COMMANDS) ≡ (if n == 4 then ended_lines commands else [])
listing_at n is = ap ended_lines commands_are ∙ sym (ap (λ (k : ℕ). if k == 4 then ended_lines commands else []) is)

no_listing_at : (n : ℕ) → ¬ (n ≡ 4) → (if n == 4 then ended_lines commands else []) ≡ []
no_listing_at n other = grind arith

module _ (words : List (List ℕ)) (c : RunCause) where
  -- the sentence
  abbrev sentence : List ℕ
  sentence = sentence_of words c

  -- the listed commands, where they follow
  abbrev listing : List ℕ
  listing = listing_of c

  -- the whole explanation
  abbrev text : List ℕ
  text = explanation_of words c

  -- where there is something to say, it is a sentence and what follows it
  said_is : is_silent c ≡ false → text ≡ (sentence ++ codes "\n") ++ listing
  unfolding explanation_of
  said_is speaks = ap (λ (b : Bool). if b then [] else (sentence ++ codes "\n") ++ listing) speaks

  module _ (speaks : is_silent c ≡ false) where
    said_by : text ≡ sentence ++ (codes "\n" ++ listing)
    said_by = said_is speaks ∙ append_assoc sentence (codes "\n") listing

    -- the sentence wasn't written whole
    pub sentence_failed : (a b : Option (List ℕ)) → GrewByFront a b sentence → GrewByFront a b text
    sentence_failed a b k =
        let G : List ℕ → Type 0 = λ t. GrewByFront a b t in
        subst G (sym said_by) (first_part a b sentence (codes "\n" ++ listing) k)

    -- the sentence was written: its end and what follows are left
    sentence_put : (a b : Option (List ℕ)) → Grew a b sentence → Through a b (codes "\n" ++ listing) text
    sentence_put a b h = record { front = sentence; grew = h; is = said_by }

    -- the end of the sentence wasn't written
    pub end_failed : (a b d : Option (List ℕ)) → Grew a b sentence → GrewByFront b d (codes "\n") → GrewByFront a d text
    end_failed a b d h k = through_part a b d (codes "\n") listing text (sentence_put a b h) k

    -- the end of the sentence was written: what follows it is left
    end_put : (a b d : Option (List ℕ)) → Grew a b sentence → Grew b d (codes "\n") → Through a d listing text
    end_put a b d h k = through_more a b d (codes "\n") listing text (sentence_put a b h) k

    -- the listed commands weren't written whole
    pub listing_failed : (a b d e : Option (List ℕ)) → Grew a b sentence → Grew b d (codes "\n") → run_status c ≡ 4
        → GrewByFront d e (ended_lines (map (λ n. n.now) COMMANDS)) → GrewByFront a e text
    listing_failed a b d e h k bad m =
        let G : List ℕ → Type 0 = λ t. GrewByFront d e t in
        through_last_part a d e listing text (end_put a b d h k)
        (subst G (listing_at (run_status c) bad) m)

    -- the listed commands were written
    pub listing_put : (a b d e : Option (List ℕ)) → Grew a b sentence → Grew b d (codes "\n") → run_status c ≡ 4
        → Grew d e (ended_lines (map (λ n. n.now) COMMANDS)) → Grew a e text
    listing_put a b d e h k bad m =
        let G : List ℕ → Type 0 = λ t. Grew d e t in
        through_last a d e listing text (end_put a b d h k) (subst G (listing_at (run_status c) bad) m)

    -- there is nothing more to write
    pub sentence_alone : (a b d : Option (List ℕ)) → Grew a b sentence → Grew b d (codes "\n") → ¬ (run_status c ≡ 4)
        → Grew a d text
    sentence_alone a b d h k other =
        through_all a d listing text (no_listing_at (run_status c) other) (end_put a b d h k)
