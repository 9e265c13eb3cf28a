-- What a run says, from what its parts say.
use Rattle.std.proofs.Common.{◌≡◌, inl, inr, ℕ, ◌<◌, ◌≤◌, List, length, Option, Some, refl, sym, ◌∙◌, ap, subst, arith}
use Rattle.std.specs.Prelude.{IfSome}
use Rattle.irs_outside.specs.Outside.{Grew, GrewByFront, Rose}
use Rattle.irs_cli.specs.declared.fetching.Unfetched.{Unfetched}
use Rattle.irs_cli.specs.declared.fetching.Unfetched.TheVariants as fetching
use Rattle.irs_answers.specs.Forms.{Given, no_files, too_many}
use Rattle.irs_answers.specs.Due.{Ends}
use Rattle.irs_cli.specs.Commands.{Words, Wanted, Asked, Asks, IsListed}
use Rattle.irs_cli.specs.Given.{Told, Gathers, ReachesFile, IsTold, IsShortFile, IsLongAt, IsFirstLong, AreTold}
use Rattle.irs_cli.specs.Given.{FailedAt, Gives, Holds, IsGiven, NotLong}
use Rattle.irs_cli.specs.Private.Fetching.{OverAt, Stops, IfRunRefused}
use Rattle.irs_cli.specs.Run.{bad_words, no_file, too_long, Due, DueOf, no_command, long_file, all_told, of_fetch}
use Rattle.irs_cli.specs.Run.{NoFile, Ran, Replies, Source, source, written}
use Rattle.irs_cli.proofs.CommandLemmas.{one_command}
use Rattle.irs_cli.proofs.OneAnswer.{one_answer}
use Rattle.std.proofs.lemmas.Bool.{cases_lt}
use Rattle.irs_cli.proofs.FileLemmas.{reaches_meet, reaches_with, gathers_none, gathers_one, gathers_with}

-- ---- words that are no command

-- what a run says of words that are no listed command
pub unlisted_replies : (ws : Words) (told : Told) (gives : Gives) (failed : Option (List ℕ)) (n : ℕ) → (IsListed ws → ⊥)
    → Replies ws (source told gives failed n n) 4 bad_words
unlisted_replies ws told gives failed n none =
    let due : Due ws told 4 bad_words = record {
      unlisted = λ _. (refl, refl);
      long = λ a place asks first. absurd (none (a, asks));
      given = λ a g asks _. absurd (none (a, asks));
      case = λ _. no_command none;
    } in
    record {
      is_text = inl (4, due);
      not_put = λ e. omega (arith, e);
      not_memory = λ e. omega (arith, e);
      no_file = λ e. absurd (omega (arith, e));
      due = λ _. due;
      worked_out = λ no _ _. absurd (no refl);
      quiet = λ _. refl;
      only_unlisted = λ _. none;
      when_unlisted = λ _. refl;
      listed = omega (arith);
    }

-- ---- a file that can't be read

no_file_replies : (ws : Words) (told : Told) (gives : Gives) (a : Asked) (failed : Option (List ℕ)) (before now place : ℕ)
    → Asks ws a → ReachesFile (NotLong told) (FailedAt failed place) a.files → Rose before now
    → Replies ws (source told gives failed before now) 5 (no_file place)
no_file_replies ws told gives a failed before now place asks h rose =
    let none : NoFile ws (source told gives failed before now) (no_file place) =
    record { asked = a; asks = asks; place = place; file = h; rose = rose; is_text = refl } in
    record {
      is_text = inr none;
      not_put = λ e. omega (arith, e);
      not_memory = λ e. omega (arith, e);
      no_file = λ _. none;
      due = λ no. absurd (no refl);
      worked_out = λ _ no _. absurd (no refl);
      quiet = λ no. absurd (no refl);
      only_unlisted = λ e. absurd (omega (arith, e));
      when_unlisted = λ unlisted. absurd (unlisted (a, asks));
      listed = omega (arith);
    }

-- ---- a file that is too long

at_some : (o : Option (List ℕ)) (xs : List ℕ) (P : List ℕ → Type 0) → o ≡ Some xs → IfSome o P → P xs
at_some o xs P e h = subst (λ (z : Option (List ℕ)). IfSome z P) e h

not_over : (told : Told) (place q : ℕ) (w : Wanted) → NotLong told w → IsLongAt told q w → ⊥
not_over told place q w h k = let s : length k.bytes < too_many =
    at_some (told w.name) k.bytes (λ xs. length xs < too_many) k.is_told h in omega (arith, s, k.long)

over_told : (told : Told) (place : ℕ) (w : Wanted) (bytes : List ℕ) → IsTold told w.name bytes → OverAt told place w → ⊥
over_told told place w bytes k h = let l : too_many ≤ length bytes =
    at_some (told w.name) bytes (λ xs. too_many ≤ length xs) k.0 h.long in omega (arith, l, k.1)

-- the source states the file
abbrev Tells : Told → Wanted → Type 0
Tells told w = (bytes : List ℕ) × (told w.name ≡ Some bytes)

long_replies : (ws : Words) (told : Told) (gives : Gives) (a : Asked) (failed : Option (List ℕ)) (before now place : ℕ)
    → Asks ws a → ReachesFile (NotLong told) (OverAt told place) a.files → now ≡ before
    → Replies ws (source told gives failed before now) 8 (too_long place)
long_replies ws told gives a failed before now place asks h quiet =
    let due : Due ws told 8 (too_long place) = record {
      unlisted = λ unlisted. absurd (unlisted (a, asks));
      long = λ b q other first.
          let e : b ≡ a = one_command ws a b asks other in
          let same : place ≡ q =
          reaches_meet (NotLong told) (OverAt told place) (IsShortFile told) (IsLongAt told q) a.files
          (λ w over long. sym over.at ∙ long.at) (λ w not long. not_over told place q w not long)
          (λ w over short. over_told told place w short.0 short.1 over) h
          (subst (λ (x : Asked). IsFirstLong told x q) e first) in
          (refl, ap (λ (n : ℕ). too_long n) same);
      given = λ b g other are.
          let e : b ≡ a = one_command ws a b asks other in
          absurd (gathers_none (IsTold told) (NotLong told) (OverAt told place) a.files no_files g
          (λ w bytes k over. over_told told place w bytes k over)
          (subst (λ (x : Asked). AreTold told x g) e are) h);
      case = λ tells. long_file a place asks
          (reaches_with (NotLong told) (OverAt told place) (IsShortFile told) (IsLongAt told place) (Tells told) a.files
          (λ w t not. (t.0, (t.1, at_some (told w.name) t.0 (λ xs. length xs < too_many) t.1 not)))
          (λ w t over. record {
            at = over.at;
            bytes = t.0;
            is_told = t.1;
            long =
                at_some (told w.name) t.0 (λ xs. too_many ≤ length xs) t.1 over.long;
          })
          (tells a asks) h);
    } in
    record {
      is_text = inl (8, due);
      not_put = λ e. omega (arith, e);
      not_memory = λ e. omega (arith, e);
      no_file = λ e. absurd (omega (arith, e));
      due = λ _. due;
      worked_out = λ _ _ no. absurd (no refl);
      quiet = λ _. quiet;
      only_unlisted = λ e. absurd (omega (arith, e));
      when_unlisted = λ unlisted. absurd (unlisted (a, asks));
      listed = omega (arith);
    }

-- what a run says where a fetch ended it
pub stopped_replies : (ws : Words) (told : Told) (gives : Gives) (a : Asked) (failed : Option (List ℕ)) (before now : ℕ)
    (u : Unfetched) → Asks ws a → Stops told a.files failed before now u
    → IfRunRefused (of_fetch u) (Replies ws (source told gives failed before now))
stopped_replies ws told gives a failed before now (fetching.NoFile place) asks h =
    no_file_replies ws told gives a failed before now place asks h.0 h.1
stopped_replies ws told gives a failed before now (fetching.TooLong place) asks h =
    long_replies ws told gives a failed before now place asks h.0 h.1
stopped_replies ws told gives a failed before now fetching.Memory asks h = tt

-- ---- files that are fetched

held_is : (told : Told) (name x y : List ℕ) → Holds told name x → IsTold told name y → y ≡ x
held_is told name x y h k = sym (at_some (told name) y (λ xs. x ≡ xs) k.0 h.0)

held_told : (told : Told) (w : Wanted) (bytes : List ℕ) → Tells told w → Holds told w.name bytes
    → IsTold told w.name bytes
held_told told w bytes t h =
    let same : bytes ≡ t.0 = at_some (told w.name) t.0 (λ xs. bytes ≡ xs) t.1 h.0 in
    (t.1 ∙ ap Some (sym same), h.1)

held_long : (told : Told) (q : ℕ) (w : Wanted) (bytes : List ℕ) → Holds told w.name bytes → IsLongAt told q w → ⊥
held_long told q w bytes h k =
    let same : bytes ≡ k.bytes = at_some (told w.name) k.bytes (λ xs. bytes ≡ xs) k.is_told h.0 in
    let s : length k.bytes < too_many = subst (λ (l : List ℕ). length l < too_many) same h.1 in
    omega (arith, s, k.long)

-- what a run says where all files were fetched
pub ended_replies : (ws : Words) (told : Told) (gives : Gives) (a : Asked) (g : Given) (failed : Option (List ℕ))
    (before now : ℕ) → Asks ws a → Gathers (Holds told) a.files no_files g → Gathers (IsGiven gives) a.files no_files g
    → now ≡ before → (status : ℕ) (text : List ℕ)
    → Ends (DueOf a.request g) status text → Replies ws (source told gives failed before now) status text
ended_replies ws told gives a g failed before now asks held fetched quiet status text h =
    let due : Due ws told status text = record {
      unlisted = λ unlisted. absurd (unlisted (a, asks));
      long = λ b q other first.
          let e : b ≡ a = one_command ws a b asks other in
          absurd (gathers_none (Holds told) (IsShortFile told) (IsLongAt told q) a.files no_files g
          (λ w bytes k long. held_long told q w bytes k long) held
          (subst (λ (x : Asked). IsFirstLong told x q) e first));
      given = λ b k other are.
          let e : b ≡ a = one_command ws a b asks other in
          let same : k ≡ g =
          gathers_one (Holds told) (IsTold told) a.files no_files g k (held_is told) held
          (subst (λ (x : Asked). AreTold told x k) e are) in
          rw (e, same) h.due;
      case = λ tells. all_told a g asks
          (gathers_with (Holds told) (IsTold told) (Tells told) a.files no_files g (held_told told)
          (tells a asks) held);
    } in
    record {
      is_text = inl (status, due);
      not_put = λ e. omega (arith, e, h.verdict);
      not_memory = λ e. omega (arith, e, h.verdict);
      no_file = λ e. absurd (omega (arith, e, h.verdict));
      due = λ _. due;
      worked_out = λ _ _ _. record { asked = a; asks = asks; given = g; fetched = fetched; due = h.due };
      quiet = λ _. quiet;
      only_unlisted = λ e. absurd (omega (arith, e, h.verdict));
      when_unlisted = λ unlisted. absurd (unlisted (a, asks));
      listed = omega (arith);
    }

-- ---- what is written of a reply

module _ (ws : Words) (files : Source) (status : ℕ) (text : List ℕ) (r : Replies ws files status text) where
  -- fetches failed, so a file can't be read
  failed_is_no_file : files.before < files.after → status ≡ 5
  failed_is_no_file less = elim (cases_lt status 5) [
    | inl low ↦ let same = r.quiet (λ e. omega (arith, low, e)) in absurd (omega (arith, less, same))
    | inr high ↦ elim (cases_lt 5 status) [
      | inl more ↦ let same = r.quiet (λ e. omega (arith, more, e)) in absurd (omega (arith, less, same))
      | inr no_more ↦ omega (arith, high, no_more)
    ]
  ]

  -- the text of the reply was written
  pub put_ran : (old new : Option (List ℕ)) (before after : ℕ) → Grew old new text → after ≡ before
      → Ran ws files (written old new before after) status
  put_ran old new before after grew quiet = record {
    listed = r.listed;
    memory = λ e. absurd (r.not_memory e);
    failed = λ e. (text, r.no_file e, grew);
    put = λ e. absurd (r.not_put e);
    due = λ no _ _. (text, r.due no, grew);
    worked_out = λ low. (
      text,
      r.worked_out (λ e. omega (arith, low, e)) (λ e. omega (arith, low, e)) (λ e. omega (arith, low, e)),
      grew,
    );
    one = one_answer ws files.told;
    only_unlisted = r.only_unlisted;
    unlisted = λ none _ _. r.when_unlisted none;
    files_cause = λ less _ _. failed_is_no_file less;
    out_cause = λ less. absurd (omega (arith, less, quiet));
  }

  -- a write failed
  pub put_failed_ran : (old new : Option (List ℕ)) (before after : ℕ) → GrewByFront old new text → Rose before after
      → Ran ws files (written old new before after) 6
  put_failed_ran old new before after front rose = record {
    listed = omega (arith);
    memory = λ e. absurd (omega (arith, e));
    failed = λ e. absurd (omega (arith, e));
    put = λ _. (rose, (text, front, r.is_text));
    due = λ _ no _. absurd (no refl);
    worked_out = λ low. absurd (omega (arith, low));
    one = one_answer ws files.told;
    only_unlisted = λ e. absurd (omega (arith, e));
    unlisted = λ _ no _. absurd (no refl);
    files_cause = λ _ no _. absurd (no refl);
    out_cause = λ _. refl;
  }

-- out of memory, before anything was written
pub memory_ran : (ws : Words) (files : Source) (old : Option (List ℕ)) (faults : ℕ)
    → Ran ws files (written old old faults faults) 7
memory_ran ws files old faults = record {
  listed = omega (arith);
  memory = λ _. refl;
  failed = λ e. absurd (omega (arith, e));
  put = λ e. absurd (omega (arith, e));
  due = λ _ _ no. absurd (no refl);
  worked_out = λ low. absurd (omega (arith, low));
  one = one_answer ws files.told;
  only_unlisted = λ e. absurd (omega (arith, e));
  unlisted = λ _ _ no. absurd (no refl);
  files_cause = λ _ _ no. absurd (no refl);
  out_cause = λ less. absurd (omega (arith, less));
}
