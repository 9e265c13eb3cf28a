-- There is a sentence wherever there is something to say.
use Rattle.std.proofs.Common.{◌≡◌, ℕ, ◌-◌, Bool, true, false, List, [], ◌∷◌, ◌++◌, codes}
use Rattle.std.proofs.Common.{length, Some, None, nat_lt, refl, if◌then◌else◌}
use Rattle.irs_answers.specs.declared.causes.Cause.{Cause}
use Rattle.irs_answers.specs.declared.causes.Cause.TheVariants as reply
use Rattle.irs_answers.specs.declared.notes.Note.{Note}
use Rattle.irs_answers.specs.declared.notes.Note.TheVariants.{Nothing, Unfixed, Spot, Front}
use Rattle.irs_answers.specs.declared.refusals.Refusal.{Refusal}
use Rattle.irs_answers.specs.declared.refusals.Refusal.TheVariants as refusal
use Rattle.irs_flows.specs.declared.error.FlowErr.TheVariants as flowing
use Rattle.irs_calendar.specs.declared.calendars.CalErr.TheVariants as calendar
use Rattle.irs_cli.specs.declared.causes.RunCause.{RunCause}
use Rattle.irs_cli.specs.declared.causes.RunCause.TheVariants as cause
use Rattle.irs_resets.specs.declared.fixings.FixErr.TheVariants as fixing
use Rattle.irs_main.specs.Notes.{is_silent_reply, noted}
use Rattle.irs_main.specs.Shown.{joined_texts}
use Rattle.irs_main.specs.Sentences.{is_silent, refused_by, replied, sentence_of}
use Rattle.irs_main.specs.WrongWords.{commands, usage_of, command, word_at, field_at, helped, is_help, is_help_command}
use Rattle.irs_main.specs.WrongWords.{is_lacking, lacking, misfit, most_told, most_words, nearest, unknown, unlisted}
use Rattle.irs_main.specs.WrongWords.{unlisted_as}

-- a text has a byte
abbrev pub HasByte : List ℕ → Type 0
HasByte [] = ⊥
HasByte (b ∷ bs) = Unit {0}

byte_after : (xs ys : List ℕ) → HasByte ys → HasByte (xs ++ ys)
byte_after [] ys h = h
byte_after (x ∷ xs) ys h = tt

byte_before : (xs ys : List ℕ) → HasByte xs → HasByte (xs ++ ys)
byte_before [] ys h = absurd h
byte_before (x ∷ xs) ys h = tt

not_empty : (xs : List ℕ) → HasByte xs → xs ≡ [] → ⊥
not_empty [] h is = h
not_empty (x ∷ xs) h is = cc is

-- one of two sentences
either_byte : (b : Bool) (one two : List (List ℕ)) → HasByte (joined_texts one) → HasByte (joined_texts two)
    → HasByte (joined_texts (if b then one else two))
either_byte true one two h k = h
either_byte false one two h k = k

-- ---- words that are no listed command

helped_byte : (usage : List ℕ) → HasByte (joined_texts (helped usage))
helped_byte [] = tt
helped_byte (b ∷ bs) = tt

unknown_byte : (typed meant : List ℕ) → HasByte (joined_texts (unknown typed meant))
unknown_byte typed [] = tt
unknown_byte typed (b ∷ bs) = tt

misfit_byte : (words : List (List ℕ)) (usage : List ℕ) → HasByte (joined_texts (misfit words usage))
misfit_byte words usage =
    let parameter = field_at usage (length words) in
    let many = codes "too many words for the command: " ∷ usage ∷ most_told usage ∷ [] in
    let other = codes "these words don't fit the command: " ∷ usage ∷ [] in
    let long = nat_lt (most_words usage) (length words) in
    either_byte (is_help (word_at words (length words - 1))) (helped usage) _ (helped_byte usage)
    (either_byte (is_lacking parameter) (lacking (command words) parameter) (if long then many else other)
    (byte_after (command words) _ tt) (either_byte long many other tt tt))

unlisted_as_byte : (words : List (List ℕ)) (usage : List ℕ) → HasByte (joined_texts (unlisted_as words usage))
unlisted_as_byte words [] = unknown_byte (command words) (nearest commands (command words))
unlisted_as_byte words (b ∷ bs) = misfit_byte words (b ∷ bs)

unlisted_byte : (words : List (List ℕ)) → HasByte (joined_texts (unlisted words))
unlisted_byte words =
    either_byte (is_help_command (command words)) (helped (usage_of (word_at words 1)))
    (unlisted_as words (usage_of (command words))) (helped_byte (usage_of (word_at words 1)))
    (unlisted_as_byte words (usage_of (command words)))

-- ---- a reply

refused_byte : (words : List (List ℕ)) (r : Refusal) → HasByte (joined_texts (refused_by words r))
refused_byte words (refusal.Unreadable u) = tt
refused_byte words (refusal.Rule b) = tt
refused_byte words (refusal.Calendars (calendar.Syntax file line)) = tt
refused_byte words (refusal.Calendars (calendar.Repeat file line)) = tt
refused_byte words (refusal.Calendars (calendar.TooMany file line)) = tt
refused_byte words (refusal.Calendars calendar.Memory) = tt
refused_byte words (refusal.Fixings (fixing.Syntax line)) = tt
refused_byte words (refusal.Fixings (fixing.Repeat line)) = tt
refused_byte words (refusal.Fixings fixing.Memory) = tt
refused_byte words (refusal.UnreadableFlows u) = tt
refused_byte words (refusal.Flows (flowing.Shape k place)) = tt
refused_byte words (refusal.Flows flowing.Memory) = tt
refused_byte words refusal.Memory = tt

replied_byte : (words : List (List ℕ)) (c : Cause) (n : Note) → is_silent_reply c n ≡ false
    → HasByte (joined_texts (replied words c) ++ joined_texts (noted c n))
replied_byte words reply.Done Nothing h = absurd (cc h)
replied_byte words reply.Done (Unfixed u) h = tt
replied_byte words reply.Done (Spot s) h = absurd (cc h)
replied_byte words reply.Done (Front f) h = absurd (cc h)
replied_byte words (reply.Uncompared unfixed) n h = tt
replied_byte words (reply.NotAgreed d) n h = tt
replied_byte words reply.Breaks n h = tt
replied_byte words (reply.Refused r) n h =
    byte_before (joined_texts (refused_by words r)) (joined_texts (noted (reply.Refused r) n)) (refused_byte words r)

-- ---- what a run comes to

spoken : (words : List (List ℕ)) (c : RunCause) → is_silent c ≡ false → HasByte (sentence_of words c)
spoken words (cause.Replied c n) h = replied_byte words c n h
spoken words cause.BadWords h = byte_before (joined_texts (unlisted words)) [] (unlisted_byte words)
spoken words (cause.NoFile place) h = tt
spoken words cause.PutFailed h = tt
spoken words cause.NoMemory h = tt
spoken words (cause.TooLong place) h =
    let rest = codes " has more than 4,194,304 bytes" ++ [] in
    byte_before (word_at words place ++ rest) [] (byte_after (word_at words place) rest tt)
spoken words (cause.NotText None) h = tt
spoken words (cause.NotText (Some place)) h = tt

silent_by : (silent : Bool) (words : List (List ℕ)) (c : RunCause) → is_silent c ≡ silent → sentence_of words c ≡ []
    → is_silent c ≡ true
silent_by true words c is empty = is
silent_by false words c is empty = absurd (not_empty (sentence_of words c) (spoken words c is) empty)

-- where the sentence is empty there is nothing to say
pub empty_silent : (words : List (List ℕ)) (c : RunCause) → sentence_of words c ≡ [] → is_silent c ≡ true
empty_silent words c = silent_by (is_silent c) words c refl
