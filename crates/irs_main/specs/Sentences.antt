-- The sentence on what a run comes to, as texts that are joined.
use Rattle.irs_answers.specs.declared.causes.Cause.{Cause}
use Rattle.irs_answers.specs.declared.causes.Cause.TheVariants as reply
use Rattle.irs_answers.specs.declared.forms.Unread.{Unread}
use Rattle.irs_answers.specs.declared.forms.Unread.TheVariants as unread
use Rattle.irs_answers.specs.declared.refusals.Refusal.{Refusal}
use Rattle.irs_answers.specs.declared.refusals.Refusal.TheVariants as refusal
use Rattle.irs_audit.specs.Verdicts.{field_name, row_name}
use Rattle.irs_audit.specs.declared.departures.Departure.{Departure}
use Rattle.irs_flows.specs.declared.error.FlowErr.{FlowErr}
use Rattle.irs_flows.specs.declared.error.FlowErr.TheVariants as flowing
use Rattle.irs_flows.specs.declared.error.ShapeKind.{ShapeKind}
use Rattle.irs_flows.specs.declared.error.ShapeKind.TheVariants.{NotJson}
use Rattle.irs_terms.specs.Elements.{document}
use Rattle.irs_terms.specs.Paths.{path_of}
use Rattle.irs_terms.specs.Faults.{rule_number}
use Rattle.irs_terms.specs.declared.places.Broken.{Broken}
use Rattle.irs_terms.specs.declared.places.Place.{Place}
use Rattle.irs_terms.specs.declared.places.Rule.{Rule}
use Rattle.irs_terms.specs.declared.places.Rule.TheVariants.{K1}
use Rattle.irs_calendar.specs.declared.calendars.CalErr.{CalErr}
use Rattle.irs_calendar.specs.declared.calendars.CalErr.TheVariants as calendar
use Rattle.irs_cli.specs.Commands.{word_texts}
use Rattle.irs_cli.specs.Given.{file_name}
use Rattle.irs_cli.specs.declared.causes.RunCause.{RunCause}
use Rattle.irs_cli.specs.declared.causes.RunCause.TheVariants as cause
use Rattle.irs_cli.specs.declared.commands.Role.TheVariants as role
use Rattle.irs_resets.specs.declared.fixings.FixErr.{FixErr}
use Rattle.irs_resets.specs.declared.fixings.FixErr.TheVariants as fixing
use Rattle.irs_main.specs.Elements.{holder, name_words, possessive}
use Rattle.irs_main.specs.Rules.{words_after, before, row_of_rule, row_of_shape}
use Rattle.irs_main.specs.Notes.{is_silent_reply, note_of}
use Rattle.irs_main.specs.Shown.{joined_texts}
use Rattle.irs_main.specs.WrongWords.{word_at, is_help, unlisted}
use Rattle.std.specs.Prelude.{ℕ, ◌-◌, ◌==◌, ◌||◌, ◌&&◌, nat_eq, Bool, false, not, List, [], ◌∷◌, ◌++◌, Option, Some, None, codes}
use Rattle.std.specs.Prelude.{String, decimal, if◌then◌else◌}
use Rattle.std.specs.List.{ends_with}
use Rattle.std.specs.Str.{bytes_eq}
use Rattle.std.specs.declared.alloc.Global.{Global}

-- ---- a broken rule

-- a text, unless the number is 0
abbrev pub unless_zero : ℕ → List ℕ → List ℕ
unless_zero number text = if number == 0 then [] else text

-- a number, unless it is 0
abbrev pub number_unless_zero : ℕ → List ℕ
number_unless_zero number = if number == 0 then [] else decimal number

-- the index of a place, or 0 for a centre (K12), whose sentence doesn't give it
abbrev pub index_told : Rule → ℕ → ℕ
index_told rule index = if rule_number rule == 12 then 0 else index

-- the row is that of a text without a reading, a document or cash flows
abbrev pub is_unread : ℕ → Bool
is_unread row = (row == row_of_rule K1) || (row == row_of_shape NotJson)

-- what is said after the element of a text in the file of this name; an XML text without a reading has its
-- own
abbrev pub after_in : List ℕ → ℕ → List ℕ
after_in file row =
    if ends_with nat_eq file (codes ".xml") && is_unread row then codes " isn't XML that this program reads"
    else words_after row

-- what a row of the table says of an element of a text in the file of this name, after three opening texts
abbrev pub about : List ℕ → List ℕ → List ℕ → List ℕ → ℕ → ℕ → List ℕ → ℕ → List (List ℕ)
about one two three file row stream path index =
    one ∷ two ∷ three
    ∷ before row ∷ holder path ∷ possessive (holder path) ∷ name_words path ∷ after_in file row
    ∷ unless_zero stream (codes " (stream ") ∷ number_unless_zero stream
    ∷ unless_zero index (codes ", number ") ∷ number_unless_zero index
    ∷ unless_zero stream (codes ")")
    ∷ []

-- a rule is broken
abbrev pub rule_sentence : List (List ℕ) → Broken → List (List ℕ)
rule_sentence words b =
    about (codes "K") (decimal (rule_number b.rule)) (codes ": ") (file_name words role.Document 0)
    (row_of_rule b.rule) b.place.stream (path_of b.place.elem) (index_told b.rule b.place.index)

-- ---- a text without a reading

-- the line where the reading stopped
abbrev pub line_stopped : Unread → List ℕ
line_stopped (unread.Json line column) = decimal line
line_stopped (unread.Xml line column) = decimal line

-- the column where it stopped
abbrev pub column_stopped : Unread → List ℕ
column_stopped (unread.Json line column) = decimal column
column_stopped (unread.Xml line column) = decimal column

-- what a row of the table says of a text without a reading in the file of this name, after three opening texts. It also
-- says where the reading stopped
abbrev pub unread_as : List ℕ → List ℕ → List ℕ → List ℕ → ℕ → Unread → List (List ℕ)
unread_as one two three file row u =
    one ∷ two ∷ three
    ∷ before row ∷ name_words (path_of document) ∷ after_in file row
    ∷ codes " (reading stopped at line " ∷ line_stopped u
    ∷ codes ", column " ∷ column_stopped u ∷ codes ")"
    ∷ []

-- a document without a reading
abbrev pub no_document : List (List ℕ) → Unread → List (List ℕ)
no_document words u =
    unread_as (codes "K") (decimal (rule_number K1)) (codes ": ") (file_name words role.Document 0) (row_of_rule K1) u

-- cash flows without a reading
abbrev pub no_flows : List (List ℕ) → Unread → List (List ℕ)
no_flows words u =
    unread_as (codes "cash flows (") (file_name words role.Flows 0) (codes "): ") (file_name words role.Flows 0)
    (row_of_shape NotJson) u

-- ---- memory

-- memory ran out
abbrev pub no_memory : List (List ℕ)
no_memory = codes "there wasn't enough memory" ∷ []

-- ---- a file at fault

-- a line of the calendar file with that number is at fault
abbrev pub calendar_sentence : List (List ℕ) → ℕ → ℕ → List ℕ → List (List ℕ)
calendar_sentence words file line fault =
    codes "calendar file " ∷ decimal file ∷ codes " (" ∷ file_name words role.Calendar (file - 1) ∷ codes "), line "
    ∷ decimal line ∷ codes ": " ∷ fault ∷ []

-- a calendar file is at fault
abbrev pub bad_calendars : List (List ℕ) → CalErr → List (List ℕ)
bad_calendars words (calendar.Syntax file line) = calendar_sentence words file line (codes "this line isn't allowed here")
bad_calendars words (calendar.Repeat file line) = calendar_sentence words file line (codes "this centre is there already")
bad_calendars words (calendar.TooMany file line) =
    calendar_sentence words file line (codes "a centre has at most 20,000 holidays")
bad_calendars words calendar.Memory = no_memory

-- a line of the fixing file is at fault
abbrev pub bad_fixing : List (List ℕ) → ℕ → List ℕ → List (List ℕ)
bad_fixing words line fault =
    codes "fixing file (" ∷ file_name words role.Fixings 0 ∷ codes "), line " ∷ decimal line ∷ codes ": " ∷ fault ∷ []

-- the fixing file is at fault
abbrev pub fixings_sentence : List (List ℕ) → FixErr → List (List ℕ)
fixings_sentence words (fixing.Syntax line) = bad_fixing words line (codes "this line isn't DATE RATE TENOR INDEX")
fixings_sentence words (fixing.Repeat line) = bad_fixing words line (codes "this date, tenor and index are there already")
fixings_sentence words fixing.Memory = no_memory

-- the cash flows are out of shape
abbrev pub bad_shape : List (List ℕ) → ShapeKind → Place → List (List ℕ)
bad_shape words kind place =
    about (codes "cash flows (") (file_name words role.Flows 0) (codes "): ") (file_name words role.Flows 0)
    (row_of_shape kind) place.stream (path_of place.elem) place.index

-- the cash flows are at fault
abbrev pub flows_sentence : List (List ℕ) → FlowErr → List (List ℕ)
flows_sentence words (flowing.Shape kind place) = bad_shape words kind place
flows_sentence words flowing.Memory = no_memory

-- a task isn't carried out
abbrev pub refused_by : List (List ℕ) → Refusal → List (List ℕ)
refused_by words (refusal.Unreadable u) = no_document words u
refused_by words (refusal.Rule b) = rule_sentence words b
refused_by words (refusal.Calendars e) = bad_calendars words e
refused_by words (refusal.Fixings e) = fixings_sentence words e
refused_by words (refusal.UnreadableFlows u) = no_flows words u
refused_by words (refusal.Flows e) = flows_sentence words e
refused_by words refusal.Memory = no_memory

-- ---- cash flows that depart from the schedule

-- the departure is of a field, and not of a whole row
abbrev pub is_of_field : List ℕ → Bool
is_of_field field = not (bytes_eq field (codes "missing") || bytes_eq field (codes "extra"))

-- what the cash flows do: the verb of a departure
abbrev pub verb : List ℕ → List ℕ
verb field =
    if bytes_eq field (codes "missing") then codes ") lack "
    else (if bytes_eq field (codes "extra") then codes ") have " else codes ") depart from the schedule in ")

-- a text where the departure is of a field
abbrev pub of_field : List ℕ → List ℕ → List ℕ
of_field field text = if is_of_field field then text else []

-- a text where the row isn't a stream as a whole
abbrev pub unless_stream : List ℕ → List ℕ → List ℕ
unless_stream kind text = if bytes_eq kind (codes "stream") then [] else text

-- the number of the row where that isn't a stream as a whole
abbrev pub number_unless_stream : List ℕ → ℕ → List ℕ
number_unless_stream kind row = if bytes_eq kind (codes "stream") then [] else decimal row

-- what comes before the number of the stream
abbrev pub stream_words : List ℕ → List ℕ
stream_words kind = if bytes_eq kind (codes "stream") then codes "stream " else codes " of stream "

-- what ends the sentence on a departure
abbrev pub ending : List ℕ → List ℕ
ending field = if bytes_eq field (codes "extra") then codes ", and the schedule doesn't" else []

-- the cash flows depart from the schedule, in a field or a row of these names
abbrev pub departs : List (List ℕ) → ℕ → List ℕ → ℕ → List ℕ → List (List ℕ)
departs words stream kind row field =
    codes "the cash flows (" ∷ file_name words role.Flows 0 ∷ verb field
    ∷ of_field field field ∷ of_field field (codes " of ")
    ∷ unless_stream kind kind ∷ unless_stream kind (codes " ") ∷ number_unless_stream kind row
    ∷ stream_words kind ∷ decimal stream ∷ ending field ∷ []

-- what an audit found
abbrev pub not_agreed : List (List ℕ) → Departure → List (List ℕ)
not_agreed words d = departs words d.stream (row_name d.kind) d.row (field_name d.field)

-- the list of `breaks` has some
abbrev pub some_break : List (List ℕ) → List (List ℕ)
some_break words =
    codes "the cash flows (" ∷ file_name words role.Flows 0
    ∷ codes ") depart from the schedule: each line of the list is one break" ∷ []

-- ---- cash flows that agree as far as they were compared

-- how many amounts weren't compared, as they lack a fixing
abbrev pub uncompared : List (List ℕ) → ℕ → List (List ℕ)
uncompared words unfixed =
    codes "the cash flows (" ∷ file_name words role.Flows 0
    ∷ codes ") agree, but amounts that lack a fixing weren't compared: " ∷ decimal unfixed ∷ []

-- what a reply says
abbrev pub replied : List (List ℕ) → Cause → List (List ℕ)
replied words reply.Done = []
replied words (reply.Uncompared unfixed) = uncompared words unfixed
replied words (reply.NotAgreed d) = not_agreed words d
replied words reply.Breaks = some_break words
replied words (reply.Refused r) = refused_by words r

-- ---- a file that couldn't be read, and a word that isn't text

-- what is added where the name of a file asks for help
abbrev pub help_hint : List ℕ → List ℕ
help_hint name = if is_help name then codes " (irs --help explains the commands)" else []

-- the file of this name couldn't be read
abbrev pub unreadable_sentence : List ℕ → List (List ℕ)
unreadable_sentence name = codes "couldn't be read: " ∷ name ∷ help_hint name ∷ []

-- which word isn't text, where its place is known
abbrev pub no_text_sentence : Option ℕ → List (List ℕ)
no_text_sentence None = codes "a word of the command line isn't text" ∷ []
no_text_sentence (Some place) = codes "word " ∷ decimal place ∷ codes " isn't text" ∷ []

-- ---- what a run comes to

-- there is nothing to say of what a run comes to
abbrev pub is_silent : RunCause → Bool
is_silent (cause.Replied c n) = is_silent_reply c n
is_silent cause.BadWords = false
is_silent (cause.NoFile place) = false
is_silent cause.PutFailed = false
is_silent cause.NoMemory = false
is_silent (cause.TooLong place) = false
is_silent (cause.NotText place) = false

-- the texts of the sentence without its note; none where there is nothing to say but a note
abbrev pub told_texts : List (List ℕ) → RunCause → List (List ℕ)
told_texts words (cause.Replied c n) = replied words c
told_texts words cause.BadWords = unlisted words
told_texts words (cause.NoFile place) = unreadable_sentence (word_at words place)
told_texts words cause.PutFailed = codes "the text couldn't be written to standard output" ∷ []
told_texts words cause.NoMemory = no_memory
told_texts words (cause.TooLong place) = word_at words place ∷ codes " has more than 4,194,304 bytes" ∷ []
told_texts words (cause.NotText place) = no_text_sentence place

-- the sentence with its note; empty where there is nothing to say
abbrev pub sentence_of : List (List ℕ) → RunCause → List ℕ
sentence_of words c = joined_texts (told_texts words c) ++ joined_texts (note_of c)

-- the same for the words of the code
abbrev pub run_sentence : List (String Global) → RunCause → List ℕ
run_sentence words c = sentence_of (word_texts words) c
