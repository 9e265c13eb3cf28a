-- What a sentence adds to what a reply says, as texts that are joined.
use Rattle.irs_answers.specs.declared.causes.Cause.{Cause}
use Rattle.irs_answers.specs.declared.causes.Cause.TheVariants as reply
use Rattle.irs_answers.specs.declared.fronts.Front.{Front}
use Rattle.irs_answers.specs.declared.fronts.Front.TheVariants.{Mark, Markup}
use Rattle.irs_answers.specs.declared.misfits.Misfit.{Misfit}
use Rattle.irs_answers.specs.declared.notes.Note.{Note}
use Rattle.irs_answers.specs.declared.notes.Note.TheVariants.{Nothing, Unfixed as OfPayments, Spot as OfRule}
use Rattle.irs_answers.specs.declared.notes.Note.TheVariants.{Front as OfText}
use Rattle.irs_answers.specs.declared.notes.Unfixed.{Unfixed}
use Rattle.irs_answers.specs.declared.spots.Spot.{Spot}
use Rattle.irs_base.specs.Texts.{day_text}
use Rattle.irs_base.specs.declared.day.DayName.{DayName}
use Rattle.irs_base.specs.declared.day.DayName.TheVariants.{Mon, Tue, Wed, Thu, Fri, Sat, Sun}
use Rattle.irs_cli.specs.declared.causes.RunCause.{RunCause}
use Rattle.irs_cli.specs.declared.causes.RunCause.TheVariants as cause
use Rattle.irs_elements.specs.declared.table.Leaf.{Leaf as LeafKind}
use Rattle.irs_locate.specs.declared.kinds.Shape.{Shape}
use Rattle.irs_locate.specs.declared.kinds.Shape.TheVariants.{Null, Truth, Whole, Fraction, Text, Object}
use Rattle.irs_locate.specs.declared.kinds.Shape.TheVariants.{List as OfItems}
use Rattle.irs_terms.specs.declared.codes.RollCode.{RollCode}
use Rattle.irs_terms.specs.declared.codes.RollCode.TheVariants.{Eom, Dom, Imm, OnWeekday, NoRoll}
use Rattle.irs_terms.specs.declared.frequency.Frequency.{Frequency}
use Rattle.irs_terms.specs.declared.frequency.Unit.{Unit as FrequencyUnit}
use Rattle.irs_terms.specs.declared.frequency.Unit.TheVariants.{D, W, M, Y, T}
use Rattle.irs_main.specs.Shown.{centers_text, dots, shown_front}
use Rattle.irs_main.specs.Elements.{value_words}
use Rattle.std.specs.Prelude.{ℕ, ◌&&◌, Bool, true, false, List, [], ◌∷◌, ◌++◌, Option, Some, None, codes}
use Rattle.std.specs.Prelude.{decimal, if◌then◌else◌}
use Rattle.irs_terms.specs.Elements.{name_or_empty}

-- ---- payments without an amount

-- the letter of a unit
abbrev pub unit_letter : FrequencyUnit → List ℕ
unit_letter D = codes "D"
unit_letter W = codes "W"
unit_letter M = codes "M"
unit_letter Y = codes "Y"
unit_letter T = codes "T"

-- a space before a tenor, where there is one
abbrev pub tenor_gap : Option Frequency → List ℕ
tenor_gap None = []
tenor_gap (Some f) = codes " "

-- its number of units
abbrev pub tenor_count : Option Frequency → List ℕ
tenor_count None = []
tenor_count (Some f) = decimal f.count

-- the letter of its unit
abbrev pub tenor_letter : Option Frequency → List ℕ
tenor_letter None = []
tenor_letter (Some f) = unit_letter f.unit

-- how many payments have no amount, and the fixing that the first of them lacks, on the day of this text
abbrev pub unfixed_on : Unfixed → List ℕ → List (List ℕ)
unfixed_on u day =
    codes "payments without an amount: " ∷ decimal u.count ∷ codes " of " ∷ decimal u.payments
    ∷ codes "; the first, payment " ∷ decimal u.payment ∷ codes " of stream " ∷ decimal u.stream
    ∷ codes ", lacks a fixing for " ∷ shown_front u.index ∷ dots u.index
    ∷ tenor_gap u.tenor ∷ tenor_count u.tenor ∷ tenor_letter u.tenor
    ∷ codes " on " ∷ day ∷ []

-- the same, with its day as YYYY-MM-DD
abbrev pub unfixed_texts : Unfixed → List (List ℕ)
unfixed_texts u = unfixed_on u (day_text u.day)

-- ---- where a document breaks a rule

-- what comes before the name of a member, where there is one
abbrev pub member_words : Option (List ℕ) → List ℕ
member_words None = []
member_words (Some []) = codes "; the name of the member is empty"
member_words (Some (b ∷ bs)) = codes "; the member is "

-- what comes before the text of a leaf, where there is one
abbrev pub text_words : Option (List ℕ) → List ℕ
text_words None = []
text_words (Some []) = codes "; the text is empty"
text_words (Some (b ∷ bs)) = codes "; the text is "

-- what comes before the words for what a leaf has to be, where they are said
abbrev pub value_intro : Option LeafKind → List ℕ
value_intro None = []
value_intro (Some kind) = codes "; it has to be "

-- what a leaf has to be
abbrev pub value_in : Option LeafKind → List ℕ
value_in None = []
value_in (Some kind) = value_words kind

-- the kind of a value
abbrev pub shape_of : Shape → List ℕ
shape_of Null = codes "; it is null"
shape_of Truth = codes "; it is true or false"
shape_of Whole = codes "; it is a whole number"
shape_of Fraction =
    codes "; it is a number with a point, an exponent or too many digits: write it as a text, in quotes: \"0.05\""
shape_of Text = codes "; it is a text"
shape_of OfItems = codes "; it is a list"
shape_of Object = codes "; it is an object"

-- the kind of the value, where there is one
abbrev pub shape_words : Option Shape → List ℕ
shape_words None = []
shape_words (Some shape) = shape_of shape

-- what comes before the name of a centre, where there is one
abbrev pub center_words : Option (List ℕ) → List ℕ
center_words None = []
center_words (Some name) = codes "; the centre is "

-- a weekday in a roll
abbrev pub weekday_name : DayName → List ℕ
weekday_name Mon = codes "MON"
weekday_name Tue = codes "TUE"
weekday_name Wed = codes "WED"
weekday_name Thu = codes "THU"
weekday_name Fri = codes "FRI"
weekday_name Sat = codes "SAT"
weekday_name Sun = codes "SUN"

-- the code of a roll
abbrev pub roll_code : RollCode → List ℕ
roll_code Eom = codes "EOM"
roll_code (Dom day) = decimal day
roll_code Imm = codes "IMM"
roll_code (OnWeekday name) = weekday_name name
roll_code NoRoll = codes "NONE"

-- what comes before the roll, where there is one
abbrev pub roll_intro : Option Misfit → List ℕ
roll_intro None = []
roll_intro (Some m) = codes "; roll "

-- the roll
abbrev pub roll_in : Option Misfit → List ℕ
roll_in None = []
roll_in (Some m) = roll_code m.roll

-- what comes before the day that the roll doesn't fit
abbrev pub day_intro : Option Misfit → List ℕ
day_intro None = []
day_intro (Some m) = codes ", day "

-- the day, YYYY-MM-DD
abbrev pub day_in : Option Misfit → List ℕ
day_in None = []
day_in (Some m) = day_text m.day

-- what comes before the number of a line, where there is one
abbrev pub line_words : Option ℕ → List ℕ
line_words None = []
line_words (Some line) = codes "; see line "

-- the number of the line
abbrev pub line_number : Option ℕ → List ℕ
line_number None = []
line_number (Some line) = decimal line

-- the parts of a spot: the member, the kind of the value, the text and what it has to be. Then come the centre, the roll
-- with the day of this text, and the line
abbrev pub spot_on : Spot → List ℕ → List (List ℕ)
spot_on s day =
    member_words s.member ∷ shown_front (name_or_empty s.member) ∷ dots (name_or_empty s.member)
    ∷ shape_words s.shape
    ∷ text_words s.text ∷ shown_front (name_or_empty s.text) ∷ dots (name_or_empty s.text)
    ∷ value_intro s.kind ∷ value_in s.kind
    ∷ center_words s.center ∷ shown_front (name_or_empty s.center) ∷ dots (name_or_empty s.center)
    ∷ roll_intro s.misfit ∷ roll_in s.misfit ∷ day_intro s.misfit ∷ day
    ∷ line_words s.line ∷ line_number s.line ∷ []

-- the same, with its day as YYYY-MM-DD
abbrev pub spot_texts : Spot → List (List ℕ)
spot_texts s = spot_on s (day_in s.misfit)

-- the same, and then the centres that the calendar files have
abbrev pub spot_added : Spot → List (List ℕ)
spot_added s = spot_texts s ++ centers_text s.listed ∷ []

-- ---- how a text begins that isn't JSON

-- what is said of that
abbrev pub front_words : Front → List ℕ
front_words Mark = codes "; its text begins with a byte order mark"
front_words Markup = codes "; its text is XML, and a file of XML has a name that ends in .xml"

-- the same as texts
abbrev pub front_texts : Front → List (List ℕ)
front_texts f = front_words f ∷ []

-- ---- what is added

-- what is added to a sentence
abbrev pub added : Note → List (List ℕ)
added Nothing = []
added (OfPayments u) = codes "; " ∷ unfixed_texts u
added (OfRule s) = spot_added s
added (OfText f) = front_texts f

-- what is said where there is no sentence before it
abbrev pub note_alone : Note → List (List ℕ)
note_alone Nothing = []
note_alone (OfPayments u) = unfixed_texts u
note_alone (OfRule s) = []
note_alone (OfText f) = []

-- no payment lacks an amount
abbrev pub is_fixed : Note → Bool
is_fixed Nothing = true
is_fixed (OfPayments u) = false
is_fixed (OfRule s) = true
is_fixed (OfText f) = true

-- a reply says nothing without its note
abbrev pub is_done : Cause → Bool
is_done reply.Done = true
is_done (reply.Uncompared unfixed) = false
is_done (reply.NotAgreed d) = false
is_done reply.Breaks = false
is_done (reply.Refused r) = false

-- a reply with a note says nothing
abbrev pub is_silent_reply : Cause → Note → Bool
is_silent_reply c n = is_done c && is_fixed n

-- what a note says after a reply
abbrev pub noted : Cause → Note → List (List ℕ)
noted c n = if is_done c then note_alone n else added n

-- what is said after the sentence on what a run comes to
abbrev pub note_of : RunCause → List (List ℕ)
note_of (cause.Replied c n) = noted c n
note_of cause.BadWords = []
note_of (cause.NoFile place) = []
note_of cause.PutFailed = []
note_of cause.NoMemory = []
note_of (cause.TooLong place) = []
note_of (cause.NotText place) = []
