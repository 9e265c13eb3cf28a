-- What the table of commands says of words.
use Rattle.std.proofs.Common.{◌≡◌, ℕ, zero, suc, ◌+◌, ◌-◌, ◌<◌, ◌≤◌, inl, inr, List, [], ◌∷◌, ◌++◌, length, map}
use Rattle.std.proofs.Common.{drop, Option, Some, None, get_or, Bool, true, false, refl, sym, ◌∙◌, ap, subst, arith}
use Rattle.std.proofs.Common.{append_assoc, ℤ, String, string_bytes}
use Rattle.std.specs.Prelude.{slice_get, option_map, nat_le, ◌&&◌, if◌then◌else◌}
use Rattle.std.proofs.lemmas.Bool.{cases_lt}
use Rattle.std.proofs.lemmas.Bool.Decides.{nat_tests}
use Rattle.std.specs.declared.alloc.Global.{Global}
use Rattle.std.proofs.lemmas.Option.{slice_get-map, slice_get_read, same_Some}
use Rattle.std.proofs.lemmas.List.{map-append, length-drop}
use Rattle.irs_cli.specs.declared.commands.Role.{Role}
use Rattle.irs_cli.specs.declared.commands.Role.TheVariants.{Document, Fixings, Flows, Calendar}
use Rattle.irs_cli.specs.declared.commands.Kind.{Kind}
use Rattle.irs_cli.specs.declared.commands.Kind.TheVariants as kind
use Rattle.irs_average.specs.declared.means.Mean.{Mean}
use Rattle.irs_average.specs.declared.stubs.Side.{Side}
use Rattle.irs_terms.specs.declared.frequency.Frequency.{Frequency}
use Rattle.irs_answers.specs.declared.tasks.Task.TheVariants as task
use Rattle.irs_answers.specs.Forms.{most_calendars}
use Rattle.irs_cli.specs.declared.commands.Request.{Request}
use Rattle.irs_cli.specs.declared.commands.Request.TheVariants.{OverFiles, Bulk}
use Rattle.irs_cli.specs.declared.commands.Command.{Command}
use Rattle.irs_cli.specs.declared.commands.Named.{Named}
use Rattle.irs_cli.specs.Commands.{Words, word_texts, Wanted, Asked, Asks, AsksAs, AsksAccrue, AsksAverage, AsksBreaks}
use Rattle.irs_cli.specs.Commands.{AsksBulk, AsksInterpolate, AsksObservations, AsksOvernight, IsRequest, IsListed}
use Rattle.irs_cli.specs.Commands.{command_of, params_of, roles_of, calendars_of, role_at, is_file, kept_file}
use Rattle.irs_cli.specs.Commands.{files_from, IsCountWord, IsDateWord, IsFromWord, IsMeanWord, IsSideWord, IsStepWord}
use Rattle.irs_cli.specs.Commands.{IsStreamWord}
use Rattle.irs_cli.specs.Private.Fetching.{asked_by, wanted_by, IsCommand, IsCommandAs, IsLawfulRequest}
use Rattle.irs_resets.specs.FixingFiles.{IsTenorWord}
use Rattle.irs_cli.proofs.ParamLemmas.{one_at, one_count, one_date, one_from, one_mean, one_side, one_step, one_stream}
use Rattle.irs_cli.proofs.ParamLemmas.{one_tenor, step_lawful}

-- equal texts are equal where they are there
pub ap_some : {x y : List ℕ} → x ≡ y → (let o : Option (List ℕ) = Some x in o ≡ Some y)
ap_some e = ap Some e

-- a word of the command line, by its bytes
pub word_at : (ns : List (String Global)) (i : ℕ) (x : String Global) → i < length ns → x ≡ get_or ns i x
    → slice_get (word_texts ns) i ≡ Some (string_bytes x)
word_at ns i x below e =
    slice_get-map (λ w. string_bytes w) ns i
    ∙ ap (λ (o : Option (String Global)). option_map (λ w. string_bytes w) o)
    (slice_get_read ns (length ns) i x refl below e)

drop_suc : (ws : Words) (i : ℕ) (w : List ℕ) → slice_get ws i ≡ Some w → drop i ws ≡ w ∷ drop (suc i) ws
drop_suc [] i w e = cc
drop_suc (x ∷ ws) zero w e = ap (λ (z : List ℕ). z ∷ ws) (same_Some x w e)
drop_suc (x ∷ ws) (suc i) w e = drop_suc ws i w e

-- the words from a place on begin with its word
pub drop_at : (ws : Words) (i : ℕ) (w : List ℕ) → slice_get ws i ≡ Some w → drop i ws ≡ w ∷ drop (i + 1) ws
drop_at ws i w e = let n : suc i ≡ i + 1 = omega arith in drop_suc ws i w e ∙ ap (λ (k : ℕ). w ∷ drop k ws) n

-- the words from a place on: the first of them, and the rest
files_at : (roles : List Role) (place i : ℕ) (w : List ℕ) (ws : Words) → slice_get ws i ≡ Some w
    → files_from roles place i (drop i ws) ≡ kept_file (role_at roles i) place w
    ++ files_from roles (place + 1) (i + 1) (drop (i + 1) ws)
files_at roles place i w ws e = ap (λ (l : Words). files_from roles place i l) (drop_at ws i w e)

-- a word that names a file is kept
pub kept_yes : (role : Role) (place : ℕ) (w : List ℕ) → is_file role w ≡ true
    → kept_file role place w ≡ record { place = place; role = role; name = w } ∷ []
kept_yes role place w e = ap (λ (b : Bool). if b then record { place = place; role = role; name = w } ∷ [] else []) e

-- a word that names no file isn't kept
pub kept_no : (role : Role) (place : ℕ) (w : List ℕ) → is_file role w ≡ false → kept_file role place w ≡ []
kept_no role place w e = ap (λ (b : Bool). if b then record { place = place; role = role; name = w } ∷ [] else []) e

-- the files so far, with the file of the next word
pub step_yes : (roles : List Role) (place i : ℕ) (ws : Words) (fs : List Named) (n : Named) (all : List Wanted)
    → slice_get ws i ≡ Some n.name.now → n.role ≡ role_at roles i → n.place ≡ place → is_file n.role n.name.now ≡ true
    → map wanted_by fs ++ files_from roles place i (drop i ws) ≡ all
    → map wanted_by (fs ++ n ∷ []) ++ files_from roles (place + 1) (i + 1) (drop (i + 1) ws) ≡ all
step_yes roles place i ws fs n all at role p is e =
    let w = n.name.now in
    let rest = files_from roles (place + 1) (i + 1) (drop (i + 1) ws) in
    let one : kept_file (role_at roles i) place w ≡ wanted_by n ∷ [] =
    ap (λ (r : Role). kept_file r place w) (sym role) ∙ kept_yes n.role place w is
    ∙ ap (λ (q : ℕ). record { place = q; role = n.role; name = w } ∷ []) (sym p) in
    let these : files_from roles place i (drop i ws) ≡ wanted_by n ∷ rest =
    files_at roles place i w ws at ∙ ap (λ (l : List Wanted). l ++ rest) one in
    ap (λ (l : List Wanted). l ++ rest) (map-append wanted_by fs (n ∷ []))
    ∙ append_assoc (map wanted_by fs) (wanted_by n ∷ []) rest
    ∙ ap (λ (l : List Wanted). map wanted_by fs ++ l) (sym these) ∙ e

-- the files so far, where the next word names none
pub step_no : (roles : List Role) (place i : ℕ) (ws : Words) (w : List ℕ) (fs : List Named) (r : Role)
    (all : List Wanted) → slice_get ws i ≡ Some w → r ≡ role_at roles i → is_file r w ≡ false
    → map wanted_by fs ++ files_from roles place i (drop i ws) ≡ all
    → map wanted_by fs ++ files_from roles (place + 1) (i + 1) (drop (i + 1) ws) ≡ all
step_no roles place i ws w fs r all at role not e =
    let rest = files_from roles (place + 1) (i + 1) (drop (i + 1) ws) in
    let none : kept_file (role_at roles i) place w ≡ [] =
    ap (λ (x : Role). kept_file x place w) (sym role) ∙ kept_no r place w not in
    let these : files_from roles place i (drop i ws) ≡ rest =
    files_at roles place i w ws at ∙ ap (λ (l : List Wanted). l ++ rest) none in
    ap (λ (l : List Wanted). map wanted_by fs ++ l) (sym these) ∙ e

-- ---- words are one command at most

one_accrue : (ws : Words) (a b : Request) → AsksAccrue ws a → AsksAccrue ws b → b ≡ a
one_accrue ws a b h k =
    k.is ∙ ap (λ (d : ℤ). OverFiles (task.Accrue d)) (one_at IsDateWord one_date ws 0 h.date k.date h.is_date k.is_date)
    ∙ sym h.is

one_breaks : (ws : Words) (a b : Request) → AsksBreaks ws a → AsksBreaks ws b → b ≡ a
one_breaks ws a b h k =
    k.is ∙ ap (λ (f : Option ℤ). OverFiles (task.Breaks f))
    (one_at IsFromWord one_from ws 0 h.from k.from h.is_from k.is_from) ∙ sym h.is

one_bulk : (ws : Words) (a b : Request) → AsksBulk ws a → AsksBulk ws b → b ≡ a
one_bulk ws a b h k =
    k.is ∙ ap (λ (n : ℕ). Bulk n) (one_at IsCountWord one_count ws 0 h.count k.count h.is_count k.is_count) ∙ sym h.is

one_observations : (ws : Words) (a b : Request) → AsksObservations ws a → AsksObservations ws b → b ≡ a
one_observations ws a b h k =
    k.is ∙ ap (λ (n : ℕ). OverFiles (task.Observations n))
    (one_at IsStreamWord one_stream ws 0 h.stream k.stream h.is_stream k.is_stream) ∙ sym h.is

one_overnight : (ws : Words) (a b : Request) → AsksOvernight ws a → AsksOvernight ws b → b ≡ a
one_overnight ws a b h k =
    k.is ∙ ap (λ (n : ℕ). OverFiles (task.Overnight n))
    (one_at IsStreamWord one_stream ws 0 h.stream k.stream h.is_stream k.is_stream) ∙ sym h.is

one_average : (ws : Words) (a b : Request) → AsksAverage ws a → AsksAverage ws b → b ≡ a
one_average ws a b h k =
    let n = one_at IsStreamWord one_stream ws 0 h.stream k.stream h.is_stream k.is_stream in
    let m = one_at IsMeanWord one_mean ws 1 h.mean k.mean h.is_mean k.is_mean in
    let s = one_at IsStepWord one_step ws 2 h.step k.step h.is_step k.is_step in
    k.is ∙ ap (λ (x : ℕ). OverFiles (task.Average x k.mean k.step)) n
    ∙ ap (λ (x : Mean). OverFiles (task.Average h.stream x k.step)) m
    ∙ ap (λ (x : ℕ). OverFiles (task.Average h.stream h.mean x)) s ∙ sym h.is

one_interpolate : (ws : Words) (a b : Request) → AsksInterpolate ws a → AsksInterpolate ws b → b ≡ a
one_interpolate ws a b h k =
    let n = one_at IsStreamWord one_stream ws 0 h.stream k.stream h.is_stream k.is_stream in
    let s = one_at IsSideWord one_side ws 1 h.side k.side h.is_side k.is_side in
    let l = one_at IsTenorWord one_tenor ws 2 h.low k.low h.is_low k.is_low in
    let m = one_at IsTenorWord one_tenor ws 3 h.high k.high h.is_high k.is_high in
    k.is ∙ ap (λ (x : ℕ). OverFiles (task.Interpolate x k.side k.low k.high)) n
    ∙ ap (λ (x : Side). OverFiles (task.Interpolate h.stream x k.low k.high)) s
    ∙ ap (λ (x : Frequency). OverFiles (task.Interpolate h.stream h.side x k.high)) l
    ∙ ap (λ (x : Frequency). OverFiles (task.Interpolate h.stream h.side h.low x)) m ∙ sym h.is

one_request : (k : Kind) (ws : Words) (r q : Request) → IsRequest k ws r → IsRequest k ws q → q ≡ r
one_request kind.Check ws r q h i = i ∙ sym h
one_request kind.Schedule ws r q h i = i ∙ sym h
one_request kind.Audit ws r q h i = i ∙ sym h
one_request kind.Breaks ws r q h i = one_breaks ws r q h i
one_request kind.Bulk ws r q h i = one_bulk ws r q h i
one_request kind.Emit ws r q h i = i ∙ sym h
one_request kind.EmitXml ws r q h i = i ∙ sym h
one_request kind.Accrue ws r q h i = one_accrue ws r q h i
one_request kind.Net ws r q h i = i ∙ sym h
one_request kind.Observations ws r q h i = one_observations ws r q h i
one_request kind.Overnight ws r q h i = one_overnight ws r q h i
one_request kind.Average ws r q h i = one_average ws r q h i
one_request kind.Interpolate ws r q h i = one_interpolate ws r q h i
one_request kind.Carrier ws r q h i = i.is ∙ sym h.is

-- the parameters of a request lie in their ranges
lawful_by : (k : Kind) (ws : Words) (r : Request) → IsRequest k ws r → IsLawfulRequest r
lawful_by kind.Check ws r h = subst IsLawfulRequest (sym h) tt
lawful_by kind.Schedule ws r h = subst IsLawfulRequest (sym h) tt
lawful_by kind.Audit ws r h = subst IsLawfulRequest (sym h) tt
lawful_by kind.Breaks ws r h = subst IsLawfulRequest (sym h.is) tt
lawful_by kind.Bulk ws r h = subst IsLawfulRequest (sym h.is) h.is_count.is.to_most
lawful_by kind.Emit ws r h = subst IsLawfulRequest (sym h) tt
lawful_by kind.EmitXml ws r h = subst IsLawfulRequest (sym h) tt
lawful_by kind.Accrue ws r h = subst IsLawfulRequest (sym h.is) tt
lawful_by kind.Net ws r h = subst IsLawfulRequest (sym h) tt
lawful_by kind.Observations ws r h = subst IsLawfulRequest (sym h.is) tt
lawful_by kind.Overnight ws r h = subst IsLawfulRequest (sym h.is) tt
lawful_by kind.Average ws r h = subst IsLawfulRequest (sym h.is) (step_lawful h.is_step.word h.step h.is_step.is)
lawful_by kind.Interpolate ws r h =
    subst IsLawfulRequest (sym h.is) (
      h.is_low.is.lawful,
      h.is_high.is.lawful,
    )
lawful_by kind.Carrier ws r h = subst IsLawfulRequest (sym h.is) tt

-- a command with this request and these files
abbrev asked : Request → List Wanted → Asked
asked r fs = record { request = r; files = fs }

one_as : (k : Kind) (ws : Words) (a b : Asked) → AsksAs k ws a → AsksAs k ws b → b ≡ a
one_as k ws a b h i =
    ap (λ (r : Request). asked r b.files)
    (one_request k ws a.request b.request h.request i.request)
    ∙ ap (λ (f : List Wanted). asked a.request f) (i.files ∙ sym h.files)

same_kind : (w : List ℕ) (k l : Kind) → command_of w ≡ Some k → command_of w ≡ Some l → l ≡ k
same_kind w k l h i = same_Some l k (sym i ∙ h)

-- words are one command at most
pub one_command : (ws : Words) (a b : Asked) → Asks ws a → Asks ws b → b ≡ a
one_command [] a b h k = absurd h
one_command (w ∷ ws) a b h k =
    one_as h.0 ws a b h.2 (subst (λ (x : Kind). AsksAs x ws b) (same_kind w h.0 k.0 h.1 k.1) k.2)

-- ---- the command of words

-- where no command is found the words are no listed command
pub unlisted_by : (ws : Words) (o : Option Command) → IsCommand ws (option_map asked_by o) → o ≡ None → IsListed ws → ⊥
unlisted_by ws o e n = subst (λ (x : Option Command). IsCommand ws (option_map asked_by x)) n e

-- the command that is found is the one of the words
pub asks_by : (ws : Words) (o : Option Command) (c : Command) → IsCommand ws (option_map asked_by o) → o ≡ Some c
    → Asks ws (asked_by c)
asks_by ws o c e is = subst (λ (x : Option Command). IsCommand ws (option_map asked_by x)) is e

-- the command of a name is that of the words
pub command_by : (w : List ℕ) (ws : Words) (k : Kind) (o : Option Asked) → command_of w ≡ Some k → IsCommandAs k ws o
    → IsCommand (w ∷ ws) o
command_by w ws k None e h = λ l. h l.0 (subst (λ (x : Kind). AsksAs x ws l.0) (same_kind w k l.1.0 e l.1.1) l.1.2)
command_by w ws k (Some a) e h = (k, e, h)

-- words with an unknown name are no listed command
pub no_kind : (w : List ℕ) (ws : Words) → command_of w ≡ None → IsListed (w ∷ ws) → ⊥
no_kind w ws e l = let i : command_of w ≡ Some l.1.0 = l.1.1 in cc

-- a listed command's kind and words
pub record Formed (a : Asked) : Type 0 where
  pub kind : Kind
  pub words : Words
  pub form : AsksAs kind words a

formed : (ws : Words) (a : Asked) → Asks ws a → Formed a
formed [] a h = absurd h
formed (w ∷ ws) a h = record { kind = h.0; words = ws; form = h.2 }

-- ---- how many calendars there are

-- 1 for a calendar, else 0
abbrev pub is_cal : Role → ℕ
is_cal Document = 0
is_cal Fixings = 0
is_cal Flows = 0
is_cal Calendar = 1

-- the number of calendars among files
abbrev pub cals : List Wanted → ℕ
cals [] = 0
cals (w ∷ ws) = is_cal w.role + cals ws

-- the number of calendars among roles
abbrev all_cals : List Role → ℕ
all_cals [] = 0
all_cals (r ∷ rs) = is_cal r + all_cals rs

-- in a row of the table the roles are no calendars, and its most calendars are no more than a reader takes
row_fits : (k : Kind) → (all_cals (roles_of k) ≡ 0) × (calendars_of k ≤ most_calendars)
row_fits kind.Check = (refl, omega arith)
row_fits kind.Schedule = (refl, omega arith)
row_fits kind.Audit = (refl, omega arith)
row_fits kind.Breaks = (refl, omega arith)
row_fits kind.Bulk = (refl, omega arith)
row_fits kind.Emit = (refl, omega arith)
row_fits kind.EmitXml = (refl, omega arith)
row_fits kind.Accrue = (refl, omega arith)
row_fits kind.Net = (refl, omega arith)
row_fits kind.Observations = (refl, omega arith)
row_fits kind.Overnight = (refl, omega arith)
row_fits kind.Average = (refl, omega arith)
row_fits kind.Interpolate = (refl, omega arith)
row_fits kind.Carrier = (refl, omega arith)

one_cal : (r : Role) → is_cal r ≤ 1
one_cal Document = omega arith
one_cal Fixings = omega arith
one_cal Flows = omega arith
one_cal Calendar = omega arith

role_plain : (roles : List Role) (i : ℕ) → all_cals roles ≡ 0 → i < length roles → is_cal (role_at roles i) ≡ 0
role_plain [] i e less = absurd (omega (arith, less))
role_plain (r ∷ rs) zero e less = omega (arith, e)
role_plain (r ∷ rs) (suc i) e less = role_plain rs i (omega (arith, e)) (omega (arith, less))

cals_kept : (r : Role) (place : ℕ) (w : List ℕ) (b : Bool) (xs : List Wanted)
    → cals ((if b then record { place = place; role = r; name = w } ∷ [] else []) ++ xs) ≤ is_cal r + cals xs
cals_kept r place w true xs = omega arith
cals_kept r place w false xs = omega arith

few_from : (roles : List Role) (place i : ℕ) (ws : Words) → all_cals roles ≡ 0
    → cals (files_from roles place i ws) ≤ length ws - (length roles - i)
few_from roles place i [] e = omega arith
few_from roles place i (w ∷ ws) e =
    let rest = files_from roles (place + 1) (i + 1) ws in
    let r = role_at roles i in
    let here : cals (kept_file r place w ++ rest) ≤ is_cal r + cals rest = cals_kept r place w (is_file r w) rest in
    let more : cals rest ≤ length ws - (length roles - (i + 1)) = few_from roles (place + 1) (i + 1) ws e in
    elim (cases_lt i (length roles)) [
      | inl less ↦ let p : is_cal r ≡ 0 = role_plain roles i e less in omega (arith, here, more, p, less)
      | inr past ↦ let p : is_cal r ≤ 1 = one_cal r in omega (arith, here, more, p, past)
    ]

both : (a b : Bool) → (a && b) ≡ true → (a ≡ true) × (b ≡ true)
both true b e = (refl, e)
both false b e = cc

at_most : (a b : ℕ) → nat_le a b ≡ true → a ≤ b
at_most a b e = grind (arith, nat_tests)

-- a command has at most 16 calendars
pub few_cals : (ws : Words) (a : Asked) → Asks ws a → cals a.files ≤ most_calendars
few_cals ws a h =
    let f = formed ws a h in
    let p = params_of f.kind in
    let roles = roles_of f.kind in
    let row = row_fits f.kind in
    let n = length f.words in
    let tests = both (nat_le (p + length roles) n) (nat_le n (p + length roles + calendars_of f.kind)) f.form.fits in
    let most : n ≤ p + length roles + calendars_of f.kind =
    at_most n (p + length roles + calendars_of f.kind) tests.1 in
    let few : cals (files_from roles (p + 1) 0 (drop p f.words)) ≤ length (drop p f.words) - (length roles - 0) =
    few_from roles (p + 1) 0 (drop p f.words) row.0 in
    let left : length (drop p f.words) ≡ n - p = length-drop p f.words in
    let bound : cals (files_from roles (p + 1) 0 (drop p f.words)) ≤ most_calendars =
    omega (arith, few, left, most, row.1) in
    subst (λ (l : List Wanted). cals l ≤ most_calendars) (sym f.form.files) bound

-- the parameters of a listed command lie in their ranges
pub lawful_asked : (ws : Words) (a : Asked) → Asks ws a → IsLawfulRequest a.request
lawful_asked ws a h = let f = formed ws a h in
    lawful_by f.kind f.words a.request f.form.request
