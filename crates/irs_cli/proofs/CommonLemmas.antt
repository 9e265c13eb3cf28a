-- What a run says whose common files were read before.
use Rattle.std.proofs.Common.{◌≡◌, ℕ, List, Option, true, false, sym, subst, arith}
use Rattle.irs_answers.specs.Due.{AreRead, Ends}
use Rattle.irs_answers.specs.Forms.{Given, IsWithinLimits, files_given_by, no_files}
use Rattle.irs_answers.specs.declared.causes.Cause.{Cause}
use Rattle.irs_answers.specs.declared.common.Common.{Common}
use Rattle.irs_answers.specs.declared.files.TaskFiles.{TaskFiles}
use Rattle.irs_answers.specs.declared.notes.Note.{Note}
use Rattle.irs_cli.specs.Run.{IsCauseFor, IsNotedFor, IsReplyCause, DueOf, Replies, source}
use Rattle.irs_cli.specs.Commands.{Asked, Asks, Wanted, Words}
use Rattle.irs_cli.specs.Given.{FailedAt, Gives, Holds, IsGiven, NotLong, Gathers, Told, IsCommon, files_with}
use Rattle.irs_cli.specs.Private.Fetching.{OverAt, Stops}
use Rattle.irs_cli.specs.declared.fetching.Unfetched.{Unfetched}
use Rattle.irs_cli.specs.declared.fetching.Unfetched.TheVariants.{NoFile, TooLong, Memory}
use Rattle.irs_cli.proofs.CommandLemmas.{few_cals, one_command}
use Rattle.irs_cli.proofs.FetchLemmas.{held_short}
use Rattle.irs_cli.proofs.FileLemmas.{gathers_within}
use Rattle.irs_cli.proofs.RunLemmas.{ended_replies}
use Rattle.irs_cli.proofs.SharingLemmas.{cals_common, gathers_merged, mixed, reached_own}

-- the common files of a command, gathered, are within the limits
pub common_within : (ws : Words) (told : Told) (a : Asked) (h : Given) → Asks ws a
    → Gathers (Holds told) (files_with false a.files) no_files h → IsWithinLimits h
common_within ws told a h asks k =
    gathers_within (Holds told) (files_with false a.files) h (λ name bytes x. x.1)
    (omega (arith, cals_common a.files, few_cals ws a asks)) k

-- the common files of a command, gathered and read
pub is_common : (ws : Words) (told : Told) (gives : Gives) (a : Asked) (f : TaskFiles) (c : Common) (ns : List Wanted)
    → Asks ws a → ns ≡ files_with false a.files → Gathers (Holds told) ns no_files (files_given_by f)
    → Gathers (IsGiven gives) ns no_files (files_given_by f) → c.files ≡ f → AreRead c → IsCommon ws told gives c
is_common ws told gives a f c ns asks part held given same read =
    record {
      asked = a;
      asks = asks;
      held =
          subst (λ (l : List Wanted). Gathers (Holds told) l no_files (files_given_by c.files)) part
          (subst (λ (x : TaskFiles). Gathers (Holds told) ns no_files (files_given_by x)) (sym same) held);
      given =
          subst (λ (l : List Wanted). Gathers (IsGiven gives) l no_files (files_given_by c.files)) part
          (subst (λ (x : TaskFiles). Gathers (IsGiven gives) ns no_files (files_given_by x)) (sym same) given);
      read = read;
    }

module _ (ws : Words) (told : Told) (gives : Gives) (a : Asked) (c : Common) (asks : Asks ws a)
    (common : IsCommon ws told gives c) where
  -- the common files are those of the command
  same : common.asked ≡ a
  same = one_command ws a common.asked asks common.asks

  held : Gathers (Holds told) (files_with false a.files) no_files (files_given_by c.files)
  held = subst (λ (x : Asked). Gathers (Holds told) (files_with false x.files) no_files (files_given_by c.files)) same common.held

  given : Gathers (IsGiven gives) (files_with false a.files) no_files (files_given_by c.files)
  given = subst (λ (x : Asked). Gathers (IsGiven gives) (files_with false x.files) no_files (files_given_by c.files)) same common.given

  -- what stops the fetch of a run's own files stops that of all
  pub stops_with : (failed : Option (List ℕ)) (before now : ℕ) (u : Unfetched)
      → Stops told (files_with true a.files) failed before now u → Stops told a.files failed before now u
  stops_with failed before now (NoFile place) h = (
    reached_own (Holds told) (NotLong told) (FailedAt failed place) (held_short told) a.files no_files
        (files_given_by c.files) held h.0,
    h.1,
  )
  stops_with failed before now (TooLong place) h = (
    reached_own (Holds told) (NotLong told) (OverAt told place) (held_short told) a.files no_files (files_given_by c.files)
        held h.0,
    h.1,
  )
  stops_with failed before now Memory h = tt

  -- what a run says where its own files were fetched
  pub replies_with : (own : Given) (failed : Option (List ℕ)) (before now : ℕ)
      → Gathers (Holds told) (files_with true a.files) no_files own
      → Gathers (IsGiven gives) (files_with true a.files) no_files own → now ≡ before → (status : ℕ) (text : List ℕ)
      → Ends (DueOf a.request (mixed own (files_given_by c.files))) status text
      → Replies ws (source told gives failed before now) status text
  replies_with own failed before now own_held own_given quiet status text h =
      ended_replies ws told gives a (mixed own (files_given_by c.files)) failed before now asks
      (gathers_merged (Holds told) a.files no_files own no_files (files_given_by c.files) own_held held)
      (gathers_merged (IsGiven gives) a.files no_files own no_files (files_given_by c.files) own_given given)
      quiet status text h

  -- the cause of a reply, and what is added to it, where a run's own files were fetched
  pub caused_with : (own : Given) → Gathers (IsGiven gives) (files_with true a.files) no_files own
      → (cause : Cause) (note : Note) (status : ℕ) (text : List ℕ) → IsCauseFor a.request cause status text
      → IsNotedFor a.request (mixed own (files_given_by c.files)) cause note → IsReplyCause ws gives cause note status text
  caused_with own own_given cause note status text is noted =
      record {
        asked = a;
        asks = asks;
        given = mixed own (files_given_by c.files);
        fetched = gathers_merged (IsGiven gives) a.files no_files own no_files (files_given_by c.files) own_given given;
        cause = is;
        noted = noted;
      }
