-- Where the source states every file that the words name, one status and one text are due.
use Rattle.std.proofs.Common.{◌≡◌, ℕ, List, sym, ◌∙◌}
use Rattle.irs_answers.specs.Forms.{Given}
use Rattle.irs_answers.specs.Messages.{Is}
use Rattle.irs_answers.proofs.OneAnswer.{one_carrier, one_due}
use Rattle.irs_bulk.proofs.BulkRunLemmas.{one_bulk}
use Rattle.irs_cli.specs.Commands.{Words}
use Rattle.irs_cli.specs.Run.{Due, DueOf, IsOneAnswer, WordsCase, all_told, long_file, no_command, bad_words, too_long}
use Rattle.irs_cli.specs.Given.{Told, TellsAll}
use Rattle.irs_cli.specs.declared.commands.Request.{Request}
use Rattle.irs_cli.specs.declared.commands.Request.TheVariants.{OverFiles, Bulk, Carrier}

module _ (s u : ℕ) (t v : List ℕ) where
  abbrev Same : Type 0
  Same = (s ≡ u) × (t ≡ v)

  both : (n : ℕ) (text : List ℕ) → Is n text s t → Is n text u v → Same
  both n text h k = (h.0 ∙ sym k.0, h.1 ∙ sym k.1)

  one_of : (r : Request) (g : Given) → DueOf r g s t → DueOf r g u v → Same
  one_of (OverFiles task) g h k = one_due task g s u t v h k
  one_of (Bulk n) g h k = one_bulk s u t v n h k
  one_of Carrier g h k = one_carrier s u t v g.document.bytes h k

  module _ (ws : Words) (told : Told) (h : Due ws told s t) (k : Due ws told u v) where
    words_by : WordsCase ws told → Same
    words_by (no_command never) = both 4 bad_words (h.unlisted never) (k.unlisted never)
    words_by (long_file a place asks first) =
        both 8 (too_long place) (h.long a place asks first) (k.long a place asks first)
    words_by (all_told a g asks files) = one_of a.request g (h.given a g asks files) (k.given a g asks files)

-- one answer is due where the source says what every file holds
pub one_answer : (ws : Words) (told : Told) → TellsAll ws told → IsOneAnswer ws told
one_answer ws told all s u t v h k = words_by s u t v ws told h k (h.case all)
