use Rattle.std.proofs.Common.{List, false, subst}
use Rattle.irs_answers.specs.Forms.{files_given_by, no_files}
use Rattle.irs_cli.specs.Commands.{Asks, Wanted, word_texts}
use Rattle.irs_cli.specs.Private.Fetching.{asked_by}
use Rattle.irs_cli.specs.Given.{Holds, Gathers, files_with}
use Rattle.irs_cli.proofs.CommandLemmas.{asks_by}
use Rattle.irs_cli.proofs.CommonLemmas.{common_within}
use Rattle.irs_cli.proofs.SharingLemmas.{part_of}
use Rattle.irs_cli.proofs.sharing.read_common.Goals as goal

pub read-requires : goal.read-requires
read-requires g c =
    let ws = word_texts c.args.words.now in
    let told = g.F.Files.told c.args.files.now in
    let k = c.in-Ok-Some.command in
    let asks : Asks ws (asked_by k) =
    asks_by ws c.in-Ok-Some.field-0 k c.in-Ok-Some.ensures c.in-Ok-Some.field-0-is in
    let part = part_of false c.deref.result.now c.deref-2.result.now c.in-Ok.names.items k.files.items
    c.deref.ensures.value c.deref-2.ensures.value c.in-Ok.ensures in
    let fetched = files_given_by c.in-Ok-fetch_all.fetched in
    let held : Gathers (Holds told) (files_with false (asked_by k).files) no_files fetched =
    subst (λ (l : List Wanted). Gathers (Holds told) l no_files fetched) part c.in-Ok-fetch_all.ensures.all.0 in
    common_within ws told (asked_by k) fetched asks held
