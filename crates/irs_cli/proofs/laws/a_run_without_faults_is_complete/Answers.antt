use Rattle.irs_cli.specs.Commands.{word_texts}
use Rattle.irs_cli.specs.Run.{source, written}
use Rattle.irs_cli.proofs.CompleteLemmas.{complete}
use Rattle.irs_cli.proofs.laws.a_run_without_faults_is_complete.Goals as goal

pub returns : goal.returns
returns g c =
    let files = c.args.files.now in
    let after = c.args.files_after.now in
    let out = c.args.out.now in
    let later = c.args.out_after.now in
    complete (word_texts c.args.words.now)
    (source (g.F.Files.told files) (g.F.Files.gives files) (g.F.Files.failed after) (g.F.Files.faults files)
    (g.F.Files.faults after))
    (written (g.S.Sink.written out) (g.S.Sink.written later) (g.S.Sink.faults out) (g.S.Sink.faults later))
    c.args.status
