use Rattle.std.proofs.Common.{◌∙◌, [], get_or}
use Rattle.irs_cli.specs.declared.commands.Named.{Named}
use Rattle.irs_cli.specs.declared.commands.Role.TheVariants.{Document}
use Rattle.irs_cli.specs.Private.Fetching.{wanted_by}
use Rattle.std.proofs.Common.{map}
use Rattle.irs_answers.specs.Forms.{files_given_by}
use Rattle.irs_cli.proofs.FetchLemmas.{holds_before, stops_before, stops_at, held_more, gathered_more, stored_as, all_by}
use Rattle.irs_cli.specs.Given.{IsGiven}
use Rattle.irs_cli.proofs.fetching.fetch_all.Goals as goal

pub returns-in_err-bytes-clause-all : goal.returns-in_err-bytes-clause-all
returns-in_err-bytes-clause-all g c =
    let told = g.F.Files.told c.args.files.now in
    let later = g.F.Files.told c.loop-named.files in
    let before = g.F.Files.faults c.args.files.now in
    let mid = g.F.Files.faults c.loop-named.files in
    let now = g.F.Files.faults c.fetch.new.files in
    let failed = g.F.Files.failed c.fetch.new.files in
    let e = c.in_err-bytes.field-0.0 in
    let l = c.loop-named in
    all_by told failed before now (map wanted_by c.args.names.now) c.from_residual.result e c.from_residual.ensures.0
    c.from_residual.ensures.1
    (stops_at told c.args.names.now l.named-index _
    (files_given_by l.fetched) failed before now e c.loop-named-test.true l.invariant.held
    (stops_before told later failed before mid now _ _ e l.invariant.told l.invariant.quiet
    c.in_err-bytes.ensures.one))

pub loop-named-preserved : goal.loop-named-preserved
loop-named-preserved g c =
    let told = g.F.Files.told c.args.files.now in
    let later = g.F.Files.told c.loop-named.files in
    let got = c.in_ok-bytes.bytes.items in
    let l = c.loop-named in
    let first : Named = record { place = 0; role = Document; name = record { ref_ptr = (0, 0); now = [] } } in
    let named = get_or c.args.names.now l.named-index first in
    let stored =
    stored_as (files_given_by l.fetched) (files_given_by c.put_file.new.files) named.role named.name.now got c.form_of-form.result
    c.in_ok-put_file.ensures c.form_of-form.ensures in
    record {
      told = λ n. c.fetch.ensures.told n ∙ l.invariant.told n;
      same = λ n k b h. l.invariant.same n k b (c.fetch.ensures.same n k b h);
      given = gathered_more (IsGiven (g.F.Files.gives c.args.files.now)) c.args.names.now l.named-index _
          (files_given_by l.fetched) (files_given_by c.put_file.new.files) got c.loop-named-test.true l.invariant.given
          (l.invariant.same _ _ got c.in_ok-bytes.ensures.given.0, c.in_ok-bytes.ensures.given.1)
          stored;
      quiet = c.in_ok-bytes.ensures.one.1 ∙ l.invariant.quiet;
      held = held_more told c.args.names.now l.named-index _ (files_given_by l.fetched)
          (files_given_by c.put_file.new.files) got c.loop-named-test.true l.invariant.held
          (holds_before told later _ got l.invariant.told c.in_ok-bytes.ensures.one.0) stored;
    }
