use Rattle.std.proofs.Common.{◌<◌, ◌≤◌, refl, rules, length}
use Rattle.irs_cli.proofs.FetchLemmas.{front_whole, front_long}
use Rattle.irs_answers.specs.Forms.{too_many}
use Rattle.irs_cli.proofs.fetching.fetch.Goals as goal

pub returns-in-Ok-clause-one : goal.returns-in-Ok-clause-one
returns-in-Ok-clause-one g c =
    let short : length c.in-Ok.bytes.items < too_many = search rules in (
      (
        front_whole too_many (g.F.Files.told c.args.files.now c.args.name.now) c.in-Ok.bytes.items c.in-Ok.ensures.bytes
            short,
        short,
      ),
      (c.in-Ok.ensures.quiet (λ e. cc)).0,
    )

pub returns-in-Ok-2-clause-one : goal.returns-in-Ok-2-clause-one
returns-in-Ok-2-clause-one g c =
    let long : too_many ≤ length c.in-Ok.bytes.items = search rules in (
      refl,
      front_long too_many (g.F.Files.told c.args.files.now c.args.name.now) c.in-Ok.bytes.items
          c.in-Ok.ensures.bytes long,
      (c.in-Ok.ensures.quiet (λ e. cc)).0,
    )
