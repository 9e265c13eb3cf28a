use Rattle.std.proofs.Common.{◌≡◌, ◌++◌, map, drop}
use Rattle.irs_cli.specs.Private.Fetching.{wanted_by}
use Rattle.irs_cli.specs.Given.{files_with}
use Rattle.irs_cli.proofs.sharing.names_with.Given as goal

-- the files that were found, and those of the part that are left, are the files of the part
abbrev pub invariant-loop-named : goal.invariant-loop-named
invariant-loop-named l =
    map wanted_by l.found.items ++ files_with l.own (map wanted_by (drop l.named-index l.names))
    ≡ files_with l.own (map wanted_by l.names)
