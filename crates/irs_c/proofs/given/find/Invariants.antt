use Rattle.std.proofs.Common.{◌≡◌, drop}
use Rattle.irs_c.specs.Each.{file_in}
use Rattle.irs_c.proofs.given.find.Given as goal

-- the files so far have another name
abbrev pub invariant-loop-file : goal.invariant-loop-file
invariant-loop-file l = file_in (drop l.file-index l.files) l.name ≡ file_in l.files l.name
