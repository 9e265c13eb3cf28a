use Rattle.std.proofs.Common.{◌≡◌, ◌+◌, ◌++◌, map, drop}
use Rattle.irs_cli.specs.Commands.{word_texts, params_of, roles_of, files_from}
use Rattle.irs_cli.specs.Private.Fetching.{wanted_by}
use Rattle.irs_cli.proofs.commands.files_of.Given as goal

-- the files so far and those of the words that are left are the files of the command
abbrev pub invariant-loop-index : goal.invariant-loop-index
invariant-loop-index l = record {
  place : l.place ≡ params_of l.fn.kind + 1 + l.index;
  files : map wanted_by l.files.items ++ files_from (roles_of l.fn.kind) l.place l.index (drop l.index (word_texts l.words))
      ≡ files_from (roles_of l.fn.kind) (params_of l.fn.kind + 1) 0 (word_texts l.words);
}
