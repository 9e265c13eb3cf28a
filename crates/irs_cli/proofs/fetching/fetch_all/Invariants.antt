use Rattle.std.proofs.Common.{◌≡◌, ℕ, List, map, take}
use Rattle.irs_cli.specs.Private.Fetching.{wanted_by}
use Rattle.irs_answers.specs.Forms.{files_given_by, no_files}
use Rattle.irs_cli.specs.Given.{Gathers, Holds, IsGiven}
use Rattle.irs_cli.proofs.fetching.fetch_all.Given as goal

-- the files so far are fetched, and the source states the same as before
abbrev pub invariant-loop-named : goal.invariant-loop-named
invariant-loop-named g l = record {
  told : (n : List ℕ) → g.F.Files.told l.files n ≡ g.F.Files.told l.fn.files n;
  same : (n : List ℕ) (k : ℕ) (b : List ℕ) → g.F.Files.gives l.files n k b → g.F.Files.gives l.fn.files n k b;
  given : Gathers (IsGiven (g.F.Files.gives l.fn.files)) (map wanted_by (take l.named-index l.names)) no_files
      (files_given_by l.fetched);
  quiet : g.F.Files.faults l.files ≡ g.F.Files.faults l.fn.files;
  held : Gathers (Holds (g.F.Files.told l.fn.files)) (map wanted_by (take l.named-index l.names)) no_files
      (files_given_by l.fetched);
}
