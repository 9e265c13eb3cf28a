use Rattle.std.proofs.Common.{◌≡◌, string_bytes}
use Rattle.std.specs.List.{flat_map}
use Rattle.irs_main.specs.Shown.{shown_char}
use Rattle.irs_main.proofs.shown.shown.Given as goal

-- the characters so far as they are shown
abbrev pub invariant-loop-c : goal.invariant-loop-c
invariant-loop-c l = string_bytes l.shown ≡ flat_map shown_char l.yielded
