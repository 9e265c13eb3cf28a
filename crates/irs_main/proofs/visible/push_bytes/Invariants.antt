use Rattle.std.proofs.Common.{◌≡◌, ◌*◌, ◌≤◌, length, take}
use Rattle.irs_main.specs.Shown.{shown_bytes}
use Rattle.irs_main.proofs.visible.push_bytes.Given as goal

-- the bytes so far as they are shown, at most four for each
abbrev pub invariant-loop-byte : goal.invariant-loop-byte
invariant-loop-byte l = record {
  text : l.line ≡ shown_bytes (take l.byte-index l.bytes);
  room : length l.line ≤ 4 * l.byte-index;
}
