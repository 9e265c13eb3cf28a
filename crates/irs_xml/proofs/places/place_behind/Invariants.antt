use Rattle.std.proofs.Common.{◌≡◌, ◌+◌, ◌-◌, ◌^◌, ◌<◌, ◌≤◌, drop, length}
use Rattle.irs_xml.specs.Document.{place_after}
use Rattle.irs_xml.proofs.places.place_behind.Given as goal

-- a line or a column passes no more than each byte before it; what is left goes on from here
abbrev pub invariant-loop-byte : goal.invariant-loop-byte
invariant-loop-byte l = record {
  line : l.line ≤ l.byte-index + 1;
  column : l.column ≤ l.byte-index + 1;
  same : length l.bytes < 2 ^ 32 - 1 → place_after l.line l.column (drop l.byte-index l.bytes) ≡ place_after 1 1 l.bytes;
}
