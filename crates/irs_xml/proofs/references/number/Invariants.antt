use Rattle.std.proofs.Common.{◌≡◌, ◌≤◌, length}
use Rattle.irs_xml.specs.Private.Reading.{digits_at, number_at}
use Rattle.irs_xml.proofs.references.number.Given as goal

-- the digits that are left, after this number, give what all of them give
abbrev pub invariant-loop-c : goal.invariant-loop-c
invariant-loop-c l = record {
  same : digits_at l.base l.number l.reader ≡ number_at l.base l.fn.reader;
  small : l.number ≤ 0x11_0000;
  base : l.base ≤ 36;
}

-- each digit that is read shortens what is left
abbrev pub decreases-loop-c : goal.decreases-loop-c
decreases-loop-c l = length l.reader
