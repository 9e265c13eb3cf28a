use Rattle.irs_resets.proofs.WordLemmas.{NoneBefore}
use Rattle.irs_resets.proofs.words.split_word.Given as goal

-- no space or tab is among the bytes so far
abbrev pub invariant-loop-i : goal.invariant-loop-i
invariant-loop-i l = NoneBefore l.bytes l.i
