-- Lines that have one text.
use Rattle.std.proofs.Common.{◌≡◌, codes, refl, arith}
use Rattle.std.proofs.lemmas.Fmt.{decimal_digit}
use Rattle.irs_terms.specs.Paths.{paths, printed_paths, path_of}
use Rattle.irs_answers.specs.Messages.{refused, unreadable}

-- the line of a document without a reading
pub refused_unreadable : refused unreadable ≡ codes "refused K1 0 document 0\n"
unfolding path_of printed_paths paths
refused_unreadable = rw (decimal_digit 1 (omega arith), decimal_digit 0 (omega arith)) refl
