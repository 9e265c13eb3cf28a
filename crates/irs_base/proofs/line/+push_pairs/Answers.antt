use Rattle.std.proofs.Common.{◌+◌, ◌/◌, ◌%◌, ◌-◌, ◌∷◌, ◌++◌, [], ap, ap₂, ◌∙◌, sym, append_assoc, arith, length}
use Rattle.std.proofs.Common.{length-append}
use Rattle.irs_base.specs.Texts.{digit_row}
use Rattle.irs_base.proofs.TextLemmas.{length_digit_row, row_of_pairs}
use Rattle.irs_base.proofs.line.+push_pairs.Goals as goal

pub push-requires : goal.push-requires
push-requires t c =
    omega (
      arith,
      c.requires,
      c.if-places-ge2.true,
      simp length-append at (ap length c.push_pairs.ensures),
      length_digit_row (c.args.places - 2) (c.args.n / 100),
      ap length c.two_digits.ensures,
    )

pub returns-then-places-ge2 : goal.returns-then-places-ge2
returns-then-places-ge2 t c =
    c.push.ensures
    ∙ ap₂ ◌++◌ c.push_pairs.ensures c.two_digits.ensures
    ∙ append_assoc c.args.line.now (digit_row (c.args.places - 2) (c.args.n / 100))
    ((48 + c.args.n % 100 / 10) ∷ (48 + c.args.n % 100 % 10) ∷ [])
    ∙ ap (λ t. c.args.line.now ++ t) (sym (row_of_pairs c.args.places c.args.n c.if-places-ge2.true))
