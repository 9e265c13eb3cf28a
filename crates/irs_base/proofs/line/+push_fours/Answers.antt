use Rattle.std.proofs.Common.{◌/◌, ◌%◌, ◌-◌, ◌++◌, ap, ap₂, ◌∙◌, sym, append_assoc, arith, length, length-append}
use Rattle.irs_base.specs.Texts.{digit_row, two_digits}
use Rattle.irs_base.proofs.TextLemmas.{length_digit_row, row_of_fours}
use Rattle.irs_base.proofs.line.+push_fours.Goals as goal

pub push-requires : goal.push-requires
push-requires t c =
    omega (
      arith,
      c.requires,
      c.if-places-ge4.true,
      simp length-append at (ap length c.push_fours.ensures),
      length_digit_row (c.args.places - 4) (c.args.n / 10000),
      ap length c.four_digits.ensures,
    )

pub returns-then-places-ge4 : goal.returns-then-places-ge4
returns-then-places-ge4 t c =
    c.push.ensures
    ∙ ap₂ ◌++◌ c.push_fours.ensures c.four_digits.ensures
    ∙ append_assoc c.args.line.now (digit_row (c.args.places - 4) (c.args.n / 10000))
    (two_digits (c.args.n % 10000 / 100) ++ two_digits (c.args.n % 10000 % 100))
    ∙ ap (λ t. c.args.line.now ++ t) (sym (row_of_fours c.args.places c.args.n c.if-places-ge4.true))
