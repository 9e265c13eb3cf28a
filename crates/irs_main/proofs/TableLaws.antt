-- The code's lists are those of the specification.
use Rattle.irs_main.specs.Rules.{rows, texts_after, texts_before}
use Rattle.irs_main.specs.WrongWords.{commands, parameter_lines}
use Rattle.irs_main.specs.declared.help.TheConstants.{COMMANDS}
use Rattle.irs_main.specs.declared.usage.TheConstants.{PARAMETERS}
use Rattle.irs_main.specs.declared.table.TheConstants.{AFTER, BEFORE}
use Rattle.std.proofs.Common.{◌≡◌, map, refl}

-- the code's words before an element are those of the specification
pub before_are : map (λ n. n.now) BEFORE ≡ texts_before
unfolding texts_before rows
before_are = refl

-- the code's words after an element are those of the specification
pub after_are : map (λ n. n.now) AFTER ≡ texts_after
unfolding texts_after rows
after_are = refl

-- the code's commands are those of the specification
pub commands_are : map (λ n. n.now) COMMANDS ≡ commands
unfolding commands
commands_are = refl

-- the code's parameters are those of the specification
pub parameters_are : map (λ n. n.now) PARAMETERS ≡ parameter_lines
unfolding parameter_lines
parameters_are = refl
