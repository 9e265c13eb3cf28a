-- The table of commands is small.
use Rattle.std.proofs.Common.{◌≤◌, length, arith}
use Rattle.irs_cli.specs.Commands.{params_of, roles_of}
use Rattle.irs_cli.specs.declared.commands.Kind.{Kind}
use Rattle.irs_cli.specs.declared.commands.Kind.TheVariants as kind

-- a command has few parameters
pub few_params : (k : Kind) → params_of k ≤ 4
few_params kind.Check = omega arith
few_params kind.Schedule = omega arith
few_params kind.Audit = omega arith
few_params kind.Breaks = omega arith
few_params kind.Bulk = omega arith
few_params kind.Emit = omega arith
few_params kind.EmitXml = omega arith
few_params kind.Accrue = omega arith
few_params kind.Net = omega arith
few_params kind.Observations = omega arith
few_params kind.Overnight = omega arith
few_params kind.Average = omega arith
few_params kind.Interpolate = omega arith
few_params kind.Carrier = omega arith

-- a command has few files before its calendars
pub few_roles : (k : Kind) → length (roles_of k) ≤ 3
few_roles kind.Check = omega arith
few_roles kind.Schedule = omega arith
few_roles kind.Audit = omega arith
few_roles kind.Breaks = omega arith
few_roles kind.Bulk = omega arith
few_roles kind.Emit = omega arith
few_roles kind.EmitXml = omega arith
few_roles kind.Accrue = omega arith
few_roles kind.Net = omega arith
few_roles kind.Observations = omega arith
few_roles kind.Overnight = omega arith
few_roles kind.Average = omega arith
few_roles kind.Interpolate = omega arith
few_roles kind.Carrier = omega arith
