use Rattle.std.proofs.Common.{◌≡◌, ◌++◌, take}
use Rattle.std.specs.List.{flat_map}
use Rattle.irs_net.specs.Nets.{net_text}
use Rattle.irs_answers.specs.Tasks.{net_header}
use Rattle.irs_answers.proofs.netting.rows_page.Given as goal

-- the text has the rows so far
abbrev pub invariant-loop-row : goal.invariant-loop-row
invariant-loop-row l = record {
  text : l.text.items ≡ net_header ++ flat_map net_text (take l.row-index l.rows);
}
