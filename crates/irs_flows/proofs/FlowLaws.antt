-- The code's tables of cash flows are those of the specification.
use Rattle.irs_flows.specs.FlowFaults.{flow_names, flow_rows, flow_table, period_names, period_table_rows, period_table}
use Rattle.irs_flows.specs.declared.flow_table.TheConstants.{FLOW_NAMES, FLOW_ROWS, PERIOD_NAMES, PERIOD_ROWS}
use Rattle.irs_terms.specs.Paths.{paths, printed_paths}
use Rattle.std.proofs.Common.{◌≡◌, ℕ, List, map, refl}

-- the names as the code has them
abbrev pub flow_code_names : List (List ℕ)
flow_code_names = map (λ n. n.now) FLOW_NAMES

-- the names of the table of calculation periods, as the code has them
abbrev pub period_code_names : List (List ℕ)
period_code_names = map (λ n. n.now) PERIOD_NAMES

-- the rows of cash flows in the code are those of the definition
pub flow_rows_are : FLOW_ROWS ≡ flow_rows
unfolding flow_rows flow_table printed_paths paths
flow_rows_are = refl

-- the names of cash flows in the code are those of the definition
pub flow_names_are : flow_code_names ≡ flow_names
unfolding flow_names flow_table
flow_names_are = refl

-- the rows of calculation periods in the code are those of the definition
pub period_rows_are : PERIOD_ROWS ≡ period_table_rows
unfolding period_table_rows period_table printed_paths paths
period_rows_are = refl

-- the names of calculation periods in the code are those of the definition
pub period_names_are : period_code_names ≡ period_names
unfolding period_names period_table
period_names_are = refl
