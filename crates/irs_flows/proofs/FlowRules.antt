-- Every fault of cash flows is a rule of the tables of elements.
use Rattle.irs_elements.proofs.TableRules.{of_table}
use Rattle.irs_elements.specs.{Elements.values_in, Private.Walk.IsOfTables}
use Rattle.irs_flows.specs.FlowFaults.{FlowFault, OnceFault, flow_names, flow_rows, in_period, many_periods}
use Rattle.irs_flows.specs.declared.{error.ShapeKind.TheVariants.NotJson, flow_table.TheConstants.OBJECT}
use Rattle.irs_flows.specs.{FlowFaults.period_names, FlowFaults.period_table_rows, FlowReading.shape_kind_of}
use Rattle.irs_json.specs.Leaves.{element_names}
use Rattle.irs_read.specs.Documents.{Way, below, by_root, ended, has, in_stream, many_streams, no_stream, one_object}
use Rattle.irs_read.specs.Documents.{one_swap, onward, outside, swap_below, the_swap, trade_below}
use Rattle.irs_terms.specs.declared.places.Rule.TheVariants.{K2, K3}
use Rattle.irs_terms.specs.{Elements.document, declared.places.Broken.Broken, declared.places.Rule.Rule}
use Rattle.serde_json.specs.Data.{Data}
use Rattle.std.proofs.Common.{if◌then◌else◌, subst, arith}
use Rattle.std.proofs.Common.{◌≢◌, inl, inr, ℕ, ◌+◌, codes, Bool, true, false, List, [], ◌∷◌, Some, Ok, Err, is_some}

-- a rule of the tables has a kind that is reported
pub told : (k : Rule) → IsOfTables k → shape_kind_of k ≢ NotJson
told K2 h e = grind arith
told _ h e = grind arith

-- ---- the rules that end the way to the swap

-- a way that ends, ends at a rule of the tables
abbrev Good : Way → Type 0
Good (Ok d) = Unit {0}
Good (Err f) = IsOfTables f.rule

good_if : (w : Way) (b : Bool) → Good w → Good (if b then w else Err (outside K3 document))
good_if w true h = h
good_if w false h = tt

good_object : (ds : List Data) → Good (one_object ds)
good_object (x ∷ []) = good_if (Ok x) (is_some (element_names x)) tt
good_object _ = tt

good_swap : (ds : List Data) → Good (one_swap ds)
good_swap (x ∷ []) = tt
good_swap _ = tt

good_onward : (w : Way) (go : Data → Way) → Good w → ((d : Data) → Good (go d)) → Good (onward w go)
good_onward (Ok d) go h next = next d
good_onward (Err f) go h next = h

good_trade : (d : Data) → Good (trade_below d)
good_trade d = good_onward _ swap_below (good_object (values_in (codes "trade") (Some d))) (λ x. good_swap _)

good_root : (a b c : Bool) (d : Data) → Good (by_root a b c d)
good_root true false false d = good_swap (values_in (codes "swap") (Some d))
good_root false true false d = good_trade d
good_root false false true d =
    good_onward _ trade_below (good_object (values_in (codes "dataDocument") (Some d))) good_trade
good_root _ _ _ d = tt

good_way : (d : Data) → Good (the_swap d)
good_way d = good_if _ _ (good_root (has (codes "swap") d) (has (codes "trade") d) (has (codes "dataDocument") d) d)

-- ---- the rules that a document breaks

of_once : (stream : ℕ) (ds : List Data) (f : Broken) → OnceFault stream ds f → IsOfTables f.rule
of_once stream [] f is = rw is tt
of_once stream (x ∷ []) f (inl q) = of_table flow_rows flow_names stream 0 0 OBJECT x f q
of_once stream (x ∷ []) f (inr (many_periods h)) = tt
of_once stream (x ∷ []) f (inr (in_period _ h (j, (d, (e, inl q))))) =
    of_table period_table_rows period_names stream 0 (j + 1) OBJECT d f q
of_once stream (x ∷ []) f (inr (in_period _ h (j, (d, (e, inr (t, is)))))) = rw is tt
of_once stream (x ∷ y ∷ rest) f is = rw is tt

-- every fault of cash flows is a rule of the tables
pub of_flows : (d : Data) (f : Broken) → FlowFault d f → IsOfTables f.rule
of_flows d f (ended _ e) = subst Good e (good_way d)
of_flows d f (below s _ e (inl (t, is))) = rw is tt
of_flows d f (below s _ e (inr (t, no_stream h))) = tt
of_flows d f (below s _ e (inr (t, many_streams h))) = tt
of_flows d f (below s _ e (inr (t, in_stream _ lo hi (j, (x, (at, inl (u, is))))))) = rw is tt
of_flows d f (below s _ e (inr (t, in_stream _ lo hi (j, (x, (at, inr (u, q))))))) = of_once (j + 1) _ f q
