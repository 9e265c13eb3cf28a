-- The first fault of the calculation periods of a stream, one after another.
use Rattle.irs_base.specs.Limits.{most_rows}
use Rattle.irs_elements.proofs.First.{Below, first_is, first_more, first_one, first_same}
use Rattle.irs_flows.specs.FlowFaults.{FaultIf, PeriodFault, PeriodsFault, flow_broken_at, flow_periods_of, in_period}
use Rattle.irs_flows.specs.FlowFaults.{many_periods, periods_in}
use Rattle.irs_read.proofs.Each.{Each, each_one}
use Rattle.irs_terms.specs.declared.places.{Broken.Broken, Rule.TheVariants.K7}
use Rattle.irs_terms.specs.{Elements.flow_period, Faults.IsFirstBroken, Faults.earlier_broken}
use Rattle.serde_json.specs.{Data.Data, View.view, declared.value.Value.Value}
use Rattle.std.proofs.Common.{◌≡◌, ℕ, ◌+◌, ◌<◌, ◌≤◌, Bool, true, false, if◌then◌else◌, List, [], ◌∷◌, length}
use Rattle.std.proofs.Common.{Option, Some, None, drop, slice_get, refl, sym, ◌∙◌, arith, ap, get_or, map, ◌++◌}
use Rattle.std.proofs.lemmas.{List.drop_more, List.length-drop, Option.slice_get-get_or, Option.slice_get_within}

-- a fault that depends on a test is the first where the test is true
pub first_if : (b : Bool) (x : Broken) (a : Option Broken) → a ≡ (if b then Some x else None)
    → IsFirstBroken (FaultIf b x) a
first_if true x a is = first_is _ _ a is (first_one _ x (refl, refl) (λ g q. q.1))
first_if false x a is = first_is _ None a is (λ g q. cc)

-- ---- what is left of the payments

-- the periods of the next payment, and of those after it
pub payment_left : (vs : List Value) (i : ℕ) (v : Value) (list : List Value) → i < length vs → v ≡ get_or vs i v
    → map view list ≡ periods_in (view v)
    → flow_periods_of (map view (drop i vs)) ≡ map view list ++ flow_periods_of (map view (drop (i + 1) vs))
payment_left vs i v list lt is these = rw (drop_more vs i v lt) (rw (sym is) (rw these refl))

-- ---- the periods of a stream

module _ (stream : ℕ) (ds : List Data) where
  -- the faults of a period by the number of those before
  abbrev Fault : ℕ → Data → Broken → Type 0
  Fault j = PeriodFault stream (j + 1)

  -- the first fault of the first n periods, which are within the limit, and those that are left
  abbrev pub Looked : ℕ → Option Broken → List Data → Type 0
  Looked n first left = IsFirstBroken (Below (Each Fault ds) n) first × (drop n ds ≡ left) × (n ≤ most_rows)

  module _ (vs : List Value) (k : ℕ) (v : Value) (rest : List Data) (within : k < length vs) (is : v ≡ get_or vs k v) where
    -- the next period, and what is left after it
    next_of : (n : ℕ) → drop n ds ≡ map view (drop k vs) ++ rest
        → (slice_get ds n ≡ Some (view v)) × (drop (n + 1) ds ≡ map view (drop (k + 1) vs) ++ rest)
    next_of n at =
        let e : drop n ds ≡ view v ∷ (map view (drop (k + 1) vs) ++ rest) =
        at ∙ rw (drop_more vs k v within) (rw (sym is) refl) in
        let lt : n < length ds = omega (arith, ap length e, length-drop n ds) in
        let more = drop_more ds n (view v) lt in
        let got = slice_get-get_or ds n (view v) lt in
        (cc, cc)

    -- with one period more
    pub looked_more : (n : ℕ) (a b s : Option Broken) → Looked n a (map view (drop k vs) ++ rest) → n < most_rows
        → s ≡ earlier_broken a b → IsFirstBroken (PeriodFault stream (n + 1) (view v)) b
        → Looked (n + 1) s (map view (drop (k + 1) vs) ++ rest)
    looked_more n a b s (first, at, le) lt e q =
        let (found, left) = next_of n at in
        let one = each_one Fault ds n (view v) b found q in
        (first_is _ _ s e (first_more (Each Fault ds) n a b first one), left, omega (arith, lt))

    -- one period more than the limit breaks K7
    pub many_first : (n : ℕ) (a : Option Broken) → Looked n a (map view (drop k vs) ++ rest) → n ≡ most_rows
        → IsFirstBroken (PeriodsFault stream ds) (Some (flow_broken_at stream K7 flow_period))
    many_first n a (first, at, le) e =
        let more = slice_get_within ds n (view v) (next_of n at).0 in
        first_one _ _ (many_periods (omega (arith, more, e)))
        (λ g q. elim q as (λ k _. k ≡ flow_broken_at stream K7 flow_period) [
          | many_periods h ↦ refl
          | in_period f few r ↦ absurd (omega (arith, more, e, few))
        ])

  -- where none is left, their first fault is the first of all
  pub few_first : (n : ℕ) (a : Option Broken) → Looked n a [] → IsFirstBroken (PeriodsFault stream ds) a
  few_first n a (first, at, le) =
      let all : length ds ≤ n = omega (arith, ap length at, length-drop n ds) in
      first_same _ _ a (λ f (j, (lt, q)). in_period f (omega (arith, all, le)) (j, q))
      (λ f q. elim q as (λ k _. Below (Each Fault ds) n k) [
        | many_periods h ↦ absurd (omega (arith, all, le, h))
        | in_period g h (j, (x, (is, r))) ↦ (j, (omega (arith, all, slice_get_within ds j x is), (x, (is, r))))
      ]) first
