-- The first departure among the streams.
use Rattle.std.proofs.Common.{◌≡◌, ℕ, false, ◌+◌, ◌-◌, ◌≤◌, List, length, None, inl, inr, refl, sym, subst, arith}
use Rattle.std.specs.Prelude.{slice_get}
use Rattle.std.proofs.lemmas.Bool.{cases_lt, cases_order}
use Rattle.std.proofs.lemmas.Option.{slice_get_past, slice_get-get_or, slice_get_cases}
use Rattle.irs_schedule.specs.Parts.{Part}
use Rattle.irs_audit.specs.declared.departures.Departure.{Departure}
use Rattle.irs_audit.specs.declared.departures.Field.{Field}
use Rattle.irs_audit.specs.declared.departures.Field.TheVariants.{Extra}
use Rattle.irs_audit.specs.declared.departures.RowKind.{RowKind}
use Rattle.irs_audit.specs.declared.departures.RowKind.TheVariants.{Stream}
use Rattle.irs_audit.specs.Verdicts.{StreamDeparts, Departs, departs_before}
use Rattle.irs_flows.specs.FlowReading.{FlowPart}
use Rattle.irs_audit.specs.Private.Comparisons.{OfStream}
use Rattle.irs_base.specs.Outcomes.{First, IsFirst}
use Rattle.irs_base.proofs.Firsts.{level_later}

module _ (f : List FlowPart) (s : List Part) where
  -- no stream up to the one of number i departs
  abbrev pub NoneUpTo : ℕ → Type 0
  NoneUpTo i = (d : Departure) → d.stream ≤ i → Departs f s d → ⊥

  -- a departure of the stream at place i
  abbrev pub OfPlace : ℕ → Departure → Type 0
  OfPlace i = OfStream (i + 1) (slice_get s i) (slice_get f i)

  to_place : (i : ℕ) (d : Departure) → d.stream - 1 ≡ i → Departs f s d → OfPlace i d
  to_place i d e h =
      let low = h.0 in
      let Q : ℕ → Type 0 = λ n. StreamDeparts (slice_get s n) (slice_get f n) d.kind d.row d.field in
      record { stream = omega (arith, e, low); departs = subst Q e h.1 }

  from_place : (i : ℕ) (d : Departure) → OfPlace i d → Departs f s d
  from_place i d m =
      let a = m.stream in
      let e : d.stream - 1 ≡ i = omega (arith, a) in
      let Q : ℕ → Type 0 = λ n. StreamDeparts (slice_get s n) (slice_get f n) d.kind d.row d.field in
      (omega (arith, a), subst Q (sym e) m.departs)

  -- before the first stream none departs
  pub none_before : NoneUpTo 0
  none_before d h m = let low = m.0 in omega (arith, h, low)

  -- where the stream at place i doesn't depart either, no stream up to it does
  pub none_more : (i : ℕ) → NoneUpTo i → IsFirst departs_before (OfPlace i) None → NoneUpTo (i + 1)
  none_more i below here d h m = let low = m.0 in
      elim (cases_lt i d.stream) [ inl l ↦ here d (to_place i d (omega (arith, l, h)) m) | inr l ↦ below d l m ]

  place_order : (i : ℕ) (d e : Departure) → NoneUpTo i → First departs_before (OfPlace i) d → Departs f s e
      → departs_before e d ≡ false
  place_order i d e below here m =
      let low = m.0 in
      let a = (here.0).stream in
      elim (cases_order (e.stream - 1) i) [
        | inl q ↦ here.1 e (to_place i e q m)
        | inr (inl l) ↦ absurd (below e (omega (arith, l, low)) m)
        | inr (inr l) ↦ level_later e.stream d.stream _ (omega (arith, a, l))
      ]

  -- the first departure of the first stream that departs is the first of all
  pub place_found : (i : ℕ) (d : Departure) → NoneUpTo i → First departs_before (OfPlace i) d
      → First departs_before (Departs f s) d
  place_found i d below here = (from_place i d here.0, λ e m. place_order i d e below here m)

  -- where a stream after the schedule's last departs, the one right after that last one is extra
  extra_stream : (j : ℕ) (kind : RowKind) (row : ℕ) (field : Field) → length s ≤ j
      → StreamDeparts (slice_get s j) (slice_get f j) kind row field
      → StreamDeparts (slice_get s (length s)) (slice_get f (length s)) Stream 0 Extra
  extra_stream j kind row field h d =
      let n = length s in
      let e = slice_get_past s n (omega arith) in
      let past = slice_get_past s j h in
      elim (slice_get_cases f j).1 [
        | inl w ↦ let low = w.1 in let there = slice_get-get_or f n w.0 (omega (arith, h, low)) in
            rw (e, there) (refl, refl, refl)
        | inr w ↦ absurd (let q = w.1 in rw (past, q) at d)
      ]

  -- where no stream departs, there is no first departure
  pub none_at_all : NoneUpTo (length s + 1) → IsFirst departs_before (Departs f s) None
  none_at_all below = λ d m. elim (cases_lt (length s + 1) d.stream) [
    | inl l ↦
        let k = extra_stream (d.stream - 1) d.kind d.row d.field (omega (arith, l)) m.1 in
        let n = length s in
        below (record { stream = n + 1; kind = Stream; row = 0; field = Extra }) (omega arith)
        (from_place n (record { stream = n + 1; kind = Stream; row = 0; field = Extra })
        (record { stream = refl; departs = k }))
    | inr l ↦ below d l m
  ]
