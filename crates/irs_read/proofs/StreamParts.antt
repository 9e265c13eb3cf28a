-- What a stream says, by the objects that hold its parts.
use Rattle.irs_elements.specs.Elements.{once}
use Rattle.irs_read.specs.Private.Sayings.{IsSaid, One, StreamParts}
use Rattle.irs_read.specs.StreamElements.{StreamSays, stream_by}
use Rattle.irs_terms.specs.declared.stream.Stream.{Stream}
use Rattle.serde_json.specs.Data.{Data}
use Rattle.std.proofs.Common.{IfOk, List, Option, Result, Some, codes, refl, subst, sym, ◌≡◌}
use Rattle.std.proofs.lemmas.Result.{IfOk-weaker}

one_at : {A : Type 0} (says : Data → A → Type 0) (o : Option Data) (x : Data) (b : A) → Some x ≡ o → One says o b
    → says x b
one_at says o x b e h =
    let (a, (i, k)) = subst (λ (q : Option Data). One says q b) (sym e) h in subst (says x) (sym i) k

at_one : {A : Type 0} (says : Data → A → Type 0) (o : Option Data) (x : Data) (b : A) → Some x ≡ o → says x b
    → One says o b
at_one says o x b e k = subst (λ (q : Option Data). One says q b) e (b, (refl, k))

-- of the objects inside a stream
module _ {dates times amount rates notional steps : Data} (d : Data) (lists : List (Option Data))
    (i0 : Some dates ≡ once (codes "calculationPeriodDates") d)
    (i1 : Some times ≡ once (codes "calculationPeriodFrequency") dates)
    (i2 : Some amount ≡ once (codes "calculationPeriodAmount") d)
    (i3 : Some rates ≡ once (codes "calculation") amount)
    (i4 : Some notional ≡ once (codes "notionalSchedule") rates)
    (i5 : Some steps ≡ once (codes "notionalStepSchedule") notional) where
  parts_of : (s : Stream) → StreamSays lists d s → StreamParts lists d dates times rates steps s
  unfolding StreamSays
  parts_of s said =
      let q : (stream_by lists (Some dates)).says d s =
      subst (λ (o : Option Data). (stream_by lists o).says d s) (sym i0) said in
      let (period, freq) = one_at _ _ _ s i0 q.0 in
      let (notionals, terms) = one_at _ _ _ s i3 (one_at _ _ _ s i2 q.1.1.1.0) in (
        period,
        (
          one_at _ _ _ s i1 freq,
          (
            one_at _ _ _ s i5 (one_at _ _ _ s i4 notionals),
            (terms, (q.1.0, (q.1.1.0, (q.1.1.1.1.0, q.1.1.1.1.1)))),
          ),
        ),
      )

  of_parts : (s : Stream) → StreamParts lists d dates times rates steps s → StreamSays lists d s
  unfolding StreamSays
  of_parts s (period, (freq, (notionals, (terms, (pay, (reset, (stubs, exchanges))))))) =
      let amounts = at_one _ _ _ s i3 (at_one _ _ _ s i4 (at_one _ _ _ s i5 notionals), terms) in
      let q : (stream_by lists (Some dates)).says d s =
      (at_one _ _ _ s i0 (period, at_one _ _ _ s i1 freq), (pay, (reset, (at_one _ _ _ s i2 amounts, (stubs, exchanges))))) in
      subst (λ (o : Option Data). (stream_by lists o).says d s) i0 q

  -- they say what the stream does
  pub parts_said : IsSaid (StreamSays lists d) → IsSaid (StreamParts lists d dates times rates steps)
  parts_said h = (h.0, parts_of h.0 h.1)

  -- and the stream says what they do
  pub parts_say : {E : Type 0} (r : Result Stream E) → IfOk r (StreamParts lists d dates times rates steps)
      → IfOk r (StreamSays lists d)
  parts_say r = IfOk-weaker r _ _ of_parts
