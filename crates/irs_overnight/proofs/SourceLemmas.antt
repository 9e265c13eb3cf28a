-- What the daily rates of a stream are compounded from is one thing, and the schedule of the swap has it.
use Rattle.std.proofs.Common.{◌≡◌, ℕ, zero, suc, ◌-◌, ◌<◌, ◌≤◌, List, [], ◌∷◌, length, Option, Some, None, IsTrue, refl}
use Rattle.std.proofs.Common.{sym, subst, ◌∙◌, ap, arith}
use Rattle.std.specs.Prelude.{get_or, slice_get}
use Rattle.std.proofs.lemmas.Option.{slice_get_within, slice_get-get_or}
use Rattle.irs_base.specs.Lists.{Every, Pairs}
use Rattle.irs_base.specs.Outcomes.{First}
use Rattle.irs_terms.specs.Faults.{in_stream}
use Rattle.irs_terms.specs.declared.places.Broken.{Broken}
use Rattle.irs_terms.specs.declared.places.Fault.{Fault}
use Rattle.irs_base.proofs.Firsts.{one_first}
use Rattle.irs_terms.specs.declared.amounts.FloatTerms.{FloatTerms}
use Rattle.irs_terms.specs.declared.amounts.Leg.{Leg}
use Rattle.irs_terms.specs.declared.amounts.Leg.TheVariants.{Fixed, Floating}
use Rattle.irs_terms.specs.declared.parameters.CalculationParameters.{CalculationParameters}
use Rattle.irs_terms.specs.declared.stream.Stream.{Stream}
use Rattle.irs_terms.specs.declared.stream_list.Swap.{Swap}
use Rattle.irs_schedule.specs.DaySets.{stream_sets}
use Rattle.irs_schedule.specs.Parts.{is_floating, KeepsBounds, Part, Rises}
use Rattle.irs_schedule.specs.Schedules.{IsPart}
use Rattle.irs_overnight.specs.Overnight.{AreDerived, BreaksDerived, derived_before, OvernightAsked, BreaksDerivedRule}
use Rattle.irs_overnight.specs.Overnight.{HasSource, IsAsked, IsFirstDerived, IsOvernight, OvernightKept, DerivedSource}
use Rattle.irs_overnight.specs.Overnight.{derived_source}
use Rattle.irs_terms.specs.declared.step_list.StepValues.{StepValues}
use Rattle.irs_overnight.specs.Observations.{Floats, PaysFloating}
use Rattle.irs_overnight.specs.declared.derived.DerivedRow.{DerivedRow}
use Rattle.irs_overnight.proofs.DerivedOrder.{derived_ties}
use Rattle.irs_overnight.proofs.RowLemmas.{one_derived}

-- two streams that are the same option are the same
pub same_stream : (x y : Stream) → Some x ≡ Some y → x ≡ y
same_stream x y e = cc

-- two parts that are the same option are the same
pub some_part : (x y : Part) → Some x ≡ Some y → x ≡ y
some_part x y e = cc

-- floating legs that are equal have equal terms
pub some_float : (x y : FloatTerms) → Floating x ≡ Floating y → x ≡ y
some_float x y e = cc

-- a stream pays one floating rate
pub one_pays : (swap : Swap) (number : ℕ) (f g : FloatTerms) → PaysFloating swap number f
    → PaysFloating swap number g → f ≡ g
one_pays swap number f g p q =
    let same = same_stream p.stream q.stream (sym p.at ∙ q.at) in
    some_float f g (sym p.pays ∙ ap (λ (s : Stream). s.leg) same ∙ q.pays)

-- there is one source
pub one_source : (a : OvernightAsked) (x y : DerivedSource) → HasSource a x → HasSource a y → x ≡ y
one_source a x y p q =
    let floats = one_pays a.swap a.number p.float q.float p.pays q.pays in
    let parts = some_part p.part q.part (sym p.at ∙ q.at) in
    let same : derived_source p.part p.float.index a.days a.rates ≡ derived_source q.part q.float.index a.days a.rates =
    (λ t. derived_source (parts t) (floats t).index a.days a.rates) in
    p.is ∙ same ∙ sym q.is

-- the partner of a member
pub partner : (R : Stream → Part → Type 0) (ss : List Stream) (ps : List Part) (i : ℕ) (s : Stream) → Pairs R ss ps
    → slice_get ss i ≡ Some s → (p : Part) × (slice_get ps i ≡ Some p) × R s p
partner R [] [] i s pairs at = absurd (cc)
partner R [] (p ∷ ps) i s pairs at = absurd pairs
partner R (x ∷ ss) [] i s pairs at = absurd pairs
partner R (x ∷ ss) (p ∷ ps) zero s pairs at = (p, refl, subst (λ (y : Stream). R y p) (same_stream x s at) pairs.0)
partner R (x ∷ ss) (p ∷ ps) (suc i) s pairs at = partner R ss ps i s pairs.1 at

-- the part of the stream, which floats
pub asked_part : (a : OvernightAsked) → IsAsked a → (p : Part) × (slice_get a.parts (a.number - 1) ≡ Some p) × IsTrue p.floating
asked_part a h =
    let pays = h.floats.1 in
    let found = partner (λ s p. IsPart (stream_sets h.calendars s) [] s p) a.swap.streams a.parts
    (a.number - 1) pays.stream h.schedule pays.at in
    let floats : found.0.floating ≡ is_floating (Floating h.floats.0) = found.2.floating ∙ ap is_floating pays.pays in
    (found.0, found.1, floats)

-- what holds for each part holds for the one at a place
pub every_at : (P : Part → Type 0) (ps : List Part) (i : ℕ) (p : Part) → Every P ps → slice_get ps i ≡ Some p → P p
every_at P [] i p each at = absurd (cc)
every_at P (x ∷ ps) zero p each at = subst P (some_part x p at) each.0
every_at P (x ∷ ps) (suc i) p each at = every_at P ps i p each.1 at

module _ (a : OvernightAsked) (source : DerivedSource) (has : HasSource a source) where
  -- rows over that source are the rates of the stream
  pub overnight_rows : (rows : List DerivedRow) → AreDerived source rows → IsOvernight a rows
  overnight_rows rows derived = record { source = source; has = has; derived = derived }

  breaks_source : (f : Fault) → BreaksDerivedRule a f → BreaksDerived source f
  breaks_source f b = subst (λ (s : DerivedSource). BreaksDerived s f) (one_source a b.source source b.has has) b.breaks

  -- where no rule is broken over that source, none is for the stream
  pub overnight_kept : ((f : Fault) → BreaksDerived source f → ⊥) → OvernightKept a
  overnight_kept kept f b = kept f (breaks_source f b)

  -- the first rule broken over that source is the first for the stream
  pub overnight_broken : (f : Fault) (x : Broken) → First derived_before (BreaksDerived source) f
      → x ≡ in_stream a.number f → IsFirstDerived a x
  overnight_broken f x first is = record {
    fault = f;
    first = (record { source = source; has = has; breaks = first.0 }, λ g b. first.1 g (breaks_source g b));
    is = is;
  }

-- there is one list of rates
pub one_overnight : (a : OvernightAsked) → Every KeepsBounds a.parts → (xs ys : List DerivedRow) → IsOvernight a xs
    → IsOvernight a ys → xs ≡ ys
one_overnight a bounds xs ys p q =
    let same = one_source a p.source q.source p.has q.has in
    let part = every_at KeepsBounds a.parts (a.number - 1) q.has.part bounds q.has.at in
    let is = q.has.is in
    let rises : Rises q.source.adjusted = rw is part.adjusted_rises in
    one_derived q.source rises xs ys (subst (λ (s : DerivedSource). AreDerived s xs) same p.derived) q.derived

-- and one first rule that is broken
pub one_broken : (a : OvernightAsked) (x y : Broken) → IsFirstDerived a x → IsFirstDerived a y → x ≡ y
one_broken a x y p q =
    let same : p.fault ≡ q.fault =
    one_first derived_before derived_ties (BreaksDerivedRule a) p.fault q.fault p.first q.first in
    p.is ∙ ap (in_stream a.number) same ∙ sym q.is

-- a stream that is there isn't missing
pub lacks : (o : Option Stream) (s : Stream) → o ≡ None → o ≡ Some s → ⊥
lacks o s p q = cc

-- parts are at the places of the list alone
pub asked_place : (a : OvernightAsked) → IsAsked a → (1 ≤ a.number) × (a.number - 1 < length a.parts)
asked_place a h = let found = asked_part a h in
    (h.floats.1.from_one, slice_get_within a.parts (a.number - 1) found.0 found.1)

-- the part that is read there has the source
pub has_source : (a : OvernightAsked) → (h : IsAsked a) → (float : FloatTerms) → PaysFloating a.swap a.number float → (p : Part)
    → slice_get a.parts (a.number - 1) ≡ Some p → HasSource a (derived_source p float.index a.days a.rates)
has_source a h float pays p at = record { float = float; pays = pays; part = p; at = at; is = refl }

-- the part of a requested stream floats
pub part_floats : (a : OvernightAsked) → IsAsked a → (p : Part) → slice_get a.parts (a.number - 1) ≡ Some p → IsTrue p.floating
part_floats a h p at =
    let found = asked_part a h in
    subst (λ (x : Part). IsTrue x.floating) (some_part found.0 p (sym found.1 ∙ at)) found.2

-- a part that is read at its place
pub part_read : (ps qs : List Part) (place : ℕ) (p : Part) → qs ≡ ps → place < length ps → p ≡ get_or qs place p
    → slice_get ps place ≡ Some p
part_read ps qs place p same low is =
    let here : p ≡ get_or ps place p = rw same at is in
    slice_get-get_or ps place p low ∙ ap (λ (x : Part). Some x) (sym here)

stated : (o : Option CalculationParameters) (p : CalculationParameters) → o ≡ None → o ≡ Some p → ⊥
stated o p a b = cc

plain_by : (swap : Swap) (number : ℕ) (s : Stream) (float : FloatTerms) (parameters : Option CalculationParameters)
    → 1 ≤ number → slice_get swap.streams (number - 1) ≡ Some s → s.leg ≡ Floating float → float.parameters ≡ parameters
    → ((Floats swap number → ⊥) → ⊥) → Floats swap number
plain_by swap number s float None low at is plain not_none =
    (float, record { from_one = low; stream = s; at = at; pays = is; plain = plain })
plain_by swap number s float (Some p) low at is given not_none =
    absurd (not_none (λ h.
    let same = same_stream h.1.stream s (sym h.1.at ∙ at) in
    let leg : Floating h.0 ≡ Floating float = sym h.1.pays ∙ ap (λ (z : Stream). z.leg) same ∙ is in
    let none : float.parameters ≡ None =
    ap (λ (f : FloatTerms). f.parameters) (sym (some_float h.0 float leg)) ∙ h.1.plain in
    stated float.parameters p none given))

floats_by : (swap : Swap) (number : ℕ) (s : Stream) (leg : Leg) → 1 ≤ number
    → slice_get swap.streams (number - 1) ≡ Some s → s.leg ≡ leg → ((Floats swap number → ⊥) → ⊥) → Floats swap number
floats_by swap number s (Floating float) low at is not_none =
    plain_by swap number s float float.parameters low at is refl not_none
floats_by swap number s (Fixed values) low at is not_none =
    absurd (not_none (λ h. is_fixed s h.1.stream h.0 values (same_stream h.1.stream s (sym h.1.at ∙ at)) h.1.pays is))
  where
    is_fixed : (x y : Stream) (f : FloatTerms) (v : StepValues) → y ≡ x → y.leg ≡ Floating f → x.leg ≡ Fixed v → ⊥
    is_fixed x y f v e p q = different (Floating f) (Fixed v) f v refl refl (sym p ∙ ap (λ (z : Stream). z.leg) e ∙ q)
      where
        different : (a b : Leg) (g : FloatTerms) (w : StepValues) → a ≡ Floating g → b ≡ Fixed w → a ≡ b → ⊥
        different a b g w m n o = cc

floats_read : (swap : Swap) (number : ℕ) (read : Option Stream) → 1 ≤ number
    → slice_get swap.streams (number - 1) ≡ read → ((Floats swap number → ⊥) → ⊥) → Floats swap number
floats_read swap number (Some s) low at not_none = floats_by swap number s s.leg low at refl not_none
floats_read swap number None low at not_none =
    absurd (not_none (λ h. lacks (slice_get swap.streams (number - 1)) h.1.stream at h.1.at))

-- where `check_stream` finds nothing the stream floats
pub floats_there : (swap : Swap) (number : ℕ) → ((Floats swap number → ⊥) → ⊥) → Floats swap number
floats_there swap zero not_none = absurd (not_none (λ h. let low = h.1.from_one in omega (arith, low)))
floats_there swap (suc n) not_none =
    floats_read swap (suc n) (slice_get swap.streams (suc n - 1)) (omega arith) refl not_none
