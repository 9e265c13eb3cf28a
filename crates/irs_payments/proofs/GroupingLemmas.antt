-- K35: a given payment date is the first that breaks it, or none does.
use Rattle.std.proofs.Common.{◌≡◌, inl, inr, List, Option, Some, None, ℤ, ◌<ℤ◌, false, refl, sym, ◌∙◌, subst, arith}
use Rattle.jiff_core.proofs.SignedLemmas.{signed_arith}
use Rattle.irs_base.specs.Lists.{AreDays, Member}
use Rattle.irs_terms.specs.Elements.{first_payment_date, last_regular_payment_date}
use Rattle.irs_base.specs.Outcomes.{First}
use Rattle.irs_terms.specs.Faults.{fault_at, comes_before}
use Rattle.irs_base.specs.Private.Order.{IsDecided}
use Rattle.irs_terms.specs.declared.places.Rule.TheVariants.{K35}
use Rattle.irs_terms.specs.declared.places.Fault.{Fault}
use Rattle.irs_base.proofs.Decided.{order_of, decides_same}
use Rattle.irs_terms.proofs.FaultOrder.{fault_order}
use Rattle.irs_base.proofs.Firsts.{first_one}
use Rattle.irs_terms.specs.TermDates.{first_day_of}
use Rattle.irs_terms.specs.Lawful.{IsLawfulStream}
use Rattle.irs_terms.specs.declared.stream.Stream.{Stream}
use Rattle.irs_roll.specs.Rolls.{OnGrid}
use Rattle.irs_roll.proofs.GridsDecided.{decides_on_grid}
use Rattle.irs_payments.specs.Payments.{pay_anchor, IsBadFirst, IsBadLast, BreaksFirst, BreaksLast, BreaksGrouping}
use Rattle.irs_payments.proofs.CutsThere.{pay_anchor_day}
use Rattle.irs_payments.proofs.FirstFaults.{FirstOrNone, told, first_left, first_right, first_of_both}
use Rattle.irs_payments.proofs.FirstFaults.{not_before_element}
use Rattle.irs_payments.proofs.StepLemmas.{decides_member}

-- K35 at firstPaymentDate
abbrev at_first : Fault
at_first = fault_at K35 first_payment_date 0

-- K35 at lastRegularPaymentDate
abbrev at_last : Fault
at_last = fault_at K35 last_regular_payment_date 0

-- alone at its element a broken rule is the first of its set
first_alone : (s : Stream) (b : List ℤ) → IsBadFirst s b → First comes_before (BreaksFirst s b) at_first
first_alone s b bad = first_one comes_before fault_order (BreaksFirst s b) at_first (bad, refl) (λ g h. h.1)

last_alone : (s : Stream) (b : List ℤ) → IsBadLast s b → First comes_before (BreaksLast s b) at_last
last_alone s b bad = first_one comes_before fault_order (BreaksLast s b) at_last (bad, refl) (λ g h. h.1)

last_late : (s : Stream) (b : List ℤ) (f g : Fault) → BreaksFirst s b f → BreaksLast s b g → comes_before g f ≡ false
last_late s b f g h k =
    told f g at_first at_last h.1 k.1
    (not_before_element K35 first_payment_date last_regular_payment_date 0 0 (omega arith))

-- a bad first payment date is the first to break K35
pub first_is_first : (s : Stream) (b : List ℤ) → IsBadFirst s b → First comes_before (BreaksGrouping s b) at_first
first_is_first s b bad =
    first_left (BreaksFirst s b) (BreaksLast s b) at_first (first_alone s b bad)
    (λ g h. last_late s b at_first g (bad, refl) h)

-- a bad last regular payment date is the first where the first payment date isn't bad
pub last_is_first : (s : Stream) (b : List ℤ) → (IsBadFirst s b → ⊥) → IsBadLast s b
    → First comes_before (BreaksGrouping s b) at_last
last_is_first s b good bad =
    first_right (BreaksFirst s b) (BreaksLast s b) at_last (λ g h. good h.0) (last_alone s b bad)

-- each of the two dates breaks the rule, or it doesn't

decides_before : (a b : ℤ) → IsDecided (a <ℤ b)
decides_before a b = elim (order_of a b) [
  | inl less ↦ inl less
  | inr rest ↦ inr (λ less. elim rest [
    | inl more ↦ omega (arith, signed_arith, less, more)
    | inr same ↦ omega (arith, signed_arith, less, same)
  ])
]

decides_both : (A B : Type 0) → IsDecided A → IsDecided B → IsDecided (A × B)
decides_both A B (inr neither) other = inr (λ h. neither h.0)
decides_both A B (inl a) (inr neither) = inr (λ h. neither h.1)
decides_both A B (inl a) (inl b) = inl (a, b)

same_some : (a b : ℤ) (o : Option ℤ) → o ≡ Some a → o ≡ Some b → a ≡ b
same_some a b o p q = let e : Some a ≡ Some b = sym p ∙ q in cc

module _ (s : Stream) (b : List ℤ) where
  first_by : (given : Option ℤ) → s.pay.first ≡ given → IsDecided (IsBadFirst s b)
  first_by None is = inr (λ h. let e : None ≡ Some h.first = sym is ∙ h.given in absurd (cc))
  first_by (Some first) is =
      elim (decides_both (Member first b) (first_day_of s <ℤ first) (decides_member first b)
      (decides_before (first_day_of s) first)) [
        | inl on ↦ inr (λ h.
            h.off (subst (λ (d : ℤ). Member d b × (first_day_of s <ℤ d))
            (same_some first h.first s.pay.first is h.given) on))
        | inr off ↦ inl (record { first = first; given = is; off = off })
      ]

  last_on : (last : ℤ) → s.pay.last ≡ Some last → (last ≡ s.termination.day → ⊥)
      → IsDecided (Member last b × OnGrid s.pay.freq s.roll (pay_anchor s b) last) → IsDecided (IsBadLast s b)
  last_on last is early (inr off) = inl (record { last = last; given = is; early = early; off = off })
  last_on last is early (inl on) =
      inr (λ h. h.off (subst (λ (d : ℤ). Member d b
      × OnGrid s.pay.freq s.roll (pay_anchor s b) d) (same_some last h.last s.pay.last is h.given) on))

  last_by : (given : Option ℤ) → s.pay.last ≡ given
      → ((last : ℤ) → s.pay.last ≡ Some last → IsDecided (OnGrid s.pay.freq s.roll (pay_anchor s b) last))
      → IsDecided (IsBadLast s b)
  last_by None is grid = inr (λ h. let e : None ≡ Some h.last = sym is ∙ h.given in absurd (cc))
  last_by (Some last) is grid = elim (decides_same last s.termination.day) [
    | inl end ↦ inr (λ h. h.early (sym (same_some last h.last s.pay.last is h.given) ∙ end))
    | inr early ↦
        last_on last is early
        (decides_both (Member last b) (OnGrid s.pay.freq s.roll (pay_anchor s b) last) (decides_member last b)
        (grid last is))
  ]

  module _ (lawful : IsLawfulStream s) (days : AreDays b) where
    on_grid : (last : ℤ) → s.pay.last ≡ Some last → IsDecided (OnGrid s.pay.freq s.roll (pay_anchor s b) last)
    on_grid last is =
        let day = rw is at lawful.pay.last in
        decides_on_grid s.pay.freq s.roll (pay_anchor s b) last lawful.pay.freq lawful.roll
        (pay_anchor_day s b lawful days) day

    first_decided : FirstOrNone (BreaksFirst s b)
    first_decided = elim (first_by s.pay.first refl) [
      | inl bad ↦ inl (at_first, first_alone s b bad)
      | inr good ↦ inr (λ f h. good h.0)
    ]

    last_decided : FirstOrNone (BreaksLast s b)
    last_decided = elim (last_by s.pay.last refl on_grid) [
      | inl bad ↦ inl (at_last, last_alone s b bad)
      | inr good ↦ inr (λ f h. good h.0)
    ]

    -- one of the dates is the first that breaks K35, or none breaks it
    pub grouping_decided : FirstOrNone (BreaksGrouping s b)
    grouping_decided = first_of_both (BreaksFirst s b) (BreaksLast s b) (last_late s b) first_decided last_decided
