-- Exchanges listed in order: one more, and the first whose date has no adjusted day.
use Rattle.std.proofs.Common.{◌≡◌, ℕ, zero, suc, ◌+◌, ◌<◌, ◌≤◌, List, [], ◌∷◌, ◌++◌, length, drop, take}
use Rattle.std.proofs.Common.{Option, Some, None, IfSome, ℤ, add-one, ap, append_assoc, arith, drop-cons, get_or, refl}
use Rattle.std.proofs.Common.{◌∙◌, subst, sym}
use Rattle.std.specs.List.{slice_get}
use Rattle.std.proofs.lemmas.List.{take_all}
use Rattle.std.proofs.lemmas.Option.{get_or_from_slice_get, slice_get_within}
use Rattle.irs_terms.specs.Elements.{principal_exchanges}
use Rattle.irs_base.specs.Outcomes.{First}
use Rattle.irs_terms.specs.Faults.{fault_at, comes_before}
use Rattle.irs_base.specs.Limits.{most_exchanges}
use Rattle.irs_base.specs.Lists.{Pairs}
use Rattle.irs_terms.specs.declared.places.Fault.{Fault}
use Rattle.irs_terms.specs.declared.places.Rule.TheVariants.{K33}
use Rattle.irs_base.proofs.MemberLemmas.{none_of_more, pairs_more}
use Rattle.irs_terms.specs.Lawful.{IsLawfulStream}
use Rattle.irs_terms.specs.declared.results.Exchange.{Exchange}
use Rattle.irs_terms.specs.declared.step_list.Step.{Step}
use Rattle.irs_terms.specs.declared.stream.Stream.{Stream}
use Rattle.irs_calendar.specs.GoodDays.{DaySet}
use Rattle.irs_payments.specs.Exchanges.{AreExchanges, BreaksExchanges, IsExchange, LacksTransferDay, change, changes}
use Rattle.irs_payments.specs.Exchanges.{final_of, initial_of, intermediate_of, transfers_of}
use Rattle.irs_payments.specs.Private.Dating.{ListsUpTo, listed_transfer}
use Rattle.irs_payments.specs.declared.exchanges.Listing.{Listing}
use Rattle.irs_payments.specs.declared.exchanges.Transfer.{Transfer}
use Rattle.irs_payments.proofs.ExchangeLemmas.{IsSmall, few_transfers, small_transfers}
use Rattle.irs_payments.proofs.NumberLemmas.{first_in, none_in}

-- the member at which what is left begins
head_left : {X : Type 0} (xs : List X) (n : ℕ) (x : X) (rest : List X) → drop n xs ≡ x ∷ rest
    → slice_get xs n ≡ Some x
head_left [] zero x rest e = absurd (cc)
head_left [] (suc n) x rest e = absurd (cc)
head_left (y ∷ ys) zero x rest e = cc
head_left (y ∷ ys) (suc n) x rest e = head_left ys n x rest e

tail_left : {X : Type 0} (xs : List X) (n : ℕ) (x : X) (rest : List X) → drop n xs ≡ x ∷ rest
    → drop (suc n) xs ≡ rest
tail_left [] zero x rest e = absurd (cc)
tail_left [] (suc n) x rest e = absurd (cc)
tail_left (y ∷ ys) zero x rest e = cc
tail_left (y ∷ ys) (suc n) x rest e = tail_left ys n x rest e

all_left : {X : Type 0} (xs : List X) (n : ℕ) → drop n xs ≡ [] → length xs ≤ n
all_left [] n e = omega arith
all_left (y ∷ ys) zero e = absurd (cc)
all_left (y ∷ ys) (suc n) e = omega (arith, all_left ys n e)

listed_alone : (o : Option Transfer) → listed_transfer o ≡ listed_transfer o ++ []
listed_alone None = refl
listed_alone (Some t) = refl

module _ (s : Stream) (set : DaySet) where
  -- nothing is listed
  pub none_listed : ListsUpTo s set (initial_of s ++ (intermediate_of s ++ final_of s))
      (record { number = 0; list = Some [] })
  none_listed = record {
    within = omega arith;
    is_left = append_assoc (initial_of s) (intermediate_of s) (final_of s);
    dated = λ n low h. absurd (omega (arith, low, h.from_one));
    listed = tt;
  }

  -- one step of the notional on
  pub step_left : (before : ℤ) (steps : List Step) (i : ℕ) (step : Step) (l : Listing) → i < length steps
      → step ≡ get_or steps i step → ListsUpTo s set (changes before (drop i steps) ++ final_of s) l
      → ListsUpTo s set (change before step ++ (changes step.value (drop (i + 1) steps) ++ final_of s)) l
  step_left before steps i step l low at h =
      let first : drop i steps ≡ step ∷ drop (i + 1) steps =
      rw add-one (drop-cons steps i step low ∙ ap (λ x. x ∷ drop (suc i) steps) (sym at)) in
      let rest = changes step.value (drop (i + 1) steps) in
      let moved : changes before (drop i steps) ++ final_of s ≡ change before step ++ (rest ++ final_of s) =
      ap (λ xs. changes before xs ++ final_of s) first ∙ append_assoc (change before step) rest (final_of s) in
      subst (λ (left : List Transfer). ListsUpTo s set left l) moved h

  -- nothing comes after the final one
  pub last_left : (o : Option Transfer) (l : Listing) → listed_transfer o ≡ final_of s → ListsUpTo s set (final_of s) l
      → ListsUpTo s set (listed_transfer o ++ []) l
  last_left o l same h =
      subst (λ (left : List Transfer). ListsUpTo s set left l) (sym same ∙ listed_alone o) h

  -- the exchanges are few, and each is small
  pub few_listed : IsLawfulStream s → (left : List Transfer) (l : Listing) → ListsUpTo s set left l
      → l.number ≤ most_exchanges
  few_listed lawful left l h = omega (arith, h.within, few_transfers s lawful)

  -- the next transfer is small
  pub small_next : IsLawfulStream s → (o : Option Transfer) (left : List Transfer) (l : Listing)
      → ListsUpTo s set (listed_transfer o ++ left) l → IfSome o IsSmall
  small_next lawful None left l h = tt
  small_next lawful (Some t) left l h =
      let at = head_left (transfers_of s) l.number t left h.is_left in
      subst IsSmall (get_or_from_slice_get (transfers_of s) l.number t t at)
      (small_transfers s lawful l.number t (slice_get_within (transfers_of s) l.number t at))

  module _ (t : Transfer) (left : List Transfer) (l : Listing) (h : ListsUpTo s set (t ∷ left) l) where
    at_next : slice_get (transfers_of s) l.number ≡ Some t
    at_next = head_left (transfers_of s) l.number t left h.is_left

    pushed : (x : Exchange) (list : Option (List Exchange)) → IsExchange s set t x
        → IfSome list (λ xs. (before : List Exchange) × (l.list ≡ Some before) × (xs ≡ before ++ x ∷ []))
        → IfSome list (λ xs. Pairs (IsExchange s set) (take (l.number + 1) (transfers_of s)) xs)
    pushed x None is pushes = tt
    pushed x (Some xs) is pushes =
        let before = subst (λ (o : Option (List Exchange)). IfSome o
        (λ ys. Pairs (IsExchange s set) (take l.number (transfers_of s)) ys)) pushes.1 h.listed in
        rw pushes.2 (pairs_more (IsExchange s set) (transfers_of s) l.number pushes.0 t x at_next before is)

    -- the next one has an adjusted day
    pub one_listed : (x : Exchange) (list : Option (List Exchange)) → IsExchange s set t x
        → IfSome list (λ xs. (before : List Exchange) × (l.list ≡ Some before) × (xs ≡ before ++ x ∷ []))
        → ListsUpTo s set left (record { number = l.number + 1; list = list })
    one_listed x list is pushes = record {
      within = omega (arith, slice_get_within (transfers_of s) l.number t at_next);
      is_left = rw add-one (tail_left (transfers_of s) l.number t left h.is_left);
      dated = none_of_more (LacksTransferDay s set) (transfers_of s) l.number t at_next
          (λ lacks. lacks x.adjusted is.adjusted) h.dated;
      listed = pushed x list is pushes;
    }

    -- the next one has none
    pub one_lacks : LacksTransferDay s set t
        → First comes_before (BreaksExchanges s set) (fault_at K33 principal_exchanges (l.number + 1))
    one_lacks lacks =
        first_in K33 principal_exchanges (LacksTransferDay s set) (transfers_of s) l.number t at_next lacks h.dated

  -- all are listed
  pub all_dated : (l : Listing) → ListsUpTo s set [] l → (f : Fault) → BreaksExchanges s set f → ⊥
  all_dated l h =
      none_in K33 principal_exchanges (LacksTransferDay s set) (transfers_of s) l.number
      (all_left (transfers_of s) l.number h.is_left) h.dated

  -- where nothing is left, the list is that of the exchanges
  pub all_listed : (l : Listing) (xs : List Exchange) → ListsUpTo s set [] l → l.list ≡ Some xs → AreExchanges s set xs
  all_listed l xs h same =
      let paired = subst (λ (o : Option (List Exchange)). IfSome o
      (λ ys. Pairs (IsExchange s set) (take l.number (transfers_of s)) ys)) same h.listed in
      subst (λ (ts : List Transfer). Pairs (IsExchange s set) ts xs)
      (take_all l.number (transfers_of s) (all_left (transfers_of s) l.number h.is_left)) paired
