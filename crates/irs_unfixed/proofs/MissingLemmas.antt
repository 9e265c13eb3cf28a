-- The payment at a place of a schedule that has no amount, and the fixing that it lacks.
use Rattle.std.proofs.Common.{◌≡◌, ℕ, zero, suc, ◌+◌, ◌-◌, ◌<◌, ◌^◌, List, [], ◌∷◌, length, Some, None, refl, sym}
use Rattle.std.proofs.Common.{ap, subst, ◌∙◌, arith}
use Rattle.std.specs.Prelude.{get_or, nat_lt, slice_get}
use Rattle.std.proofs.lemmas.Option.{same_Some, slice_get_read, slice_get_within}
use Rattle.irs_base.specs.Outcomes.{First, Spec, each_in_turn, refused_as}
use Rattle.irs_terms.specs.Faults.{in_stream}
use Rattle.irs_base.specs.Lists.{HoldsOf}
use Rattle.irs_base.proofs.CoverLemmas.{LieAmong, covers_at}
use Rattle.irs_base.proofs.EveryLemmas.{pairs_length}
use Rattle.irs_base.proofs.MemberLemmas.{every_get, some_is}
use Rattle.irs_base.proofs.Outcomes.{answer_there}
use Rattle.irs_terms.specs.declared.stream.Stream.{Stream}
use Rattle.irs_rules.proofs.Kept.{lawful_stream, terms_kept}
use Rattle.irs_schedule.specs.DaySets.{stream_sets}
use Rattle.irs_schedule.specs.Schedules.{schedule_of, stream_of, IsPart}
use Rattle.irs_schedule.specs.Parts.{IsWithin, KeepsBounds, Part}
use Rattle.irs_schedule.specs.declared.entries.PaymentEntry.{PaymentEntry}
use Rattle.irs_schedule.proofs.OnePart.{one_schedule, schedule_determined, schedule_is}
use Rattle.irs_unfixed.specs.Unfixed.{Fixing, LacksFixing, IsMadeFrom, PaymentLacks, MadeFrom, UnfixedAt, IsUnrated}
use Rattle.irs_unfixed.specs.Unfixed.{LacksAmount}
use Rattle.irs_unfixed.specs.Private.Made.{IsGap, IsMade}
use Rattle.irs_unfixed.specs.declared.places.PaymentPlace.{PaymentPlace}
use Rattle.irs_unfixed.proofs.MadeLemmas.{stages_of, unrated_there}

-- a member that is read at its place
pub read_at : {X : Type 0} (xs ys : List X) (i : ℕ) (x : X) → ys ≡ xs → i < length xs → x ≡ get_or ys i x
    → slice_get xs i ≡ Some x
read_at xs ys i x same low is =
    slice_get_read xs (length xs) i x refl low (subst (λ (zs : List _). x ≡ get_or zs i x) same is)

-- a part and a payment of it, at a place of a schedule
pub record IsRead (parts : List Part) (u : PaymentPlace) (p : Part) (y : PaymentEntry) : Type 0 where
  pub part : slice_get parts (u.stream - 1) ≡ Some p
  pub payment : slice_get p.payments (u.payment - 1) ≡ Some y

-- each item that is answered has the answer at its place
answer_at : {X A R : Type 0} (spec : ℕ → X → Spec A R) (n : ℕ) (xs : List X) (given : List A)
    → (each_in_turn spec n xs).Answers given → (i : ℕ) (z : X) (a : A) → slice_get xs i ≡ Some z
    → slice_get given i ≡ Some a → (k : ℕ) × (spec k z).Answers a
unfolding each_in_turn
answer_at spec n [] given h i z a at there = absurd (omega (arith, slice_get_within [] i z at))
answer_at {X = X} {A = A} spec n (y ∷ ys) given h zero z a at there =
    let first : Some h.0 ≡ Some a = sym (ap (λ (l : List A). slice_get l 0) h.2.2) ∙ there in
    let is : (spec n y).Answers a = subst (λ (b : A). (spec n y).Answers b) (same_Some h.0 a first) h.1 in
    (n, subst (λ (w : X). (spec n w).Answers a) (same_Some y z at) is)
answer_at {A = A} spec n (y ∷ ys) given h (suc i) z a at there =
    let next : slice_get h.2.0 i ≡ Some a = sym (ap (λ (l : List A). slice_get l (suc i)) h.2.2) ∙ there in
    answer_at spec (n + 1) ys h.2.0 h.2.1 i z a at next

module _ (x : MadeFrom) (parts : List Part) (h : IsMadeFrom x parts) where
  -- a swap has a stream for each part of its schedule
  as_many : length x.swap.streams ≡ length parts
  as_many =
      sym (pairs_length (λ (s : Stream) (p : Part). IsPart (stream_sets x.cal s) x.rates s p) x.swap.streams parts
      h.schedule)

  -- the part of a stream is made of it
  made_at : (i : ℕ) (s : Stream) (p : Part) → slice_get x.swap.streams i ≡ Some s → slice_get parts i ≡ Some p
      → KeepsBounds p → IsMade x.cal x.rates s p
  unfolding schedule_of
  made_at i s p at there bounds =
      let given = answer_there (schedule_determined x.swap x.cal x.rates h.lawful h.terms) h.dated in
      let same : given.0 ≡ parts =
      one_schedule x.swap x.cal x.rates h.lawful h.terms h.dated given.0 parts
      (schedule_is x.swap x.cal x.rates h.lawful h.terms given.0 given.1) h.schedule in
      record {
        lawful = lawful_stream x.swap h.lawful i s at;
        kept = terms_kept x.swap x.cal h.lawful h.terms i s at;
        made = (answer_at (λ n t. refused_as (in_stream n) (stream_of (stream_sets x.cal t) x.rates t)) 1 x.swap.streams parts
            (subst (λ (ps : List Part). (schedule_of x.swap x.cal x.rates).Answers ps) same given.1) i s p at there).1;
        bounds = bounds;
      }

  module _ (u : PaymentPlace) (lacks : UnfixedAt parts u) where
    -- the schedule has its part
    pub part_low : u.stream - 1 < length parts
    part_low = slice_get_within parts (u.stream - 1) lacks.member lacks.at

    -- the swap has its stream
    pub stream_low : u.stream - 1 < length x.swap.streams
    stream_low = let many = as_many in let low = part_low in omega (arith, many, low)

    module _ (p : Part) (is_part : slice_get parts (u.stream - 1) ≡ Some p) where
      of_part : HoldsOf LacksAmount p.payments u.payment
      of_part =
          let same : lacks.member ≡ p = some_is lacks.member p (sym lacks.at ∙ is_part) in
          subst (λ (q : Part). HoldsOf LacksAmount q.payments u.payment) same lacks.holds

      -- the part has the payment
      pub payment_low : u.payment - 1 < length p.payments
      payment_low = slice_get_within p.payments (u.payment - 1) of_part.member of_part.at

      module _ (within : IsWithin parts) (y : PaymentEntry)
          (is_payment : slice_get p.payments (u.payment - 1) ≡ Some y) where
        bounds : KeepsBounds p
        bounds = every_get KeepsBounds parts (u.stream - 1) p within.each is_part

        -- its periods are periods of the part
        pub lies : LieAmong 1 (length p.periods) y.first_period y.last_period
        lies =
            covers_at (λ (z : PaymentEntry). z.first_period) (λ (z : PaymentEntry). z.last_period) 1 (length p.periods)
            p.payments (u.payment - 1) y bounds.covers is_payment

        pub last_few : y.last_period < 2 ^ 31
        last_few = let to = lies.to in let few = bounds.few in omega (arith, to, few)

        module _ (s : Stream) (is_stream : slice_get x.swap.streams (u.stream - 1) ≡ Some s) where
          made : IsMade x.cal x.rates s p
          made = made_at (u.stream - 1) s p is_stream is_part bounds

          -- a period of it has no rate
          pub not_rated : ((n : ℕ) → IsUnrated p y n → ⊥) → ⊥
          not_rated none =
              let same : of_part.member ≡ y = some_is of_part.member y (sym of_part.at ∙ is_payment) in
              let absent : y.amount ≡ None = subst LacksAmount same of_part.holds in
              let found =
              unrated_there x.cal x.rates s p made (stages_of x.cal x.rates s p made) (u.payment - 1) y is_payment absent in
              none found.0 found.1

          -- such a period is a gap
          pub is_gap : (n : ℕ) → IsUnrated p y n → IsGap x.cal x.rates s p n
          is_gap n h = record { made = made; unrated = h.lacks }

          -- the payment lacks what the first of them lacks
          pub payment_lacks : (n : ℕ) → First nat_lt (IsUnrated p y) n → (f : Fixing)
              → LacksFixing x.cal x.rates s p n f → PaymentLacks x parts u f
          payment_lacks n first f needs =
              record {
                stream = s;
                is_stream = is_stream;
                part = p;
                is_part = is_part;
                payment = y;
                is_payment = is_payment;
                period = n;
                is_period = first;
                lacks = needs;
              }

  -- a part and a payment that are read at their places
  pub is_read : (u : PaymentPlace) → UnfixedAt parts u → (ps : List Part) → ps ≡ parts → (p : Part)
      → p ≡ get_or ps (u.stream - 1) p → (ys : List PaymentEntry) → ys ≡ p.payments → (y : PaymentEntry)
      → y ≡ get_or ys (u.payment - 1) y → IsRead parts u p y
  is_read u lacks ps same p is ys listed y there =
      let part = read_at parts ps (u.stream - 1) p same (part_low u lacks) is in
      record {
        part = part;
        payment = read_at p.payments ys (u.payment - 1) y listed (payment_low u lacks p part) there;
      }
