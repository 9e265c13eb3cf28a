-- The walk along the boundaries, and what its places are.
use Rattle.std.proofs.Common.{◌≡◌, inl, inr, ℕ, zero, suc, ◌+◌, ◌-◌, ◌<◌, ◌≤◌, List, [], ◌∷◌, ◌++◌, length, arith, refl}
use Rattle.std.proofs.Common.{sym, ◌∙◌, subst, ap, ℤ, ◌<ℤ◌}
use Rattle.std.proofs.lemmas.Bool.{cases_lt}
use Rattle.jiff_core.proofs.SignedLemmas.{signed_arith}
use Rattle.irs_base.specs.Lists.{Member, AllAfter, IsRising, RunsFromTo, day_at}
use Rattle.irs_base.proofs.Rising.{member_old, member_new, rising_push, one_rising}
use Rattle.irs_terms.specs.TermDates.{first_day_of}
use Rattle.irs_terms.specs.declared.stream.Stream.{Stream}
use Rattle.irs_payments.specs.Payments.{pay_anchor, EndsPayment, IsPay, PayList}
use Rattle.irs_payments.specs.Private.Dating.{days_at, EachPlace, EndsAt, IsCut, AreCuts, cut_at, ArePlaces}
use Rattle.irs_payments.proofs.PlaceLemmas.{member_at, place_of, rises_at, place_below}

days_at-push : (b : List ℤ) (cs : List ℕ) (c : ℕ) → days_at b (cs ++ c ∷ []) ≡ days_at b cs ++ day_at b c ∷ []
days_at-push b [] c = refl
days_at-push b (x ∷ cs) c = ap (λ ds. day_at b x ∷ ds) (days_at-push b cs c)

length-days_at : (b : List ℤ) (cs : List ℕ) → length (days_at b cs) ≡ length cs
length-days_at b [] = refl
length-days_at b (c ∷ cs) = omega (arith, length-days_at b cs)

day_at-days_at : (b : List ℤ) (cs : List ℕ) (k : ℕ) → k < length cs → day_at (days_at b cs) k ≡ day_at b (cut_at cs k)
day_at-days_at b [] k h = absurd (omega arith)
day_at-days_at b (c ∷ cs) zero h = refl
day_at-days_at b (c ∷ cs) (suc k) h = day_at-days_at b cs k (omega arith)

each_at : (P : ℕ → Type 0) (cs : List ℕ) (k : ℕ) → EachPlace P cs → k < length cs → P (cut_at cs k)
each_at P [] k h l = absurd (omega arith)
each_at P (c ∷ cs) zero h l = h.0
each_at P (c ∷ cs) (suc k) h l = each_at P cs k h.1 (omega arith)

each_push : (P Q : ℕ → Type 0) (cs : List ℕ) (c : ℕ) → ((k : ℕ) → P k → Q k) → EachPlace P cs → Q c
    → EachPlace Q (cs ++ c ∷ [])
each_push P Q [] c f h q = (q, tt)
each_push P Q (x ∷ cs) c f h q = (f x h.0, each_push P Q cs c f h.1 q)

each_more : (P Q : ℕ → Type 0) (cs : List ℕ) → ((k : ℕ) → P k → Q k) → EachPlace P cs → EachPlace Q cs
each_more P Q [] f h = tt
each_more P Q (x ∷ cs) f h = (f x h.0, each_more P Q cs f h.1)

-- a day of those at the places, by its place
place_in : (P : ℕ → Type 0) (b : List ℤ) (cs : List ℕ) (d : ℤ) → EachPlace P cs → Member d (days_at b cs)
    → (c : ℕ) × P c × (day_at b c ≡ d)
place_in P b [] d h m = absurd m
place_in P b (c ∷ cs) d h (inl here) = (c, h.0, sym here)
place_in P b (c ∷ cs) d h (inr there) = place_in P b cs d h.1 there

module _ (s : Stream) (b : List ℤ) where
  -- before boundary 1 the first day alone ends a payment period
  pub no_cuts : AreCuts s b 1 (0 ∷ [])
  no_cuts = record {
    later = [];
    from_zero = refl;
    rising = tt;
    sound = tt;
    complete =
        λ place low high _. omega (arith, low, high);
  }

  wider : (i c : ℕ) → IsCut s b i c → IsCut s b (i + 1) c
  wider i c h = record { from_one = h.from_one; below = omega (arith, h.below); ends = h.ends }

  -- a boundary that ends no payment period is left out
  pub pass_cut : (i : ℕ) (cuts : List ℕ) → AreCuts s b i cuts → (EndsAt s b i → ⊥) → AreCuts s b (i + 1) cuts
  pass_cut i cuts h off = record {
    later = h.later;
    from_zero = h.from_zero;
    rising = h.rising;
    sound = each_more (IsCut s b i) (IsCut s b (i + 1)) h.later (wider i) h.sound;
    complete = λ place low high ends. elim (cases_lt place i) [
      | inl less ↦ h.complete place low less ends
      | inr more ↦ let same : place ≡ i = omega arith in absurd (off (subst (EndsAt s b) same ends))
    ];
  }

  -- a boundary that ends a payment period is taken
  pub take_cut : (i : ℕ) (cuts : List ℕ) → IsRising b → 1 ≤ i → i < length b → AreCuts s b i cuts → EndsAt s b i
      → AreCuts s b (i + 1) (cuts ++ i ∷ [])
  take_cut i cuts rising low high h on =
      let days = days_at b h.later in
      let pushed = days_at-push b h.later i in
      let below : (d : ℤ) → Member d days → d <ℤ day_at b i = λ d m.
      let p = place_in (IsCut s b i) b h.later d h.sound m in
      subst (λ (z : ℤ). z <ℤ day_at b i) p.2 (rises_at b p.0 i rising p.1.below high) in
      record {
        later = h.later ++ i ∷ [];
        from_zero = ap (λ cs. cs ++ i ∷ []) h.from_zero;
        rising = subst IsRising (sym pushed) (rising_push (day_at b i) days h.rising below);
        sound = each_push (IsCut s b i) (IsCut s b (i + 1)) h.later i (wider i) h.sound
            (record { from_one = low; below = omega arith; ends = on });
        complete = λ place from to ends. subst (Member (day_at b place)) (sym pushed) (elim (cases_lt place i) [
          | inl less ↦ member_old (day_at b place) (day_at b i) days (h.complete place from less ends)
          | inr more ↦ let same : place ≡ i = omega arith in
              subst (λ (k : ℕ). Member (day_at b k) (days ++ day_at b i ∷ [])) (sym same) (member_new (day_at b i) days)
        ]);
      }

all_after : (e : ℤ) (xs : List ℤ) → ((d : ℤ) → Member d xs → e <ℤ d) → AllAfter e xs
all_after e [] h = tt
all_after e (x ∷ xs) h = (h x (inl refl), all_after e xs (λ d m. h d (inr m)))

-- the first boundary is the first day
pub first_is : (e t : ℤ) (b : List ℤ) → RunsFromTo e t b → day_at b 0 ≡ e
first_is e t b r =
    let p = place_of e b r.starts in
    elim (cases_lt 0 p.0) [
      | inl later ↦
          let less = rises_at b 0 p.0 r.rising later p.1 in
          let from = r.from (day_at b 0) (member_at b 0 (omega (arith, p.1))) in
          absurd (omega (arith, signed_arith, less, from, p.2))
      | inr first ↦ let same : 0 ≡ p.0 = omega arith in subst (λ (k : ℕ). day_at b k ≡ e) (sym same) p.2
    ]

-- the boundary at the termination date is the last
pub last_is : (e t : ℤ) (b : List ℤ) (k : ℕ) → RunsFromTo e t b → k < length b → day_at b k ≡ t → k + 1 ≡ length b
last_is e t b k r l at = elim (cases_lt (k + 1) (length b)) [
  | inl more ↦
      let less = rises_at b k (k + 1) r.rising (omega arith) more in
      let to = r.to (day_at b (k + 1)) (member_at b (k + 1) more) in
      absurd (omega (arith, signed_arith, less, to, at))
  | inr last ↦ omega arith
]

-- a term of at least a day has two boundaries
pub two_boundaries : (e t : ℤ) (b : List ℤ) → e <ℤ t → RunsFromTo e t b → 1 < length b
two_boundaries e t b h r =
    let first = first_is e t b r in
    let p = place_of t b r.ends in
    elim (cases_lt 0 p.0) [
      | inl later ↦ omega (arith, p.1)
      | inr front ↦ let same : p.0 ≡ 0 = omega arith in
          let t_is : day_at b 0 ≡ t = subst (λ (k : ℕ). day_at b k ≡ t) same p.2 in
          absurd (omega (arith, signed_arith, h, first, t_is))
    ]

-- the payment boundaries at the places after 0, with the first day in front
module _ (s : Stream) (b : List ℤ) (run : RunsFromTo (first_day_of s) s.termination.day b) (later : List ℕ)
    (rising : IsRising (days_at b later)) (sound : EachPlace (IsCut s b (length b)) later) (complete : (place : ℕ)
    → 1 ≤ place → place < length b → EndsAt s b place → Member (day_at b place) (days_at b later)) where
  -- the payment boundaries, with the first day in front
  abbrev pub pay_days : List ℤ
  pay_days = (first_day_of s) ∷ days_at b later

  first : day_at b 0 ≡ (first_day_of s)
  first = first_is (first_day_of s) s.termination.day b run

  after_first : (d : ℤ) → Member d (days_at b later) → (first_day_of s) <ℤ d
  after_first d m =
      let p = place_in (IsCut s b (length b)) b later d sound m in
      let less = rises_at b 0 p.0 run.rising (omega (arith, p.1.from_one)) p.1.below in
      omega (arith, signed_arith, less, first, p.2)

  is_pay : (d : ℤ) → Member d (days_at b later) → IsPay s b d
  is_pay d m =
      let p = place_in (IsCut s b (length b)) b later d sound m in
      record {
        boundary = subst (λ (z : ℤ). Member z b) p.2 (member_at b p.0 p.1.below);
        after = after_first d m;
        is = subst (λ (z : ℤ). EndsPayment s (pay_anchor s b) z) p.2 p.1.ends;
      }

  has_pay : (d : ℤ) → IsPay s b d → Member d (days_at b later)
  has_pay d h =
      let p = place_of d b h.boundary in
      let low : 1 ≤ p.0 = elim (cases_lt 0 p.0) [
        | inl more ↦ omega arith
        | inr front ↦ let same : p.0 ≡ 0 = omega arith in
            let at : day_at b 0 ≡ d = subst (λ (k : ℕ). day_at b k ≡ d) same p.2 in
            absurd (omega (arith, signed_arith, first, at, h.after))
      ] in
      subst (λ (z : ℤ). Member z (days_at b later)) p.2
      (complete p.0 low p.1 (subst (λ (z : ℤ). EndsPayment s (pay_anchor s b) z) (sym p.2) h.is))

  -- they are the stream's payment boundaries
  pub pay_listed : PayList s b pay_days
  pay_listed = record {
    later = days_at b later;
    from_first_day = refl;
    listed = record { rising = rising; sound = is_pay; complete = has_pay };
  }

  -- each payment boundary is the boundary at its place
  pub pay_at : (k : ℕ) → k < length (0 ∷ later) → day_at pay_days k ≡ day_at b (cut_at (0 ∷ later) k)
  pay_at zero l = sym first
  pay_at (suc k) l = day_at-days_at b later k (omega arith)

  -- there are as many payment boundaries as places
  pub length-pay : length pay_days ≡ length (0 ∷ later)
  length-pay = omega (arith, length-days_at b later)

  pay_rising : IsRising pay_days
  pay_rising = (all_after (first_day_of s) (days_at b later) after_first, rising)

  cut_within : (k : ℕ) → k < length (0 ∷ later) → cut_at (0 ∷ later) k < length b
  cut_within zero l = let p = place_of (first_day_of s) b run.starts in omega (arith, p.1)
  cut_within (suc k) l = (each_at (IsCut s b (length b)) later k sound (omega arith)).below

  cut_rises : (k : ℕ) → k + 1 < length (0 ∷ later) → cut_at (0 ∷ later) k < cut_at (0 ∷ later) (k + 1)
  cut_rises k l =
      let here = pay_at k (omega arith) in
      let there = pay_at (k + 1) l in
      let less = rises_at pay_days k (k + 1) pay_rising (omega arith) (omega (arith, l, length-pay)) in
      let order : day_at b (cut_at (0 ∷ later) k) <ℤ day_at b (cut_at (0 ∷ later) (k + 1)) =
      omega (arith, signed_arith, less, here, there) in
      elim (place_below b (cut_at (0 ∷ later) k) (cut_at (0 ∷ later) (k + 1)) run.rising
      (cut_within k (omega arith)) order) [
        | inl below ↦ below
        | inr past ↦ absurd (omega (arith, past, cut_within (k + 1) l))
      ]

  -- the places rise from the first boundary to the last
  pub cut_places : ArePlaces b (0 ∷ later)
  cut_places = record { begins = refl; rise = cut_rises; within = cut_within }

  -- the last place is that of the termination date
  pub cut_last : (first_day_of s) <ℤ s.termination.day → cut_at (0 ∷ later) (length (0 ∷ later) - 1) + 1 ≡ length b
  cut_last term =
      let pay : IsPay s b s.termination.day = record { boundary = run.ends; after = term; is = inl refl } in
      let m = has_pay s.termination.day pay in
      let p = place_of s.termination.day pay_days (inr m) in
      let n = length (0 ∷ later) in
      let l : p.0 < n = omega (arith, p.1, length-pay) in
      let last : p.0 ≡ n - 1 = elim (cases_lt (p.0 + 1) n) [
        | inl more ↦
            let less = rises_at pay_days p.0 (p.0 + 1) pay_rising (omega arith) (omega (arith, more, length-pay)) in
            let high = run.to (day_at b (cut_at (0 ∷ later) (p.0 + 1)))
            (member_at b (cut_at (0 ∷ later) (p.0 + 1)) (cut_within (p.0 + 1) more)) in
            let at = pay_at (p.0 + 1) more in
            absurd (omega (arith, signed_arith, less, high, at, p.2))
        | inr end ↦ omega (arith, l)
      ] in
      let at : day_at b (cut_at (0 ∷ later) p.0) ≡ s.termination.day = sym (pay_at p.0 l) ∙ p.2 in
      let is = last_is (first_day_of s) s.termination.day b (cut_at (0 ∷ later) p.0) run (cut_within p.0 l) at in
      subst (λ (k : ℕ). cut_at (0 ∷ later) k + 1 ≡ length b) last is

  -- a stream has one list of payment boundaries
  pub one_pay : (pay : List ℤ) → PayList s b pay → pay ≡ pay_days
  one_pay pay h =
      let same = one_rising h.later (days_at b later) h.listed.rising rising (λ d m. has_pay d (h.listed.sound d m))
      (λ d m. h.listed.complete d (is_pay d m)) in
      h.from_first_day ∙ ap (λ ds. (first_day_of s) ∷ ds) same
