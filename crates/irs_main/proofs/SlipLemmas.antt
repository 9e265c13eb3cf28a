-- The test for one slip is right.
use Rattle.std.proofs.Common.{◌≡◌, ◌⊎◌, inl, inr, ℕ, ◌==◌, ◌||◌, ◌&&◌, Bool, true, false, true≢false, List, [], ◌∷◌, ◌++◌}
use Rattle.std.proofs.Common.{if◌then◌else◌, refl, sym, ap, subst, ◌∙◌, arith}
use Rattle.std.specs.Str.{bytes_eq}
use Rattle.std.proofs.lemmas.Slice.Eq.{bytes_eq-Decides}
use Rattle.std.proofs.lemmas.Bool.Decides.{Decides-eqb}
use Rattle.irs_base.proofs.Orders.{both_true}
use Rattle.irs_main.specs.WrongWords.{Exchanges, IsSlip, LacksOneLetter, Replaces, is_exchanged, is_slip, is_slip_here}

-- equal texts are found equal
same : (xs : List ℕ) → bytes_eq xs xs ≡ true
same xs = (bytes_eq-Decides xs xs).1 refl

-- equal letters are found equal
same_letter : (a : ℕ) → (a == a) ≡ true
same_letter a = grind arith

other_letter : (a b : ℕ) → (a ≡ b → ⊥) → (a == b) ≡ false
other_letter a b differ = grind arith

first_of : (a b : Bool) → a ≡ true → (a || b) ≡ true
first_of true b h = refl
first_of false b h = absurd (true≢false (sym h))

second_of : (a b : Bool) → b ≡ true → (a || b) ≡ true
second_of true b h = refl
second_of false b h = h

either : (a b : Bool) → (a || b) ≡ true → (a ≡ true) ⊎ (b ≡ true)
either true b h = inl refl
either false b h = inr h

-- ---- each slip is found

-- after equal letters the others are tested
step : (t : ℕ) (typed meant : List ℕ) → is_slip typed meant ≡ true → is_slip (t ∷ typed) (t ∷ meant) ≡ true
step t typed meant h =
    ap (λ (b : Bool). if b then is_slip typed meant else is_slip_here t typed t meant) (same_letter t) ∙ h

-- where the first letters differ the slip is there
here : (t m : ℕ) (typed meant : List ℕ) → (t ≡ m → ⊥) → is_slip_here t typed m meant ≡ true
    → is_slip (t ∷ typed) (m ∷ meant) ≡ true
here t m typed meant differ h =
    ap (λ (b : Bool). if b then is_slip typed meant else is_slip_here t typed m meant) (other_letter t m differ) ∙ h

-- in both cases
either_way : (t m : ℕ) (typed meant : List ℕ) (b : Bool) → (t == m) ≡ b → (t ≡ m → is_slip typed meant ≡ true)
    → is_slip_here t typed m meant ≡ true → is_slip (t ∷ typed) (m ∷ meant) ≡ true
either_way t m typed meant true is after at =
    ap (λ (b : Bool). if b then is_slip typed meant else is_slip_here t typed m meant) is
    ∙ after ((Decides-eqb t m).0 is)
either_way t m typed meant false is after at =
    ap (λ (b : Bool). if b then is_slip typed meant else is_slip_here t typed m meant) is ∙ at

-- a text that lacks its first letter
lacks_first : (letter : ℕ) (rest : List ℕ) → is_slip rest (letter ∷ rest) ≡ true
lacks_first letter [] = refl
lacks_first letter (r ∷ rest) =
    either_way r letter rest (r ∷ rest) (r == letter) refl (λ e. lacks_first r rest)
    (first_of (bytes_eq (r ∷ rest) (r ∷ rest)) _ (same (r ∷ rest)))

-- a text with one letter more in front
has_first : (letter : ℕ) (rest : List ℕ) → is_slip (letter ∷ rest) rest ≡ true
has_first letter [] = refl
has_first letter (r ∷ rest) =
    either_way letter r (r ∷ rest) rest (letter == r) refl (λ e. has_first r rest)
    (second_of (bytes_eq (letter ∷ r ∷ rest) rest) _ (first_of (bytes_eq (r ∷ rest) (r ∷ rest)) _ (same (r ∷ rest))))

-- another first letter
replaces_first : (t m : ℕ) (rest : List ℕ) → (t ≡ m → ⊥) → is_slip (t ∷ rest) (m ∷ rest) ≡ true
replaces_first t m rest differ =
    here t m rest rest differ
    (second_of (bytes_eq (t ∷ rest) rest) _
    (second_of (bytes_eq rest (m ∷ rest)) _ (first_of (bytes_eq rest rest) _ (same rest))))

both : (a b : Bool) → a ≡ true → b ≡ true → (a && b) ≡ true
both true b ha hb = hb
both false b ha hb = ha

-- the first two letters exchanged
exchanges_first : (a b : ℕ) (rest : List ℕ) → (a ≡ b → ⊥) → is_slip (a ∷ b ∷ rest) (b ∷ a ∷ rest) ≡ true
exchanges_first a b rest differ =
    here a b (b ∷ rest) (a ∷ rest) differ
    (second_of (bytes_eq (a ∷ b ∷ rest) (a ∷ rest)) _
    (second_of (bytes_eq (b ∷ rest) (b ∷ a ∷ rest)) _
    (second_of (bytes_eq (b ∷ rest) (a ∷ rest)) _
    (both (a == a) ((b == b) && bytes_eq rest rest) (same_letter a)
    (both (b == b) (bytes_eq rest rest) (same_letter b) (same rest))))))

-- a slip after a common front
after_front : (front typed meant : List ℕ) → is_slip typed meant ≡ true → is_slip (front ++ typed) (front ++ meant) ≡ true
after_front [] typed meant h = h
after_front (f ∷ fs) typed meant h = step f (fs ++ typed) (fs ++ meant) (after_front fs typed meant h)

at : (typed meant typed_is meant_is : List ℕ) → typed ≡ typed_is → meant ≡ meant_is → is_slip typed_is meant_is ≡ true
    → is_slip typed meant ≡ true
at typed meant typed_is meant_is one other h =
    ap (λ (x : List ℕ). is_slip x meant) one ∙ ap (λ (x : List ℕ). is_slip typed_is x) other ∙ h

-- the test finds every slip
pub found : (typed meant : List ℕ) → IsSlip typed meant → is_slip typed meant ≡ true
found typed meant (inl s) =
    at typed meant _ _ s.is_text s.is_other
    (after_front s.front s.rest (s.letter ∷ s.rest) (lacks_first s.letter s.rest))
found typed meant (inr (inl s)) =
    at typed meant _ _ s.is_other s.is_text
    (after_front s.front (s.letter ∷ s.rest) s.rest (has_first s.letter s.rest))
found typed meant (inr (inr (inl s))) =
    at typed meant _ _ s.is_text s.is_other
    (after_front s.front (s.typed ∷ s.rest) (s.meant ∷ s.rest) (replaces_first s.typed s.meant s.rest s.differ))
found typed meant (inr (inr (inr s))) =
    at typed meant _ _ s.is_text s.is_other
    (after_front s.front (s.first ∷ s.second ∷ s.rest) (s.second ∷ s.first ∷ s.rest)
    (exchanges_first s.first s.second s.rest s.differ))

-- ---- nothing else is found

-- what lacks a letter lacks it after one more letter of both
lacks_after : (t : ℕ) (text other : List ℕ) → LacksOneLetter text other → LacksOneLetter (t ∷ text) (t ∷ other)
lacks_after t text other s = record {
  front = t ∷ s.front;
  letter = s.letter;
  rest = s.rest;
  is_text = ap (λ (x : List ℕ). t ∷ x) s.is_text;
  is_other = ap (λ (x : List ℕ). t ∷ x) s.is_other;
}

-- a slip is one after one more letter of both
slip_after : (t : ℕ) (typed meant : List ℕ) → IsSlip typed meant → IsSlip (t ∷ typed) (t ∷ meant)
slip_after t typed meant (inl s) = inl (lacks_after t typed meant s)
slip_after t typed meant (inr (inl s)) = inr (inl (lacks_after t meant typed s))
slip_after t typed meant (inr (inr (inl s))) = inr (inr (inl (record {
  front = t ∷ s.front;
  typed = s.typed;
  meant = s.meant;
  rest = s.rest;
  differ = s.differ;
  is_text = ap (λ (x : List ℕ). t ∷ x) s.is_text;
  is_other = ap (λ (x : List ℕ). t ∷ x) s.is_other;
})))
slip_after t typed meant (inr (inr (inr s))) = inr (inr (inr (record {
  front = t ∷ s.front;
  first = s.first;
  second = s.second;
  rest = s.rest;
  differ = s.differ;
  is_text = ap (λ (x : List ℕ). t ∷ x) s.is_text;
  is_other = ap (λ (x : List ℕ). t ∷ x) s.is_other;
})))

-- a text lacks its first letter
lacks_one : (letter : ℕ) (rest others : List ℕ) → rest ≡ others → LacksOneLetter rest (letter ∷ others)
lacks_one letter rest others e = record {
  front = [];
  letter = letter;
  rest = others;
  is_text = e;
  is_other = refl;
}

-- another first letter, and the same others
replaced : (t m : ℕ) (typed meant : List ℕ) → (t ≡ m → ⊥) → typed ≡ meant → Replaces (t ∷ typed) (m ∷ meant)
replaced t m typed meant differ e = record {
  front = [];
  typed = t;
  meant = m;
  rest = meant;
  differ = differ;
  is_text = ap (λ (x : List ℕ). t ∷ x) e;
  is_other = refl;
}

-- two letters exchanged, and the same others
exchanged : (a b c d : ℕ) (rest others : List ℕ) → (a ≡ c → ⊥) → a ≡ d → b ≡ c → rest ≡ others
    → Exchanges (a ∷ b ∷ rest) (c ∷ d ∷ others)
exchanged a b c d rest others differ ad bc e = record {
  front = [];
  first = a;
  second = c;
  rest = others;
  differ = differ;
  is_text = ap (λ (x : ℕ). a ∷ x ∷ rest) bc ∙ ap (λ (x : List ℕ). a ∷ c ∷ x) e;
  is_other = ap (λ (x : ℕ). c ∷ x ∷ others) (sym ad);
}

-- letters that are found exchanged are exchanged
is_exchange : (t m : ℕ) (typed meant : List ℕ) → (t ≡ m → ⊥) → is_exchanged (t ∷ typed) (m ∷ meant) ≡ true
    → Exchanges (t ∷ typed) (m ∷ meant)
is_exchange t m [] meant differ h = absurd (true≢false (sym h))
is_exchange t m (b ∷ rest) [] differ h = absurd (true≢false (sym h))
is_exchange t m (b ∷ rest) (d ∷ others) differ h =
    let first = both_true (t == d) ((b == m) && bytes_eq rest others) h in
    let second = both_true (b == m) (bytes_eq rest others) first.1 in
    exchanged t b m d rest others differ ((Decides-eqb t d).0 first.0) ((Decides-eqb b m).0 second.0)
    ((bytes_eq-Decides rest others).0 second.1)

-- what is found where the first letters differ is a slip
is_here : (t m : ℕ) (typed meant : List ℕ) → (t ≡ m → ⊥) → is_slip_here t typed m meant ≡ true
    → IsSlip (t ∷ typed) (m ∷ meant)
is_here t m typed meant differ h = elim (either (bytes_eq (t ∷ typed) meant) _ h) [
  | inl lacks ↦ inl (lacks_one m (t ∷ typed) meant ((bytes_eq-Decides (t ∷ typed) meant).0 lacks))
  | inr others ↦ elim (either (bytes_eq typed (m ∷ meant)) _ others) [
    | inl more ↦ inr (inl (lacks_one t (m ∷ meant) typed (sym ((bytes_eq-Decides typed (m ∷ meant)).0 more))))
    | inr others ↦ elim (either (bytes_eq typed meant) _ others) [
      | inl replaces ↦ inr (inr (inl (replaced t m typed meant differ ((bytes_eq-Decides typed meant).0 replaces))))
      | inr exchanges ↦ inr (inr (inr (is_exchange t m typed meant differ exchanges)))
    ]
  ]
]

-- by whether the first letters are equal
by_first : (t m : ℕ) (typed meant : List ℕ) (b : Bool) → (t == m) ≡ b
    → (is_slip typed meant ≡ true → IsSlip typed meant)
    → (if b then is_slip typed meant else is_slip_here t typed m meant) ≡ true → IsSlip (t ∷ typed) (m ∷ meant)
by_first t m typed meant true is after h =
    subst (λ (n : ℕ). IsSlip (t ∷ typed) (n ∷ meant)) ((Decides-eqb t m).0 is) (slip_after t typed meant (after h))
by_first t m typed meant false is after h =
    is_here t m typed meant (λ e. true≢false (sym ((Decides-eqb t m).1 e) ∙ is)) h

-- the test finds only slips
pub only : (typed meant : List ℕ) → is_slip typed meant ≡ true → IsSlip typed meant
only [] [] h = absurd (true≢false (sym h))
only [] (m ∷ meant) h = inl (lacks_one m [] meant (sym ((bytes_eq-Decides meant []).0 h)))
only (t ∷ typed) [] h = inr (inl (lacks_one t [] typed (sym ((bytes_eq-Decides typed []).0 h))))
only (t ∷ typed) (m ∷ meant) h = by_first t m typed meant (t == m) refl (only typed meant) h
