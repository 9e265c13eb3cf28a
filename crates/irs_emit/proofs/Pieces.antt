-- What the code appends, piece after piece.
use Rattle.std.proofs.Common.{◌≡◌, ℕ, suc, ◌+◌, ◌-◌, ◌<◌, ◌≤◌, Bool, true, false, List, [], ◌∷◌, ◌++◌, length, get_or}
use Rattle.std.proofs.Common.{map, take}
use Rattle.std.proofs.Common.{Some, None, refl, sym, ap, ap₂, ◌∙◌, subst, arith, append_assoc, append-nil}
use Rattle.std.specs.Prelude.{slice_get}
use Rattle.std.proofs.lemmas.List.{map-append, take_all, take_more}
use Rattle.irs_emit.specs.Emitted.{forecast_value, listed_period, one_period, period_value, period_values}
use Rattle.irs_emit.specs.Private.Texts.{IsPaid, is_later, listed_text}
use Rattle.irs_schedule.specs.Parts.{Part}
use Rattle.irs_schedule.specs.RowsOf.{period_at}
use Rattle.irs_schedule.specs.declared.entries.PaymentEntry.{PaymentEntry}
use Rattle.irs_schedule.specs.declared.views.CalculationPeriod.{CalculationPeriod}
use Rattle.irs_terms.specs.declared.currency.Currency.{Currency}
use Rattle.serde_json.specs.Data.{Data}
use Rattle.serde_json.specs.View.{items_of}
use Rattle.serde_json.specs.Written.{comma_if, compact_text, items_text}

-- a text that grew twice grew by both pieces
pub twice : (a b c x y : List ℕ) → b ≡ a ++ x → c ≡ b ++ y → c ≡ a ++ (x ++ y)
twice a b c x y e f = f ∙ ap (λ t. t ++ y) e ∙ append_assoc a x y

-- a piece of a text is the same by another word
pub same_piece : (a b x y : List ℕ) → x ≡ y → b ≡ a ++ x → b ≡ a ++ y
same_piece a b x y e f = f ∙ ap (λ t. a ++ t) e

-- a text that nothing was appended to
pub nothing_more : (a : List ℕ) → a ≡ a ++ []
nothing_more a = sym (append-nil a)

-- ---- lists

regroup : (q a b c : List ℕ) → q ++ (a ++ (b ++ c)) ≡ (q ++ (a ++ b)) ++ c
regroup q a b c = simp append_assoc

-- the items of an array are its values with a comma between them, and the closing bracket
pub items_listed : (later : Bool) (ds : List Data) → items_text later (items_of ds) ≡ listed_text later ds ++ 93 ∷ []
items_listed later [] = refl
items_listed later (d ∷ ds) =
    ap (λ t. comma_if later ++ (compact_text d ++ t)) (items_listed true ds)
    ∙ regroup (comma_if later) (compact_text d) (listed_text true ds) (93 ∷ [])

later_true : (ds : List Data) → is_later true ds ≡ true
later_true [] = refl
later_true (d ∷ ds) = refl

-- values after others
pub listed_append : (later : Bool) (a b : List Data)
    → listed_text later (a ++ b) ≡ listed_text later a ++ listed_text (is_later later a) b
listed_append later [] b = refl
listed_append later (d ∷ a) b =
    ap (λ t. comma_if later ++ (compact_text d ++ t))
    (listed_append true a b ∙ ap (λ l. listed_text true a ++ listed_text l b) (later_true a))
    ∙ regroup (comma_if later) (compact_text d) (listed_text true a) (listed_text true b)

-- whether something is before what comes after values and others
pub later_append : (later : Bool) (a b : List Data) → is_later later (a ++ b) ≡ is_later (is_later later a) b
later_append later [] b = refl
later_append later (d ∷ a) b = sym (later_true b)

-- a value with its comma
pub one_listed : (later : Bool) (d : Data) (a b c : List ℕ) → b ≡ a ++ comma_if later → c ≡ b ++ compact_text d
    → c ≡ a ++ listed_text later (d ∷ [])
one_listed later d a b c e f =
    twice a b c (comma_if later) (compact_text d) e f
    ∙ ap (λ t. a ++ (comma_if later ++ t)) (sym (append-nil (compact_text d)))

longer : {X : Type 0} (f : X → Data) (xs : List X) (j : ℕ) (x : X) → j < length xs → x ≡ get_or xs j x
    → map f (take (j + 1) xs) ≡ map f (take j xs) ++ f x ∷ []
longer f xs j x l is =
    ap (map f) (take_more xs j x l ∙ ap (λ z. take j xs ++ z ∷ []) (sym is)) ∙ map-append f (take j xs) (x ∷ [])

-- one more row of a list
pub mapped_more : {X : Type 0} (f : X → Data) (xs : List X) (j : ℕ) (x : X) (later : Bool) (old now mid next : List ℕ)
    → j < length xs → x ≡ get_or xs j x → now ≡ old ++ listed_text false (map f (take j xs))
    → later ≡ is_later false (map f (take j xs)) → mid ≡ now ++ comma_if later → next ≡ mid ++ compact_text (f x)
    → (next ≡ old ++ listed_text false (map f (take (j + 1) xs))) × (true ≡ is_later false (map f (take (j + 1) xs)))
mapped_more f xs j x later old now mid next l is e before comma row =
    let done = map f (take j xs) in
    let more : map f (take (j + 1) xs) ≡ done ++ f x ∷ [] = longer f xs j x l is in
    let piece : next ≡ now ++ listed_text (is_later false done) (f x ∷ []) =
    subst (λ b. next ≡ now ++ listed_text b (f x ∷ [])) before (one_listed later (f x) now mid next comma row) in (
      twice old now next (listed_text false done) (listed_text (is_later false done) (f x ∷ [])) e piece
          ∙ ap (λ t. old ++ t) (sym (listed_append false done (f x ∷ [])) ∙ ap (listed_text false) (sym more)),
      sym (ap (is_later false) more ∙ later_append false done (f x ∷ [])),
    )

-- all rows of a list
pub mapped_all : {X : Type 0} (f : X → Data) (xs : List X) (j : ℕ) (old now : List ℕ) → length xs ≤ j
    → now ≡ old ++ listed_text false (map f (take j xs)) → now ≡ old ++ listed_text false (map f xs)
mapped_all f xs j old now l e = e ∙ ap (λ ys. old ++ listed_text false (map f ys)) (take_all j xs l)

-- ---- periods

-- no period at a place
pub none_listed : (p : Part) (place : ℕ) (later : Bool) (old : List ℕ) → None ≡ period_at p place
    → (old ≡ old ++ listed_text later (one_period p place)) × (later ≡ is_later later (one_period p place))
none_listed p place later old e =
    subst (λ o. (old ≡ old ++ listed_text later (listed_period (slice_get p.resets place) o))
    × (later ≡ is_later later (listed_period (slice_get p.resets place) o))) e (nothing_more old, refl)

-- the period at a place, with its comma
pub period_listed : (p : Part) (place : ℕ) (x : CalculationPeriod) (later : Bool) (a b c : List ℕ)
    → Some x ≡ period_at p place → b ≡ a ++ comma_if later
    → c ≡ b ++ compact_text (period_value x (slice_get p.resets place))
    → c ≡ a ++ listed_text later (one_period p place)
period_listed p place x later a b c is e f =
    subst (λ o. c ≡ a ++ listed_text later (listed_period (slice_get p.resets place) o)) is
    (one_listed later (period_value x (slice_get p.resets place)) a b c e f)

-- something is before what comes after a period
pub later_there : (p : Part) (place : ℕ) (x : CalculationPeriod) (later : Bool) → Some x ≡ period_at p place
    → true ≡ is_later later (one_period p place)
later_there p place x later is =
    subst (λ o. true ≡ is_later later (listed_period (slice_get p.resets place) o)) is refl

-- no period yet
pub no_periods : (p : Part) (first : ℕ) (old : List ℕ)
    → (old ≡ old ++ listed_text false (period_values p first (first - first)))
    × (false ≡ is_later false (period_values p first (first - first)))
no_periods p first old =
    let none : first - first ≡ 0 = omega arith in
    subst (λ n. (old ≡ old ++ listed_text false (period_values p first n))
    × (false ≡ is_later false (period_values p first n))) (sym none) (nothing_more old, refl)

-- one more period
pub next_period : (p : Part) (first place : ℕ) (later now_later : Bool) (old now next : List ℕ) → first ≤ place
    → now ≡ old ++ listed_text false (period_values p first (place - first))
    → later ≡ is_later false (period_values p first (place - first))
    → next ≡ now ++ listed_text later (one_period p place) → now_later ≡ is_later later (one_period p place)
    → (next ≡ old ++ listed_text false (period_values p first (place + 1 - first)))
    × (now_later ≡ is_later false (period_values p first (place + 1 - first)))
next_period p first place later now_later old now next l e before g after =
    let n = place - first in
    let up : place + 1 - first ≡ suc n = omega (arith, l) in
    let at : place ≡ first + n = omega (arith, l) in
    let done = period_values p first n in
    let one = one_period p (first + n) in
    let piece : next ≡ now ++ listed_text (is_later false done) one =
    subst (λ b. next ≡ now ++ listed_text b one) before
    (subst (λ j. next ≡ now ++ listed_text later (one_period p j)) at g) in
    let is : now_later ≡ is_later (is_later false done) one =
    subst (λ b. now_later ≡ is_later b one) before
    (subst (λ j. now_later ≡ is_later later (one_period p j)) at after) in
    subst (λ m. (next ≡ old ++ listed_text false (period_values p first m))
    × (now_later ≡ is_later false (period_values p first m))) (sym up) (
      twice old now next (listed_text false done) (listed_text (is_later false done) one) e piece
          ∙ ap (λ t. old ++ t) (sym (listed_append false done one)),
      is ∙ sym (later_append false done one),
    )

-- all periods up to a place
pub all_periods : (p : Part) (first last place : ℕ) (old now : List ℕ) → last ≤ place → place ≤ last
    → now ≡ old ++ listed_text false (period_values p first (place - first))
    → now ≡ old ++ listed_text false (period_values p first (last - first))
all_periods p first last place old now l m e =
    let same : place ≡ last = omega (arith, l, m) in
    e ∙ ap (λ n. old ++ listed_text false (period_values p first (n - first))) same

-- the periods of a payment, by the places that the code counts
pub periods_paid : (p : Part) (y : PaymentEntry) (first last : ℕ) (a b : List ℕ) → IsPaid y → first ≡ y.first_period - 1
    → last ≡ y.last_period → b ≡ a ++ listed_text false (period_values p first (last - first))
    → b ≡ a ++ listed_text false (period_values p (y.first_period - 1) (y.last_period + 1 - y.first_period))
periods_paid p y first last a b h e f g =
    let one = h.first in
    let count : last - first ≡ y.last_period + 1 - y.first_period = omega (arith, one, e, f) in
    g ∙ ap₂ (λ j n. a ++ listed_text false (period_values p j n)) e count

-- the amount of a payment in the currency of its stream
pub in_currency : (y : PaymentEntry) (k l : Currency) (a b : List ℕ) → k ≡ l
    → b ≡ a ++ compact_text (forecast_value k y)
    → b ≡ a ++ compact_text (forecast_value l y)
in_currency y k l a b e g = g ∙ ap (λ c. a ++ compact_text (forecast_value c y)) e
