-- Rows that are appended one after another.
use Rattle.std.proofs.Common.{◌≡◌, ℕ, suc, ◌+◌, ◌-◌, ◌<◌, ◌≤◌, List, [], ◌∷◌, ◌++◌, length, get_or, map, take, sym, ap}
use Rattle.std.proofs.Common.{ap₂, ◌∙◌, subst, arith}
use Rattle.std.proofs.lemmas.List.{map-append, take_all, take_more}
use Rattle.irs_emit.specs.Private.Texts.{IsPaid}
use Rattle.irs_schedule.specs.Parts.{Part}
use Rattle.irs_schedule.specs.declared.entries.PaymentEntry.{PaymentEntry}
use Rattle.irs_terms.specs.declared.currency.Currency.{Currency}
use Rattle.irs_emit_xml.specs.Flows.{forecast_node, one_period_nodes, period_nodes}
use Rattle.irs_emit_xml.specs.Private.Flows.{lines}
use Rattle.irs_emit_xml.specs.Trees.{Node, node_text}
use Rattle.irs_emit.proofs.Pieces.{nothing_more}
use Rattle.irs_emit_xml.proofs.Lines.{lines_append, one_line}

-- one more row of a list
pub mapped_more : {X : Type 0} (k : ℕ) (f : X → Node) (xs : List X) (j : ℕ) (x : X) (old now next : List ℕ)
    → j < length xs → x ≡ get_or xs j x
    → now ≡ old ++ lines k (map f (take j xs)) → next ≡ now ++ node_text k (f x)
    → next ≡ old ++ lines k (map f (take (j + 1) xs))
mapped_more k f xs j x old now next l is e g =
    let longer : take (j + 1) xs ≡ take j xs ++ x ∷ [] = take_more xs j x l ∙ ap (λ z. take j xs ++ z ∷ []) (sym is) in
    let both = lines_append k (map f (take j xs)) (f x ∷ []) old now next e (one_line k (f x) now next g) in
    both ∙ ap (λ ns. old ++ lines k ns) (sym (map-append f (take j xs) (x ∷ [])) ∙ ap (map f) (sym longer))

-- all rows of a list
pub mapped_all : {X : Type 0} (k : ℕ) (f : X → Node) (xs : List X) (j : ℕ) (old now : List ℕ) → length xs ≤ j
    → now ≡ old ++ lines k (map f (take j xs)) → now ≡ old ++ lines k (map f xs)
mapped_all k f xs j old now l e = e ∙ ap (λ ys. old ++ lines k (map f ys)) (take_all j xs l)

-- no period yet
pub no_periods : (p : Part) (first : ℕ) (old : List ℕ) → old ≡ old ++ lines 4 (period_nodes p first (first - first))
no_periods p first old =
    let none : first - first ≡ 0 = omega arith in
    subst (λ n. old ≡ old ++ lines 4 (period_nodes p first n)) (sym none) (nothing_more old)

-- one more period
pub next_period : (p : Part) (first place : ℕ) (old now next : List ℕ) → first ≤ place
    → now ≡ old ++ lines 4 (period_nodes p first (place - first)) → next ≡ now ++ lines 4 (one_period_nodes p place)
    → next ≡ old ++ lines 4 (period_nodes p first (place + 1 - first))
next_period p first place old now next l e g =
    let n = place - first in
    let up : place + 1 - first ≡ suc n = omega (arith, l) in
    let at : place ≡ first + n = omega (arith, l) in
    let more = lines_append 4 (period_nodes p first n) (one_period_nodes p (first + n)) old now next e
    (subst (λ j. next ≡ now ++ lines 4 (one_period_nodes p j)) at g) in
    subst (λ m. next ≡ old ++ lines 4 (period_nodes p first m)) (sym up) more

-- all periods up to a place
pub all_periods : (p : Part) (first last place : ℕ) (old now : List ℕ) → last ≤ place → place ≤ last
    → now ≡ old ++ lines 4 (period_nodes p first (place - first))
    → now ≡ old ++ lines 4 (period_nodes p first (last - first))
all_periods p first last place old now l m e =
    let same : place ≡ last = omega (arith, l, m) in
    e ∙ ap (λ n. old ++ lines 4 (period_nodes p first (n - first))) same

-- the periods of a payment, by the places that the code counts
pub periods_paid : (p : Part) (y : PaymentEntry) (first last : ℕ) (a b : List ℕ) → IsPaid y → first ≡ y.first_period - 1
    → last ≡ y.last_period
    → b ≡ a ++ lines 4 (period_nodes p first (last - first))
    → b ≡ a ++ lines 4 (period_nodes p (y.first_period - 1) (y.last_period + 1 - y.first_period))
periods_paid p y first last a b h e f g =
    let one = h.first in
    let count : last - first ≡ y.last_period + 1 - y.first_period = omega (arith, one, e, f) in
    g ∙ ap₂ (λ j n. a ++ lines 4 (period_nodes p j n)) e count

-- the amount of a payment in the currency of its stream
pub in_currency : (y : PaymentEntry) (k l : Currency) (a b : List ℕ) → k ≡ l → b ≡ a ++ node_text 4 (forecast_node k y)
    → b ≡ a ++ node_text 4 (forecast_node l y)
in_currency y k l a b e g = g ∙ ap (λ c. a ++ node_text 4 (forecast_node c y)) e
