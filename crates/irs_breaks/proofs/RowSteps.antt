-- The rows that have a date and are due, one by one.
use Rattle.std.proofs.Common.{◌≡◌, ℕ, ◌+◌, ◌<◌, ◌≤◌, List, [], ◌∷◌, ◌++◌, length, drop, get_or, Option, Some, None, ℤ, refl, sym, ap, ◌∙◌}
use Rattle.std.proofs.lemmas.List.{append-nil, append_assoc, drop_all, drop_more}
use Rattle.irs_breaks.specs.Pairing.{dated_row, in_front, rows_from}
use Rattle.irs_breaks.specs.declared.dated.DatedRow.{DatedRow}

front : (from : ℤ) (n : ℕ) (date : Option ℤ) (dates : List (Option ℤ))
    → rows_from from n (date ∷ dates) ≡ in_front (dated_row from date n) (rows_from from (n + 1) dates)
unfolding rows_from
front from n date dates = refl

next : (from : ℤ) (n : ℕ) (dates : List (Option ℤ)) (e : Option ℤ) → n < length dates
    → rows_from from n (drop n dates)
    ≡ in_front (dated_row from (get_or dates n e) n) (rows_from from (n + 1) (drop (n + 1) dates))
next from n dates e h =
    ap (rows_from from n) (drop_more dates n e h) ∙ front from n (get_or dates n e) (drop (n + 1) dates)

-- the next row is appended where it has a date and is due
pub push_row : (from : ℤ) (n : ℕ) (dates : List (Option ℤ)) (e : Option ℤ) (rows : List DatedRow) (r : DatedRow)
    → n < length dates → dated_row from (get_or dates n e) n ≡ Some r
    → (rows ++ r ∷ []) ++ rows_from from (n + 1) (drop (n + 1) dates) ≡ rows ++ rows_from from n (drop n dates)
push_row from n dates e rows r h is =
    append_assoc rows (r ∷ []) (rows_from from (n + 1) (drop (n + 1) dates))
    ∙ ap (λ (o : Option DatedRow). rows ++ in_front o (rows_from from (n + 1) (drop (n + 1) dates))) (sym is)
    ∙ ap (λ (z : List DatedRow). rows ++ z) (sym (next from n dates e h))

-- the next row is left out where it has no date or is not due
pub skip_row : (from : ℤ) (n : ℕ) (dates : List (Option ℤ)) (e : Option ℤ) (rows : List DatedRow)
    → n < length dates → dated_row from (get_or dates n e) n ≡ None
    → rows ++ rows_from from (n + 1) (drop (n + 1) dates) ≡ rows ++ rows_from from n (drop n dates)
skip_row from n dates e rows h is =
    ap (λ (o : Option DatedRow). rows ++ in_front o (rows_from from (n + 1) (drop (n + 1) dates))) (sym is)
    ∙ ap (λ (z : List DatedRow). rows ++ z) (sym (next from n dates e h))

none_left : (from : ℤ) (n : ℕ) → rows_from from n [] ≡ []
unfolding rows_from
none_left from n = refl

-- after the last date no row is left
pub all_rows : (from : ℤ) (n : ℕ) (dates : List (Option ℤ)) (rows : List DatedRow) → length dates ≤ n
    → rows ++ rows_from from n (drop n dates) ≡ rows
all_rows from n dates rows h =
    ap (λ (z : List DatedRow). rows ++ z) (ap (rows_from from n) (drop_all n dates h) ∙ none_left from n) ∙ append-nil rows
