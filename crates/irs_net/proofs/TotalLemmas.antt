-- A part more.
use Rattle.std.proofs.Common.{◌≡◌, ℕ, zero, suc, ◌+◌, ◌*◌, ◌≤◌, Bool, true, false, ◌||◌, List, [], ◌∷◌, ◌++◌, length}
use Rattle.std.proofs.Common.{map, take, Option, Some, None, refl, sym, ap, ap₂, subst, ◌∙◌, arith, ℤ, pos, negsuc}
use Rattle.std.proofs.Common.{neg_ℤ, ◌+ℤ◌, ◌≤ℤ◌, unsigned_abs}
use Rattle.std.specs.Prelude.{is_none, unwrap_or, if◌then◌else◌, ◌&&◌, IfSome}
use Rattle.std.specs.List.{list_any}
use Rattle.std.proofs.lemmas.Bool.{or_parts}
use Rattle.jiff_core.proofs.SignedLemmas.{signed_arith}
use Rattle.irs_base.specs.Lists.{Every}
use Rattle.irs_net.specs.Nets.{same_key, part_key, known_sum, known_units, unknown_count}
use Rattle.irs_net.specs.Private.FoundParties.{IsSmall, most_parts, most_total, most_units, no_total, total_at}
use Rattle.irs_net.specs.Private.FoundParties.{total_with}
use Rattle.irs_net.specs.declared.parts.NetPart.{NetPart}
use Rattle.irs_net.specs.declared.totals.NetKey.{NetKey}
use Rattle.irs_net.specs.declared.totals.NetTotal.{NetTotal}
use Rattle.irs_net.proofs.KeyLemmas.{keys_equiv, same_keys}

-- the part has this key
abbrev Own : NetKey → NetPart → Bool
Own key p = same_key key (part_key p)

-- one part more adds its amount to the sum of its key
pub known_push : (key : NetKey) (ps : List NetPart) (p : NetPart)
    → known_sum key (ps ++ p ∷ []) ≡ known_sum key ps +ℤ (if Own key p then known_units p.units else pos 0)
known_push key [] p = omega (arith, signed_arith)
known_push key (q ∷ ps) p = let e = known_push key ps p in rw e (omega (arith, signed_arith))

-- one part more counts where its amount is unknown
pub unknown_push : (key : NetKey) (ps : List NetPart) (p : NetPart)
    → unknown_count key (ps ++ p ∷ []) ≡ unknown_count key ps + (if Own key p && is_none p.units then 1 else 0)
unknown_push key [] p = omega arith
unknown_push key (q ∷ ps) p = let e = unknown_push key ps p in rw e (omega arith)

or_assoc : (a b c : Bool) → (a || (b || c)) ≡ ((a || b) || c)
or_assoc true b c = refl
or_assoc false b c = refl

or_false : (a : Bool) → (a || false) ≡ a
or_false true = refl
or_false false = refl

-- one part more may bring its key
pub any_push : (key : NetKey) (ps : List NetPart) (p : NetPart)
    → list_any (same_key key) (map part_key (ps ++ p ∷ [])) ≡ (list_any (same_key key) (map part_key ps) || Own key p)
any_push key [] p = or_false (Own key p)
any_push key (q ∷ ps) p =
    ap (λ b. Own key q || b) (any_push key ps p)
    ∙ or_assoc (Own key q) (list_any (same_key key) (map part_key ps)) (Own key p)

-- where a key has no part its sums are nothing
none_known : (key : NetKey) (ps : List NetPart) → list_any (same_key key) (map part_key ps) ≡ false
    → (known_sum key ps ≡ pos 0) × (unknown_count key ps ≡ 0)
none_known key [] h = (refl, refl)
none_known key (p ∷ ps) h =
    let apart = or_parts (Own key p) (list_any (same_key key) (map part_key ps)) h in
    let rest = none_known key ps apart.1 in
    let first = apart.0 in
    rw first (omega (arith, signed_arith, rest.0), omega (arith, rest.1))

-- a total made of its parts
abbrev pub make_total : ℤ → ℕ → NetTotal
make_total known unknown = record { known = known; unknown = unknown }

-- the total so far, also where there is no part yet
total_if : (b : Bool) (known : ℤ) (unknown : ℕ) → (b ≡ false → (known ≡ pos 0) × (unknown ≡ 0))
    → unwrap_or (if b then Some (make_total known unknown) else None) no_total ≡ make_total known unknown
total_if true known unknown h = refl
total_if false known unknown h = ap₂ make_total (sym (h refl).0) (sym (h refl).1)

-- the total of a key is its sum and the number of its unknown amounts, or zero where the key is new
pub so_far : (key : NetKey) (ps : List NetPart)
    → unwrap_or (total_at ps key) no_total ≡ make_total (known_sum key ps) (unknown_count key ps)
so_far key ps =
    total_if (list_any (same_key key) (map part_key ps)) (known_sum key ps) (unknown_count key ps) (none_known key ps)

-- with one part more, a key of the part has one amount more, and any other what it had
step_at : (b any none : Bool) (known : ℤ) (unknown : ℕ) (units : ℤ)
    → (if any || b then Some
    (make_total (known +ℤ (if b then units else pos 0)) (unknown + (if b && none then 1 else 0))) else None)
    ≡ (if b then Some (make_total (known +ℤ units) (unknown + (if none then 1 else 0))) else
    (if any then Some (make_total known unknown) else None))
step_at true true none known unknown units = refl
step_at true false none known unknown units = refl
step_at false true none known unknown units = let e : known +ℤ pos 0 ≡ known = omega (arith, signed_arith) in
    let f : unknown + 0 ≡ unknown = omega arith in ap₂ (λ k u. Some (make_total k u)) e f
step_at false false none known unknown units = refl

own_key : (key : NetKey) (ps : List NetPart) (p : NetPart) (b : Bool) → Own key p ≡ b
    → (if b then Some (make_total (known_sum key ps +ℤ known_units p.units)
    (unknown_count key ps + (if is_none p.units then 1 else 0))) else total_at ps key)
    ≡ (if b then Some (total_with (unwrap_or (total_at ps (part_key p)) no_total) p.units) else total_at ps key)
own_key key ps p true e =
    let k : key ≡ part_key p = same_keys key (part_key p) e in
    let f : unwrap_or (total_at ps (part_key p)) no_total ≡ make_total (known_sum key ps) (unknown_count key ps) =
    subst (λ (q : NetKey). unwrap_or (total_at ps q) no_total
    ≡ make_total (known_sum key ps) (unknown_count key ps)) k (so_far key ps) in
    ap (λ (t : NetTotal). Some (total_with t p.units)) (sym f)
own_key key ps p false e = refl

-- one part more changes the total of its key alone
pub total_more : (key : NetKey) (ps : List NetPart) (p : NetPart)
    → total_at (ps ++ p ∷ []) key
    ≡ (if Own key p then Some (total_with (unwrap_or (total_at ps (part_key p)) no_total) p.units) else total_at ps key)
total_more key ps p =
    let a = any_push key ps p in
    let k = known_push key ps p in
    let u = unknown_push key ps p in
    let s = step_at (Own key p) (list_any (same_key key) (map part_key ps)) (is_none p.units) (known_sum key ps)
    (unknown_count key ps) (known_units p.units) in
    rw (a, k, u) (s ∙ own_key key ps p (Own key p) refl)

-- ---- how large totals are

known_small : (b : Bool) (units : Option ℤ) → IfSome units (λ u. unsigned_abs u ≤ most_units)
    → unsigned_abs (if b then known_units units else pos 0) ≤ most_units
known_small true None h = omega arith
known_small true (Some u) h = h
known_small false units h = omega arith

by_parts : (z : ℤ) (n : ℕ) → neg_ℤ (pos n) ≤ℤ z → z ≤ℤ pos n → unsigned_abs z ≤ n
by_parts (pos a) n h k = omega (arith, signed_arith, h, k)
by_parts (negsuc a) n h k = omega (arith, signed_arith, h, k)

sum_small : (a b : ℤ) (m n : ℕ) → unsigned_abs a ≤ m → unsigned_abs b ≤ n → unsigned_abs (a +ℤ b) ≤ m + n
sum_small (pos a) (pos b) m n h k = omega (arith, h, k)
sum_small (pos a) (negsuc b) m n h k =
    by_parts (pos a +ℤ negsuc b) (m + n) (omega (arith, signed_arith, h, k)) (omega (arith, signed_arith, h, k))
sum_small (negsuc a) (pos b) m n h k =
    by_parts (negsuc a +ℤ pos b) (m + n) (omega (arith, signed_arith, h, k)) (omega (arith, signed_arith, h, k))
sum_small (negsuc a) (negsuc b) m n h k =
    by_parts (negsuc a +ℤ negsuc b) (m + n) (omega (arith, signed_arith, h, k)) (omega (arith, signed_arith, h, k))

-- the sum of small amounts is bounded by their number
pub known_within : (key : NetKey) (ps : List NetPart) → Every IsSmall ps
    → unsigned_abs (known_sum key ps) ≤ length ps * most_units
known_within key [] h = omega arith
known_within key (p ∷ ps) h =
    let rest = known_within key ps h.1 in
    let own = known_small (Own key p) p.units h.0 in
    let s = sum_small (if Own key p then known_units p.units else pos 0) (known_sum key ps) most_units
    (length ps * most_units) own rest in
    omega (arith, s)

one_or_none : (b : Bool) → (if b then 1 else 0) ≤ 1
one_or_none true = omega arith
one_or_none false = omega arith

-- there are at most as many unknown amounts as parts
pub unknown_within : (key : NetKey) (ps : List NetPart) → unknown_count key ps ≤ length ps
unknown_within key [] = omega arith
unknown_within key (p ∷ ps) = let rest = unknown_within key ps in
    let own = one_or_none (Own key p && is_none p.units) in omega (arith, rest, own)

every_take : (n : ℕ) (ps : List NetPart) → Every IsSmall ps → Every IsSmall (take n ps)
every_take zero ps h = tt
every_take (suc n) [] h = tt
every_take (suc n) (p ∷ ps) h = (h.0, every_take n ps h.1)

take_shorter : (n : ℕ) (ps : List NetPart) → length (take n ps) ≤ length ps
take_shorter zero ps = omega arith
take_shorter (suc n) [] = omega arith
take_shorter (suc n) (p ∷ ps) = let e = take_shorter n ps in omega (arith, e)

times_units : (a b : ℕ) → a ≤ b → a * most_units ≤ b * most_units
times_units a b h = omega (arith, h)

-- a total so far lies within the bounds
pub total_fits : (ps : List NetPart) (n : ℕ) (key : NetKey) (t : NetTotal) → length ps ≤ most_parts → Every IsSmall ps
    → t ≡ unwrap_or (total_at (take n ps) key) no_total
    → (unsigned_abs t.known ≤ most_total) × (t.unknown ≤ most_parts)
total_fits ps n key t few small is =
    let e : t ≡ make_total (known_sum key (take n ps)) (unknown_count key (take n ps)) = is ∙ so_far key (take n ps) in
    let l = take_shorter n ps in
    let k = known_within key (take n ps) (every_take n ps small) in
    let u = unknown_within key (take n ps) in
    let m = times_units (length (take n ps)) most_parts (omega (arith, l, few)) in
    rw e (omega (arith, k, m), omega (arith, u, l, few))

-- one turn: the map m has the totals of the parts, and n has one part more
pub total_step : (m n : NetKey → Option NetTotal) (ps : List NetPart) (p : NetPart) (w : NetTotal)
    → ((q : NetKey) → m q ≡ total_at ps q) → ((q : NetKey) → n q ≡ (if same_key (part_key p) q then Some w else m q))
    → w ≡ total_with (unwrap_or (m (part_key p)) no_total) p.units
    → (key : NetKey) → n key ≡ total_at (ps ++ p ∷ []) key
total_step m n ps p w before after is key =
    after key
    ∙ ap (λ (b : Bool). if b then Some w else m key) (keys_equiv.symm (part_key p) key)
    ∙ ap₂ (λ (t : NetTotal) (o : Option NetTotal). if Own key p then Some t else o) (is
    ∙ ap (λ (o : Option NetTotal). total_with (unwrap_or o no_total) p.units) (before (part_key p))) (before key)
    ∙ sym (total_more key ps p)
