-- For each currency the rows of a net add up to the sum of all known parts.
use Rattle.std.proofs.Common.{◌≡◌, Bool, true, false, ◌||◌, List, [], ◌∷◌, map, Contains, refl, sym, ap, ap₂, subst}
use Rattle.std.proofs.Common.{◌∙◌, ℤ, pos, ◌+ℤ◌, arith}
use Rattle.std.specs.Prelude.{if◌then◌else◌}
use Rattle.std.specs.List.{AllByRecursion, list_any}
use Rattle.std.specs.List.Sorted.{IsStrictlySortedBy}
use Rattle.std.specs.Ordering.{is_eq}
use Rattle.std.specs.declared.cmp.Ordering.TheVariants.{Less}
use Rattle.std.specs.Str.{bytes_eq}
use Rattle.std.proofs.lemmas.Bool.{or_parts}
use Rattle.std.proofs.lemmas.Map.Keys.{sorted_head, sorted_tail}
use Rattle.std.proofs.lemmas.Map.Views.{list_any-from_Contains}
use Rattle.jiff_core.proofs.SignedLemmas.{signed_arith}
use Rattle.irs_base.specs.Lists.{Every}
use Rattle.irs_base.specs.declared.line.Dec.{Dec}
use Rattle.irs_terms.specs.declared.currency.Currency.{Currency}
use Rattle.irs_net.specs.Nets.{IsNet, IsSumOf, key_order, same_key, part_key, row_key, known_sum, known_units}
use Rattle.irs_net.specs.Nets.{rows_total, parts_total}
use Rattle.irs_net.specs.declared.parts.NetPart.{NetPart}
use Rattle.irs_net.specs.declared.table.NetRow.{NetRow}
use Rattle.irs_net.specs.declared.totals.NetKey.{NetKey}
use Rattle.irs_net.proofs.KeyLemmas.{keys_equiv, same_keys, head_in, tail_in}

-- what the rows of a currency add up to over these parts
over : Currency → List NetRow → List NetPart → ℤ
over c [] parts = pos 0
over c (r ∷ rs) parts =
    (if bytes_eq c.letters r.currency.letters then known_sum (row_key r) parts else pos 0) +ℤ over c rs parts

-- what one part adds to a row
abbrev given : NetRow → NetPart → ℤ
given r p = if same_key (row_key r) (part_key p) then known_units p.units else pos 0

-- what one part adds to the rows of a currency
from_one : Currency → List NetRow → NetPart → ℤ
from_one c [] p = pos 0
from_one c (r ∷ rs) p = (if bytes_eq c.letters r.currency.letters then given r p else pos 0) +ℤ from_one c rs p

over_rows : (c : Currency) (parts : List NetPart) (rows : List NetRow) → Every (IsSumOf parts) rows
    → rows_total c rows ≡ over c rows parts
unfolding over
over_rows c parts [] h = refl
over_rows c parts (r ∷ rs) h =
    ap₂ (λ (a b : ℤ). (if bytes_eq c.letters r.currency.letters then a else pos 0) +ℤ b)
    (ap (λ (v : Dec). v.units) h.0.amount) (over_rows c parts rs h.1)

nothing : (b : Bool) → (if b then pos 0 else pos 0) ≡ pos 0
nothing true = refl
nothing false = refl

both_nothing : (a b : ℤ) → a ≡ pos 0 → b ≡ pos 0 → a +ℤ b ≡ pos 0
both_nothing a b h k = omega (arith, signed_arith, h, k)

over_none : (c : Currency) (rows : List NetRow) → over c rows [] ≡ pos 0
unfolding over
over_none c [] = refl
over_none c (r ∷ rs) =
    both_nothing (if bytes_eq c.letters r.currency.letters then pos 0 else pos 0) (over c rs [])
    (nothing (bytes_eq c.letters r.currency.letters)) (over_none c rs)

split_if : (b : Bool) (x y u v : ℤ) → (if b then x +ℤ y else pos 0) +ℤ (u +ℤ v)
    ≡ ((if b then x else pos 0) +ℤ u) +ℤ ((if b then y else pos 0) +ℤ v)
split_if true x y u v = omega (arith, signed_arith)
split_if false x y u v = omega (arith, signed_arith)

-- a part more gives what it gives alone
over_more : (c : Currency) (rows : List NetRow) (p : NetPart) (ps : List NetPart)
    → over c rows (p ∷ ps) ≡ from_one c rows p +ℤ over c rows ps
unfolding over from_one
over_more c [] p ps = refl
over_more c (r ∷ rs) p ps =
    let own = if bytes_eq c.letters r.currency.letters then given r p +ℤ known_sum (row_key r) ps else pos 0 in
    ap (λ (z : ℤ). (if bytes_eq c.letters r.currency.letters then given r p +ℤ known_sum (row_key r) ps else pos 0)
    +ℤ z) (over_more c rs p ps)
    ∙ split_if (bytes_eq c.letters r.currency.letters) (given r p) (known_sum (row_key r) ps) (from_one c rs p)
    (over c rs ps)

-- a row has the key of the part
abbrev keyed : NetPart → List NetRow → Bool
keyed p rows = list_any (same_key (part_key p)) (map row_key rows)

-- rows of other keys get nothing of a part
from_none : (c : Currency) (rows : List NetRow) (p : NetPart) → keyed p rows ≡ false → from_one c rows p ≡ pos 0
unfolding from_one
from_none c [] p h = refl
from_none c (r ∷ rs) p h =
    let apart = or_parts (same_key (part_key p) (row_key r)) (keyed p rs) h in
    let own : same_key (row_key r) (part_key p) ≡ false = keys_equiv.symm (row_key r) (part_key p) ∙ apart.0 in
    rw own (both_nothing (if bytes_eq c.letters r.currency.letters then pos 0 else pos 0) (from_one c rs p)
    (nothing (bytes_eq c.letters r.currency.letters)) (from_none c rs p apart.1))

after_apart : (key : NetKey) (ks : List NetKey) → AllByRecursion (λ (k : NetKey). key_order key k ≡ Less) ks
    → list_any (same_key key) ks ≡ false
after_apart key [] h = refl
after_apart key (k ∷ ks) h = let e : same_key key k ≡ false = ap is_eq h.0 in rw e (after_apart key ks h.1)

-- the rows of a net get of a part what it has, where it is of the currency
abbrev share : Currency → NetPart → ℤ
share c p = if bytes_eq c.letters p.currency.letters then known_units p.units else pos 0

with_nothing : (a b : ℤ) → b ≡ pos 0 → a +ℤ b ≡ a
with_nothing a b h = omega (arith, signed_arith, h)

nothing_with : (a b c : ℤ) → a ≡ pos 0 → b ≡ c → a +ℤ b ≡ c
nothing_with a b c h k = omega (arith, signed_arith, h, k)

from_row : (c : Currency) (r : NetRow) (rs : List NetRow) (p : NetPart) (b : Bool)
    → same_key (part_key p) (row_key r) ≡ b → IsStrictlySortedBy key_order (map row_key (r ∷ rs))
    → (b || keyed p rs) ≡ true
    → (keyed p rs ≡ true → from_one c rs p ≡ share c p) → from_one c (r ∷ rs) p ≡ share c p
unfolding from_one
from_row c r rs p true same rising any rest =
    let key : part_key p ≡ row_key r = same_keys (part_key p) (row_key r) same in
    let own : same_key (row_key r) (part_key p) ≡ true = keys_equiv.symm (row_key r) (part_key p) ∙ same in
    let apart : keyed p rs ≡ false =
    subst (λ (k : NetKey). list_any (same_key k) (map row_key rs) ≡ false) (sym key)
    (after_apart (row_key r) (map row_key rs) (sorted_head key_order (row_key r) (map row_key rs) rising)) in
    let letters : r.currency.letters ≡ p.currency.letters = ap (λ (k : NetKey). k.letters) (sym key) in
    rw (own, letters) (with_nothing (share c p) (from_one c rs p) (from_none c rs p apart))
from_row c r rs p false same rising any rest =
    let own : same_key (row_key r) (part_key p) ≡ false = keys_equiv.symm (row_key r) (part_key p) ∙ same in
    rw own (nothing_with (if bytes_eq c.letters r.currency.letters then pos 0 else pos 0) (from_one c rs p) (share c p)
    (nothing (bytes_eq c.letters r.currency.letters)) (rest any))

from_rows : (c : Currency) (rows : List NetRow) (p : NetPart) → IsStrictlySortedBy key_order (map row_key rows)
    → keyed p rows ≡ true → from_one c rows p ≡ share c p
from_rows c [] p rising any = absurd (cc)
from_rows c (r ∷ rs) p rising any =
    from_row c r rs p (same_key (part_key p) (row_key r)) refl rising any
    (λ h. from_rows c rs p (sorted_tail key_order (row_key r) (map row_key rs) rising) h)

over_parts : (c : Currency) (rows : List NetRow) (parts : List NetPart)
    → IsStrictlySortedBy key_order (map row_key rows) → Every (λ (p : NetPart). keyed p rows ≡ true) parts
    → over c rows parts ≡ parts_total c parts
over_parts c rows [] rising h = over_none c rows
over_parts c rows (p ∷ ps) rising h =
    over_more c rows p ps ∙ ap₂ ◌+ℤ◌ (from_rows c rows p rising h.0) (over_parts c rows ps rising h.1)

each_part : (Q : NetKey → Type 0) (parts : List NetPart) → ((key : NetKey) → Contains (map part_key parts) key → Q key)
    → Every (λ (p : NetPart). Q (part_key p)) parts
each_part Q [] h = tt
each_part Q (p ∷ ps) h = (
  h (part_key p) (head_in (part_key p) (map part_key ps)),
  each_part Q ps (λ key c. h key (tail_in (part_key p) (map part_key ps) key c)),
)

-- for each currency the rows add up to the sum of all known parts
pub adds_up : (c : Currency) (parts : List NetPart) (rows : List NetRow) → IsNet parts rows
    → rows_total c rows ≡ parts_total c parts
adds_up c parts rows h =
    over_rows c parts rows h.sums
    ∙ over_parts c rows parts h.rising
    (each_part (λ (key : NetKey). list_any (same_key key) (map row_key rows) ≡ true) parts
    (λ key k. list_any-from_Contains keys_equiv key (map row_key rows) (h.complete key k)))
