-- The exchanges and payments of a schedule: one stream more, how many there are and how large.
use Rattle.std.proofs.Common.{◌≡◌, ℕ, zero, suc, ◌+◌, ◌*◌, ◌^◌, ◌<◌, ◌≤◌, Bool, true, false, List, [], ◌∷◌, ◌++◌}
use Rattle.std.proofs.Common.{length, map, take, get_or, Option, Some, None, IfSome, ℤ, pos, negsuc, unsigned_abs, sym}
use Rattle.std.proofs.Common.{ap, subst, ◌∙◌, arith, append_assoc, length-append}
use Rattle.std.specs.Prelude.{option_map}
use Rattle.std.proofs.lemmas.List.{append-nil, length-map}
use Rattle.irs_base.specs.Limits.{most_exchanges, most_periods}
use Rattle.irs_base.specs.Lists.{Every}
use Rattle.irs_base.specs.declared.line.Dec.{Dec}
use Rattle.irs_terms.specs.declared.currency.Currency.{Currency}
use Rattle.irs_terms.specs.declared.results.Exchange.{Exchange}
use Rattle.irs_schedule.proofs.PlaceLemmas.{decimals_few, every_both, every_map}
use Rattle.irs_schedule.specs.Parts.{EntriesCover, HasAmount, IsAmount, IsWithin, KeepsBounds, Part}
use Rattle.irs_schedule.specs.declared.entries.PaymentEntry.{PaymentEntry}
use Rattle.irs_net.specs.Nets.{exchange_part, parts_of, payment_part, signed, net_parts_of}
use Rattle.irs_net.specs.Private.FoundParties.{IsSmall, most_parts, most_units}
use Rattle.irs_net.specs.declared.parts.NetPart.{NetPart}

-- what holds for each element of a list holds for the one at a place
pub every_at : {X : Type 0} (P : X → Type 0) (xs : List X) (i : ℕ) (x : X) → Every P xs → i < length xs
    → x ≡ get_or xs i x → P x
every_at P [] i x h low e = absurd (omega (arith, low))
every_at P (y ∷ ys) zero x h low e = subst P (sym e) h.0
every_at P (y ∷ ys) (suc i) x h low e = every_at P ys i x h.1 (omega (arith, low)) e

-- ---- one stream more

-- one stream more adds its parts
pub parts_more : (ps : List Part) (bs : List Bool) (i : ℕ) (p : Part) → i < length ps → i < length bs
    → p ≡ get_or ps i p → parts_of (take (suc i) ps) bs ≡ parts_of (take i ps) bs ++ net_parts_of (get_or bs i false) p
parts_more [] bs i p low lower e = absurd (omega (arith, low))
parts_more (q ∷ qs) [] i p low lower e = absurd (omega (arith, lower))
parts_more (q ∷ qs) (b ∷ bs) zero p low lower e = append-nil (net_parts_of b q) ∙ ap (net_parts_of b) (sym e)
parts_more (q ∷ qs) (b ∷ bs) (suc i) p low lower e =
    ap (λ (ns : List NetPart). net_parts_of b q ++ ns)
    (parts_more qs bs i p (omega (arith, low)) (omega (arith, lower)) e)
    ∙ sym (append_assoc (net_parts_of b q) (parts_of (take i qs) bs) (net_parts_of (get_or bs i false) p))

-- ---- how many

payments_few : (a n : ℕ) (ys : List PaymentEntry) → EntriesCover a ys n → length ys + a ≤ n + 1
payments_few a n [] h = omega (arith, h)
payments_few a n (y ∷ ys) h = let rest = payments_few (y.last_period + 1) n ys h.2 in let first = h.0 in
    let some = h.1 in omega (arith, rest, first, some)

stream_few : (b : Bool) (p : Part) → KeepsBounds p → length (net_parts_of b p) ≤ most_exchanges + most_periods
stream_few b p h =
    let xs = map (exchange_part p.currency b) p.exchanges in
    let ys = map (payment_part p.currency b) p.payments in
    let both = length-append xs ys in
    let x = length-map p.exchanges (exchange_part p.currency b) in
    let y = length-map p.payments (payment_part p.currency b) in
    let exchanges = h.exchanges in
    let periods = h.few in
    let payments = payments_few 1 (length p.periods) p.payments h.covers in
    omega (arith, both, x, y, exchanges, periods, payments)

streams_few : (ps : List Part) (bs : List Bool) → Every KeepsBounds ps
    → length (parts_of ps bs) ≤ length ps * (most_exchanges + most_periods)
streams_few [] bs h = omega arith
streams_few (p ∷ ps) [] h = omega arith
streams_few (p ∷ ps) (b ∷ bs) h =
    let own = stream_few b p h.0 in
    let rest = streams_few ps bs h.1 in
    let both = length-append (net_parts_of b p) (parts_of ps bs) in
    omega (arith, own, rest, both)

-- a schedule has at most `most_parts` parts
pub parts_few : (ps : List Part) (bs : List Bool) → IsWithin ps → length (parts_of ps bs) ≤ most_parts
parts_few ps bs h = let few = streams_few ps bs h.each in let streams = h.few in omega (arith, few, streams)

-- ---- how large

thousand : (n : ℕ) → n ≤ 3 → 10 ^ n ≤ 1_000
thousand zero h = omega arith
thousand (suc zero) h = omega arith
thousand (suc (suc zero)) h = omega arith
thousand (suc (suc (suc zero))) h = omega arith
thousand (suc (suc (suc (suc n)))) h = absurd (omega (arith, h))

-- an amount is small
pub amount_small : (currency : Currency) (v : Dec) → IsAmount currency v → unsigned_abs v.units ≤ most_units
amount_small currency v h =
    let few = decimals_few currency.letters in
    let places = h.places in
    let scale = thousand v.places (omega (arith, few, places)) in
    let size = h.size in
    omega (arith, size, scale)

signed_small : (b : Bool) (z : ℤ) (n : ℕ) → unsigned_abs z ≤ n → unsigned_abs (signed b z) ≤ n
signed_small true z n h = h
signed_small false (pos zero) n h = omega (arith, h)
signed_small false (pos (suc a)) n h = omega (arith, h)
signed_small false (negsuc a) n h = omega (arith, h)

exchange_small : (currency : Currency) (b : Bool) (x : Exchange) → IsAmount currency x.amount
    → IsSmall (exchange_part currency b x)
exchange_small currency b x h = signed_small b x.amount.units most_units (amount_small currency x.amount h)

paid_small : (currency : Currency) (b : Bool) (amount : Option Dec) → IfSome amount (IsAmount currency)
    → IfSome (option_map (λ (v : Dec). signed b v.units) amount) (λ (units : ℤ). unsigned_abs units ≤ most_units)
paid_small currency b None h = tt
paid_small currency b (Some v) h = signed_small b v.units most_units (amount_small currency v h)

payment_small : (currency : Currency) (b : Bool) (y : PaymentEntry) → HasAmount currency y
    → IsSmall (payment_part currency b y)
payment_small currency b y h = paid_small currency b y.amount h

stream_small : (b : Bool) (p : Part) → KeepsBounds p → Every IsSmall (net_parts_of b p)
stream_small b p h =
    every_both IsSmall (map (exchange_part p.currency b) p.exchanges) (map (payment_part p.currency b) p.payments)
    (every_map IsSmall (λ (x : Exchange). IsAmount p.currency x.amount) (exchange_part p.currency b)
    (exchange_small p.currency b) p.exchanges h.exchanged)
    (every_map IsSmall (HasAmount p.currency) (payment_part p.currency b)
    (payment_small p.currency b) p.payments h.paid)

streams_small : (ps : List Part) (bs : List Bool) → Every KeepsBounds ps → Every IsSmall (parts_of ps bs)
streams_small [] bs h = tt
streams_small (p ∷ ps) [] h = tt
streams_small (p ∷ ps) (b ∷ bs) h =
    every_both IsSmall (net_parts_of b p) (parts_of ps bs) (stream_small b p h.0) (streams_small ps bs h.1)

-- each amount of a schedule is small
pub parts_small : (ps : List Part) (bs : List Bool) → IsWithin ps → Every IsSmall (parts_of ps bs)
parts_small ps bs h = streams_small ps bs h.each
