-- An answer that is right on both sides is the value of a function that is.
pub use Rattle.irs_base.proofs.Orders.{both_true}
use Rattle.std.proofs.Common.{◌≡◌, Option, Some, None, IfSome, IfNone, option_map, Bool, true, ◌&&◌, refl, ap}

-- the result has P, or there is none and nothing has P
abbrev pub Exact : {A : Type 0} → (A → Type 0) → Option A → Type 0
Exact {A} P None = (v : A) → P v → ⊥
Exact P (Some v) = P v

-- two results that are exact for a relation with one value are the same
pub exact_same : {A : Type 0} (P : A → Type 0) (o r : Option A) → ((v w : A) → P v → P w → v ≡ w) → Exact P o
    → Exact P r → r ≡ o
exact_same P None None one p q = refl
exact_same P None (Some w) one p q = absurd (p w q)
exact_same P (Some v) None one p q = absurd (q v p)
exact_same P (Some v) (Some w) one p q = ap Some (one w v q p)

-- a result with P, or none where nothing has P, is exact
pub exact_of : {A : Type 0} (P : A → Type 0) (r : Option A) → IfSome r P → IfNone r ((v : A) → P v → ⊥) → Exact P r
exact_of P None some none = none
exact_of P (Some v) some none = some

-- an exact result is exact for what follows from it, where nothing else does
pub exact_map : {A B : Type 0} (P : A → Type 0) (Q : B → Type 0) (f : A → B) (o : Option A) → ((v : A) → P v → Q (f v))
    → (((v : A) → P v → ⊥) → (w : B) → Q w → ⊥) → Exact P o → Exact Q (option_map f o)
exact_map P Q f None some none h = none h
exact_map P Q f (Some v) some none h = some v h

-- where each is true, both together are
pub true_both : (a b : Bool) → a ≡ true → b ≡ true → a && b ≡ true
true_both true true p q = refl
true_both _ _ p q = cc
