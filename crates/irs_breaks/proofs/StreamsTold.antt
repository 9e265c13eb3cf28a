-- The findings of a stream that both sides have, one side, or neither.
use Rattle.std.proofs.Common.{◌≡◌, ℕ, max, List, length, Bor, Option, Some, None, ℤ, refl, sym, subst}
use Rattle.std.specs.Prelude.{option_copied, slice_get}
use Rattle.std.specs.Slice.{IsItemAt}
use Rattle.std.proofs.lemmas.Option.{slice_get_past, slice_get_read}
use Rattle.irs_schedule.specs.Parts.{Part}
use Rattle.irs_flows.specs.FlowReading.{FlowPart}
use Rattle.irs_breaks.specs.BreakLists.{AreExchangesOf, ArePaymentsOf, IsStream, StreamAt, whole_stream}
use Rattle.irs_breaks.specs.Findings.{Findings, UpTo, joined_findings, no_findings}
use Rattle.irs_breaks.specs.Private.Findings.{Adds}
use Rattle.irs_breaks.specs.declared.findings.What.TheVariants as what
use Rattle.irs_breaks.proofs.Joining.{adds_then, joined_nothing}
use Rattle.irs_breaks.proofs.PaymentsTold.{added_to_nothing}

-- a stream that both sides have adds its exchanges and its payments
pub both_told : (from : ℤ) (stream : ℕ) (o : Option Part) (q : Option FlowPart) (p : Part) (g : FlowPart) (a b c : Findings)
    → Some p ≡ o → Some g ≡ q → Adds (AreExchangesOf from stream p g) a b → Adds (ArePaymentsOf from stream p g) b c
    → Adds (IsStream from stream o q) a c
both_told from stream o q p g a b c e f h k =
    subst (λ (o : Option Part). Adds (IsStream from stream o q) a c) e
    (subst (λ (q : Option FlowPart). Adds (IsStream from stream (Some p) q) a c) f
    (adds_then (AreExchangesOf from stream p g) (ArePaymentsOf from stream p g) a b c h k))

-- a stream that only ours has is missing
pub ours_told : (from : ℤ) (stream : ℕ) (o : Option Part) (q : Option FlowPart) (p : Part) (a b : Findings)
    → Some p ≡ o → None ≡ q → b ≡ joined_findings a (whole_stream stream (what.Missing None)) → Adds (IsStream from stream o q) a b
ours_told from stream o q p a b e f h =
    subst (λ (o : Option Part). Adds (IsStream from stream o q) a b) e
    (subst (λ (q : Option FlowPart). Adds (IsStream from stream (Some p) q) a b) f
    (whole_stream stream (what.Missing None), refl, h))

-- a stream that only theirs has is extra
pub theirs_told : (from : ℤ) (stream : ℕ) (o : Option Part) (q : Option FlowPart) (g : FlowPart) (a b : Findings)
    → None ≡ o → Some g ≡ q → b ≡ joined_findings a (whole_stream stream (what.Extra 0 None)) → Adds (IsStream from stream o q) a b
theirs_told from stream o q g a b e f h =
    subst (λ (o : Option Part). Adds (IsStream from stream o q) a b) e
    (subst (λ (q : Option FlowPart). Adds (IsStream from stream None q) a b) f
    (whole_stream stream (what.Extra 0 None), refl, h))

-- a stream that neither side has adds nothing
pub neither_told : (from : ℤ) (stream : ℕ) (o : Option Part) (q : Option FlowPart) (a : Findings) → None ≡ o → None ≡ q
    → Adds (IsStream from stream o q) a a
neither_told from stream o q a e f =
    subst (λ (o : Option Part). Adds (IsStream from stream o q) a a) e
    (subst (λ (q : Option FlowPart). Adds (IsStream from stream None q) a a) f (no_findings, refl, sym (joined_nothing a)))

-- ---- the list

-- a borrowed item at a place is the member there
pub there : {X : Type 0} (xs : List X) (i : ℕ) (o : Option (Bor X)) → IsItemAt xs i o → option_copied o ≡ slice_get xs i
there xs i None h = sym (slice_get_past xs i h.3)
there xs i (Some x) h = sym (slice_get_read xs (length xs) i x.now refl h.3.0 h.1)

-- the list of all streams
pub list_of : (from first : ℤ) (s t : List Part) (f g : List FlowPart) (a b : Findings) → from ≡ first → s ≡ t → f ≡ g
    → a ≡ no_findings → Adds (UpTo (StreamAt from s f) (max (length s) (length f))) a b
    → UpTo (StreamAt first t g) (max (length t) (length g)) b
list_of from first s t f g a b d e k n h =
    added_to_nothing (UpTo (StreamAt first t g) (max (length t) (length g))) b
    (subst (λ (z : ℤ). Adds (UpTo (StreamAt z t g) (max (length t) (length g))) no_findings b) d
    (subst (λ (z : List Part). Adds (UpTo (StreamAt from z g) (max (length z) (length g))) no_findings b) e
    (subst (λ (z : List FlowPart). Adds (UpTo (StreamAt from s z) (max (length s) (length z))) no_findings b) k
    (subst (λ (z : Findings). Adds (UpTo (StreamAt from s f) (max (length s) (length f))) z b) n h))))
