-- Findings that are added one after the other.
use Rattle.std.proofs.Common.{◌≡◌, ℕ, suc, ◌+◌, ◌<◌, List, length, Option, Some, refl, sym, subst, ap, ap₂, ◌∙◌}
use Rattle.std.proofs.Common.{arith, get_or}
use Rattle.std.specs.Prelude.{slice_get}
use Rattle.std.proofs.lemmas.List.{append-nil, append_assoc}
use Rattle.std.proofs.lemmas.Option.{slice_get-get_or}
use Rattle.irs_breaks.specs.Findings.{EachRow, Exactly, Findings, OnRow, RowAt, Then, UpTo, joined_findings}
use Rattle.irs_breaks.specs.Findings.{no_findings}
use Rattle.irs_breaks.specs.Private.Findings.{Adds}
use Rattle.irs_breaks.specs.declared.counting.Counts.{Counts}
use Rattle.irs_breaks.specs.declared.findings.Break.{Break}

-- findings with these breaks and these counts
abbrev made : List Break → List Counts → Findings
made b p = record { breaks = b; pairs = p }

-- findings followed by none are the same findings
pub joined_nothing : (a : Findings) → joined_findings a no_findings ≡ a
joined_nothing a = ap₂ made (append-nil a.breaks) (append-nil a.pairs)

-- findings can be joined in any grouping
pub joined_assoc : (a b c : Findings) → joined_findings (joined_findings a b) c ≡ joined_findings a (joined_findings b c)
joined_assoc a b c = ap₂ made (append_assoc a.breaks b.breaks c.breaks) (append_assoc a.pairs b.pairs c.pairs)

-- before the first place nothing has been added
pub adds_none : (Is : ℕ → Findings → Type 0) (a : Findings) → Adds (UpTo Is 0) a a
adds_none Is a = (no_findings, refl, sym (joined_nothing a))

-- no findings add nothing
pub adds_nothing : (a : Findings) → Adds (Exactly no_findings) a a
adds_nothing a = (no_findings, refl, sym (joined_nothing a))

-- findings that are added in two steps
pub adds_then : (P Q : Findings → Type 0) (a b c : Findings) → Adds P a b → Adds Q b c → Adds (Then P Q) a c
adds_then P Q a b c h k = (
  joined_findings h.0 k.0,
  record { first = h.0; second = k.0; is_first = h.1; is_second = k.1; is = refl },
  k.2 ∙ (ap (λ (z : Findings). joined_findings z k.0) h.2 ∙ joined_assoc a h.0 k.0),
)

-- the findings of one more place are added
pub adds_more : (Is : ℕ → Findings → Type 0) (n : ℕ) (a b c : Findings) → Adds (UpTo Is n) a b → Adds (Is n) b c
    → Adds (UpTo Is (n + 1)) a c
adds_more Is n a b c h k =
    let next : suc n ≡ n + 1 = omega arith in
    subst (λ (m : ℕ). Adds (UpTo Is m) a c) next (adds_then (UpTo Is n) (Is n) a b c h k)

-- the findings of one more row are added
pub adds_row : {X : Type 0} (Told : X → Findings → Type 0) (rows : List X) (n : ℕ) (x : X) (a b c : Findings)
    → n < length rows → x ≡ get_or rows n x → Adds (UpTo (RowAt Told rows) n) a b → Adds (Told x) b c
    → Adds (UpTo (RowAt Told rows) (n + 1)) a c
adds_row {X} Told rows n x a b c within is h k =
    let there : slice_get rows n ≡ Some x = slice_get-get_or rows n x within ∙ ap (λ z. Some z) (sym is) in
    let more : Adds (RowAt Told rows n) b c =
    subst (λ (o : Option X). Adds (λ l. OnRow Told o l) b c) (sym there) k in
    adds_more (RowAt Told rows) n a b c h more

-- the findings of all rows have been added
pub adds_all : {X : Type 0} (Told : X → Findings → Type 0) (rows : List X) (n : ℕ) (a b : Findings) → n ≡ length rows
    → Adds (UpTo (RowAt Told rows) n) a b → Adds (EachRow Told rows) a b
adds_all Told rows n a b is h = subst (λ (m : ℕ). Adds (UpTo (RowAt Told rows) m) a b) is h
