-- The files of a command have the names that their roles give.
use Rattle.std.proofs.Common.{◌≡◌, ◌⊎◌, inl, inr, ℕ, zero, suc, ◌+◌, List, [], ◌∷◌, ◌++◌, Option, Some, Bool, true, false, drop}
use Rattle.std.proofs.Common.{refl, sym, ap, subst, ◌∙◌, arith}
use Rattle.std.specs.Prelude.{slice_get, unwrap_or, option_map, if◌then◌else◌}
use Rattle.std.proofs.lemmas.List.{get_or-drop}
use Rattle.std.proofs.lemmas.Option.{get_or_from_slice_get, unwrap_or-slice_get}
use Rattle.irs_cli.specs.Commands.{Asked, Asks, AsksAs, Wanted, Words, files_from, is_file, command_of, params_of}
use Rattle.irs_cli.specs.Commands.{role_at, roles_of}
use Rattle.irs_cli.specs.Given.{Each, IsNamed, IsNamedAs, file_name, roles_before, word_place, word_from, word_if}
use Rattle.irs_cli.specs.declared.commands.Kind.{Kind}
use Rattle.irs_cli.specs.declared.commands.Kind.TheVariants as kind
use Rattle.irs_cli.specs.declared.commands.Role.{Role}
use Rattle.irs_cli.specs.declared.commands.Role.TheVariants.{Document, Fixings, Flows, Calendar}

-- ---- the table

-- the word with this index is the first with its role, or a calendar
record AtRole (rs : List Role) (j : ℕ) : Type 0 where
  number : ℕ
  is : j ≡ roles_before rs (role_at rs j) + number
  which : (number ≡ 0) ⊎ (role_at rs j ≡ Calendar)

at_none : (j : ℕ) → AtRole [] j
at_none j = record { number = j; is = omega arith; which = inr refl }

at_one : (j : ℕ) → AtRole (Document ∷ []) j
at_one zero = record { number = 0; is = refl; which = inl refl }
at_one (suc j) = record { number = j; is = omega arith; which = inr refl }

at_two : (j : ℕ) → AtRole (Document ∷ Fixings ∷ []) j
at_two zero = record { number = 0; is = refl; which = inl refl }
at_two (suc zero) = record { number = 0; is = refl; which = inl refl }
at_two (suc (suc j)) = record { number = j; is = omega arith; which = inr refl }

at_three : (j : ℕ) → AtRole (Document ∷ Fixings ∷ Flows ∷ []) j
at_three zero = record { number = 0; is = refl; which = inl refl }
at_three (suc zero) = record { number = 0; is = refl; which = inl refl }
at_three (suc (suc zero)) = record { number = 0; is = refl; which = inl refl }
at_three (suc (suc (suc j))) = record { number = j; is = omega arith; which = inr refl }

at_role : (k : Kind) (j : ℕ) → AtRole (roles_of k) j
at_role kind.Check j = at_one j
at_role kind.Schedule j = at_two j
at_role kind.Audit j = at_three j
at_role kind.Breaks j = at_three j
at_role kind.Bulk j = at_none j
at_role kind.Emit j = at_two j
at_role kind.EmitXml j = at_two j
at_role kind.Accrue j = at_two j
at_role kind.Net j = at_two j
at_role kind.Observations j = at_two j
at_role kind.Overnight j = at_two j
at_role kind.Average j = at_two j
at_role kind.Interpolate j = at_two j
at_role kind.Carrier j = at_one j

-- ---- the words of a command

-- the word with this index after the parameters has the name that its role gives
named_at : (w : List ℕ) (ws : Words) (k : Kind) (j : ℕ) (name : List ℕ) → command_of w ≡ Some k
    → slice_get (drop (params_of k) ws) j ≡ Some name → IsNamedAs (w ∷ ws) (role_at (roles_of k) j) name
named_at w ws k j name of at =
    let t = at_role k j in
    let role = role_at (roles_of k) j in
    let m = params_of k in
    let place : word_place k role + t.number ≡ suc (m + j) = let e = t.is in omega (arith, e) in
    let first : file_name (w ∷ ws) role t.number ≡ word_from (w ∷ ws) (word_place k role) t.number =
    ap (λ (o : Option Kind). word_if (w ∷ ws) (option_map (λ k. word_place k role) o) t.number) of in
    let found : word_from (w ∷ ws) (word_place k role) t.number ≡ name =
    ap (λ (n : ℕ). unwrap_or (slice_get (w ∷ ws) n) []) place
    ∙ (unwrap_or-slice_get ws (m + j) [] ∙ (sym (get_or-drop m ws j []) ∙ get_or_from_slice_get (drop m ws) j name [] at)) in
    record { number = t.number; is = sym (first ∙ found); which = t.which }

kept_then : (P : Wanted → Type 0) (b : Bool) (x : Wanted) (rest : List Wanted) → P x → Each P rest
    → Each P ((if b then x ∷ [] else []) ++ rest)
kept_then P true x rest p h = (p, h)
kept_then P false x rest p h = h

-- what holds of each word by its role holds of the files among them
each_from : (Q : Role → List ℕ → Type 0) (roles : List Role) (xs : Words) (place i : ℕ)
    → ((j : ℕ) (name : List ℕ) → slice_get xs j ≡ Some name → Q (role_at roles (i + j)) name)
    → Each (λ w. Q w.role w.name) (files_from roles place i xs)
each_from Q roles [] place i each = tt
each_from Q roles (x ∷ xs) place i each =
    let e : i + 0 ≡ i = omega arith in
    let here : Q (role_at roles i) x = subst (λ (n : ℕ). Q (role_at roles n) x) e (each 0 x refl) in
    kept_then (λ w. Q w.role w.name) (is_file (role_at roles i) x)
    (record { place = place; role = role_at roles i; name = x }) (files_from roles (place + 1) (i + 1) xs) here
    (each_from Q roles xs (place + 1) (i + 1) (λ j name at.
    let n : i + suc j ≡ i + 1 + j = omega arith in
    subst (λ (m : ℕ). Q (role_at roles m) name) n (each (suc j) name at)))

as_named : (w : List ℕ) (ws : Words) (k : Kind) (a : Asked) → command_of w ≡ Some k → AsksAs k ws a
    → Each (IsNamed (w ∷ ws)) a.files
as_named w ws k a of asks =
    subst (Each (IsNamed (w ∷ ws))) (sym asks.files)
    (each_from (IsNamedAs (w ∷ ws)) (roles_of k) (drop (params_of k) ws) (params_of k + 1) 0
    (λ j name at.
    let n : j ≡ 0 + j = omega arith in
    subst (λ (m : ℕ). IsNamedAs (w ∷ ws) (role_at (roles_of k) m) name) n (named_at w ws k j name of at)))

-- each file of a command has the name that its role gives
pub all_named : (ws : Words) (a : Asked) → Asks ws a → Each (IsNamed ws) a.files
all_named [] a asks = absurd asks
all_named (w ∷ ws) a (k, of, asks) = as_named w ws k a of asks
