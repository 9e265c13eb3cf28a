-- How what is round the root goes on.
use Rattle.std.proofs.Common.{◌≡◌, ℕ, zero, suc, ◌<◌, ◌≤◌, List, length, Some, None, refl, sym, ap, arith}
use Rattle.std.specs.Prelude.{codes}
use Rattle.irs_xml.specs.Characters.{rest_after}
use Rattle.irs_xml.specs.Private.Reading.{skip_space, comment_at, instruction_at, misc_at}
use Rattle.irs_xml.proofs.Steps.{length_after}
use Rattle.irs_xml.proofs.Shorter.{skip_short, comment_short, instruction_short}

-- what is read from here gives what is read from the start
pub record MiscGoes (cs all : List ℕ) : Type 0 where
  pub fuel : ℕ
  pub enough : length cs ≤ fuel
  pub same : misc_at (suc fuel) cs ≡ misc_at (suc (length all)) all

-- at the start everything is left
pub misc_starts : (all : List ℕ) → MiscGoes all all
misc_starts all = record { fuel = length all; enough = omega arith; same = refl }

-- where neither a comment nor an instruction comes after white space, reading ends there
pub misc_ends : (cs mid all : List ℕ) → MiscGoes cs all → skip_space cs ≡ mid → rest_after (codes "<!--") mid ≡ None → rest_after (codes "<?") mid ≡ None
    → misc_at (suc (length all)) all ≡ Some mid
unfolding misc_at
misc_ends cs mid all g s a b = sym (rw (s, a, b) at g.same)

-- a comment that can't be read ends reading without a result
pub misc_no_comment : (cs mid x all : List ℕ) → MiscGoes cs all → skip_space cs ≡ mid → rest_after (codes "<!--") mid ≡ Some x → comment_at x ≡ None
    → misc_at (suc (length all)) all ≡ None
unfolding misc_at
misc_no_comment cs mid x all g s a b = sym (rw (s, a, b) at g.same)

-- an instruction that can't be read ends reading without a result
pub misc_no_instruction : (cs mid x all : List ℕ) → MiscGoes cs all → skip_space cs ≡ mid → rest_after (codes "<!--") mid ≡ None
    → rest_after (codes "<?") mid ≡ Some x → instruction_at x ≡ None → misc_at (suc (length all)) all ≡ None
unfolding misc_at
misc_no_instruction cs mid x all g s a b d = sym (rw (s, a, b, d) at g.same)

later : (rest all : List ℕ) (n : ℕ) → length rest < n → misc_at n rest ≡ misc_at (suc (length all)) all → MiscGoes rest all
later rest all zero l e = absurd (omega (arith, l))
later rest all (suc n) l e = record { fuel = n; enough = omega (arith, l); same = e }

-- after a comment the rest gives what the whole gives
pub misc_comment : (cs mid x rest all : List ℕ) → MiscGoes cs all → skip_space cs ≡ mid → rest_after (codes "<!--") mid ≡ Some x → comment_at x ≡ Some rest
    → MiscGoes rest all
unfolding misc_at
misc_comment cs mid x rest all g s a b =
    let k = skip_short cs in let m = ap length s in let l = length_after (codes "<!--") mid x a in let d = comment_short x rest b in
    let same : misc_at g.fuel rest ≡ misc_at (suc (length all)) all = rw (s, a, b) at g.same in
    later rest all g.fuel (let e = g.enough in omega (arith, k, m, l, d, e)) same

-- after an instruction the rest gives what the whole gives
pub misc_instruction : (cs mid x rest all : List ℕ) → MiscGoes cs all → skip_space cs ≡ mid → rest_after (codes "<!--") mid ≡ None
    → rest_after (codes "<?") mid ≡ Some x → instruction_at x ≡ Some rest → MiscGoes rest all
unfolding misc_at
misc_instruction cs mid x rest all g s a b d =
    let k = skip_short cs in let m = ap length s in let l = length_after (codes "<?") mid x b in let y = instruction_short x rest d in
    let same : misc_at g.fuel rest ≡ misc_at (suc (length all)) all = rw (s, a, b, d) at g.same in
    later rest all g.fuel (let e = g.enough in omega (arith, k, m, l, y, e)) same

-- a comment leaves less than was there before it
pub comment_shorter : (cs mid x rest : List ℕ) → skip_space cs ≡ mid → rest_after (codes "<!--") mid ≡ Some x → comment_at x ≡ Some rest → length rest < length cs
comment_shorter cs mid x rest s a b =
    let k = skip_short cs in let m = ap length s in let l = length_after (codes "<!--") mid x a in let d = comment_short x rest b in
    omega (arith, k, m, l, d)

-- an instruction leaves less than was there before it
pub instruction_shorter : (cs mid x rest : List ℕ) → skip_space cs ≡ mid → rest_after (codes "<?") mid ≡ Some x → instruction_at x ≡ Some rest
    → length rest < length cs
instruction_shorter cs mid x rest s a b =
    let k = skip_short cs in let m = ap length s in let l = length_after (codes "<?") mid x a in let d = instruction_short x rest b in
    omega (arith, k, m, l, d)
