-- Lists of wanted files: what is reached among them, and what is gathered from them.
use Rattle.std.proofs.Common.{◌≡◌, inl, inr, ℕ, ◌+◌, ◌<◌, ◌≤◌, List, [], ◌∷◌, ◌++◌, length, sym, ◌∙◌, ap, subst, arith}
use Rattle.irs_answers.specs.Forms.{Given, IsWithinLimits, most_calendars, no_files, too_many, SourceText}
use Rattle.irs_cli.specs.Commands.{Wanted}
use Rattle.std.specs.Prelude.{IfSome, All}
use Rattle.std.proofs.lemmas.List.{length-append}
use Rattle.std.proofs.lemmas.List.Elements.{All-nil, All-cons, All-append}
use Rattle.irs_cli.specs.declared.commands.Role.{Role}
use Rattle.irs_cli.specs.declared.commands.Role.TheVariants.{Document, Fixings, Flows, Calendar}
use Rattle.irs_cli.specs.Given.{with_file, text_as, Gathers, Each, ReachesFile}
use Rattle.irs_cli.proofs.CommandLemmas.{is_cal, cals}

-- two first files of one list are the same, where passing one excludes being the other
pub reaches_meet : {X : Type 0} (P Q R S : Wanted → Type 0) (ws : List Wanted) → ((w : Wanted) → Q w → S w → X)
    → ((w : Wanted) → P w → S w → ⊥) → ((w : Wanted) → Q w → R w → ⊥) → ReachesFile P Q ws → ReachesFile R S ws → X
reaches_meet P Q R S [] both pass stop h k = absurd h
reaches_meet P Q R S (w ∷ ws) both pass stop (inl q) (inl s) = both w q s
reaches_meet P Q R S (w ∷ ws) both pass stop (inl q) (inr k) = absurd (stop w q k.0)
reaches_meet P Q R S (w ∷ ws) both pass stop (inr h) (inl s) = absurd (pass w h.0 s)
reaches_meet P Q R S (w ∷ ws) both pass stop (inr h) (inr k) = reaches_meet P Q R S ws both pass stop h.1 k.1

-- a file is reached by weaker conditions, given what holds of each file
pub reaches_with : (P Q R S E : Wanted → Type 0) (ws : List Wanted) → ((w : Wanted) → E w → P w → R w)
    → ((w : Wanted) → E w → Q w → S w) → Each E ws → ReachesFile P Q ws → ReachesFile R S ws
reaches_with P Q R S E [] p q e h = h
reaches_with P Q R S E (w ∷ ws) p q e (inl h) = inl (q w e.0 h)
reaches_with P Q R S E (w ∷ ws) p q e (inr h) = inr (p w e.0 h.0, reaches_with P Q R S E ws p q e.1 h.1)

-- where all files are gathered, no file stops the fetching
pub gathers_none : (R : List ℕ → List ℕ → Type 0) (P Q : Wanted → Type 0) (ws : List Wanted) (g h : Given)
    → ((w : Wanted) (bytes : List ℕ) → R w.name bytes → Q w → ⊥) → Gathers R ws g h → ReachesFile P Q ws → ⊥
gathers_none R P Q [] g h never k r = r
gathers_none R P Q (w ∷ ws) g h never k (inl q) = never w k.0 k.1 q
gathers_none R P Q (w ∷ ws) g h never k (inr r) = gathers_none R P Q ws (with_file g w.role (text_as w.name k.0)) h never k.2 r.1

-- what is gathered by R and by S is the same, where R and S agree on the bytes of a name
pub gathers_one : (R S : List ℕ → List ℕ → Type 0) (ws : List Wanted) (g h k : Given)
    → ((name x y : List ℕ) → R name x → S name y → y ≡ x) → Gathers R ws g h → Gathers S ws g k → k ≡ h
gathers_one R S [] g h k same a b = b ∙ sym a
gathers_one R S (w ∷ ws) g h k same a b =
    let e : b.0 ≡ a.0 = same w.name a.0 b.0 a.1 b.1 in
    gathers_one R S ws (with_file g w.role (text_as w.name a.0)) h k same a.2
    (subst (λ (x : List ℕ). Gathers S ws (with_file g w.role (text_as w.name x)) k) e b.2)

-- files are gathered by another relation, where it follows for each file
pub gathers_with : (R S : List ℕ → List ℕ → Type 0) (E : Wanted → Type 0) (ws : List Wanted) (g h : Given)
    → ((w : Wanted) (bytes : List ℕ) → E w → R w.name bytes → S w.name bytes) → Each E ws → Gathers R ws g h
    → Gathers S ws g h
gathers_with R S E [] g h f e k = k
gathers_with R S E (w ∷ ws) g h f e k =
    (k.0, f w k.0 e.0 k.1, gathers_with R S E ws (with_file g w.role (text_as w.name k.0)) h f e.1 k.2)

-- files are gathered with one more
pub gathers_more : (R : List ℕ → List ℕ → Type 0) (ws : List Wanted) (w : Wanted) (bytes : List ℕ) (g h : Given)
    → Gathers R ws g h → R w.name bytes → Gathers R (ws ++ w ∷ []) g (with_file h w.role (text_as w.name bytes))
gathers_more R [] w bytes g h k r = (bytes, r, ap (λ (x : Given). with_file x w.role (text_as w.name bytes)) k)
gathers_more R (v ∷ ws) w bytes g h k r = (k.0, k.1, gathers_more R ws w bytes (with_file g v.role (text_as v.name k.0)) h k.2 r)

-- the next file after those that are gathered is reached
pub gathers_reach : (R : List ℕ → List ℕ → Type 0) (P Q : Wanted
    → Type 0) (ws rest : List Wanted) (w : Wanted) (g h : Given)
    → ((v : Wanted) (bytes : List ℕ) → R v.name bytes → P v) → Gathers R ws g h → Q w → ReachesFile P Q (ws ++ w ∷ rest)
gathers_reach R P Q [] rest w g h p k q = inl q
gathers_reach R P Q (v ∷ ws) rest w g h p k q =
    inr (p v k.0 k.1, gathers_reach R P Q ws rest w (with_file g v.role (text_as v.name k.0)) h p k.2 q)

-- ---- the limits of what is gathered

-- the files of g aren't too many bytes
record Small (g : Given) : Type 0 where
  pub fixings : IfSome g.fixings (λ bytes. length bytes < too_many)
  pub calendars : All (λ bytes. length bytes < too_many) g.calendars

with_small : (g : Given) (r : Role) (t : SourceText) → Small g → length t.bytes < too_many → Small (with_file g r t)
with_small g Document t s k = record { fixings = s.fixings; calendars = s.calendars }
with_small g Fixings t s k = record { fixings = k; calendars = s.calendars }
with_small g Flows t s k = record { fixings = s.fixings; calendars = s.calendars }
with_small g Calendar t s k =
    record {
      fixings = s.fixings;
      calendars =
          All-append (λ (b : List ℕ). length b < too_many) g.calendars (t.bytes ∷ []) s.calendars
          (All-cons (λ (b : List ℕ). length b < too_many) t.bytes [] k (All-nil (λ (b : List ℕ). length b < too_many)));
    }

gathers_small : (R : List ℕ → List ℕ → Type 0) (ws : List Wanted) (g h : Given)
    → ((name bytes : List ℕ) → R name bytes → length bytes < too_many) → Small g → Gathers R ws g h → Small h
gathers_small R [] g h f s k = subst Small (sym k) s
gathers_small R (w ∷ ws) g h f s k =
    gathers_small R ws (with_file g w.role (text_as w.name k.0)) h f (with_small g w.role (text_as w.name k.0) s (f w.name k.0 k.1)) k.2

with_many : (g : Given) (r : Role) (t : SourceText)
    → length (with_file g r t).calendars ≡ length g.calendars + is_cal r
with_many g Document t = omega arith
with_many g Fixings t = omega arith
with_many g Flows t = omega arith
with_many g Calendar t = length-append g.calendars (t.bytes ∷ [])

gathers_many : (R : List ℕ → List ℕ → Type 0) (ws : List Wanted) (g h : Given) → Gathers R ws g h
    → length h.calendars ≡ length g.calendars + cals ws
gathers_many R [] g h k = let e : length h.calendars ≡ length g.calendars = ap (λ (x : Given). length x.calendars) k in
    omega (arith, e)
gathers_many R (w ∷ ws) g h k = let e = gathers_many R ws (with_file g w.role (text_as w.name k.0)) h k.2 in
    let f = with_many g w.role (text_as w.name k.0) in omega (arith, e, f)

-- gathered files are within the limits
pub gathers_within : (R : List ℕ → List ℕ → Type 0) (ws : List Wanted) (h : Given)
    → ((name bytes : List ℕ) → R name bytes → length bytes < too_many) → cals ws ≤ most_calendars
    → Gathers R ws no_files h → IsWithinLimits h
gathers_within R ws h f few k =
    let s = gathers_small R ws no_files h f (record {
      fixings = tt;
      calendars =
          All-nil (λ (b : List ℕ). length b < too_many);
    }) k in
    let many : length h.calendars ≡ 0 + cals ws = gathers_many R ws no_files h k in
    record { fixings = s.fixings; calendars = s.calendars; few = omega (arith, many, few) }
