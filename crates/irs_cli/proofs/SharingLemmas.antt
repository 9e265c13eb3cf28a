-- The files of a run, gathered in two parts: those that runs have in common, and its own.
use Rattle.std.proofs.Common.{◌≡◌, inl, inr, ℕ, ◌≤◌, List, [], ◌∷◌, map, Bool, true, false, refl, ◌∙◌, ap, arith}
use Rattle.irs_answers.specs.Forms.{Given}
use Rattle.irs_cli.specs.Commands.{Wanted}
use Rattle.irs_cli.specs.Private.Fetching.{wanted_by}
use Rattle.irs_cli.specs.Given.{Gathers, ReachesFile, text_as, with_file, files_with}
use Rattle.irs_cli.specs.declared.commands.Named.{Named}
use Rattle.irs_cli.specs.declared.commands.Role.{Role}
use Rattle.irs_cli.specs.declared.commands.Role.TheVariants.{Document, Fixings, Flows, Calendar}
use Rattle.irs_cli.proofs.CommandLemmas.{cals}

-- ---- what holds of the parts holds of the list

-- a file with these parts
abbrev file : ℕ → Role → List ℕ → Wanted
file place role name = record { place = place; role = role; name = name }

cals_step : (place : ℕ) (r : Role) (name : List ℕ) (ws : List Wanted) → cals (files_with false ws) ≤ cals ws
    → cals (files_with false (file place r name ∷ ws)) ≤ cals (file place r name ∷ ws)
cals_step place Document name ws h = omega (arith, h)
cals_step place Fixings name ws h = omega (arith, h)
cals_step place Flows name ws h = omega (arith, h)
cals_step place Calendar name ws h = omega (arith, h)

-- a list has no fewer calendars than its common files
pub cals_common : (ws : List Wanted) → cals (files_with false ws) ≤ cals ws
cals_common [] = omega arith
cals_common (w ∷ ws) = cals_step w.place w.role w.name ws (cals_common ws)

-- the document and the flows of the first, and the other files of the second
abbrev pub mixed : Given → Given → Given
mixed own common =
    record { document = own.document; fixings = common.fixings; flows = own.flows; calendars = common.calendars }

-- the names of one part of a command's files, as the code keeps them
pub part_of : (own : Bool) (all few as_few files : List Named) → all ≡ files → few ≡ as_few
    → map wanted_by as_few ≡ files_with own (map wanted_by all)
    → map wanted_by few ≡ files_with own (map wanted_by files)
part_of own all few as_few files e k h =
    ap (λ (l : List Named). map wanted_by l) k ∙ h ∙ ap (λ (l : List Named). files_with own (map wanted_by l)) e

-- files are gathered by another relation, where it follows for the bytes of each name
pub gathers_as : (R S : List ℕ → List ℕ → Type 0) → ((name bytes : List ℕ) → R name bytes → S name bytes)
    → (ws : List Wanted) (g h : Given) → Gathers R ws g h → Gathers S ws g h
gathers_as R S more [] g h k = k
gathers_as R S more (w ∷ ws) g h k =
    (k.0, more w.name k.0 k.1, gathers_as R S more ws (with_file g w.role (text_as w.name k.0)) h k.2)

module _ (R : List ℕ → List ℕ → Type 0) where
  -- the two parts of a list, gathered, are the list gathered
  abbrev Merges : List Wanted → Type 0
  Merges ws = (g h x y : Given) → Gathers R (files_with true ws) g h → Gathers R (files_with false ws) x y
      → Gathers R ws (mixed g x) (mixed h y)

  merge_step : (place : ℕ) (r : Role) (name : List ℕ) (ws : List Wanted) → Merges ws → Merges (file place r name ∷ ws)
  merge_step place Document name ws rest g h x y own common =
      (own.0, own.1, rest (with_file g Document (text_as name own.0)) h x y own.2 common)
  merge_step place Fixings name ws rest g h x y own common =
      (common.0, common.1, rest g h (with_file x Fixings (text_as name common.0)) y own common.2)
  merge_step place Flows name ws rest g h x y own common =
      (own.0, own.1, rest (with_file g Flows (text_as name own.0)) h x y own.2 common)
  merge_step place Calendar name ws rest g h x y own common =
      (common.0, common.1, rest g h (with_file x Calendar (text_as name common.0)) y own common.2)

  pub gathers_merged : (ws : List Wanted) → Merges ws
  gathers_merged [] g h x y own common = rw (own, common) refl
  gathers_merged (w ∷ ws) g h x y own common =
      merge_step w.place w.role w.name ws (gathers_merged ws) g h x y own common

  module _ (P Q : Wanted → Type 0) (held : (w : Wanted) (bytes : List ℕ) → R w.name bytes → P w) where
    -- what is reached among a run's own files is reached among all, where the common ones are gathered
    abbrev Reached : List Wanted → Type 0
    Reached ws = (x y : Given) → Gathers R (files_with false ws) x y → ReachesFile P Q (files_with true ws)
        → ReachesFile P Q ws

    reach_step : (place : ℕ) (r : Role) (name : List ℕ) (ws : List Wanted) → Reached ws
        → Reached (file place r name ∷ ws)
    reach_step place Document name ws rest x y common (inl q) = inl q
    reach_step place Document name ws rest x y common (inr k) = inr (k.0, rest x y common k.1)
    reach_step place Fixings name ws rest x y common k = inr (
      held (file place Fixings name) common.0 common.1,
      rest (with_file x Fixings (text_as name common.0)) y common.2 k,
    )
    reach_step place Flows name ws rest x y common (inl q) = inl q
    reach_step place Flows name ws rest x y common (inr k) = inr (k.0, rest x y common k.1)
    reach_step place Calendar name ws rest x y common k = inr (
      held (file place Calendar name) common.0 common.1,
      rest (with_file x Calendar (text_as name common.0)) y common.2 k,
    )

    pub reached_own : (ws : List Wanted) → Reached ws
    reached_own [] x y common k = k
    reached_own (w ∷ ws) x y common k = reach_step w.place w.role w.name ws (reached_own ws) x y common k
