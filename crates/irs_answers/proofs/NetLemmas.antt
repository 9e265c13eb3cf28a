-- The sides that were read are those of the schedule's streams, and the rows of the net as text.
use Rattle.std.proofs.Common.{◌≡◌, List, [], ◌∷◌, length, Option, Some, None, true, Result, Ok, refl, sym, ◌∙◌}
use Rattle.std.proofs.Common.{subst, arith}
use Rattle.irs_base.specs.Lists.{Pairs}
use Rattle.irs_read.specs.Readings.{streams_in}
use Rattle.irs_read.specs.Documents.{Means}
use Rattle.irs_resets.specs.Rates.{RateTable}
use Rattle.irs_calendar.specs.declared.sections.Section.{Section}
use Rattle.irs_schedule.specs.Parts.{Part}
use Rattle.irs_schedule.specs.Schedules.{IsPart, IsSchedule}
use Rattle.irs_schedule.specs.DaySets.{stream_sets}
use Rattle.irs_terms.specs.declared.stream_list.Swap.{Swap}
use Rattle.serde_json.specs.Data.{Data}
use Rattle.irs_net.specs.Parties.{SidesOf}
use Rattle.irs_net.specs.declared.sides.Sides.{Sides}
use Rattle.irs_answers.specs.Due.{Facts, PassesEachStep, SidesIf}
use Rattle.irs_answers.specs.Forms.{Given}
use Rattle.irs_answers.specs.Private.Outcomes.{IsSided}
use Rattle.irs_answers.specs.declared.tasks.Task.TheVariants.{Net}

same_ok : {A E : Type 0} (x y : A) → (let r : Result A E = Ok x in r ≡ Ok y) → x ≡ y
same_ok x y e = cc

pairs_long : {X Y : Type 0} (R : X → Y → Type 0) (xs : List X) (ys : List Y) → Pairs R xs ys → length xs ≡ length ys
pairs_long R [] [] h = refl
pairs_long R [] (y ∷ ys) h = absurd h
pairs_long R (x ∷ xs) [] h = absurd h
pairs_long R (x ∷ xs) (y ∷ ys) h = let e = pairs_long R xs ys h.1 in omega (arith, e)

-- a swap has as many streams as its document
swap_long : (v : Data) (swap : Swap) (sides : Sides) → Means v swap → SidesOf v sides
    → sides.count ≡ length swap.streams
swap_long v swap sides h k =
    let at : k.swap ≡ h.at = same_ok k.swap h.at (sym k.found ∙ h.found) in
    let many : sides.count ≡ length (streams_in h.at) =
    subst (λ (d : Data). sides.count ≡ length (streams_in d)) at k.are.count in
    many ∙ pairs_long _ (streams_in h.at) swap.streams h.says

sided : (v : Data) (swap : Swap) (cal : List Section) (table : RateTable) (parts : List Part) (o : Option Sides)
    → Means v swap → IsSchedule swap cal table parts → SidesIf true v o → IsSided o parts
sided v swap cal table parts None h made k = absurd k
sided v swap cal table parts (Some sides) h made k = (
  sides,
  refl,
  swap_long v swap sides h k
      ∙ pairs_long (λ s p. IsPart (stream_sets cal s) table s p) swap.streams parts made,
)

-- the files of `net` give sides of as many streams as the schedule has
pub sided_by : (g : Given) (f : Facts) → PassesEachStep Net g f → IsSided f.sides f.parts
sided_by g f p =
    sided p.document.value f.swap f.cal f.table f.parts f.sides p.document.means p.schedule.is p.document.has_sides
