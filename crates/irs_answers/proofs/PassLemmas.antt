-- Files that pass have one schedule.
use Rattle.std.proofs.Common.{◌≡◌, sym}
use Rattle.irs_answers.specs.Forms.{Given}
use Rattle.irs_answers.specs.Due.{Facts, PassesEachStep, found_of}
use Rattle.irs_answers.specs.declared.tasks.Task.{Task}
use Rattle.irs_answers.proofs.DueLemmas.{found_agree, passes_found}

-- files that pass have one schedule
pub passes_one : (t : Task) (g : Given) (f h : Facts) → PassesEachStep t g f → PassesEachStep t g h → h.parts ≡ f.parts
passes_one t g f h p q = ((found_agree t g).answers h f (passes_found t g h q) (passes_found t g f p)).parts
