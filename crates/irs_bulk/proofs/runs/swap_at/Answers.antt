use Rattle.std.proofs.Common.{◌≡◌, ℕ, List, refl, subst}
use Rattle.serde_json.specs.Data.{Data}
use Rattle.serde_json.specs.View.{view}
use Rattle.irs_answers.specs.declared.tasks.Task.TheVariants.{Schedule}
use Rattle.irs_answers.specs.Due.{found_of, ReadFails, RefusedBy, of_read, of_stopped}
use Rattle.irs_answers.specs.Forms.{TextReads, json_text}
use Rattle.irs_answers.proofs.DueLemmas.{refuse_read, refuse_text}
use Rattle.irs_answers.proofs.StepLemmas.{refused_by}
use Rattle.irs_bulk.specs.BulkRuns.{files_of}
use Rattle.irs_bulk.specs.Documents.{bulk_document_text}
use Rattle.irs_bulk.proofs.runs.swap_at.Goals as goal

pub returns-in_err-document-clause-refused : goal.returns-in_err-document-clause-refused
returns-in_err-document-clause-refused c =
    let e = c.in_err-document.field-0.0 in
    let made = c.from_residual-in_err-document in
    let plain = c.args.plain in
    let k = c.args.k in
    let text : c.in_ok-bytes.bytes.items ≡ bulk_document_text plain k = c.in_ok-bytes.ensures in
    refused_by made.result (of_read e) (RefusedBy (found_of Schedule (files_of plain k))) made.ensures.0 made.ensures.1
    (refuse_text Schedule (files_of plain k) e
    (subst (λ (l : List ℕ). ReadFails (json_text l) e) text c.in_err-document.ensures.fails))

pub returns-in_err-read_swap-clause-refused : goal.returns-in_err-read_swap-clause-refused
returns-in_err-read_swap-clause-refused c =
    let e = c.in_err-read_swap.field-0.0 in
    let made = c.from_residual-in_err-read_swap in
    let plain = c.args.plain in
    let k = c.args.k in
    let text : c.in_ok-bytes.bytes.items ≡ bulk_document_text plain k = c.in_ok-bytes.ensures in
    let v : Data = view c.in_ok-document.document in
    refused_by made.result (of_stopped e) (RefusedBy (found_of Schedule (files_of plain k))) made.ensures.0 made.ensures.1
    (refuse_read Schedule (files_of plain k) v e
    (subst (λ (l : List ℕ). TextReads (json_text l) v) text c.in_ok-document.ensures.reads)
    c.in_err-read_swap.ensures.broken)

pub returns-clause-spells : goal.returns-clause-spells
returns-clause-spells c =
    let text : c.in_ok-bytes.bytes.items ≡ bulk_document_text c.args.plain c.args.k = c.in_ok-bytes.ensures in
    let v : Data = view c.in_ok-document.document in
    record {
      value = v;
      reads = subst (λ (l : List ℕ). TextReads (json_text l) v) text c.in_ok-document.ensures.reads;
      means = c.in_ok-read_swap.ensures.means;
      has_sides = refl;
    }
