use Rattle.std.proofs.Common.{◌≡◌, ℕ, List, Option, Some, None, Bor, ap, sym, ◌∙◌}
use Rattle.std.specs.Prelude.{option_map}
use Rattle.irs_c.specs.Each.{file_in}
use Rattle.irs_c.proofs.LentLemmas.{looked_after, still_in}
use Rattle.irs_c.proofs.given.find_in.Goals as goal

pub returns-in-Some : goal.returns-in-Some
returns-in-Some c =
    let found : file_in c.args.files.now c.args.name.now ≡ Some c.in-Some.bytes.now =
    sym c.find.ensures ∙ ap (λ (o : Option (Bor (List ℕ))). option_map (λ s. s.now) o) c.in-Some.is in
    sym (still_in c.args.files.now c.args.own.now c.args.name.now c.in-Some.bytes.now found)

pub returns-in-None : goal.returns-in-None
returns-in-None c =
    let none : file_in c.args.files.now c.args.name.now ≡ None =
    sym c.find.ensures ∙ ap (λ (o : Option (Bor (List ℕ))). option_map (λ s. s.now) o) c.in-None.is in
    c.find-in-None.ensures ∙ sym (looked_after c.args.files.now c.args.own.now c.args.name.now none)
