use Rattle.std.proofs.Common.{◌≡◌, ◌+◌, ◌∙◌, ◌∷◌, ◌++◌, List, [], map, drop, Some, refl, sym, ap, subst, arith, Vec}
use Rattle.std.specs.Prelude.{slice_get}
use Rattle.std.specs.declared.alloc.Global.{Global}
use Rattle.irs_cli.specs.declared.commands.Named.{Named}
use Rattle.irs_cli.specs.declared.commands.Role.{Role}
use Rattle.irs_cli.specs.Commands.{word_texts, roles_of, params_of, role_at, files_from}
use Rattle.irs_cli.specs.Private.Fetching.{wanted_by}
use Rattle.irs_cli.proofs.CommandLemmas.{ap_some, word_at, step_yes, step_no}
use Rattle.irs_cli.proofs.commands.files_of.Goals as goal
use Rattle.irs_cli.proofs.commands.files_of.Goals.{then-is_file+in_ok-push, else-is_file}

pub loop-index-preserved : goal.loop-index-preserved
loop-index-preserved c =
    let ws = word_texts c.args.words.now in
    let i = c.loop-index.index in
    let roles = roles_of c.args.kind in
    let place = c.loop-index.place in
    let name = c.as_str-name.result.now in
    let all = files_from roles (params_of c.args.kind + 1) 0 ws in
    let at : slice_get ws i ≡ Some name =
    word_at c.args.words.now i c.index-words-index.result c.loop-index-test.true c.index-words-index.is
    ∙ sym (ap_some c.as_str-name.ensures.value) in
    let role : c.role_at-role.result ≡ role_at roles i =
    c.role_at-role.ensures ∙ ap (λ (l : List Role). role_at l i) c.roles-roles.ensures in
    record {
      place = omega (arith, c.loop-index.invariant.place);
      files = elim c.if-is_file.branch [
        | then-is_file+in_ok-push w ↦
            let n : Named = record { place = place; role = c.role_at-role.result; name = c.as_str-name.result } in
            let more : c.if-is_file.files.items ≡ c.loop-index.files.items ++ n ∷ [] =
            ap (λ (v : Vec Named Global). v.items) w.files-is ∙ w.in_ok-push.ensures.items in
            subst (λ (l : List Named). map wanted_by l ++ files_from roles (place + 1) (i + 1) (drop (i + 1) ws) ≡ all)
            (sym more) (step_yes roles place i ws c.loop-index.files.items n all at role refl (sym c.is_file.ensures
            ∙ w.if-is_file.true) c.loop-index.invariant.files)
        | else-is_file w ↦
            let same : c.if-is_file.files.items ≡ c.loop-index.files.items =
            ap (λ (v : Vec Named Global). v.items) w.files-is in
            subst (λ (l : List Named). map wanted_by l ++ files_from roles (place + 1) (i + 1) (drop (i + 1) ws) ≡ all)
            (sym same) (step_no roles place i ws name c.loop-index.files.items c.role_at-role.result all at role
            (sym c.is_file.ensures ∙ w.if-is_file.false) c.loop-index.invariant.files)
      ];
    }
