use Rattle.std.proofs.Common.{rules, sym, ◌≡◌, ◌++◌, ◌∷◌, ◌∙◌, take, drop, get_or, [], inr, ap, ap₂, ◌+◌}
use Rattle.std.proofs.lemmas.Option.{IfSome_then}
use Rattle.std.proofs.lemmas.List.{take-append-drop, drop_more, drop_all}
use Rattle.irs_base.proofs.reading.read_date.Goals as goal

pub returns-then-text-eq90-clause-some : goal.returns-then-text-eq90-clause-some
returns-then-text-eq90-clause-some c =
    let text = c.args.text.now in
    let last : drop 10 text ≡ get_or text 10 0 ∷ drop (10 + 1) text = drop_more text 10 0 (search rules) in
    let none : drop (10 + 1) text ≡ [] = drop_all (10 + 1) text (search rules) in
    let parts : text ≡ take 10 text ++ 90 ∷ [] =
    sym (take-append-drop 10 text) ∙ ap (λ rest. take 10 text ++ rest) (last ∙ ap₂ (λ x xs. x ∷ xs) c.if-text-eq90.true none) in
    IfSome_then c.date.result c.date.ensures.some (λ d h. inr (take 10 text, parts, search rules))
