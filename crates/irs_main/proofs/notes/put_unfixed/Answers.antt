use Rattle.std.proofs.Common.{ℕ, List, ◌∷◌, OnOk, OnErr, subst, ap, ◌∙◌}
use Rattle.irs_outside.specs.Outside.{Grew, GrewByFront}
use Rattle.irs_main.specs.Notes.{unfixed_on}
use Rattle.irs_main.specs.Shown.{joined_texts}
use Rattle.irs_main.proofs.notes.put_unfixed.Goals as goal

pub returns-clause-ok : goal.returns-clause-ok
returns-clause-ok g c =
    let before = g.S.Sink.written c.args.out.now in
    let now = g.S.Sink.written c.put_parts.new.out in
    let on = λ (day : List ℕ). joined_texts (c.args.joint.now ∷ unfixed_on c.args.unfixed.now day) in
    subst (λ (t : List ℕ). OnOk c.put_parts.result (Grew before now t))
    (c.unfixed_parts.ensures ∙ ap on c.day_digits-day.ensures) c.put_parts.ensures.ok

pub returns-clause-err : goal.returns-clause-err
returns-clause-err g c =
    let before = g.S.Sink.written c.args.out.now in
    let now = g.S.Sink.written c.put_parts.new.out in
    let on = λ (day : List ℕ). joined_texts (c.args.joint.now ∷ unfixed_on c.args.unfixed.now day) in
    subst (λ (t : List ℕ). OnErr c.put_parts.result (GrewByFront before now t))
    (c.unfixed_parts.ensures ∙ ap on c.day_digits-day.ensures) c.put_parts.ensures.err
