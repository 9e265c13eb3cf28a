use Rattle.std.proofs.Common.{ℕ, List, OnErr, subst, sym, ap, ◌∙◌}
use Rattle.irs_outside.specs.Outside.{GrewByFront}
use Rattle.irs_main.specs.Notes.{day_in, spot_on}
use Rattle.irs_main.specs.Shown.{joined_texts}
use Rattle.irs_main.proofs.notes.put_where.Goals as goal

pub returns-in-None-clause-err : goal.returns-in-None-clause-err
returns-in-None-clause-err g c =
    let before = g.S.Sink.written c.args.out.now in
    let now = g.S.Sink.written c.put_parts.new.out in
    let on = λ (day : List ℕ). joined_texts (spot_on c.args.spot.now day) in
    subst (λ (t : List ℕ). OnErr c.put_parts.result (GrewByFront before now t))
    (c.spot_parts.ensures ∙ ap on (sym (ap day_in c.in-None.is))) c.put_parts.ensures.err

pub returns-in-Some-clause-err : goal.returns-in-Some-clause-err
returns-in-Some-clause-err g c =
    let before = g.S.Sink.written c.args.out.now in
    let now = g.S.Sink.written c.put_dated.new.out in
    let on = λ (day : List ℕ). joined_texts (spot_on c.args.spot.now day) in
    subst (λ (t : List ℕ). OnErr c.put_dated.result (GrewByFront before now t))
    (ap on (sym (ap day_in c.in-Some.is))) c.put_dated.ensures.err
