use Rattle.std.proofs.Common.{ℕ, List, ◌++◌, refl, sym, subst}
use Rattle.irs_cli.proofs.PutLemmas.{first_part, grew_more, on_err, on_err_then, on_ok_then, through_last_part}
use Rattle.irs_outside.specs.Outside.{Grew, GrewByFront}
use Rattle.irs_main.specs.Shown.{centers_text, joined_texts}
use Rattle.irs_main.specs.Notes.{spot_texts}
use Rattle.irs_main.proofs.PartLemmas.{joined_last}
use Rattle.irs_main.proofs.notes.put_spot.Goals as goal

pub returns-in_err-put_where-clause-err : goal.returns-in_err-put_where-clause-err
returns-in_err-put_where-clause-err g c =
    let s = c.args.spot.now in
    let before = g.S.Sink.written c.args.out.now in
    let now = g.S.Sink.written c.put_where.new.out in
    let texts = spot_texts s in
    let last = centers_text s.listed in
    on_err c.from_residual.result
    (subst (λ (t : List ℕ). GrewByFront before now t) (sym (joined_last texts last))
    (first_part before now (joined_texts texts) last c.in_err-put_where.ensures.err))

pub returns-clause-ok : goal.returns-clause-ok
returns-clause-ok g c =
    let s = c.args.spot.now in
    let before = g.S.Sink.written c.args.out.now in
    let between = g.S.Sink.written c.put_where.new.out in
    let now = g.S.Sink.written c.put_centers.new.out in
    let texts = spot_texts s in
    let last = centers_text s.listed in
    on_ok_then c.put_centers.result c.put_centers.ensures.ok (λ k.
    subst (λ (t : List ℕ). Grew before now t) (sym (joined_last texts last))
    (grew_more before between now (joined_texts texts) last c.in_ok-put_where.ensures.ok k))

pub returns-clause-err : goal.returns-clause-err
returns-clause-err g c =
    let s = c.args.spot.now in
    let before = g.S.Sink.written c.args.out.now in
    let between = g.S.Sink.written c.put_where.new.out in
    let now = g.S.Sink.written c.put_centers.new.out in
    let texts = spot_texts s in
    let last = centers_text s.listed in
    on_err_then c.put_centers.result c.put_centers.ensures.err (λ k.
    subst (λ (t : List ℕ). GrewByFront before now t) (sym (joined_last texts last))
    (through_last_part before between now last (joined_texts texts ++ last)
    (record { front = joined_texts texts; grew = c.in_ok-put_where.ensures.ok; is = refl }) k))
