use Rattle.std.proofs.Common.{◌∷◌, string_bytes, ap, sym, ◌∙◌, subst}
use Rattle.irs_xml.proofs.ValueSteps.{ValueGoes, value_stops, value_ends, value_wrong, value_more, value_shorter}
use Rattle.irs_xml.proofs.tags.value.Goals as goal

pub returns-in_default : goal.returns-in_default
returns-in_default c =
    value_stops c.args.quote (string_bytes c.loop-c.text) c.args.reader.now
    (subst (λ cs. ValueGoes c.args.quote (string_bytes c.loop-c.text) cs c.args.reader.now) c.in_default.ensures.0 c.loop-c.invariant)

pub returns-then-c-quote : goal.returns-then-c-quote
returns-then-c-quote c =
    value_ends c.args.quote (string_bytes c.loop-c.text) c.next.new.self c.args.reader.now
    (subst (λ cs. ValueGoes c.args.quote (string_bytes c.loop-c.text) cs c.args.reader.now)
    (c.in-Some.ensures ∙ ap (λ x. x ∷ c.next.new.self) c.if-c-quote.true) c.loop-c.invariant)

pub returns-in_default-value_character : goal.returns-in_default-value_character
returns-in_default-value_character c =
    value_wrong c.args.quote (string_bytes c.loop-c.text) c.in-Some.c c.next.new.self c.args.reader.now
    c.if-c-quote.false c.in_default-value_character.ensures
    (subst (λ cs. ValueGoes c.args.quote (string_bytes c.loop-c.text) cs c.args.reader.now) c.in-Some.ensures c.loop-c.invariant)

pub loop-c-smaller : goal.loop-c-smaller
loop-c-smaller c =
    value_shorter c.in-Some.c c.loop-c.reader c.next.new.self c.in-Some-value_character.named c.value_character.new.reader
    c.in-Some.ensures c.in-Some-value_character.ensures

pub loop-c-preserved : goal.loop-c-preserved
loop-c-preserved c =
    let goes = value_more c.args.quote (string_bytes c.loop-c.text) c.in-Some.c c.next.new.self c.in-Some-value_character.named
    c.value_character.new.reader c.args.reader.now c.if-c-quote.false c.in-Some-value_character.ensures
    (subst (λ cs. ValueGoes c.args.quote (string_bytes c.loop-c.text) cs c.args.reader.now) c.in-Some.ensures c.loop-c.invariant) in
    subst (λ text. ValueGoes c.args.quote text c.value_character.new.reader c.args.reader.now) (sym c.in_ok-push.ensures.bytes) goes
