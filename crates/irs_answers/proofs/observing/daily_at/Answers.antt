use Rattle.std.proofs.Common.{◌≡◌, Some, None, sym, ap, ◌∙◌}
use Rattle.std.proofs.lemmas.Option.{IfSome_then, same_Some}
use Rattle.irs_base.proofs.DateTexts.{IfNone_then}
use Rattle.irs_terms.specs.declared.amounts.FloatTerms.{FloatTerms}
use Rattle.irs_terms.specs.declared.amounts.Leg.TheVariants.{Floating}
use Rattle.irs_terms.specs.declared.stream.Stream.{Stream}
use Rattle.irs_answers.specs.Tasks.{DailyStream, IsDailyAt}
use Rattle.irs_answers.specs.Private.Outcomes.{daily_stream}
use Rattle.irs_answers.proofs.ObservedLemmas.{same_leg, some_none}
use Rattle.irs_answers.proofs.observing.daily_at.Goals as goal

pub returns-in-Floating-clause-some : goal.returns-in-Floating-clause-some
returns-in-Floating-clause-some c =
    let here : Stream = c.in_ok-stream.stream.now in
    let terms : FloatTerms = c.in-Floating.float in
    IfSome_then _ {P = λ p. (p.0.now ≡ here) × (p.1.now ≡ terms) × (terms.parameters ≡ Some p.2.now)}
    {Q = λ p. IsDailyAt c.args.swap.now c.args.number (daily_stream p.0.now p.1.now p.2.now)}
    c.with_parameters.ensures.some (λ p same. record {
      from_one = c.in_ok-stream.ensures.some.0;
      at = c.in_ok-stream.ensures.some.1 ∙ ap (λ (s : Stream). Some s) (sym same.0);
      pays = ap (λ (s : Stream). s.leg) same.0 ∙ c.in-Floating.is ∙ ap Floating (sym same.1);
      has = ap (λ (f : FloatTerms). f.parameters) same.1 ∙ same.2;
    })

pub returns-in-Floating-clause-none : goal.returns-in-Floating-clause-none
returns-in-Floating-clause-none c =
    let here : Stream = c.in_ok-stream.stream.now in
    let terms : FloatTerms = c.in-Floating.float in
    IfNone_then {P = terms.parameters ≡ None}
    {Q = (y : DailyStream) → IsDailyAt c.args.swap.now c.args.number y → ⊥} _ c.with_parameters.ensures.none
    (λ given y k.
    let s : y.stream ≡ here = same_Some _ _ (sym k.at ∙ c.in_ok-stream.ensures.some.1) in
    let f : y.float ≡ terms =
    same_leg _ _ (sym k.pays ∙ ap (λ (z : Stream). z.leg) s ∙ c.in-Floating.is) in
    some_none y.parameters (sym k.has ∙ ap (λ (z : FloatTerms). z.parameters) f ∙ given))
