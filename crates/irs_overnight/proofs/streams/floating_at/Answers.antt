use Rattle.std.proofs.Common.{◌≡◌, None, sym, ap, ◌∙◌}
use Rattle.std.proofs.lemmas.Option.{IfSome_then}
use Rattle.irs_base.proofs.DateTexts.{IfNone_then}
use Rattle.irs_terms.specs.declared.amounts.FloatTerms.{FloatTerms}
use Rattle.irs_terms.specs.declared.amounts.Leg.TheVariants.{Floating}
use Rattle.irs_terms.specs.declared.stream.Stream.{Stream}
use Rattle.irs_overnight.specs.Observations.{PaysFloating}
use Rattle.irs_overnight.proofs.SourceLemmas.{lacks, same_stream, some_float}
use Rattle.irs_overnight.proofs.streams.floating_at.Goals as goal

pub returns-in_err-stream-clause-none : goal.returns-in_err-stream-clause-none
returns-in_err-stream-clause-none c =
    rw c.from_residual.ensures (λ f p. lacks _ p.stream (c.in_err-stream.ensures.none p.from_one) p.at)

pub returns-in-Floating-clause-some : goal.returns-in-Floating-clause-some
returns-in-Floating-clause-some c =
    let terms : FloatTerms = c.in-Floating.float in
    IfSome_then _ {P = λ f. (f.now ≡ terms) × (terms.parameters ≡ None)}
    {Q = λ f. PaysFloating c.args.swap.now c.args.number f.now} c.without_parameters.ensures.some (λ f same. record {
      from_one = c.in_ok-stream.ensures.some.0;
      stream = c.in_ok-stream.stream.now;
      at =
          c.in_ok-stream.ensures.some.1;
      pays = c.in-Floating.is ∙ ap Floating (sym same.0);
      plain = ap (λ (x : FloatTerms). x.parameters) same.0 ∙ same.1;
    })

-- a floating stream pays its terms alone
pub returns-in-Floating-clause-none : goal.returns-in-Floating-clause-none
returns-in-Floating-clause-none c =
    let terms : FloatTerms = c.in-Floating.float in
    IfNone_then {P = terms.parameters ≡ None → ⊥}
    {Q = (f : FloatTerms) → PaysFloating c.args.swap.now c.args.number f → ⊥} _ c.without_parameters.ensures.none
    (λ given f p.
    let same = same_stream p.stream c.in_ok-stream.stream.now (sym p.at ∙ c.in_ok-stream.ensures.some.1) in
    let leg : Floating f ≡ Floating terms =
    sym p.pays ∙ ap (λ (s : Stream). s.leg) same ∙ c.in-Floating.is in
    given (ap (λ (x : FloatTerms). x.parameters) (sym (some_float f terms leg)) ∙ p.plain))

pub returns-in-Fixed-clause-none : goal.returns-in-Fixed-clause-none
returns-in-Fixed-clause-none c = λ f p.
    let same = same_stream p.stream c.in_ok-stream.stream.now (sym p.at ∙ c.in_ok-stream.ensures.some.1) in
    let pays = p.pays in
    let fixed = c.in-Fixed.is in
    cc (same, pays, fixed)
