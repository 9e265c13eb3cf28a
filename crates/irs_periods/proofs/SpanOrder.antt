-- The regular span lies in the term, its first day is on the grid, and its first day isn't after its last.
use Rattle.std.proofs.Common.{◌≡◌, ⊎_elim, Option, Some, None, IfSome, unwrap_or, ℤ, ◌≤ℤ◌, ◌<ℤ◌, sym, subst, ◌∙◌, arith}
use Rattle.jiff_core.proofs.SignedLemmas.{signed_arith}
use Rattle.irs_terms.specs.declared.codes.StubKind.{StubKind}
use Rattle.irs_terms.specs.declared.codes.StubKind.TheVariants.{ShortInitial, LongInitial, ShortFinal, LongFinal}
use Rattle.irs_periods.specs.Spans.{LongFirst, LongLast, StubSpan, GivenSpan, stub_anchor, given_anchor}

-- the span from first to last lies in the term from e to t, and begins on the grid
pub record InTerm (on : ℤ → Type 0) (e t first last : ℤ) : Type 0 where
  pub before : e ≤ℤ first
  pub order : first ≤ℤ last
  pub after : last ≤ℤ t
  pub on_first : on first

module _ (on : ℤ → Type 0) (e t : ℤ) (ends : e <ℤ t) where
  -- whole terms
  whole : (first last : ℤ) → on e → first ≡ e → last ≡ t → InTerm on e t first last
  whole first last on_e a b = record {
    before = omega (arith, signed_arith, a);
    order = omega (arith, signed_arith, a, b, ends);
    after = omega (arith, signed_arith, b);
    on_first = subst on (sym a) on_e;
  }

  initial : (first last : ℤ) → on first → e ≤ℤ first → first ≤ℤ t → last ≡ t → InTerm on e t first last
  initial first last is low high b = record {
    before = low;
    order = omega (arith, signed_arith, high, b);
    after = omega (arith, signed_arith, b);
    on_first = is;
  }

  final : (first last : ℤ) → on e → first ≡ e → e ≤ℤ last → last ≤ℤ t → InTerm on e t first last
  final first last on_e a low high = record {
    before = omega (arith, signed_arith, a);
    order = omega (arith, signed_arith, a, low);
    after = high;
    on_first = subst on (sym a) on_e;
  }

  long_initial : (first last : ℤ) → on t → LongFirst on e t first → last ≡ t → InTerm on e t first last
  long_initial first last on_t h b = ⊎_elim
      (λ here. initial first last (subst on (here.0 ∙ sym here.1) h.is_short.is_on)
      (omega (arith, signed_arith, here.1)) (omega (arith, signed_arith, here.1, ends)) b)
      (λ apart. ⊎_elim
      (λ next. initial first last next.0.is_on (omega (arith, signed_arith, h.is_short.after, next.0.after)) next.1 b)
      (λ none. initial first last (subst on (sym none.1) on_t) (omega (arith, signed_arith, none.1, ends))
      (omega (arith, signed_arith, none.1)) b)
      apart.1)
      h.choice

  long_final : (first last : ℤ) → on e → first ≡ e → LongLast on e t last → InTerm on e t first last
  long_final first last on_e a h = ⊎_elim
      (λ here. final first last on_e a (omega (arith, signed_arith, here.1, ends))
      (omega (arith, signed_arith, here.1)))
      (λ apart. ⊎_elim
      (λ before. final first last on_e a before.1 (omega (arith, signed_arith, h.is_short.before, before.0.before)))
      (λ none. final first last on_e a (omega (arith, signed_arith, none.1))
      (omega (arith, signed_arith, none.1, ends)))
      apart.1)
      h.choice

  stub_in_term : (stub : Option StubKind) (first last : ℤ) → on (stub_anchor stub e t) → StubSpan stub on e t first last
      → InTerm on e t first last
  stub_in_term None first last is h = whole first last is h.0 h.1
  stub_in_term (Some ShortInitial) first last is h =
      initial first last h.0.is_on h.0.after (h.0.least t is (omega (arith, signed_arith, ends))) h.1
  stub_in_term (Some LongInitial) first last is h = long_initial first last is h.0 h.1
  stub_in_term (Some ShortFinal) first last is h =
      final first last is h.0 (h.1.greatest e is (omega (arith, signed_arith, ends))) h.1.before
  stub_in_term (Some LongFinal) first last is h = long_final first last is h.0 h.1

  -- a span by regular dates that are given lies in the term
  pub given_in_term : (f l : Option ℤ) (stub : Option StubKind) (first last : ℤ) → IfSome f (λ d. (e ≤ℤ d) × (d ≤ℤ t))
      → IfSome l (λ d. (unwrap_or f e ≤ℤ d) × (d ≤ℤ t)) → on (given_anchor f l stub e t)
      → GivenSpan f l stub on e t first last → InTerm on e t first last
  given_in_term None None stub first last lf ll is h = stub_in_term stub first last is h
  given_in_term None (Some l) stub first last lf ll is h =
      final first last is h.0 (omega (arith, signed_arith, h.1, ll)) (omega (arith, signed_arith, h.1, ll))
  given_in_term (Some f) None stub first last lf ll is h =
      initial first last (subst on (sym h.0) is) (omega (arith, signed_arith, h.0, lf))
      (omega (arith, signed_arith, h.0, lf)) h.1
  given_in_term (Some f) (Some l) stub first last lf ll is h = record {
    before = omega (arith, signed_arith, h.0, lf);
    order = omega (arith, signed_arith, h.0, h.1, ll);
    after = omega (arith, signed_arith, h.1, ll);
    on_first = subst on (sym h.0) is;
  }
