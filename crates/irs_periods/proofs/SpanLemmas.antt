-- The regular span over two tests that say the same of each day.
use Rattle.std.proofs.Common.{inl, inr, ⊎_elim, ◌↔◌, Option, Some, None, ℤ}
use Rattle.irs_terms.specs.declared.codes.StubKind.{StubKind}
use Rattle.irs_terms.specs.declared.codes.StubKind.TheVariants.{ShortInitial, LongInitial, ShortFinal, LongFinal}
use Rattle.irs_periods.specs.Spans.{FirstFrom, FirstAfter, LastUpTo, LastBefore, LongFirst, LongLast, StubSpan}
use Rattle.irs_periods.specs.Spans.{GivenSpan}

module _ (p q : ℤ → Type 0) (same : (d : ℤ) → p d ↔ q d) where
  first_from_same : (d r : ℤ) → FirstFrom p d r → FirstFrom q d r
  first_from_same d r h =
      record { is_on = (same r).0 h.is_on; after = h.after; least = λ x on later. h.least x ((same x).1 on) later }

  last_up_to_same : (d r : ℤ) → LastUpTo p d r → LastUpTo q d r
  last_up_to_same d r h =
      record {
        is_on = (same r).0 h.is_on;
        before = h.before;
        greatest =
            λ x on earlier. h.greatest x ((same x).1 on) earlier;
      }

  first_after_same : (d r : ℤ) → FirstAfter p d r → FirstAfter q d r
  first_after_same d r h =
      record { is_on = (same r).0 h.is_on; after = h.after; least = λ x on later. h.least x ((same x).1 on) later }

  first_after_back : (d r : ℤ) → FirstAfter q d r → FirstAfter p d r
  first_after_back d r h =
      record { is_on = (same r).1 h.is_on; after = h.after; least = λ x on later. h.least x ((same x).0 on) later }

  last_before_same : (d r : ℤ) → LastBefore p d r → LastBefore q d r
  last_before_same d r h =
      record {
        is_on = (same r).0 h.is_on;
        before = h.before;
        greatest =
            λ x on earlier. h.greatest x ((same x).1 on) earlier;
      }

  last_before_back : (d r : ℤ) → LastBefore q d r → LastBefore p d r
  last_before_back d r h =
      record {
        is_on = (same r).1 h.is_on;
        before = h.before;
        greatest =
            λ x on earlier. h.greatest x ((same x).0 on) earlier;
      }

  long_first_same : (e t r : ℤ) → LongFirst p e t r → LongFirst q e t r
  long_first_same e t r h = record {
    short = h.short;
    is_short = first_from_same e h.short h.is_short;
    choice = ⊎_elim inl (λ apart. inr (
      apart.0,
      ⊎_elim
          (λ next. inl (first_after_same h.short r next.0, next.1))
          (λ none. inr ((λ x next le. none.0 x (first_after_back h.short x next) le), none.1))
          apart.1,
    )) h.choice;
  }

  long_last_same : (e t r : ℤ) → LongLast p e t r → LongLast q e t r
  long_last_same e t r h = record {
    short = h.short;
    is_short = last_up_to_same t h.short h.is_short;
    choice = ⊎_elim inl (λ apart. inr (
      apart.0,
      ⊎_elim
          (λ before. inl (last_before_same h.short r before.0, before.1))
          (λ none. inr ((λ x before le. none.0 x (last_before_back h.short x before) le), none.1))
          apart.1,
    )) h.choice;
  }

  stub_span_same : (stub : Option StubKind) (e t first last : ℤ) → StubSpan stub p e t first last
      → StubSpan stub q e t first last
  stub_span_same None e t first last h = h
  stub_span_same (Some ShortInitial) e t first last h = (first_from_same e first h.0, h.1)
  stub_span_same (Some LongInitial) e t first last h = (long_first_same e t first h.0, h.1)
  stub_span_same (Some ShortFinal) e t first last h = (h.0, last_up_to_same t last h.1)
  stub_span_same (Some LongFinal) e t first last h = (h.0, long_last_same e t last h.1)

  -- tests that agree on the days of the term give the same span
  pub given_span_same : (f l : Option ℤ) (stub : Option StubKind) (e t first last : ℤ)
      → GivenSpan f l stub p e t first last → GivenSpan f l stub q e t first last
  given_span_same None None stub e t first last h = stub_span_same stub e t first last h
  given_span_same None (Some l) stub e t first last h = h
  given_span_same (Some f) l stub e t first last h = h
