-- The good business days of the centres that elements name: their range, and the table that has them.
use Rattle.std.proofs.Common.{◌≡◌, slice_get, ℕ, ◌+◌, ◌<◌, List, [], ◌∷◌, ◌++◌, Option, Some, None, Contains, map}
use Rattle.std.proofs.Common.{get_or, ℤ, IfSome, length, refl, sym, ◌∙◌, subst}
use Rattle.std.proofs.lemmas.List.{get_or-map, length-map, map_push}
use Rattle.std.proofs.lemmas.Option.{slice_get_read}
use Rattle.std.proofs.lemmas.List.Elements.{Contains-append_left, Contains-push}
use Rattle.irs_base.specs.Days.{IsDay}
use Rattle.irs_terms.specs.Lawful.{IsLawfulNames, IsLawfulStream}
use Rattle.irs_terms.specs.declared.stream.Stream.{Stream}
use Rattle.irs_calendar.specs.declared.sections.Section.{Section}
use Rattle.irs_calendar.specs.GoodDays.{InCover}
use Rattle.irs_calendar.specs.Sections.{sections_named, set_of_sections}
use Rattle.irs_schedule.specs.DaySets.{days_of_names, NamedCenters, FoundCenters}
use Rattle.irs_schedule.specs.Private.Layouts.{centers_named, CanFind, HasStream, Grows, HasMore, HasMoreOf}
use Rattle.irs_rules.specs.Parameters.{applicable_names}
use Rattle.irs_rules.specs.TermsRules.{TermsKept}
use Rattle.irs_rules.proofs.Names.{applicable_lawful}
use Rattle.irs_terms.specs.TermDates.{first_date_of}
use Rattle.irs_terms.specs.Centers.{fixing_names, names_by, names_with, reset_names}
use Rattle.irs_base.proofs.EveryLemmas.{below_more}
use Rattle.irs_terms.proofs.NeedLemmas.{AreFew, few_for_fixing, few_for_reset}
use Rattle.irs_calendar.proofs.CoverLemmas.{covers_common}

-- the days of a cover are in the range of dates
pub days_in_range : (cal : List Section) (names : Option (List (List ℕ))) (d : ℤ) → InCover (days_of_names cal names) d
    → IsDay d
days_in_range cal None d inside = (inside.from, inside.to)
days_in_range cal (Some names) d inside =
    let ss = sections_named cal names in
    ((covers_common ss (set_of_sections ss) (record { first = refl; last = refl; test = λ x h. refl }) d).0 inside).0

-- the calendars have the centres of each element of a stream that keeps the terms, and they are few

-- the centres of reset dates are found
pub finds_reset : (cal : List Section) (s : Stream) → IsLawfulStream s → TermsKept cal s
    → CanFind cal (reset_names s.reset)
finds_reset cal s lawful kept = (few_for_reset s.reset lawful.reset, kept.reset_found)

-- the centres of fixing dates are found
pub finds_fixing : (cal : List Section) (s : Stream) → IsLawfulStream s → TermsKept cal s
    → CanFind cal (fixing_names s.reset)
finds_fixing cal s lawful kept = (few_for_fixing s.reset lawful.reset, kept.fixing_found)

-- lawful names are few
few_lawful : (names : Option (List (List ℕ))) → IfSome names IsLawfulNames → AreFew names
few_lawful None lawful = tt
few_lawful (Some names) lawful = lawful.1

-- the centres of applicable business days are found
pub finds_applicable : (cal : List Section) (s : Stream) → IsLawfulStream s → TermsKept cal s
    → CanFind cal (applicable_names s.leg)
finds_applicable cal s lawful kept =
    (few_lawful (applicable_names s.leg) (applicable_lawful s.leg lawful.leg), kept.applicable_found)

-- the table

-- the lists of centres that are named
abbrev pub lists_of : List NamedCenters → List (Option (List (List ℕ)))
lists_of found = map {A = NamedCenters} {B = Option (List (List ℕ))} (λ days. days.names) found

-- no item has these names
pub not_among : (found : List NamedCenters) (names : Option (List (List ℕ)))
    → ((k : ℕ) (days : NamedCenters) → k < length found → (get_or found k days).names ≡ names → ⊥)
    → Contains (lists_of found) names → ⊥
not_among found names never there =
    let any = centers_named [] names in
    let within = subst (λ (n : ℕ). there.0 < n) (length-map found (λ days. days.names)) there.1 in
    never there.0 any within
    (sym (get_or-map (λ (d : NamedCenters). d.names) found there.0 any names within) ∙ there.2)

-- one more item
pub more : (cal : List Section) (found : List NamedCenters) (days : NamedCenters) (names : Option (List (List ℕ)))
    → days.names ≡ names
    → HasMore names (record { sections = cal; lists = lists_of found })
    (record { sections = cal; lists = lists_of (found ++ days ∷ []) })
more cal found days names named =
    let longer : lists_of (found ++ days ∷ []) ≡ lists_of found ++ days.names ∷ [] =
    map_push {X = NamedCenters} {Y = Option (List (List ℕ))} (λ d. d.names) found days in
    rw (longer, named) (record {
      grows = record {
        sections = refl;
        kept =
            λ listed there. Contains-append_left (lists_of found) (names ∷ []) listed there;
      };
      added = Contains-push (lists_of found) names;
    })

grows_on : (a b c : FoundCenters) → Grows a b → Grows b c → Grows a c
grows_on a b c once again =
    record { sections = again.sections ∙ once.sections; kept = λ names there. again.kept names (once.kept names there) }

-- a table that grows has the streams that it had
stream_kept : (s : Stream) (old now : FoundCenters) → Grows old now → HasStream old s → HasStream now s
stream_kept s old now grows has = record {
  start = grows.kept (names_by (first_date_of s).adj) has.start;
  end = grows.kept (names_by s.termination.adj) has.end;
  middle = grows.kept (names_by s.period_adj) has.middle;
  payment = grows.kept (names_with s.pay.offset s.pay.adj) has.payment;
  reset = grows.kept (reset_names s.reset) has.reset;
  fixing = grows.kept (fixing_names s.reset) has.fixing;
  applicable = grows.kept (applicable_names s.leg) has.applicable;
}

-- a stream whose seven lists were added one after another
pub all_added : (s : Stream) (t0 t1 t2 t3 t4 t5 t6 t7 : FoundCenters) → HasMore (names_by (first_date_of s).adj) t0 t1
    → HasMore (names_by s.termination.adj) t1 t2 → HasMore (names_by s.period_adj) t2 t3
    → HasMore (names_with s.pay.offset s.pay.adj) t3 t4 → HasMore (reset_names s.reset) t4 t5
    → HasMore (fixing_names s.reset) t5 t6 → HasMore (applicable_names s.leg) t6 t7 → HasMoreOf s t0 t7
all_added s t0 t1 t2 t3 t4 t5 t6 t7 start end middle payment reset fixing applicable =
    let from6 = applicable.grows in
    let from5 = grows_on t5 t6 t7 fixing.grows from6 in
    let from4 = grows_on t4 t5 t7 reset.grows from5 in
    let from3 = grows_on t3 t4 t7 payment.grows from4 in
    let from2 = grows_on t2 t3 t7 middle.grows from3 in
    let from1 = grows_on t1 t2 t7 end.grows from2 in
    record {
      grows = grows_on t0 t1 t7 start.grows from1;
      added = record {
        start = from1.kept (names_by (first_date_of s).adj) start.added;
        end = from2.kept (names_by s.termination.adj) end.added;
        middle = from3.kept (names_by s.period_adj) middle.added;
        payment = from4.kept (names_with s.pay.offset s.pay.adj) payment.added;
        reset = from5.kept (reset_names s.reset) reset.added;
        fixing = from6.kept (fixing_names s.reset) fixing.added;
        applicable = applicable.added;
      };
    }

-- the streams before the n-th, and the n-th
pub one_more_stream : (streams : List Stream) (n : ℕ) (x : Stream) (old now : FoundCenters) → n < length streams
    → x ≡ get_or streams n x → HasMoreOf x old now
    → ((i : ℕ) (s : Stream) → i < n → slice_get streams i ≡ Some s → HasStream old s) → (i : ℕ) (s : Stream) → i < n + 1
    → slice_get streams i ≡ Some s → HasStream now s
one_more_stream streams n x old now within is more before =
    below_more (HasStream now) streams n x (slice_get_read streams (length streams) n x refl within is) more.added
    (λ i s below there. stream_kept s old now more.grows (before i s below there))
