-- The first rule that the streams of a swap break: that of the first stream that breaks one.
use Rattle.std.proofs.Common.{◌≡◌, ℕ, ◌+◌, ◌<◌, ◌≤◌, false, List, length, Some, None, refl, sym, ◌∙◌, ap, subst, arith}
use Rattle.std.proofs.Common.{inl, inr}
use Rattle.std.specs.Prelude.{slice_get}
use Rattle.std.proofs.lemmas.Bool.{cases_order, cases_lt}
use Rattle.std.proofs.lemmas.Option.{slice_get_within, same_Some}
use Rattle.irs_terms.specs.declared.places.Broken.{Broken}
use Rattle.irs_terms.specs.declared.places.Fault.{Fault}
use Rattle.irs_base.specs.Outcomes.{First, IsFirst}
use Rattle.irs_terms.specs.Faults.{in_stream, is_before}
use Rattle.irs_base.proofs.Firsts.{level_same, level_later}
use Rattle.irs_calendar.specs.declared.sections.Section.{Section}
use Rattle.irs_terms.specs.declared.stream.Stream.{Stream}
use Rattle.irs_terms.specs.declared.stream_list.Swap.{Swap}
use Rattle.irs_rules.specs.Private.TermsKept.{is_before_here, IsFirstHere}
use Rattle.irs_rules.specs.TermsRules.{BreaksStream, BreaksTerms}

-- none of the first n streams breaks a rule
abbrev pub NoStreamBelow : List Stream → List Section → ℕ → Type 0
NoStreamBelow streams cal n =
    (k : ℕ) → k < n → (s : Stream) → slice_get streams k ≡ Some s → (f : Fault) → BreaksStream cal s f → ⊥

same_stream : (streams : List Stream) (i k : ℕ) (s t : Stream) → slice_get streams i ≡ Some s
    → slice_get streams k ≡ Some t → k ≡ i → t ≡ s
same_stream streams i k s t found there same =
    same_Some t s (sym there ∙ ap (λ (j : ℕ). slice_get streams j) same ∙ found)

module _ (swap : Swap) (cal : List Section) where
  not_before_stream : (i : ℕ) (s : Stream) (f : Fault) → slice_get swap.streams i ≡ Some s
      → NoStreamBelow swap.streams cal i
      → First is_before_here (BreaksStream cal s) f → (k : ℕ) (t : Stream) (g : Fault)
      → slice_get swap.streams k ≡ Some t → BreaksStream cal t g
      → is_before (in_stream (k + 1) g) (in_stream (i + 1) f) ≡ false
  not_before_stream i s f found before first k t g there breaks = elim (cases_order k i) [
    | inl same ↦
        let here : t ≡ s = same_stream swap.streams i k s t found there same in
        level_same (k + 1) (i + 1) _ (ap (λ (j : ℕ). j + 1) same)
        (first.1 g (subst (λ (u : Stream). BreaksStream cal u g) here breaks))
    | inr (inl less) ↦ absurd (before k less t there g breaks)
    | inr (inr more) ↦ level_later (k + 1) (i + 1) _ (omega (arith, more))
  ]

  -- the first broken rule of the first stream that breaks one is that of the swap
  pub swap_first : (i : ℕ) (s : Stream) (f : Fault) → slice_get swap.streams i ≡ Some s
      → NoStreamBelow swap.streams cal i
      → First is_before_here (BreaksStream cal s) f
      → IsFirst is_before (BreaksTerms swap cal) (Some (in_stream (i + 1) f))
  swap_first i s f found before first = (
    record { position = i; stream = s; there = found; fault = f; numbered = refl; breaks = first.0 },
    λ g x. subst (λ (h : Broken). is_before h (in_stream (i + 1) f) ≡ false) (sym x.numbered)
        (not_before_stream i s f found before first x.position x.stream x.fault x.there x.breaks),
  )

  -- a swap whose streams break no rule breaks none
  pub swap_none : (n : ℕ) → length swap.streams ≤ n → NoStreamBelow swap.streams cal n
      → IsFirst is_before (BreaksTerms swap cal) None
  swap_none n all before = λ g x.
      let within = slice_get_within swap.streams x.position x.stream x.there in
      before x.position (omega arith) x.stream x.there x.fault x.breaks

-- one stream more breaks no rule
pub no_stream_more : (streams : List Stream) (cal : List Section) (n : ℕ) (s : Stream) → slice_get streams n ≡ Some s
    → NoStreamBelow streams cal n
    → IsFirstHere (BreaksStream cal s) None → NoStreamBelow streams cal (n + 1)
no_stream_more streams cal n s found before never k less t there f breaks = elim (cases_lt k n) [
  | inl below ↦ before k below t there f breaks
  | inr last ↦
      let same : k ≡ n = omega (arith, less, last) in
      let here : t ≡ s = same_stream streams n k s t found there same in
      never f (subst (λ (u : Stream). BreaksStream cal u f) here breaks)
]
