-- The steps of an element after its `<`.
use Rattle.std.proofs.Common.{◌≡◌, ◌≢◌, ℕ, zero, suc, ◌-◌, Bool, true, false, List, [], ◌∷◌, ◌++◌, length, take, Some, None, refl, sym, ap, ◌∙◌, arith}
use Rattle.std.proofs.lemmas.List.{length-map}
use Rattle.std.specs.Prelude.{string_bytes}
use Rattle.std.proofs.Math.Seq.{take-append_seam}
use Rattle.irs_xml.specs.Tags.{Scope, Opening, is_opened, scope_in}
use Rattle.irs_xml.specs.Private.Reading.{child_at, element_at, tag_at}
use Rattle.irs_xml.specs.Private.TagViews.{scope_view}
use Rattle.irs_xml.specs.declared.settings.Declaration.{Declaration}

-- past the nesting limit no element is read
pub child_none : (root : List ℕ) (levels : ℕ) (kept : Bool) (outer : Scope) (cs : List ℕ) → levels ≡ 0 → child_at root levels kept outer cs ≡ None
unfolding child_at
child_none root zero kept outer cs z = refl
child_none root (suc n) kept outer cs z = absurd (omega (arith, z))

-- without a tag no element is read
pub child_no_tag : (root : List ℕ) (levels : ℕ) (kept : Bool) (outer : Scope) (cs : List ℕ) → tag_at cs ≡ None
    → child_at root levels kept outer cs ≡ None
unfolding child_at
child_no_tag root zero kept outer cs e = refl
child_no_tag root (suc n) kept outer cs e = rw e refl

-- no element is read where its tag breaks the rules for namespaces
pub child_closed : (root : List ℕ) (levels : ℕ) (kept : Bool) (outer : Scope) (cs : List ℕ) (t : Opening × Bool) (mid : List ℕ)
    → tag_at cs ≡ Some (t, mid) → is_opened outer t.0 ≡ false → child_at root levels kept outer cs ≡ None
unfolding child_at
child_closed root zero kept outer cs t mid e h = refl
child_closed root (suc n) kept outer cs t mid e h = rw (e, h) refl

-- after a tag that follows the rules, the element is read in its own scope, one level deeper
pub child_goes : (root : List ℕ) (levels : ℕ) (kept : Bool) (outer : Scope) (cs : List ℕ) (t : Opening × Bool) (mid : List ℕ) → levels ≢ 0
    → tag_at cs ≡ Some (t, mid) → is_opened outer t.0 ≡ true
    → child_at root levels kept outer cs ≡ element_at (child_at root (levels - 1)) root kept (scope_in outer t.0.settings) t mid
unfolding child_at
child_goes root zero kept outer cs t mid z e h = absurd (z refl)
child_goes root (suc n) kept outer cs t mid z e h =
    let less : suc n - 1 ≡ n = omega arith in rw (less, e, h) refl

-- what was declared is taken away again
pub scope_back : (old now : List Declaration) (more : Scope) → scope_view now ≡ scope_view old ++ more
    → scope_view (take (length old) now) ≡ scope_view old
scope_back old now more e =
    view-take (length old) now ∙ ap (take (length old)) e
    ∙ ap (λ n. take n (scope_view old ++ more)) (sym (length-map old (λ (d : Declaration). (d.prefix.now, string_bytes d.namespace)))) ∙ take-append_seam (scope_view old) more
  where
    view-take : (n : ℕ) (ds : List Declaration) → scope_view (take n ds) ≡ take n (scope_view ds)
    view-take zero ds = refl
    view-take (suc n) [] = refl
    view-take (suc n) (d ∷ ds) = ap (λ t. (d.prefix.now, string_bytes d.namespace) ∷ t) (view-take n ds)
