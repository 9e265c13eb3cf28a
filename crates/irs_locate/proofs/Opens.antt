-- Which elements are open, a piece further.
use Rattle.std.proofs.Common.{◌≡◌, ℕ, zero, suc, ◌+◌, ◌<◌, Bool, true, false, List, [], ◌∷◌, ◌++◌, length, drop, take}
use Rattle.std.proofs.Common.{Option, Some, None, ◌-◌, refl, sym, ap, subst, arith, ◌∙◌}
use Rattle.std.specs.Prelude.{◌==◌, codes, if◌then◌else◌, slice_get}
use Rattle.std.specs.Str.{bytes_eq}
use Rattle.std.proofs.lemmas.Option.{same_Some}
use Rattle.std.proofs.lemmas.Slice.Eq.{bytes_eq-Decides}
use Rattle.irs_terms.specs.declared.places.Place.{Place}
use Rattle.irs_locate.specs.Lines.{IsLast, IsTagOf, LacksElement, Open, IsOpenAfter, open_after, times_in, around}
use Rattle.irs_locate.specs.Lines.{is_end, way_to, with_child, further, opens, ends_at_once, ended_at_once, too_few}
use Rattle.irs_locate.specs.Lines.{cut_off, piece_of}
use Rattle.irs_locate.specs.Private.Lines.{IsRootTag, root_piece}
use Rattle.irs_locate.specs.Lines as markup
use Rattle.irs_locate.specs.Private.Seen.{mark_seen, piece_seen}
use Rattle.irs_terms.specs.Elements.{document}
use Rattle.irs_locate.specs.Ways.{WayStep, below_swap, once, to_swap, way}
use Rattle.irs_locate.specs.declared.lines.Tag.{Tag}
use Rattle.irs_locate.specs.declared.markup.Mark.{Mark}
use Rattle.irs_locate.specs.declared.markup.Piece.{Piece}

-- ---- a piece further

-- the elements that are open after a piece that is found here
pub onward : (text : List ℕ) (n : ℕ) (lists : Open) (p : Piece) (m : Mark) → IsOpenAfter text n lists
    → Some (piece_seen p) ≡ piece_of (drop n text) → p.mark ≡ m
    → IsOpenAfter text (n + p.size) (open_after (mark_seen m) lists)
onward text n lists p m w is e =
    subst (λ (k : Mark). IsOpenAfter text (n + p.size) (open_after (mark_seen k) lists)) e
    (further n lists (piece_seen p) w (sym is))

-- the piece with its mark
pub piece_is : (text : List ℕ) (n : ℕ) (p : Piece) (m : Mark) → Some (piece_seen p) ≡ piece_of (drop n text)
    → p.mark ≡ m → piece_of (drop n text) ≡ Some (record { mark = mark_seen m; size = p.size })
piece_is text n p m is e =
    subst (λ (k : Mark). piece_of (drop n text) ≡ Some (record { mark = mark_seen k; size = p.size })) e (sym is)

-- ---- an element that is passed over

-- from the end of an opening tag on `depth` elements are open inside of those around its own
abbrev pub Nests : List ℕ → ℕ → ℕ → ℕ → Type 0
Nests text start at depth = (lists : Open) → IsOpenAfter text start ([] ∷ lists)
    → (inner : Open) × ((length inner ≡ depth) × IsOpenAfter text at (inner ++ lists))

-- at the front it is that one
pub nests_first : (text : List ℕ) (start : ℕ) → Nests text start start 1
nests_first text start lists w = ([] ∷ [], (refl, w))

-- a piece that opens and ends nothing
pub nests_same : (text : List ℕ) (start at next d : ℕ) → Nests text start at d
    → ((lists : Open) → IsOpenAfter text at lists → IsOpenAfter text next lists) → Nests text start next d
nests_same text start at next d nests on lists w =
    let so_far = nests lists w in
    (so_far.0, (so_far.1.0, on (so_far.0 ++ lists) so_far.1.1))

-- a child in the innermost of some lists
child_in : (name : List ℕ) (inner lists : Open) → 0 < length inner
    → (with_child name (inner ++ lists) ≡ with_child name inner ++ lists)
    × (length (with_child name inner) ≡ length inner)
child_in name [] lists some = absurd (omega (arith, some))
child_in name (names ∷ inner) lists some = (refl, refl)

-- an element that ends at once
pub nests_empty : (text : List ℕ) (start at next d : ℕ) (name : List ℕ) → 0 < d → Nests text start at d
    → ((lists : Open) → IsOpenAfter text at lists → IsOpenAfter text next (with_child name lists)) → Nests text start next d
nests_empty text start at next d name some nests on lists w =
    let so_far = nests lists w in
    let long : 0 < length so_far.0 = subst (λ (n : ℕ). 0 < n) (sym so_far.1.0) some in
    let child = child_in name so_far.0 lists long in (
      with_child name so_far.0,
      (
        child.1 ∙ so_far.1.0,
        subst (λ (o : Open). IsOpenAfter text next o) child.0 (on (so_far.0 ++ lists) so_far.1.1),
      ),
    )

-- an element that is opened
pub nests_open : (text : List ℕ) (start at next d : ℕ) (name : List ℕ) → 0 < d → Nests text start at d
    → ((lists : Open) → IsOpenAfter text at lists → IsOpenAfter text next ([] ∷ with_child name lists))
    → Nests text start next (d + 1)
nests_open text start at next d name some nests on lists w =
    let so_far = nests lists w in
    let long : 0 < length so_far.0 = subst (λ (n : ℕ). 0 < n) (sym so_far.1.0) some in
    let child = child_in name so_far.0 lists long in
    let more : suc (length (with_child name so_far.0)) ≡ d + 1 = rw (child.1 ∙ so_far.1.0) (omega arith) in (
      [] ∷ with_child name so_far.0,
      (
        more,
        subst (λ (o : Open). IsOpenAfter text next ([] ∷ o)) child.0 (on (so_far.0 ++ lists) so_far.1.1),
      ),
    )

-- the innermost of some lists ends
less_in : (text : List ℕ) (next d : ℕ) (inner lists : Open) → 0 < d → length inner ≡ d
    → IsOpenAfter text next (around (inner ++ lists))
    → (fewer : Open) × ((length fewer ≡ d - 1) × IsOpenAfter text next (fewer ++ lists))
less_in text next d [] lists some len w = absurd (omega (arith, some, len))
less_in text next d (names ∷ inner) lists some len w =
    let less : length inner ≡ d - 1 = omega (arith, len) in (inner, (less, w))

-- an element that ends inside
pub nests_close : (text : List ℕ) (start at next d : ℕ) → 0 < d → Nests text start at d
    → ((lists : Open) → IsOpenAfter text at lists → IsOpenAfter text next (around lists)) → Nests text start next (d - 1)
nests_close text start at next d some nests on lists w =
    let so_far = nests lists w in
    less_in text next d so_far.0 lists some so_far.1.0 (on (so_far.0 ++ lists) so_far.1.1)

-- the one list is left
last_in : (text : List ℕ) (next : ℕ) (inner lists : Open) → length inner ≡ 1
    → IsOpenAfter text next (around (inner ++ lists)) → IsOpenAfter text next lists
last_in text next [] lists len w = absurd (omega (arith, len))
last_in text next (names ∷ []) lists len w = w
last_in text next (names ∷ more ∷ inner) lists len w = absurd (omega (arith, len))

-- the element itself ends
pub nests_end : (text : List ℕ) (start at next d : ℕ) → d ≡ 1 → Nests text start at d
    → ((lists : Open) → IsOpenAfter text at lists → IsOpenAfter text next (around lists))
    → (lists : Open) → IsOpenAfter text start ([] ∷ lists) → IsOpenAfter text next lists
nests_end text start at next d one nests on lists w =
    let so_far = nests lists w in
    last_in text next so_far.0 lists (so_far.1.0 ∙ one) (on (so_far.0 ++ lists) so_far.1.1)

-- ---- the way to an element

-- the tag at `found` is that of the last element on the way that was entered, and nothing in it is open at `at`. So
-- far it holds elements of some names. Fewer than the number of the next step have its name
pub record Reached (text root : List ℕ) (place : Place) (found at count left : ℕ) (next : WayStep) : Type 0 where
  pub names : List (List ℕ)
  pub name : List ℕ
  pub before : Open
  pub found_within : IsOpenAfter text found before
  pub found_tag : IsTagOf name (piece_of (drop found text))
  pub here : IsOpenAfter text at (names ∷ with_child name before)
  pub leads : way_to (with_child name before) ≡ take count (way root place)
  pub next_is : slice_get (way root place) count ≡ Some next
  pub is_left : times_in next.name names + (left + 1) ≡ next.number

-- the tag of an opening piece
opening_tag : (name : List ℕ) (size : ℕ) (o : Option markup.Piece)
    → o ≡ Some (record { mark = markup.opening name; size = size })
    → IsTagOf name o
opening_tag name size o e = subst (λ (p : Option markup.Piece). IsTagOf name p) (sym e) (opens size)

-- that of an element that ends at once
empty_tag : (name : List ℕ) (size : ℕ) (o : Option markup.Piece)
    → o ≡ Some (record { mark = markup.empty name; size = size })
    → IsTagOf name o
empty_tag name size o e = subst (λ (p : Option markup.Piece). IsTagOf name p) (sym e) (ends_at_once size)

-- nothing lies in an element that ends at once
empty_lacks : (text : List ℕ) (lists : Open) (next : WayStep) (name : List ℕ) (size : ℕ) (o : Option markup.Piece)
    → o ≡ Some (record { mark = markup.empty name; size = size }) → LacksElement text lists next o
empty_lacks text lists next name size o e =
    subst (λ (p : Option markup.Piece). LacksElement text lists next p) (sym e) (ended_at_once name size)

-- nothing is no step
none_is_some : (x : WayStep) → None ≡ Some x → ⊥
none_is_some x e = cc

-- a step more of the way
take_next : (xs : List WayStep) (n : ℕ) (x : WayStep) → slice_get xs n ≡ Some x → take (n + 1) xs ≡ take n xs ++ x ∷ []
take_next [] n x e = absurd cc
take_next (y ∷ xs) zero x e = ap (λ (z : WayStep). z ∷ []) (same_Some y x e)
take_next (y ∷ xs) (suc n) x e =
    let next : suc n + 1 ≡ suc (n + 1) = omega arith in
    rw next (ap (λ (zs : List WayStep). y ∷ zs) (take_next xs n x e))

-- a piece that opens and ends nothing
pub stays : (text root : List ℕ) (place : Place) (found at count left : ℕ) (next : WayStep) (then_at : ℕ)
    → Reached text root place found at count left next
    → ((lists : Open) → IsOpenAfter text at lists → IsOpenAfter text then_at lists)
    → Reached text root place found then_at count left next
stays text root place found at count left next then_at r on = record {
  names = r.names;
  name = r.name;
  before = r.before;
  found_within = r.found_within;
  found_tag = r.found_tag;
  here = on (r.names ∷ with_child r.name r.before) r.here;
  leads = r.leads;
  next_is = r.next_is;
  is_left = r.is_left;
}

-- an element of another name
pub one_other : (text root : List ℕ) (place : Place) (found at count left : ℕ) (next : WayStep) (then_at : ℕ)
    (name : List ℕ)
    → Reached text root place found at count left next → bytes_eq name next.name ≡ false
    → ((lists : Open) → IsOpenAfter text at lists → IsOpenAfter text then_at (with_child name lists))
    → Reached text root place found then_at count left next
one_other text root place found at count left next then_at name r other on = record {
  names = name ∷ r.names;
  name = r.name;
  before = r.before;
  found_within = r.found_within;
  found_tag = r.found_tag;
  here = on (r.names ∷ with_child r.name r.before) r.here;
  leads = r.leads;
  next_is = r.next_is;
  is_left = rw other r.is_left;
}

-- an element of that name whose turn it isn't
pub one_more : (text root : List ℕ) (place : Place) (found at count left : ℕ) (next : WayStep) (then_at : ℕ)
    (name : List ℕ)
    → Reached text root place found at count left next → bytes_eq name next.name ≡ true → 0 < left
    → ((lists : Open) → IsOpenAfter text at lists → IsOpenAfter text then_at (with_child name lists))
    → Reached text root place found then_at count (left - 1) next
one_more text root place found at count left next then_at name r same few on = record {
  names = name ∷ r.names;
  name = r.name;
  before = r.before;
  found_within = r.found_within;
  found_tag = r.found_tag;
  here = on (r.names ∷ with_child r.name r.before) r.here;
  leads = r.leads;
  next_is = r.next_is;
  is_left = rw same (omega (arith, r.is_left, few));
}

-- the step of an element whose turn it is
is_step : (names : List (List ℕ)) (name : List ℕ) (left : ℕ) (next : WayStep) → bytes_eq name next.name ≡ true
    → times_in next.name names + (left + 1) ≡ next.number → left ≡ 0
    → record { name = name; number = times_in name names + 1 } ≡ next
is_step names name left next same is turn =
    let named : name ≡ next.name = (bytes_eq-Decides name next.name).0 same in
    let number : times_in next.name names + 1 ≡ next.number = omega (arith, is, turn) in
    subst (λ (n : List ℕ). record { name = n; number = times_in n names + 1 } ≡ next) (sym named)
    (ap (λ (k : ℕ). record { name = next.name; number = k }) number)

-- the way to an element whose turn it is
leads_on : (text root : List ℕ) (place : Place) (found at count left : ℕ) (next : WayStep) (name : List ℕ)
    → (r : Reached text root place found at count left next) → bytes_eq name next.name ≡ true → left ≡ 0
    → way_to (with_child name (r.names ∷ with_child r.name r.before)) ≡ take (count + 1) (way root place)
leads_on text root place found at count left next name r same turn =
    rw (take_next (way root place) count next r.next_is)
    (rw r.leads (ap (λ (s : WayStep). take count (way root place) ++ s ∷ [])
    (is_step r.names name left next same r.is_left turn)))

-- such an element is entered
pub entered : (text root : List ℕ) (place : Place) (found at count left : ℕ) (next : WayStep) (name : List ℕ) (size : ℕ)
    (further_on : WayStep) → Reached text root place found at count left next
    → piece_of (drop at text) ≡ Some (record { mark = markup.opening name; size = size })
    → bytes_eq name next.name ≡ true → left ≡ 0
    → slice_get (way root place) (count + 1) ≡ Some further_on → 0 < further_on.number
    → Reached text root place at (at + size) (count + 1) (further_on.number - 1) further_on
entered text root place found at count left next name size further_on r piece same turn goes some = record {
  names = [];
  name = name;
  before = r.names ∷ with_child r.name r.before;
  found_within = r.here;
  found_tag = opening_tag name size (piece_of (drop at text)) piece;
  here = further at (r.names ∷ with_child r.name r.before) (record { mark = markup.opening name; size = size })
      r.here piece;
  leads = leads_on text root place found at count left next name r same turn;
  next_is = goes;
  is_left = omega (arith, some);
}

-- the way ends at such an element
pub whole : (text root : List ℕ) (place : Place) (found at count left : ℕ) (next : WayStep) (name : List ℕ) (size : ℕ)
    → Reached text root place found at count left next
    → piece_of (drop at text) ≡ Some (record { mark = markup.opening name; size = size })
    → bytes_eq name next.name ≡ true → left ≡ 0
    → slice_get (way root place) (count + 1) ≡ None → IsLast text place at
whole text root place found at count left next name size r piece same turn none = record {
  root = root;
  name = name;
  lists = r.names ∷ with_child r.name r.before;
  within = r.here;
  tag = opening_tag name size (piece_of (drop at text)) piece;
  count = count + 1;
  leads = leads_on text root place found at count left next name r same turn;
  last = λ more is. absurd (none_is_some more (sym none ∙ is));
}

-- such an element ends at once
pub at_once : (text root : List ℕ) (place : Place) (found at count left : ℕ) (next : WayStep) (name : List ℕ) (size : ℕ)
    → Reached text root place found at count left next
    → piece_of (drop at text) ≡ Some (record { mark = markup.empty name; size = size })
    → bytes_eq name next.name ≡ true → left ≡ 0 → IsLast text place at
at_once text root place found at count left next name size r piece same turn = record {
  root = root;
  name = name;
  lists = r.names ∷ with_child r.name r.before;
  within = r.here;
  tag = empty_tag name size (piece_of (drop at text)) piece;
  count = count + 1;
  leads = leads_on text root place found at count left next name r same turn;
  last = λ more is. empty_lacks text _ more name size (piece_of (drop at text)) piece;
}

-- two steps at one position are one
same_next : (xs : List WayStep) (n : ℕ) (a b : WayStep) → slice_get xs n ≡ Some a → slice_get xs n ≡ Some b → a ≡ b
same_next xs n a b p q = same_Some a b (sym p ∙ q)

-- the last element that was entered ends here
pub ended : (text root : List ℕ) (place : Place) (found at count left : ℕ) (next : WayStep)
    → Reached text root place found at count left next → is_end (piece_of (drop at text)) ≡ true
    → IsLast text place found
ended text root place found at count left next r e = record {
  root = root;
  name = r.name;
  lists = r.before;
  within = r.found_within;
  tag = r.found_tag;
  count = count;
  leads = r.leads;
  last = λ more is.
      let same : next ≡ more = same_next (way root place) count next more r.next_is is in
      let few : times_in next.name r.names < next.number = omega (arith, r.is_left) in
      too_few _ at r.names r.here e (subst (λ (s : WayStep). times_in s.name r.names < s.number) same few);
}

-- the text can't be read to the end of an element in it
pub cut : (text root : List ℕ) (place : Place) (found at count left : ℕ) (next : WayStep) (name : List ℕ)
    → Reached text root place found at count left next
    → ((lists : Open) → IsOpenAfter text at lists
    → (n : ℕ) × ((inner : Open) × (IsOpenAfter text n (inner ++ with_child name lists) × (piece_of (drop n text) ≡ None))))
    → IsLast text place found
cut text root place found at count left next name r stops = record {
  root = root;
  name = r.name;
  lists = r.before;
  within = r.found_within;
  tag = r.found_tag;
  count = count;
  leads = r.leads;
  last = λ more is.
      let end = stops (r.names ∷ with_child r.name r.before) r.here in
      cut_off _ end.0 end.1.0 (name ∷ r.names) end.1.1.0 end.1.1.1;
}

-- ---- the root

-- the way to the swap begins with the root
swap_first : (root : List ℕ) (below : List WayStep) (is_swap is_trade : Bool)
    → take 1 ((if is_swap then once root ∷ [] else (if is_trade then once root ∷ once (codes "swap") ∷ [] else once root
    ∷ once (codes "trade") ∷ once (codes "swap") ∷ [])) ++ below) ≡ once root ∷ []
swap_first root below true is_trade = refl
swap_first root below false true = refl
swap_first root below false false = refl

-- so does every other way
any_first : (root : List ℕ) (place : Place) (is_document : Bool)
    → take 1 (if is_document then once root ∷ [] else to_swap root ++ below_swap place) ≡ once root ∷ []
unfolding to_swap
any_first root place true = refl
any_first root place false =
    swap_first root (below_swap place) (bytes_eq root (codes "swap")) (bytes_eq root (codes "trade"))

-- the way begins with the root
root_first : (root : List ℕ) (place : Place) → take 1 (way root place) ≡ record { name = root; number = 1 } ∷ []
unfolding way
root_first root place = any_first root place (place.elem == document)

-- the root's tag opens it
opens_root : (tag : Tag) → tag.is_empty ≡ false
    → root_piece tag ≡ record { mark = markup.opening tag.name.now; size = tag.size }
opens_root tag e = rw e refl

-- or the root ends at once
empty_root : (tag : Tag) → tag.is_empty ≡ true
    → root_piece tag ≡ record { mark = markup.empty tag.name.now; size = tag.size }
empty_root tag e = rw e refl

-- the root is entered
pub root_reached : (text : List ℕ) (place : Place) (tag : Tag) (next : WayStep) → IsRootTag text tag → tag.is_empty ≡ false
    → slice_get (way tag.name.now place) 1 ≡ Some next → 0 < next.number
    → Reached text tag.name.now place tag.at (tag.at + tag.size) 1 (next.number - 1) next
root_reached text place tag next r opened goes some =
    let piece = r.is ∙ ap (λ (p : markup.Piece). Some p) (opens_root tag opened) in
    record {
      names = [];
      name = tag.name.now;
      before = [] ∷ [];
      found_within = r.within;
      found_tag = opening_tag tag.name.now tag.size (piece_of (drop tag.at text)) piece;
      here = further tag.at ([] ∷ []) (record { mark = markup.opening tag.name.now; size = tag.size }) r.within piece;
      leads = sym (root_first tag.name.now place);
      next_is = goes;
      is_left = omega (arith, some);
    }

-- the root is the last element on the way
pub root_whole : (text : List ℕ) (place : Place) (tag : Tag) → IsRootTag text tag → tag.is_empty ≡ false
    → slice_get (way tag.name.now place) 1 ≡ None → IsLast text place tag.at
root_whole text place tag r opened none = record {
  root = tag.name.now;
  name = tag.name.now;
  lists = [] ∷ [];
  within = r.within;
  tag = opening_tag tag.name.now tag.size (piece_of (drop tag.at text))
      (r.is ∙ ap (λ (p : markup.Piece). Some p) (opens_root tag opened));
  count = 1;
  leads = sym (root_first tag.name.now place);
  last = λ more is. absurd (none_is_some more (sym none ∙ is));
}

-- the root ends at once
pub root_at_once : (text : List ℕ) (place : Place) (tag : Tag) → IsRootTag text tag → tag.is_empty ≡ true
    → IsLast text place tag.at
root_at_once text place tag r e =
    let piece = r.is ∙ ap (λ (p : markup.Piece). Some p) (empty_root tag e) in
    record {
      root = tag.name.now;
      name = tag.name.now;
      lists = [] ∷ [];
      within = r.within;
      tag = empty_tag tag.name.now tag.size (piece_of (drop tag.at text)) piece;
      count = 1;
      leads = sym (root_first tag.name.now place);
      last = λ more is. empty_lacks text _ more tag.name.now tag.size (piece_of (drop tag.at text)) piece;
    }
