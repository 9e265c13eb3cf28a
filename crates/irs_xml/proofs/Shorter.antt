-- What is read leaves fewer characters.
use Rattle.std.proofs.Common.{◌≡◌, inl, inr, ℕ, zero, suc, ◌<◌, ◌≤◌, Bool, true, false, List, [], ◌∷◌, ◌++◌, length, Option, Some, None, nat_eq, ap, ◌∙◌, arith, length-append}
use Rattle.std.specs.Prelude.{codes}
use Rattle.serde_json.specs.Data.{Data}
use Rattle.irs_xml.specs.Characters.{rest_after, comment_text, cdata_text, instruction_text, seen}
use Rattle.irs_xml.specs.Tags.{Scope, Opening, is_opened, scope_in, tag_text}
use Rattle.irs_xml.specs.Private.Reading.{Got, ◌>>=◌, choose, skip_space, Inside, Mark, ending, commented, sectioned}
use Rattle.irs_xml.specs.Private.Reading.{instructed, nested, referred, standing, mark_at, markup_at, piece_at}
use Rattle.irs_xml.specs.Private.Reading.{content_at, closing_name_at, closing_at, filled_at, element_at, child_at}
use Rattle.irs_xml.specs.Private.Reading.{as_child, begun, with_one, with_text, with_character, comment_at}
use Rattle.irs_xml.specs.Private.Reading.{instruction_at, data_at, reference_at, tag_at}
use Rattle.irs_xml.specs.Content.{Child, is_ours}
use Rattle.irs_xml.proofs.Steps.{same_some, bind_some, choose_some, chosen, length_after, skip_sound, white_run}
use Rattle.irs_xml.proofs.CommentLaws.{comment_sound, data_sound, instruction_sound}
use Rattle.irs_xml.proofs.TagLaws.{end_text, tag_sound}
use Rattle.irs_xml.proofs.ValueSteps.{reference_short}

after_short : (w cs rest : List ℕ) → rest_after w cs ≡ Some rest → length rest ≤ length cs
after_short w cs rest e = let l = length_after w cs rest e in omega (arith, l)

-- skipping white space makes nothing longer
pub skip_short : (cs : List ℕ) → length (skip_space cs) ≤ length cs
skip_short cs = let l = ap length (skip_sound cs) ∙ length-append (white_run cs) (skip_space cs) in omega (arith, l)

-- reading a comment makes nothing longer
pub comment_short : (cs rest : List ℕ) → comment_at cs ≡ Some rest → length rest ≤ length cs
comment_short cs rest e =
    let r = comment_sound cs rest e in let l = ap length r.spelt ∙ length-append (comment_text r.text) rest in omega (arith, l)

-- reading an instruction makes nothing longer
pub instruction_short : (cs rest : List ℕ) → instruction_at cs ≡ Some rest → length rest ≤ length cs
instruction_short cs rest e =
    let r = instruction_sound cs rest e in
    let l = ap length r.spelt ∙ length-append (instruction_text r.instruction) rest in omega (arith, l)

data_short : (text cs out rest : List ℕ) → data_at text cs ≡ Some (out, rest) → length rest ≤ length cs
data_short text cs out rest e =
    let r = data_sound text cs out rest e in let l = ap length r.spelt ∙ length-append (cdata_text r.data_text) rest in omega (arith, l)

tag_short : (cs : List ℕ) (o : Opening) (b : Bool) (rest : List ℕ) → tag_at cs ≡ Some ((o, b), rest) → length rest ≤ length cs
tag_short cs o b rest e =
    let r = tag_sound cs o b rest e in
    let l = ap length r.spelt ∙ length-append (tag_text r.tag) (end_text b ++ rest) in
    let k = length-append (end_text b) rest in omega (arith, l, k)

markup_short : (cs : List ℕ) (m : Mark) (rest : List ℕ) → markup_at cs ≡ Some (m, rest) → length rest ≤ length cs
unfolding markup_at
markup_short cs m rest e =
    elim (choose_some (rest_after (codes "/") cs) (λ rest. Some (ending, rest)) _ (m, rest) e) [
      | inl h ↦ by_word (codes "/") ending h.0 h.1 h.2
      | inr a ↦ elim (choose_some (rest_after (codes "!--") cs) (λ rest. Some (commented, rest)) _ (m, rest) a.1) [
        | inl h ↦ by_word (codes "!--") commented h.0 h.1 h.2
        | inr b ↦ elim (choose_some (rest_after (codes "![CDATA[") cs) (λ rest. Some (sectioned, rest)) _ (m, rest) b.1) [
          | inl h ↦ by_word (codes "![CDATA[") sectioned h.0 h.1 h.2
          | inr d ↦ elim (choose_some (rest_after (codes "?") cs) (λ rest. Some (instructed, rest)) (Some (nested, cs)) (m, rest) d.1) [
            | inl h ↦ by_word (codes "?") instructed h.0 h.1 h.2
            | inr h ↦ let l = ap (λ p. length p.1) (same_some h.1) in omega (arith, l)
          ]
        ]
      ]
    ]
  where
    by_word : (w : List ℕ) (k : Mark) (x : List ℕ) → rest_after w cs ≡ Some x → ◌≡◌ {A = Got Mark} (Some (k, x)) (Some (m, rest)) → length rest ≤ length cs
    by_word w k x found is =
        let s = after_short w cs x found in let l = ap (λ p. length p.1) (same_some is) in omega (arith, s, l)

-- reading a mark leaves less
pub mark_short : (cs : List ℕ) (m : Mark) (rest : List ℕ) → mark_at cs ≡ Some (m, rest) → length rest < length cs
unfolding mark_at
mark_short [] m rest e = absurd (cc e)
mark_short (c ∷ cs) m rest e =
    elim (chosen (nat_eq c 60) (markup_at cs) _ (Some (m, rest)) e) [
      | inl h ↦ let s = markup_short cs m rest h.1 in omega (arith, s)
      | inr a ↦ elim (chosen (nat_eq c 38) (Some (referred, cs)) _ (Some (m, rest)) a.1) [
        | inl h ↦ let l = ap (λ p. length p.1) (same_some h.1) in omega (arith, l)
        | inr b ↦ elim (chosen (nat_eq c 93) (choose (rest_after (codes "]>") cs) (λ rest. None) (Some (standing 93, cs))) (Some (standing c, cs)) (Some (m, rest)) b.1) [
          | inl h ↦ elim (choose_some (rest_after (codes "]>") cs) (λ rest. None) (Some (standing 93, cs)) (m, rest) h.1) [
            | inl k ↦ absurd (let x = k.2 in cc x)
            | inr k ↦ let l = ap (λ p. length p.1) (same_some k.1) in omega (arith, l)
          ]
          | inr h ↦ let l = ap (λ p. length p.1) (same_some h.1) in omega (arith, l)
        ]
      ]
    ]

-- what reads children leaves no more characters than there were
pub record Shortens (child : List ℕ → Got Child) : Type 0 where
  pub less : (cs : List ℕ) (c : Child) (rest : List ℕ) → child cs ≡ Some (c, rest) → length rest ≤ length cs

-- reading a piece of content makes nothing longer
pub piece_short : (child : List ℕ → Got Child) (i : Inside) (m : Mark) (cs : List ℕ) (x : Bool × Inside) (rest : List ℕ) → Shortens child
    → piece_at child i m cs ≡ Some (x, rest) → length rest ≤ length cs
unfolding piece_at
piece_short child i ending cs x rest s e = let l = ap (λ p. length p.1) (same_some e) in omega (arith, l)
piece_short child i commented cs x rest s e =
    let b = bind_some (comment_at cs) (λ rest. Some ((false, i), rest)) (x, rest) e in
    let k = comment_short cs b.0 b.1 in let l = ap (λ p. length p.1) (same_some b.2) in omega (arith, k, l)
piece_short child i sectioned cs x rest s e =
    let b = bind_some (data_at i.text cs) (λ r. Some ((false, with_text i r.0), r.1)) (x, rest) e in
    let k = data_short i.text cs b.0.0 b.0.1 b.1 in let l = ap (λ p. length p.1) (same_some b.2) in omega (arith, k, l)
piece_short child i instructed cs x rest s e =
    let b = bind_some (instruction_at cs) (λ rest. Some ((false, i), rest)) (x, rest) e in
    let k = instruction_short cs b.0 b.1 in let l = ap (λ p. length p.1) (same_some b.2) in omega (arith, k, l)
piece_short child i nested cs x rest s e =
    let b = bind_some (child cs) (λ r. Some ((false, with_one i r.0), r.1)) (x, rest) e in
    let k = s.less cs b.0.0 b.0.1 b.1 in let l = ap (λ p. length p.1) (same_some b.2) in omega (arith, k, l)
piece_short child i referred cs x rest s e =
    let b = bind_some (reference_at cs) (λ r. Some ((false, with_character i r.0), r.1)) (x, rest) e in
    let k = reference_short cs b.0.0 b.0.1 b.1 in let l = ap (λ p. length p.1) (same_some b.2) in omega (arith, k, l)
piece_short child i (standing c) cs x rest s e = let l = ap (λ p. length p.1) (same_some e) in omega (arith, l)

content_short : (child : List ℕ → Got Child) (n : ℕ) (i : Inside) (cs : List ℕ) (j : Inside) (rest : List ℕ) → Shortens child
    → content_at child n i cs ≡ Some (j, rest) → length rest ≤ length cs
unfolding content_at
content_short child zero i cs j rest s e = absurd (cc e)
content_short child (suc n) i cs j rest s e =
    let m = bind_some (mark_at cs) _ (j, rest) e in
    let p = bind_some (piece_at child i m.0.0 m.0.1) _ (j, rest) m.2 in
    let a = mark_short cs m.0.0 m.0.1 m.1 in
    let b = piece_short child i m.0.0 m.0.1 p.0.0 p.0.1 s p.1 in
    elim (chosen p.0.0.0 (Some (p.0.0.1, p.0.1)) (content_at child n p.0.0.1 p.0.1) (Some (j, rest)) p.2) [
      | inl h ↦ let l = ap (λ q. length q.1) (same_some h.1) in omega (arith, a, b, l)
      | inr h ↦ let k = content_short child n p.0.0.1 p.0.1 j rest s h.1 in omega (arith, a, b, k)
    ]

closing_name_short : (p l cs rest : List ℕ) → closing_name_at p l cs ≡ Some rest → length rest ≤ length cs
unfolding closing_name_at
closing_name_short p l cs rest e =
    elim (chosen (nat_eq (length p) 0) (rest_after (seen l) cs) (rest_after (seen p) cs >>= rest_after (codes ":") >>= rest_after (seen l)) (Some rest) e) [
      | inl h ↦ after_short (seen l) cs rest h.1
      | inr h ↦
          let a = bind_some (rest_after (seen p) cs >>= rest_after (codes ":")) (rest_after (seen l)) rest h.1 in
          let b = bind_some (rest_after (seen p) cs) (rest_after (codes ":")) a.0 a.1 in
          let x = after_short (seen p) cs b.0 b.1 in
          let y = after_short (codes ":") b.0 a.0 b.2 in
          let z = after_short (seen l) a.0 rest a.2 in
          omega (arith, x, y, z)
    ]

closing_short : (o : Opening) (cs rest : List ℕ) → closing_at o cs ≡ Some rest → length rest ≤ length cs
unfolding closing_at
closing_short o cs rest e =
    let b = bind_some (closing_name_at o.prefix o.local cs) _ rest e in
    let x = closing_name_short o.prefix o.local cs b.0 b.1 in
    let y = skip_short b.0 in
    let z = after_short (codes ">") (skip_space b.0) rest b.2 in
    omega (arith, x, y, z)

filled_short : (child : List ℕ → Got Child) (o : Opening) (b : Bool) (i : Inside) (cs : List ℕ) (j : Inside) (rest : List ℕ) → Shortens child
    → filled_at child (o, b) i cs ≡ Some (j, rest) → length rest ≤ length cs
unfolding filled_at
filled_short child o true i cs j rest s e = let l = ap (λ p. length p.1) (same_some e) in omega (arith, l)
filled_short child o false i cs j rest s e =
    let a = bind_some (content_at child (length cs) i cs) _ (j, rest) e in
    let b = bind_some (closing_at o a.0.1) _ (j, rest) a.2 in
    let x = content_short child (length cs) i cs a.0.0 a.0.1 s a.1 in
    let y = closing_short o a.0.1 b.0 b.1 in
    let l = ap (λ p. length p.1) (same_some b.2) in
    omega (arith, x, y, l)

as_child_same : (ours : Bool) (o : Opening) (d : Option Data) (cs : List ℕ) (c : Child) (rest : List ℕ) → as_child ours o d cs ≡ Some (c, rest)
    → length rest ≤ length cs
as_child_same ours o None cs c rest e = absurd (cc e)
as_child_same ours o (Some d) cs c rest e = let l = ap (λ p. length p.1) (same_some e) in omega (arith, l)

element_short : (child : Bool → Scope → List ℕ → Got Child) (root : List ℕ) (kept : Bool) (inner : Scope) (o : Opening) (b : Bool) (cs : List ℕ)
    (c : Child) (rest : List ℕ) → ((kept : Bool) (scope : Scope) → Shortens (child kept scope))
    → element_at child root kept inner (o, b) cs ≡ Some (c, rest) → length rest ≤ length cs
unfolding element_at
element_short child root kept inner o b cs c rest s e =
    let a = bind_some (filled_at (child _ inner) (o, b) (begun o.settings) cs) _ (c, rest) e in
    let x = filled_short _ o b (begun o.settings) cs a.0.0 a.0.1 (s _ inner) a.1 in
    let y = as_child_same (is_ours root inner o) o _ a.0.1 c rest a.2 in
    omega (arith, x, y)

-- reading an element makes nothing longer
pub child_short : (root : List ℕ) (levels : ℕ) (kept : Bool) (outer : Scope) → Shortens (child_at root levels kept outer)
unfolding child_at
child_short root zero kept outer = record { less = λ cs c rest e. absurd (cc e) }
child_short root (suc levels) kept outer = record {
  less = λ cs c rest e.
      let t = bind_some (tag_at cs) _ (c, rest) e in
      let x = tag_short cs t.0.0.0 t.0.0.1 t.0.1 t.1 in
      elim (chosen (is_opened outer t.0.0.0) _ None (Some (c, rest)) t.2) [
        | inl h ↦
            let y = element_short (child_at root levels) root kept (scope_in outer t.0.0.0.settings) t.0.0.0 t.0.0.1 t.0.1 c rest
            (λ k s. child_short root levels k s) h.1 in
            omega (arith, x, y)
        | inr h ↦ absurd (let k = h.1 in cc k)
      ];
}
