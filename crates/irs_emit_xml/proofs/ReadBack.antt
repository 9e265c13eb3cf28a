-- What is written of a root and elements is a document that means their value.
use Rattle.std.proofs.Common.{◌≡◌, ℕ, zero, suc, ◌<◌, Bool, true, false, ◌||◌, ◌==◌, List, [], ◌∷◌, ◌++◌, nat_eq, refl}
use Rattle.std.proofs.Common.{sym, ap, ◌∙◌, arith}
use Rattle.std.proofs.lemmas.Bool.Decides.{nat_tests}
use Rattle.std.proofs.lemmas.List.Folds.{list_all-append}
use Rattle.std.specs.Int.{is_in_range}
use Rattle.std.specs.List.{list_all}
use Rattle.irs_xml.specs.Characters.{is_char, ends_after, line_ends, without_mark}
use Rattle.irs_xml.specs.Document.{XmlReads}
use Rattle.irs_emit_xml.specs.Trees.{Node, leaf, branch, Nodes, no_nodes, node, indent, end_tag_text, node_text}
use Rattle.irs_emit_xml.specs.Trees.{nodes_text, declared_text, namespace_text, written_text, is_letter, is_tag_name}
use Rattle.irs_emit_xml.specs.Trees.{is_unescaped, IsNode, IsNodes, IsRoot, written_value}
use Rattle.irs_emit_xml.proofs.Means.{encodes_low, document_means}
use Rattle.irs_emit_xml.proofs.Rules.{all_then, both_true, true_both, document_is}
use Rattle.irs_emit_xml.proofs.Spelling.{document_of, document_spelt}

-- printable ASCII, or the end of a line
abbrev is_clean : ℕ → Bool
is_clean c = is_in_range 32 126 c || c == 10

clean_char : (c : ℕ) → is_clean c ≡ true → is_char c ≡ true
unfolding is_char
clean_char c h = grind (arith, nat_tests)

clean_low : (c : ℕ) → is_clean c ≡ true → c < 128
clean_low c h = grind (arith, nat_tests)

clean_no_return : (c : ℕ) → is_clean c ≡ true → nat_eq c 13 ≡ false
clean_no_return c h = grind (arith, nat_tests)

letter_clean : (c : ℕ) → is_letter c ≡ true → is_clean c ≡ true
unfolding is_letter
letter_clean c h = grind (arith, nat_tests)

plain_clean : (c : ℕ) → is_unescaped c ≡ true → is_clean c ≡ true
unfolding is_unescaped
plain_clean c h = grind (arith, nat_tests)

-- ---- all characters are clean

abbrev Clean : List ℕ → Type 0
Clean cs = list_all is_clean cs ≡ true

clean_both : (a b : List ℕ) → Clean a → Clean b → Clean (a ++ b)
clean_both a b h k = list_all-append is_clean a b ∙ true_both (list_all is_clean a) (list_all is_clean b) h k

indent_clean : (k : ℕ) → Clean (indent k)
indent_clean zero = refl
indent_clean (suc k) = indent_clean k

name_clean : (name : List ℕ) → is_tag_name name ≡ true → Clean name
name_clean [] h = refl
name_clean (c ∷ cs) h = all_then is_letter is_clean (c ∷ cs) letter_clean h

end_clean : (name : List ℕ) → Clean name → Clean (end_tag_text name)
end_clean name h = clean_both name (62 ∷ 10 ∷ []) h refl

close_clean : (k : ℕ) (name : List ℕ) → Clean name → Clean (indent k ++ end_tag_text name)
close_clean k name h = clean_both (indent k) (end_tag_text name) (indent_clean k) (end_clean name h)

leaf_clean : (k : ℕ) (name text : List ℕ) → Clean name → Clean text → Clean (node_text k (leaf name text))
leaf_clean k name text h t =
    clean_both (indent k) (60 ∷ (name ++ (62 ∷ (text ++ end_tag_text name)))) (indent_clean k)
    (clean_both name (62 ∷ (text ++ end_tag_text name)) h (clean_both text (end_tag_text name) t (end_clean name h)))

open_clean : (k : ℕ) (name : List ℕ) → Clean name → Clean (indent k ++ (60 ∷ (name ++ 62 ∷ 10 ∷ [])))
open_clean k name h =
    clean_both (indent k) (60 ∷ (name ++ 62 ∷ 10 ∷ [])) (indent_clean k) (clean_both name (62 ∷ 10 ∷ []) h refl)

mutual
  node_clean : (levels k : ℕ) (n : Node) → IsNode levels n → Clean (node_text k n)
  node_clean zero k (leaf name text) h = absurd h
  node_clean zero k (branch name ns) h = absurd h
  node_clean (suc levels) k (leaf name text) h =
      leaf_clean k name text (name_clean name h.0) (all_then is_unescaped is_clean text plain_clean h.1)
  node_clean (suc levels) k (branch name ns) h =
      let n = name_clean name h.0 in
      clean_both (indent k ++ (60 ∷ (name ++ 62 ∷ 10 ∷ []))) (nodes_text (suc k) ns ++ (indent k ++ end_tag_text name))
      (open_clean k name n)
      (clean_both (nodes_text (suc k) ns) (indent k ++ end_tag_text name) (nodes_clean levels (suc k) ns h.2)
      (close_clean k name n))

  nodes_clean : (levels k : ℕ) (ns : Nodes) → IsNodes levels ns → Clean (nodes_text k ns)
  nodes_clean levels k no_nodes h = refl
  nodes_clean levels k (node n ns) h =
      clean_both (node_text k n) (nodes_text k ns) (node_clean levels k n h.0) (nodes_clean levels k ns h.1)

declared_clean : Clean declared_text
unfolding declared_text
declared_clean = refl

namespace_clean : Clean (namespace_text ++ 62 ∷ 10 ∷ [])
unfolding namespace_text
namespace_clean = refl

written_clean : (name : List ℕ) (ns : Nodes) → IsRoot name ns → Clean (written_text name ns)
unfolding written_text
written_clean name ns h =
    let n = name_clean name h.named in
    clean_both declared_text (60 ∷ (name ++ (namespace_text ++ 62 ∷ 10 ∷ [])) ++ (nodes_text 1 ns ++ end_tag_text name))
    declared_clean
    (clean_both (60 ∷ (name ++ (namespace_text ++ 62 ∷ 10 ∷ []))) (nodes_text 1 ns ++ end_tag_text name)
    (clean_both name (namespace_text ++ 62 ∷ 10 ∷ []) n namespace_clean)
    (clean_both (nodes_text 1 ns) (end_tag_text name) (nodes_clean 62 1 ns h.nested) (end_clean name n)))

-- ---- clean characters are as XML counts them

no_return : (c : ℕ) (cs : List ℕ) → nat_eq c 13 ≡ false → ends_after false (c ∷ cs) ≡ c ∷ ends_after false cs
unfolding ends_after
no_return c cs h = rw h refl

ends_kept : (cs : List ℕ) → Clean cs → line_ends cs ≡ cs
unfolding ends_after
ends_kept [] h = refl
ends_kept (c ∷ cs) h =
    let b = both_true (is_clean c) (list_all is_clean cs) h in
    no_return c cs (clean_no_return c b.0) ∙ ap (λ t. c ∷ t) (ends_kept cs b.1)

no_mark : (name : List ℕ) (ns : Nodes) → without_mark (written_text name ns) ≡ written_text name ns
unfolding written_text declared_text
no_mark name ns = refl

-- the text of a root and elements is a document that means their value
pub written_reads : (name : List ℕ) (ns : Nodes) → IsRoot name ns
    → XmlReads (written_text name ns) (written_value name ns)
written_reads name ns h =
    let clean = written_clean name ns h in record {
      characters = written_text name ns;
      text = record {
        spelt = sym (encodes_low is_clean (written_text name ns) clean_low clean);
        allowed = all_then is_clean is_char (written_text name ns) clean_char clean;
      };
      document = document_of name ns;
      well_formed = document_is name ns h;
      spelt = ap line_ends (no_mark name ns) ∙ ends_kept (written_text name ns) clean ∙ sym (document_spelt name ns);
      means = document_means name ns h;
    }
