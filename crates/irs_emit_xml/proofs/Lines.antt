-- What the code appends, piece after piece.
use Rattle.std.proofs.Common.{◌≡◌, ℕ, zero, suc, ◌+◌, List, [], ◌∷◌, ◌++◌, refl, sym, ap, ◌∙◌, arith, append_assoc}
use Rattle.std.proofs.lemmas.List.{append-nil}
use Rattle.std.proofs.lemmas.List.Concat.{flat_map-append}
use Rattle.irs_emit.proofs.Pieces.{same_piece, twice}
use Rattle.irs_emit_xml.specs.Flows.{element, listed_nodes}
use Rattle.irs_emit_xml.specs.Private.Flows.{lines}
use Rattle.irs_emit_xml.specs.Trees.{Node, close_text, declared_text, end_tag_text, indent, leaf_text, namespace_text}
use Rattle.irs_emit_xml.specs.Trees.{node_text, nodes_text, open_text, root_open_text}

spaces_last : (k : ℕ) → indent k ++ (32 ∷ 32 ∷ []) ≡ 32 ∷ 32 ∷ indent k
spaces_last zero = refl
spaces_last (suc k) = ap (λ t. 32 ∷ 32 ∷ t) (spaces_last k)

-- two more spaces are those of one more level
pub indent_more : (k : ℕ) (old now next : List ℕ) → now ≡ old ++ indent k → next ≡ now ++ (32 ∷ 32 ∷ [])
    → next ≡ old ++ indent (k + 1)
indent_more k old now next e f =
    let up : k + 1 ≡ suc k = omega arith in
    twice old now next (indent k) (32 ∷ 32 ∷ []) e f ∙ ap (λ t. old ++ t) (spaces_last k ∙ ap indent (sym up))

-- an end tag in its pieces
pub end_pieces : (name word a b c d : List ℕ) → b ≡ a ++ (60 ∷ 47 ∷ []) → c ≡ b ++ word → word ≡ name
    → d ≡ c ++ (62 ∷ 10 ∷ [])
    → d ≡ a ++ end_tag_text name
end_pieces name word a b c d e f w g =
    twice a b d (60 ∷ 47 ∷ []) (name ++ 62 ∷ 10 ∷ []) e
    (twice b c d name (62 ∷ 10 ∷ []) (same_piece b c word name w f) g)

-- a start tag in its pieces
pub open_pieces : (k : ℕ) (name word a b c d e : List ℕ) → b ≡ a ++ indent k → c ≡ b ++ (60 ∷ []) → d ≡ c ++ word
    → word ≡ name
    → e ≡ d ++ (62 ∷ 10 ∷ []) → e ≡ a ++ open_text k name
open_pieces k name word a b c d e p q r w s =
    twice a b e (indent k) (60 ∷ (name ++ 62 ∷ 10 ∷ [])) p
    (twice b c e (60 ∷ []) (name ++ 62 ∷ 10 ∷ []) q
    (twice c d e name (62 ∷ 10 ∷ []) (same_piece c d word name w r) s))

-- the line of an end tag in its pieces
pub close_pieces : (k : ℕ) (name a b c : List ℕ) → b ≡ a ++ indent k → c ≡ b ++ end_tag_text name
    → c ≡ a ++ close_text k name
close_pieces k name a b c p q = twice a b c (indent k) (end_tag_text name) p q

-- the line of an element with a text, in its pieces
pub leaf_pieces : (k : ℕ) (name word text a b c d e f g : List ℕ) → b ≡ a ++ indent k → c ≡ b ++ (60 ∷ [])
    → d ≡ c ++ word → word ≡ name
    → e ≡ d ++ (62 ∷ []) → f ≡ e ++ text → g ≡ f ++ end_tag_text name → g ≡ a ++ leaf_text k name text
leaf_pieces k name word text a b c d e f g p q r w s t u =
    twice a b g (indent k) (60 ∷ (name ++ (62 ∷ (text ++ end_tag_text name)))) p
    (twice b c g (60 ∷ []) (name ++ (62 ∷ (text ++ end_tag_text name))) q
    (twice c d g name (62 ∷ (text ++ end_tag_text name)) (same_piece c d word name w r)
    (twice d e g (62 ∷ []) (text ++ end_tag_text name) s (twice e f g text (end_tag_text name) t u))))

-- the XML declaration and the root's start tag, in their pieces
pub begin_pieces : (name word a b c d : List ℕ) → b ≡ a ++ (declared_text ++ 60 ∷ []) → c ≡ b ++ word → word ≡ name
    → d ≡ c ++ (namespace_text ++ 62 ∷ 10 ∷ []) → d ≡ a ++ (declared_text ++ root_open_text name)
begin_pieces name word a b c d e f w g =
    twice a b d (declared_text ++ 60 ∷ []) (name ++ (namespace_text ++ 62 ∷ 10 ∷ [])) e
    (twice b c d name (namespace_text ++ 62 ∷ 10 ∷ []) (same_piece b c word name w f) g)
    ∙ ap (λ t. a ++ t) (append_assoc declared_text (60 ∷ []) (name ++ (namespace_text ++ 62 ∷ 10 ∷ [])))

-- ---- elements of a list

-- the last element of a list
pub one_line : (k : ℕ) (n : Node) (a b : List ℕ) → b ≡ a ++ node_text k n → b ≡ a ++ lines k (n ∷ [])
one_line k n a b e = e ∙ ap (λ t. a ++ t) (sym (append-nil (node_text k n)))

-- an element and those after it
pub then_lines : (k : ℕ) (n : Node) (ns : List Node) (a b c : List ℕ) → b ≡ a ++ node_text k n → c ≡ b ++ lines k ns
    → c ≡ a ++ lines k (n ∷ ns)
then_lines k n ns a b c e f = twice a b c (node_text k n) (lines k ns) e f

-- elements of a list are their lines
pub lines_listed : (k : ℕ) (ns : List Node) → nodes_text k (listed_nodes ns) ≡ lines k ns
lines_listed k [] = refl
lines_listed k (n ∷ ns) = ap (λ t. node_text k n ++ t) (lines_listed k ns)

-- an element, from its start tag to its end tag
pub element_lines : (k : ℕ) (name : List ℕ) (ns : List Node) (a b c d : List ℕ) → b ≡ a ++ open_text k name
    → c ≡ b ++ lines (suc k) ns
    → d ≡ c ++ close_text k name → d ≡ a ++ node_text k (element name ns)
element_lines k name ns a b c d e f g =
    twice a b d (open_text k name) (lines (suc k) ns ++ close_text k name) e
    (twice b c d (lines (suc k) ns) (close_text k name) f g)
    ∙ ap (λ t. a ++ (open_text k name ++ (t ++ close_text k name))) (sym (lines_listed (suc k) ns))

-- elements after others
pub lines_append : (k : ℕ) (ns ms : List Node) (a b c : List ℕ) → b ≡ a ++ lines k ns → c ≡ b ++ lines k ms
    → c ≡ a ++ lines k (ns ++ ms)
lines_append k ns ms a b c e f =
    twice a b c (lines k ns) (lines k ms) e f ∙ ap (λ t. a ++ t) (sym (flat_map-append (node_text k) ns ms))
