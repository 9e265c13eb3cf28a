use Rattle.std.proofs.Common.{◌≡◌, ℕ, ◌+◌, ◌-◌, ◌≤◌, List, String, string_bytes, ap, sym, ◌∙◌, drop, take, length, arith}
use Rattle.std.proofs.lemmas.List.{length-map, length-drop, drop-map, take_all}
use Rattle.std.specs.declared.alloc.Global.{Global}
use Rattle.irs_cli.specs.Commands.{may_have_words, files_from, params_of, roles_of, word_texts}
use Rattle.irs_cli.proofs.commands.command_as.Goals as goal

-- the words from two equal places on are the same
words_from : (ws : List (String Global)) (p q : ℕ) → p ≡ q
    → word_texts (take (length ws - p) (drop p ws)) ≡ drop q (word_texts ws)
words_from ws p q e =
    let enough : length (drop p ws) ≤ length ws - p = omega (arith, length-drop p ws) in
    ap (λ (l : List (String Global)). word_texts l) (take_all (length ws - p) (drop p ws) enough)
    ∙ sym (drop-map string_bytes p ws) ∙ ap (λ (n : ℕ). drop n (word_texts ws)) e

pub returns : goal.returns
returns c =
    let words = c.args.words.now in
    let kind = c.args.kind in
    record {
      fits = ap (λ (n : ℕ). may_have_words kind n) (length-map words string_bytes) ∙ sym c.counts.ensures ∙ c.if-not-counts.false;
      request = c.in-Some.ensures.some;
      files = c.in_ok-files.ensures
          ∙ ap (λ (ws : List (List ℕ)). files_from (roles_of kind) (params_of kind + 1) 0 ws)
          (words_from words c.params.result (params_of kind) c.params.ensures);
    }
