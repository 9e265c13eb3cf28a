use Rattle.std.proofs.Common.{◌≡◌, ◌++◌, codes, take}
use Rattle.std.specs.List.{flat_map}
use Rattle.irs_overnight.specs.Texts.{derived_text_of}
use Rattle.irs_answers.proofs.derived.fixings_page.Given as goal

-- the text has the rows so far
abbrev pub invariant-loop-row : goal.invariant-loop-row
invariant-loop-row l = record {
  text : l.text.items ≡ codes "# irs-fixings 1\n"
      ++ flat_map (λ row. derived_text_of row l.tenor l.index) (take l.row-index l.rows);
}
