use Rattle.irs_emit.proofs.rows.back.Goals as goal
use Rattle.irs_emit.proofs.Pieces.{twice}
use Rattle.irs_emit.specs.Emitted.{day_leaf, notional_leaf}
use Rattle.irs_emit.specs.Private.Texts.{period_back}
use Rattle.serde_json.specs.Written.{compact_text}
use Rattle.std.proofs.Common.{rules, ◌≡◌, ◌++◌, codes, FitsSigned}
use Rattle.std.proofs.lemmas.Int.{to_z-of_z}
use Rattle.std.specs.Int.{w128}

pub returns : goal.returns
unfolding period_back
returns c =
    let x = c.args.x.now in
    let notional_fits : FitsSigned w128 x.notional = search rules in
    let notional : c.notional.new.out.items ≡ c.extend_from_slice.new.self.items
    ++ compact_text (notional_leaf x.notional) =
    simp to_z-of_z at c.in_ok-notional.ensures in
    twice c.args.out.now.items c.extend_from_slice.new.self.items c.extend_from_slice-4.new.self.items
    (codes "\"notionalAmount\":") _ c.in_ok-extend_from_slice.ensures.items
    (twice c.extend_from_slice.new.self.items c.notional.new.out.items c.extend_from_slice-4.new.self.items
    (compact_text (notional_leaf x.notional)) _ notional
    (twice c.notional.new.out.items c.extend_from_slice-2.new.self.items c.extend_from_slice-4.new.self.items
    (codes ",\"unadjustedEndDate\":") _ c.in_ok-extend_from_slice-2.ensures.items
    (twice c.extend_from_slice-2.new.self.items c.day.new.out.items c.extend_from_slice-4.new.self.items
    (compact_text (day_leaf x.«end»)) _ c.in_ok-day.ensures
    (twice c.day.new.out.items c.extend_from_slice-3.new.self.items c.extend_from_slice-4.new.self.items
    (codes ",\"unadjustedStartDate\":") _ c.in_ok-extend_from_slice-3.ensures.items
    (twice c.extend_from_slice-3.new.self.items c.day-2.new.out.items c.extend_from_slice-4.new.self.items
    (compact_text (day_leaf x.start)) (codes "}") c.in_ok-day-2.ensures c.in_ok-extend_from_slice-4.ensures.items)))))
