use Rattle.irs_emit.proofs.rows.front.Goals as goal
use Rattle.irs_emit.proofs.Pieces.{twice}
use Rattle.irs_emit.specs.Emitted.{count_leaf, day_leaf, fraction_leaf}
use Rattle.irs_emit.specs.Private.Texts.{period_front}
use Rattle.serde_json.specs.Written.{compact_text}
use Rattle.std.proofs.Common.{rules, ◌≡◌, ◌++◌, codes, FitsSigned}
use Rattle.std.proofs.lemmas.Int.{to_z-of_z}
use Rattle.std.specs.Int.{w64}

pub returns : goal.returns
unfolding period_front
returns c =
    let x = c.args.x.now in
    let days_fit : FitsSigned w64 x.days = search rules in
    let days : c.count.new.out.items ≡ c.extend_from_slice-3.new.self.items ++ compact_text (count_leaf x.days) =
    simp to_z-of_z at c.in_ok-count.ensures in
    twice c.args.out.now.items c.extend_from_slice.new.self.items c.extend_from_slice-5.new.self.items
    (codes "{\"adjustedEndDate\":") _ c.in_ok-extend_from_slice.ensures.items
    (twice c.extend_from_slice.new.self.items c.day.new.out.items c.extend_from_slice-5.new.self.items
    (compact_text (day_leaf x.adjusted_end)) _ c.in_ok-day.ensures
    (twice c.day.new.out.items c.extend_from_slice-2.new.self.items c.extend_from_slice-5.new.self.items
    (codes ",\"adjustedStartDate\":") _ c.in_ok-extend_from_slice-2.ensures.items
    (twice c.extend_from_slice-2.new.self.items c.day-2.new.out.items c.extend_from_slice-5.new.self.items
    (compact_text (day_leaf x.adjusted_start)) _ c.in_ok-day-2.ensures
    (twice c.day-2.new.out.items c.extend_from_slice-3.new.self.items c.extend_from_slice-5.new.self.items
    (codes ",\"calculationPeriodNumberOfDays\":") _ c.in_ok-extend_from_slice-3.ensures.items
    (twice c.extend_from_slice-3.new.self.items c.count.new.out.items c.extend_from_slice-5.new.self.items
    (compact_text (count_leaf x.days)) _ days
    (twice c.count.new.out.items c.extend_from_slice-4.new.self.items c.extend_from_slice-5.new.self.items
    (codes ",\"dayCountYearFraction\":") _ c.in_ok-extend_from_slice-4.ensures.items
    (twice c.extend_from_slice-4.new.self.items c.fraction.new.out.items c.extend_from_slice-5.new.self.items
    (compact_text (fraction_leaf x.frac)) (codes ",") c.in_ok-fraction.ensures
    c.in_ok-extend_from_slice-5.ensures.items)))))))
