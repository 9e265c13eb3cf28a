use Rattle.std.proofs.Common.{rules, int_le}
use Rattle.std.proofs.lemmas.List.Sorted.{IsPartitionPoint-from_clause}
use Rattle.irs_compound.proofs.CountedSteps.{parted, counted}
use Rattle.irs_compound.proofs.step_counts.count_by_halves.Goals as goal

pub returns : goal.returns
returns c =
    let steps = c.args.steps.now in
    let d = c.args.d in
    let n = c.partition_point.result in
    counted steps d n (search rules) (IsPartitionPoint-from_clause (λ s. int_le s.day d) steps n
    c.partition_point.ensures.partitioned (parted steps d c.requires) (λ a r q k. search rules))
