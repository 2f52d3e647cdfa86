use Rattle.std.proofs.Common.{rules, ltb}
use Rattle.std.proofs.lemmas.List.Sorted.{IsPartitionPoint-from_clause, IsPartitionedBy-ltb}
use Rattle.phone_index.proofs.grouped.start_of.Goals as goal

pub returns : goal.returns
returns c = (
  c.partition_point.ensures.bound,
  IsPartitionPoint-from_clause (λ e. ltb e.code c.args.code) _ _ c.partition_point.ensures.partitioned
      (IsPartitionedBy-ltb (λ e. e.code) _ c.args.code c.requires) (λ a r q k. search rules),
)
