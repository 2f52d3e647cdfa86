use Rattle.std.proofs.Common.{rules, leb, ltb, ◌≡◌, true, false}
use Rattle.std.proofs.lemmas.List.Sorted.{IsPartitionPoint-from_clause, IsPartitionedBy-leb, IsPartitionedBy-ltb}
use Rattle.std.specs.List.Sorted.{IsPartitionPoint}
use Rattle.phone_index.specs.declared.grouped.Coded.{Coded}
use Rattle.phone_index.proofs.Between.{ends_in_order, run_between}
use Rattle.phone_index.proofs.grouped.ends_of.Goals as goal

-- where the lesser codes end, and where those end that are no greater
module _ (c : goal.After-partition_point-end) where
  start_is :
      IsPartitionPoint (λ (e : Coded). ltb e.code c.args.code ≡ true) (λ (e : Coded). ltb e.code c.args.code ≡ false) c.args.entries.now c.partition_point-start.result
  start_is =
      IsPartitionPoint-from_clause (λ e. ltb e.code c.args.code) _ _ c.partition_point-start.ensures.partitioned
      (IsPartitionedBy-ltb (λ e. e.code) _ c.args.code c.requires) (λ a r q k. search rules)

  end_is :
      IsPartitionPoint (λ (e : Coded). leb e.code c.args.code ≡ true) (λ (e : Coded). leb e.code c.args.code ≡ false) c.args.entries.now c.partition_point-end.result
  end_is =
      IsPartitionPoint-from_clause (λ e. leb e.code c.args.code) _ _ c.partition_point-end.ensures.partitioned
      (IsPartitionedBy-leb (λ e. e.code) _ c.args.code c.requires) (λ a r q k. search rules)

pub returns : goal.returns
returns c = record {
  in_order = ends_in_order (λ e. e.code) c.args.code _ _ _ c.partition_point-start.ensures.bound c.partition_point-end.ensures.bound (start_is c) (end_is c);
  within = c.partition_point-end.ensures.bound;
  run = run_between (λ e. e.code) c.args.code _ _ _ c.partition_point-start.ensures.bound c.partition_point-end.ensures.bound (start_is c) (end_is c);
}
