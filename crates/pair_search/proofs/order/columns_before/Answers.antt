use Rattle.std.proofs.Common.{nat_lt, rules, arith}
use Rattle.std.proofs.lemmas.Bool.{ltb-true, ltb-false}
use Rattle.std.proofs.lemmas.List.Sorted.{IsPartitionedBy-ltb, IsPartitionPoint-from_clause}
use Rattle.pair_search.specs.declared.order.Column.{Column}
use Rattle.pair_search.proofs.order.columns_before.Goals as goal

pub returns-clause-before : goal.returns-clause-before
returns-clause-before c = λ k d lt.
    let point =
    IsPartitionPoint-from_clause (λ (x : Column). nat_lt x.minute c.args.minute) c.args.columns.now c.partition_point.result
    c.partition_point.ensures.partitioned
    (IsPartitionedBy-ltb (λ (x : Column). x.minute) c.args.columns.now c.args.minute c.requires) (λ a r f' h. search rules) in
    ltb-true _ _ (point.0 k d (omega arith) lt)

pub returns-clause-after : goal.returns-clause-after
returns-clause-after c = λ k d le lt.
    let point =
    IsPartitionPoint-from_clause (λ (x : Column). nat_lt x.minute c.args.minute) c.args.columns.now c.partition_point.result
    c.partition_point.ensures.partitioned
    (IsPartitionedBy-ltb (λ (x : Column). x.minute) c.args.columns.now c.args.minute c.requires) (λ a r f' h. search rules) in
    ltb-false _ _ (point.1 k d le lt)
