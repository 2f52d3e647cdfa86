use Rattle.std.proofs.Common.{rules}
use Rattle.std.proofs.lemmas.Cmp.{nat_cmp_total, on_total}
use Rattle.std.proofs.lemmas.List.Sorted.{answers_always, IsNonDecreasingBy-from_sort_by_key}
use Rattle.std.specs.Cmp.{unsigned_ties}
use Rattle.phone_index.specs.declared.grouped.Coded.{Coded}
use Rattle.phone_index.proofs.Stays.{same_stay}
use Rattle.phone_index.proofs.grouped.Grouped.of.Goals as goal

pub starts_of-requires : goal.starts_of-requires
starts_of-requires c =
    rw c.deref.ensures.value (IsNonDecreasingBy-from_sort_by_key (λ e. e.code) _ c.in_ok-sort_by_key.ensures.sorted (λ a r q k. search rules))

pub invariant_of-result : goal.invariant_of-result
invariant_of-result c = (
  IsNonDecreasingBy-from_sort_by_key (λ e. e.code) _ c.in_ok-sort_by_key.ensures.sorted (λ a r q k. search rules),
  (rw c.deref.ensures.value at c.in_ok-starts.ensures),
)

pub returns : goal.returns
returns c = record {
  same_order = λ code.
      same_stay (on_total (λ (e : Coded). e.code) nat_cmp_total) (λ x y. unsigned_ties x.code y.code) _ _
      (c.sort_by_key.ensures.stable (λ e. e.code) (answers_always _ _ _ (λ f a r g h. search rules))) (record { code = code; place = 0 });
}
