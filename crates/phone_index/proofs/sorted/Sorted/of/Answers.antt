use Rattle.std.proofs.Common.{◌≡◌, rules, List, reverse, subst}
use Rattle.std.proofs.lemmas.Cmp.{nat_list_cmp_total}
use Rattle.std.proofs.lemmas.Fn.{dedup_same}
use Rattle.std.proofs.lemmas.List.Sorted.{IsPermutation-reverse, answers_always, ranks_by}
use Rattle.std.specs.List.{dedup}
use Rattle.std.specs.List.Sorted.{IsPermutation, IsSorted, IsStable}
use Rattle.std.specs.Ordering.{is_lt}
use Rattle.phone_index.specs.Orders.{text_of}
use Rattle.phone_index.specs.declared.sorted.Named.{Named}
use Rattle.phone_index.proofs.Entries.{Rises-kept, by_text, kept_first, kept_once, same_text}
use Rattle.phone_index.proofs.sorted.Sorted.of.Goals as goal

-- what holds of one list, at the list that is the same
of_same : (P : List Named → Type 0) (xs ys : List Named) → P xs → xs ≡ ys → P ys
of_same P xs ys h e = subst P e h

-- the list that runs backward, sorted, and what is kept of it
module _ (c : goal.After-dedup_by) where
  sorted : IsSorted by_text c.sort_by.new.self.items
  sorted = c.in_ok-sort_by.ensures.sorted (λ x y. is_lt (by_text x y)) (ranks_by nat_list_cmp_total text_of) (answers_always _ _ _ (λ f a r g h. search rules))

  stable : IsStable by_text (reverse c.args.entries.items) c.sort_by.new.self.items
  stable =
      of_same (λ xs. IsStable by_text xs c.sort_by.new.self.items) _ _
      (c.sort_by.ensures.stable (λ x y. is_lt (by_text x y)) (ranks_by nat_list_cmp_total text_of) (answers_always _ _ _ (λ f a r g h. search rules))) (search rules)

  moved : IsPermutation (reverse c.args.entries.items) c.sort_by.new.self.items
  moved = of_same (λ xs. IsPermutation xs c.sort_by.new.self.items) _ _ c.sort_by.ensures.permutation (search rules)

  kept : c.dedup_by.new.self.items ≡ dedup same_text c.sort_by.new.self.items
  kept = dedup_same _ same_text _ (λ x y b f' x' y' k. search rules) _ _ c.dedup_by.ensures.filtered

pub invariant_of-result : goal.invariant_of-result
invariant_of-result c = rw (kept c) (Rises-kept _ _ (sorted c) (stable c) (moved c))

pub returns : goal.returns
returns c = record {
  last = λ text. rw (kept c) (kept_first _ _ (sorted c) (stable c) (moved c) text);
  once = rw (kept c) (kept_once _ _ (sorted c) (stable c) (moved c) c.args.entries.items (IsPermutation-reverse c.args.entries.items));
}
