use Rattle.std.proofs.Common.{subst, sym}
use Rattle.std.specs.List.{AllByRecursion}
use Rattle.phone_plans.specs.Lasts.{seen}
use Rattle.phone_further.specs.ShortRecords.{IsWithLast}
use Rattle.phone_further.proofs.InTurn.{all_with_last, first_and_rest}
use Rattle.phone_further.proofs.rows.Rows.of_code.Goals as goal

pub invariant_of-result : goal.invariant_of-result
invariant_of-result c =
    let db = c.args.short.now in
    let all = subst (AllByRecursion (IsWithLast db)) (sym c.of_code_with_lasts-rest.ensures) (all_with_last db _) in
    first_and_rest seen (IsWithLast db) c.of_code_with_lasts-rest.result c.next-next.new.self c.next-next.result all c.next-next.ensures.steps
