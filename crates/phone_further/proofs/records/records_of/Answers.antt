use Rattle.std.proofs.Common.{ap, map, ◌∙◌}
use Rattle.std.specs.Option.{option_copied}
use Rattle.phone_further.specs.ShortNumbers.{short_record}
use Rattle.phone_further.proofs.InTurn.{around, none_around}
use Rattle.phone_further.proofs.records.records_of.Goals as goal

pub loop-m-init : goal.loop-m-init
loop-m-init c =
    let its = short_record c.args.short.now in
    let all = c.into_iter-m-iterator.result in (
      c.of_code-rows.ensures,
      ap (λ rows. around its (map option_copied rows) all) c.in_ok-records.ensures.items
          ∙ none_around its c.args.code c.args.database.now all (c.into_iter-m-iterator.ensures.into_iter_gives ∙ c.of_code-m-items.ensures),
    )
