use Rattle.std.proofs.Common.{rules, ◌≡◌, ◌++◌, ◌∙◌, true, ap}
use Rattle.phone_table.specs.Duplicates.{duplicate_names}
use Rattle.phone_table.specs.Headers.{behind}
use Rattle.phone_table.proofs.names.first_names.Goals as goal

pub returns-clause-names : goal.returns-clause-names
returns-clause-names c =
    let told : c.args.tells_duplicates ≡ true = search rules in
    rw told (c.in_ok-push_names.ensures.fields ∙ ap (λ f. f ++ behind c.args.front.now duplicate_names) c.new-names.ensures.fields)
