use Rattle.std.proofs.Common.{◌≡◌, filter, map, rules, ap₂, ◌∙◌, ap}
use Rattle.std.specs.Option.{option_copied}
use Rattle.phone_values.specs.Numbers.{text_of}
use Rattle.phone_plans.specs.CodeLookUps.{territories}
use Rattle.phone_read.proofs.Results.{ok_again}
use Rattle.phone_further.specs.ShortNumbers.{dearest_of}
use Rattle.phone_further.specs.ShortRecords.{cost_by, short_records}
use Rattle.phone_further.proofs.Plain.{plain}
use Rattle.phone_further.specs.Costs.{known_by}
use Rattle.phone_further.proofs.KnownCosts.{known_same}
use Rattle.phone_further.proofs.costs.cost_of_digits.Goals as goal

pub returns : goal.returns
returns c =
    let n = c.args.number.now in
    let digits : c.of.result ≡ text_of n.national = c.of.ensures ∙ c.requires in
    let rows : map option_copied c.as_slice.result.now ≡ short_records c.args.database.now c.args.short.now n = search rules in
    ok_again c.dearest_known.result _ _
    (λ told e. e ∙ ap₂ (λ ds rs. dearest_of (map (cost_by ds) (filter (known_by ds) rs))) digits rows
    ∙ ap dearest_of (known_same c.args.short.now (text_of n.national) (plain n.national) (territories n.code.value c.args.database.now)))
    c.dearest_known.ensures
