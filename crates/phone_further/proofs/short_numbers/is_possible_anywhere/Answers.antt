use Rattle.std.proofs.Common.{◌≡◌, map, rules, ap₂, ◌∙◌}
use Rattle.std.specs.List.{list_any}
use Rattle.std.specs.Option.{option_copied}
use Rattle.phone_values.specs.Numbers.{text_of}
use Rattle.phone_plans.specs.CodeLookUps.{territories}
use Rattle.phone_further.specs.ShortRecords.{is_possible_by, short_records}
use Rattle.phone_further.proofs.Among.{any_possible}
use Rattle.phone_further.proofs.Plain.{plain}
use Rattle.phone_further.proofs.short_numbers.is_possible_anywhere.Goals as goal

pub returns : goal.returns
returns c =
    let n = c.args.number.now in
    let digits : c.as_str.result.now ≡ text_of n.national = search rules in
    let rows : map option_copied c.as_slice.result.now ≡ short_records c.args.database.now c.args.short.now n = search rules in
    c.is_possible_among.ensures
    ∙ ap₂ (λ ds rs. list_any (is_possible_by ds) rs) digits rows
    ∙ any_possible c.args.short.now (text_of n.national) (plain n.national) (territories n.code.value c.args.database.now)
