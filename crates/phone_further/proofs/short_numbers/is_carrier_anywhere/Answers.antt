use Rattle.std.proofs.Common.{◌≡◌, map, rules, ap₂, ◌∙◌}
use Rattle.std.specs.Option.{option_copied}
use Rattle.phone_values.specs.Numbers.{text_of}
use Rattle.phone_plans.specs.CodeLookUps.{territories}
use Rattle.phone_read.proofs.Results.{ok_again}
use Rattle.phone_further.specs.ShortRecords.{chosen_by, is_carrier_by, short_records}
use Rattle.phone_further.proofs.Among.{carrier_same}
use Rattle.phone_further.proofs.Plain.{plain}
use Rattle.phone_further.proofs.short_numbers.is_carrier_anywhere.Goals as goal

pub returns : goal.returns
returns c =
    let n = c.args.number.now in
    let digits : c.of.result ≡ text_of n.national = search rules in
    let rows : map option_copied c.as_slice.result.now ≡ short_records c.args.database.now c.args.short.now n = search rules in
    ok_again c.is_carrier_among.result _ _
    (λ told e. e ∙ ap₂ (λ ds rs. is_carrier_by ds (chosen_by ds rs)) digits rows ∙ carrier_same c.args.short.now (text_of n.national) (plain n.national) (territories n.code.value c.args.database.now))
    c.is_carrier_among.ensures
