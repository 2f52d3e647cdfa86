use Rattle.std.proofs.Common.{◌≡◌, ℕ, List, ap, sym, ◌∙◌}
use Rattle.std.specs.Option.{option_copied}
use Rattle.phone_read.proofs.Results.{ok_again}
use Rattle.phone_further.specs.ShortRecords.{is_possible_by}
use Rattle.phone_further.proofs.KnownCosts.{invalid_so, valid_so}
use Rattle.phone_further.proofs.costs.is_valid_by.Goals as goal

pub returns-then-not-is_possible_by : goal.returns-then-not-is_possible_by
returns-then-not-is_possible_by c =
    let row = option_copied c.args.row in
    let told = c.is_possible_by.ensures ∙ ap (λ (t : List ℕ). is_possible_by t row) c.as_str.ensures in
    sym (invalid_so c.args.digits.now row (sym told ∙ c.if-not-is_possible_by.true))

pub returns : goal.returns
returns c =
    let row = option_copied c.args.row in
    let told = c.is_possible_by.ensures ∙ ap (λ (t : List ℕ). is_possible_by t row) c.as_str.ensures in
    ok_again c.is_number_by.result _ _ (λ b e. e ∙ sym (valid_so c.args.digits.now row (sym told ∙ c.if-not-is_possible_by.false)))
    c.is_number_by.ensures
