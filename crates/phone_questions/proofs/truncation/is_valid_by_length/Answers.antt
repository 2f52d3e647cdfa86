use Rattle.std.proofs.Common.{◌≡◌, length, rules, sym, ◌∙◌}
use Rattle.phone_values.specs.Numbers.{text_of}
use Rattle.phone_questions.proofs.Lengths.{no_length}
use Rattle.phone_questions.proofs.truncation.is_valid_by_length.Goals as goal

pub returns-else-has_length : goal.returns-else-has_length
returns-else-has_length c =
    let n = c.args.number.now in
    let code : c.value.result ≡ n.code.value = search rules in
    let count : c.count_of.result ≡ length (text_of n.national) = search rules in
    sym (no_length c.args.database.now n _ _ code count (sym c.has_length.ensures ∙ c.if-has_length.false))
