use Rattle.std.proofs.Common.{◌≡◌, inr, Some, None, Ok, option_map, string_bytes, ap, sym, subst, ◌∙◌}
use Rattle.phone_further.specs.Examples
use Rattle.phone_further.specs.Examples.{AnswersExample, code_example, worldwide_kinds}
use Rattle.phone_further.proofs.examples.example_of_code.Goals as goal

pub returns-in-Some : goal.returns-in-Some
returns-in-Some c =
    let db = c.args.database.now in
    let found : code_example db worldwide_kinds c.args.code ≡ Some c.as_str.result.now =
    sym c.in_ok-text.ensures ∙ ap (option_map string_bytes) c.in-Some.is ∙ ap Some (sym c.as_str.ensures.value) in
    subst (λ o. AnswersExample db None o c.read_example.result) (sym found) c.read_example.ensures

pub returns-in-None : goal.returns-in-None
returns-in-None c =
    let db = c.args.database.now in
    let none : code_example db worldwide_kinds c.args.code ≡ None = sym c.in_ok-text.ensures ∙ ap (option_map string_bytes) c.in-None.is in
    subst (λ o. AnswersExample db None o (Ok None)) (sym none) (inr Examples.none)
