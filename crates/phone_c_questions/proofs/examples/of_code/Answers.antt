use Rattle.phone_c_questions.specs.Examples.{code_text}
use Rattle.std.proofs.Common.{None}
use Rattle.phone_c_questions.proofs.OneExamples.{none_told}
use Rattle.phone_c_questions.proofs.examples.of_code.Goals as goal

pub returns-in-Ok-None-clause-no_example : goal.returns-in-Ok-None-clause-no_example
returns-in-Ok-None-clause-no_example c =
    λ _. none_told c.args.database.now None (code_text c.args.database.now c.args.code) c.example_of_code.result c.in-Ok-None.field-0
    c.in-Ok-None.is c.in-Ok-None.field-0-is c.example_of_code.ensures
