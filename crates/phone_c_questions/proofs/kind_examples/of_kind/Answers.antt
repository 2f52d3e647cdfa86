use Rattle.std.proofs.Common.{rules}
use Rattle.phone_c_questions.proofs.KindExamples.{none_so, refused_so, some_so}
use Rattle.phone_c_questions.proofs.kind_examples.of_kind.Goals as goal

pub returns-in-Ok-Some-clause-read : goal.returns-in-Ok-Some-clause-read
returns-in-Ok-Some-clause-read c = λ ok. record {
  number = c.in-Ok-Some.read;
  is_so = some_so c.args.database.now c.args.kind c.in-Some.kind c.example_of_kind.result (search rules) c.in-Ok-Some.field-0 c.in-Ok-Some.read
      c.in-Ok-Some.is c.in-Ok-Some.field-0-is c.example_of_kind.ensures;
  plain = c.write_number.ensures.number ok;
  texts = c.write_number.ensures.written ok;
}

pub returns-in-Ok-Some-clause-too_small : goal.returns-in-Ok-Some-clause-too_small
returns-in-Ok-Some-clause-too_small c = λ small. record {
  number = c.in-Ok-Some.read;
  is_so = some_so c.args.database.now c.args.kind c.in-Some.kind c.example_of_kind.result (search rules) c.in-Ok-Some.field-0 c.in-Ok-Some.read
      c.in-Ok-Some.is c.in-Ok-Some.field-0-is c.example_of_kind.ensures;
  texts = c.write_number.ensures.too_long small;
}

pub returns-in-Ok-None-clause-no_example : goal.returns-in-Ok-None-clause-no_example
returns-in-Ok-None-clause-no_example c =
    λ _. none_so c.args.database.now c.args.kind c.in-Some.kind c.example_of_kind.result (search rules) c.in-Ok-None.field-0 c.in-Ok-None.is
    c.in-Ok-None.field-0-is c.example_of_kind.ensures

pub returns-in-Err-clause-refused : goal.returns-in-Err-clause-refused
returns-in-Err-clause-refused c =
    λ _ _ _ _. refused_so c.args.database.now c.args.kind c.in-Some.kind c.example_of_kind.result (search rules) c.in-Err.error _ c.in-Err.is
    (search rules) c.example_of_kind.ensures
