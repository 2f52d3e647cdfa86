use Rattle.std.proofs.Common.{◌≡◌, [], drop}
use Rattle.csv.specs.Records.{fields_of, partial_of}
use Rattle.phone_answers.specs.Spelled.{number_in}
use Rattle.phone_answers.proofs.ExtraLemmas.{Completes}
use Rattle.phone_answers.proofs.extra.push_told.Given as goal

abbrev pub invariant-columns : goal.invariant-columns
invariant-columns l = record {
  told : Completes l.engine.rules l.engine.database.now l.subject.under l.subject.field.now (number_in l.subject.answer.now) l.extra (fields_of l.fn.fields) (drop l.column-index l.extra) (fields_of l.fields);
  partial : partial_of l.fields ≡ [];
}
