use Rattle.std.proofs.Common.{◌≡◌, ◌++◌, [], drop}
use Rattle.csv.specs.Records.{fields_of, partial_of}
use Rattle.phone_answers.specs.Fields.{texts_of}
use Rattle.phone_answers.proofs.finds.push_texts.Given as goal

abbrev pub invariant-texts : goal.invariant-texts
invariant-texts l = record {
  texts : fields_of l.fields ++ texts_of (drop l.text-index l.texts) ≡ fields_of l.fn.fields ++ texts_of l.fn.texts;
  partial : partial_of l.fields ≡ [];
}
