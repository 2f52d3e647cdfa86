use Rattle.std.proofs.Common.{◌≡◌, ◌++◌, [], drop}
use Rattle.csv.specs.Records.{fields_of, partial_of}
use Rattle.phone_answers.specs.Fields.{texts_of}
use Rattle.phone_table.specs.Headers.{behind}
use Rattle.phone_table.proofs.names.push_names.Given as goal

abbrev pub invariant-texts : goal.invariant-texts
invariant-texts l = record {
  names : fields_of l.names ++ behind l.front (texts_of (drop l.text-index l.texts)) ≡ fields_of l.fn.names ++ behind l.front (texts_of l.texts);
  partial : partial_of l.names ≡ [];
}
