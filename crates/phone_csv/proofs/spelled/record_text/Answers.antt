use Rattle.std.proofs.Common.{rules, ◌≡◌, []}
use Rattle.csv.specs.Records.{fields_of}
use Rattle.phone_csv.proofs.SpelledLemmas.{record_whole}
use Rattle.phone_csv.proofs.spelled.record_text.Goals as goal

pub returns : goal.returns
returns c =
    let e : c.in_ok-text.text.items ≡ [] = search rules in
    record_whole c.args.format _ _ _ (fields_of c.args.fields.now) (rw e at c.in_ok-push_fields.ensures) c.in_ok-push_blank.ensures c.in_ok-push_end.ensures
