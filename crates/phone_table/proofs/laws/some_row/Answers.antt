use Rattle.csv.specs.Records.{fields_of}
use Rattle.phone_table.specs.Answers.{short_of}
use Rattle.phone_table.proofs.SomeRows.{answer_some}
use Rattle.phone_table.proofs.laws.some_row.Goals as goal

pub returns : goal.returns
returns c rules db hint others =
    let asked = c.args.asked in
    answer_some rules db hint c.args.columns asked others
    (fields_of c.args.fields.now) _ c.region_text-text.ensures
    (λ own. rw c.field_in.ensures at (c.some_answer.ensures rules db (short_of asked) own))
