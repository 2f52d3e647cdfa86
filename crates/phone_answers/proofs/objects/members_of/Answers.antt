use Rattle.std.proofs.Common.{Option, ap, codes, subst}
use Rattle.serde_json.specs.Data.{Members, no_members, number, put, unsigned}
use Rattle.serde_json.specs.View.{members_view}
use Rattle.phone_csv.specs.Formats.{Record}
use Rattle.phone_values.specs.declared.reading.Reading.{Reading}
use Rattle.phone_answers.specs.Fields.{fields}
use Rattle.phone_answers.specs.Objects.{AreMade, with_fields, with_parts}
use Rattle.phone_answers.specs.Spelled.{spelled}
use Rattle.phone_answers.proofs.objects.members_of.Goals as goal

pub returns : goal.returns
returns c t h =
    let ms : Members = put (codes "text") t (put (codes "line") (number (unsigned c.args.place)) no_members) in
    let made = c.with_fields-members.ensures ms
    (c.with_value-members.ensures _ t (c.with_number-members.ensures no_members (ap members_view c.new.ensures.empty)) h) in
    let told = subst (λ (a : Record). AreMade c.with_fields-members.result (with_fields fields a ms)) c.cells_of.ensures made in
    subst (λ (n : Option Reading). AreMade c.with_parts.result (with_parts c.args.engine.rules c.args.engine.database.now n (with_fields fields (spelled c.args.answer.now) ms)))
    c.number_of.ensures (c.with_parts.ensures _ told)
