use Rattle.std.proofs.Common.{◌≡◌, string_bytes, Some}
use Rattle.serde_json.specs.Read.{read}
use Rattle.serde_json.specs.Written.{compact_text}
use Rattle.phone_table.specs.Objects.{summary_object}
use Rattle.phone_table.proofs.Plain.{no_float, ok_given, shallow}
use Rattle.phone_table.proofs.summary.Summary.to_json.Goals as goal

pub returns-clause-text : goal.returns-clause-text
returns-clause-text c =
    ok_given c.to_string.result _ (λ s. string_bytes s ≡ compact_text (summary_object c.args.self.now))
    (no_float c.args.self.now) (rw c.in_ok-object.ensures at c.to_string.ensures.text)

pub returns-clause-read : goal.returns-clause-read
returns-clause-read c =
    ok_given c.to_string.result _ (λ s. read (string_bytes s) ≡ Some (summary_object c.args.self.now))
    (shallow c.args.self.now) (rw c.in_ok-object.ensures at c.to_string.ensures.reads_back)
