use Rattle.std.proofs.Common.{◌∷◌, [], codes, ap, is_ok}
use Rattle.std.proofs.lemmas.Result.{on_ok_weaker}
use Rattle.serde.specs.Event.{boolean}
use Rattle.phone_records.specs.Empty.{no_format}
use Rattle.phone_records.specs.Members.{format_members, given, sequence, text_written}
use Rattle.phone_base.proofs.Outcomes.{of_done}
use Rattle.phone_records.proofs.Written.{given_written, member_written, members-cons, members-last, names_count, object_written, sequence_written, text_grows, truth_grows}
use Rattle.phone_records.proofs.loader.forms.LayoutSerialize.serialize.Goals as goal

pub returns : goal.returns
returns g c =
    let w6 = of_done c.write-done-6.result c.write-done-6.ensures (ap is_ok c.in_ok-done.was) in
    let w5 = of_done c.write-done-5.result c.write-done-5.ensures w6.0 in
    let w4 = of_done c.write-done-4.result c.write-done-4.ensures w5.0 in
    let w3 = of_done c.write-done-3.result c.write-done-3.ensures w4.0 in
    let w2 = of_done c.write-done-2.result c.write-done-2.ensures w3.0 in
    let w1 = of_done c.write-done.result c.write-done.ensures w2.0 in
    let begun = of_done c.begin_map-done.result c.begin_map-done.ensures w1.0 in
    on_ok_weaker c.end_map.result
    (object_written (format_members c.args.self.now) _ _ _ _ _ (names_count _ _ (format_members no_format) c.names.ensures) begun
    (members-cons (codes "pattern") _ _ _ _ _ (member_written _ (given text_written) (given_written _ text_written text_grows) (codes "pattern") _ _ _ w1.1)
    (members-cons (codes "format") _ _ _ _ _ (member_written _ (given text_written) (given_written _ text_written text_grows) (codes "format") _ _ _ w2.1)
    (members-cons (codes "leading_digits") _ _ _ _ _ (member_written _ (sequence text_written) (sequence_written _ text_written text_grows) (codes "leading_digits") _ _ _ w3.1)
    (members-cons (codes "national_prefix_formatting_rule") _ _ _ _ _ (member_written _ (given text_written) (given_written _ text_written text_grows) (codes "national_prefix_formatting_rule") _ _ _ w4.1)
    (members-cons (codes "national_prefix_optional_when_formatting") _ _ _ _ _ (member_written _ (λ b. boolean b ∷ []) truth_grows (codes "national_prefix_optional_when_formatting") _ _ _ w5.1)
    (members-last (codes "domestic_carrier") _ _ _ (member_written _ (given text_written) (given_written _ text_written text_grows) (codes "domestic_carrier") _ _ _ w6.1))))))))
    c.end_map.ensures
