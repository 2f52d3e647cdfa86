use Rattle.std.proofs.Common.{codes, ap, is_ok}
use Rattle.std.proofs.lemmas.Result.{on_ok_weaker}
use Rattle.phone_records.specs.Empty.{no_descriptor}
use Rattle.phone_records.specs.Members.{descriptor_members, given, number_written, sequence, text_written}
use Rattle.phone_base.proofs.Outcomes.{of_done}
use Rattle.phone_records.proofs.Written.{given_written, member_written, members-cons, members-last, names_count, number_grows, object_written, sequence_written, text_grows}
use Rattle.phone_records.proofs.loader.forms.DescriptorSerialize.serialize.Goals as goal

pub returns : goal.returns
returns g c =
    let w4 = of_done c.write-done-4.result c.write-done-4.ensures (ap is_ok c.in_ok-done.was) in
    let w3 = of_done c.write-done-3.result c.write-done-3.ensures w4.0 in
    let w2 = of_done c.write-done-2.result c.write-done-2.ensures w3.0 in
    let w1 = of_done c.write-done.result c.write-done.ensures w2.0 in
    let begun = of_done c.begin_map-done.result c.begin_map-done.ensures w1.0 in
    on_ok_weaker c.end_map.result
    (object_written (descriptor_members c.args.self.now) _ _ _ _ _ (names_count _ _ (descriptor_members no_descriptor) c.names.ensures) begun
    (members-cons (codes "national_number") _ _ _ _ _ (member_written _ (given text_written) (given_written _ text_written text_grows) (codes "national_number") _ _ _ w1.1)
    (members-cons (codes "possible_length") _ _ _ _ _ (member_written _ (sequence number_written) (sequence_written _ number_written number_grows) (codes "possible_length") _ _ _ w2.1)
    (members-cons (codes "possible_local_length") _ _ _ _ _ (member_written _ (sequence number_written) (sequence_written _ number_written number_grows) (codes "possible_local_length") _ _ _ w3.1)
    (members-last (codes "example") _ _ _ (member_written _ (given text_written) (given_written _ text_written text_grows) (codes "example") _ _ _ w4.1))))))
    c.end_map.ensures
