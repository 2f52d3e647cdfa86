use Rattle.std.proofs.Common.{◌∷◌, [], ◌++◌, codes, ap, is_ok}
use Rattle.std.proofs.lemmas.Result.{on_ok_weaker}
use Rattle.serde.specs.Event.{boolean}
use Rattle.phone_records.specs.Empty.{no_metadata}
use Rattle.phone_records.specs.Members.{defaults_written, format_written, given, code_members, kind_members, layout_members, metadata_members, number_written, prefix_members, sequence, text_written}
use Rattle.phone_base.proofs.Outcomes.{of_done}
use Rattle.phone_records.proofs.Written.{given_written, member_written, members-append, members-cons, members-last, names_count, number_grows, object_written, sequence_written, text_grows, truth_grows}
use Rattle.phone_records.proofs.loader.forms.MetadataSerialize.serialize.Goals as goal

pub returns : goal.returns
returns g c =
    let w8 = of_done c.write-done-8.result c.write-done-8.ensures (ap is_ok c.in_ok-done.was) in
    let w7 = of_done c.write-done-7.result c.write-done-7.ensures w8.0 in
    let w6 = of_done c.write-done-6.result c.write-done-6.ensures w7.0 in
    let w5 = of_done c.write-done-5.result c.write-done-5.ensures w6.0 in
    let w4 = of_done c.write-done-4.result c.write-done-4.ensures w5.0 in
    let w3 = of_done c.write-done-3.result c.write-done-3.ensures w4.0 in
    let prefixes = of_done c.write_prefixes-done.result c.write_prefixes-done.ensures w3.0 in
    let w2 = of_done c.write-done-2.result c.write-done-2.ensures prefixes.0 in
    let w1 = of_done c.write-done.result c.write-done.ensures w2.0 in
    let kinds = of_done c.write_kinds-done.result c.write_kinds-done.ensures w1.0 in
    let begun = of_done c.begin_map-done.result c.begin_map-done.ensures kinds.0 in
    on_ok_weaker c.end_map.result
    (object_written (metadata_members c.args.self.now) _ _ _ _ _ (names_count _ _ (metadata_members no_metadata) c.names.ensures) begun
    (members-append (kind_members c.args.self.now) (code_members c.args.self.now ++ (prefix_members c.args.self.now ++ layout_members c.args.self.now)) _ _ _ kinds.1
    (members-append (code_members c.args.self.now) (prefix_members c.args.self.now ++ layout_members c.args.self.now) _ _ _
    (members-cons (codes "id") _ _ _ _ _ (member_written _ (given text_written) (given_written _ text_written text_grows) (codes "id") _ _ _ w1.1)
    (members-last (codes "country_code") _ _ _ (member_written _ (given number_written) (given_written _ number_written number_grows) (codes "country_code") _ _ _ w2.1)))
    (members-append (prefix_members c.args.self.now) (layout_members c.args.self.now) _ _ _ prefixes.1
    (members-cons (codes "formats") _ _ _ _ _ (member_written _ (sequence format_written) (sequence_written _ format_written (λ f old new h. h)) (codes "formats") _ _ _ w3.1)
    (members-cons (codes "international_formats") _ _ _ _ _ (member_written _ (sequence format_written) (sequence_written _ format_written (λ f old new h. h)) (codes "international_formats") _ _ _ w4.1)
    (members-cons (codes "main_country_for_code") _ _ _ _ _ (member_written _ (λ b. boolean b ∷ []) truth_grows (codes "main_country_for_code") _ _ _ w5.1)
    (members-cons (codes "leading_digits") _ _ _ _ _ (member_written _ (given text_written) (given_written _ text_written text_grows) (codes "leading_digits") _ _ _ w6.1)
    (members-cons (codes "mobile_number_portable") _ _ _ _ _ (member_written _ (λ b. boolean b ∷ []) truth_grows (codes "mobile_number_portable") _ _ _ w7.1)
    (members-last (codes "defaults") _ _ _ (member_written _ defaults_written (λ x old new h. h) (codes "defaults") _ _ _ w8.1)))))))))))
    c.end_map.ensures
