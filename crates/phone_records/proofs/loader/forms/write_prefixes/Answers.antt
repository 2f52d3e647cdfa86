use Rattle.std.proofs.Common.{codes}
use Rattle.phone_records.specs.Members.{given, text_written}
use Rattle.phone_base.proofs.Outcomes.{of_done, where_done}
use Rattle.phone_records.proofs.Written.{given_written, member_written, members-cons, members-last, text_grows}
use Rattle.phone_records.proofs.loader.forms.write_prefixes.Goals as goal

pub returns : goal.returns
returns g c = where_done c.write-done-6.result (λ ok.
    let w6 = of_done c.write-done-6.result c.write-done-6.ensures ok in
    let w5 = of_done c.write-done-5.result c.write-done-5.ensures w6.0 in
    let w4 = of_done c.write-done-4.result c.write-done-4.ensures w5.0 in
    let w3 = of_done c.write-done-3.result c.write-done-3.ensures w4.0 in
    let w2 = of_done c.write-done-2.result c.write-done-2.ensures w3.0 in
    let w1 = of_done c.write-done.result c.write-done.ensures w2.0 in (
      w1.0,
      members-cons (codes "international_prefix") _ _ _ _ _ (member_written _ (given text_written) (given_written _ text_written text_grows) (codes "international_prefix") _ _ _ w1.1)
          (members-cons (codes "preferred_international_prefix") _ _ _ _ _ (member_written _ (given text_written) (given_written _ text_written text_grows) (codes "preferred_international_prefix") _ _ _ w2.1)
          (members-cons (codes "national_prefix") _ _ _ _ _ (member_written _ (given text_written) (given_written _ text_written text_grows) (codes "national_prefix") _ _ _ w3.1)
          (members-cons (codes "preferred_extension_prefix") _ _ _ _ _ (member_written _ (given text_written) (given_written _ text_written text_grows) (codes "preferred_extension_prefix") _ _ _ w4.1)
          (members-cons (codes "national_prefix_for_parsing") _ _ _ _ _ (member_written _ (given text_written) (given_written _ text_written text_grows) (codes "national_prefix_for_parsing") _ _ _ w5.1)
          (members-last (codes "national_prefix_transform_rule") _ _ _ (member_written _ (given text_written) (given_written _ text_written text_grows) (codes "national_prefix_transform_rule") _ _ _ w6.1)))))),
    ))
