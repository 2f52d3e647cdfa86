use Rattle.std.proofs.Common.{codes}
use Rattle.phone_records.specs.Members.{descriptor_written, given}
use Rattle.phone_base.proofs.Outcomes.{of_done, where_done}
use Rattle.phone_records.proofs.Written.{given_written, member_written, members-cons, members-last}
use Rattle.phone_records.proofs.loader.forms.write_kinds.Goals as goal

pub returns : goal.returns
returns g c = where_done c.write-done-16.result (λ ok.
    let w16 = of_done c.write-done-16.result c.write-done-16.ensures ok in
    let w15 = of_done c.write-done-15.result c.write-done-15.ensures w16.0 in
    let w14 = of_done c.write-done-14.result c.write-done-14.ensures w15.0 in
    let w13 = of_done c.write-done-13.result c.write-done-13.ensures w14.0 in
    let w12 = of_done c.write-done-12.result c.write-done-12.ensures w13.0 in
    let w11 = of_done c.write-done-11.result c.write-done-11.ensures w12.0 in
    let w10 = of_done c.write-done-10.result c.write-done-10.ensures w11.0 in
    let w9 = of_done c.write-done-9.result c.write-done-9.ensures w10.0 in
    let w8 = of_done c.write-done-8.result c.write-done-8.ensures w9.0 in
    let w7 = of_done c.write-done-7.result c.write-done-7.ensures w8.0 in
    let w6 = of_done c.write-done-6.result c.write-done-6.ensures w7.0 in
    let w5 = of_done c.write-done-5.result c.write-done-5.ensures w6.0 in
    let w4 = of_done c.write-done-4.result c.write-done-4.ensures w5.0 in
    let w3 = of_done c.write-done-3.result c.write-done-3.ensures w4.0 in
    let w2 = of_done c.write-done-2.result c.write-done-2.ensures w3.0 in
    let w1 = of_done c.write-done.result c.write-done.ensures w2.0 in (
      w1.0,
      members-cons (codes "general") _ _ _ _ _ (member_written _ (given descriptor_written) (given_written _ descriptor_written (λ d old new h. h)) (codes "general") _ _ _ w1.1)
          (members-cons (codes "fixed_line") _ _ _ _ _ (member_written _ (given descriptor_written) (given_written _ descriptor_written (λ d old new h. h)) (codes "fixed_line") _ _ _ w2.1)
          (members-cons (codes "mobile") _ _ _ _ _ (member_written _ (given descriptor_written) (given_written _ descriptor_written (λ d old new h. h)) (codes "mobile") _ _ _ w3.1)
          (members-cons (codes "toll_free") _ _ _ _ _ (member_written _ (given descriptor_written) (given_written _ descriptor_written (λ d old new h. h)) (codes "toll_free") _ _ _ w4.1)
          (members-cons (codes "premium_rate") _ _ _ _ _ (member_written _ (given descriptor_written) (given_written _ descriptor_written (λ d old new h. h)) (codes "premium_rate") _ _ _ w5.1)
          (members-cons (codes "shared_cost") _ _ _ _ _ (member_written _ (given descriptor_written) (given_written _ descriptor_written (λ d old new h. h)) (codes "shared_cost") _ _ _ w6.1)
          (members-cons (codes "personal_number") _ _ _ _ _ (member_written _ (given descriptor_written) (given_written _ descriptor_written (λ d old new h. h)) (codes "personal_number") _ _ _ w7.1)
          (members-cons (codes "voip") _ _ _ _ _ (member_written _ (given descriptor_written) (given_written _ descriptor_written (λ d old new h. h)) (codes "voip") _ _ _ w8.1)
          (members-cons (codes "pager") _ _ _ _ _ (member_written _ (given descriptor_written) (given_written _ descriptor_written (λ d old new h. h)) (codes "pager") _ _ _ w9.1)
          (members-cons (codes "uan") _ _ _ _ _ (member_written _ (given descriptor_written) (given_written _ descriptor_written (λ d old new h. h)) (codes "uan") _ _ _ w10.1)
          (members-cons (codes "emergency") _ _ _ _ _ (member_written _ (given descriptor_written) (given_written _ descriptor_written (λ d old new h. h)) (codes "emergency") _ _ _ w11.1)
          (members-cons (codes "voicemail") _ _ _ _ _ (member_written _ (given descriptor_written) (given_written _ descriptor_written (λ d old new h. h)) (codes "voicemail") _ _ _ w12.1)
          (members-cons (codes "short_code") _ _ _ _ _ (member_written _ (given descriptor_written) (given_written _ descriptor_written (λ d old new h. h)) (codes "short_code") _ _ _ w13.1)
          (members-cons (codes "standard_rate") _ _ _ _ _ (member_written _ (given descriptor_written) (given_written _ descriptor_written (λ d old new h. h)) (codes "standard_rate") _ _ _ w14.1)
          (members-cons (codes "carrier") _ _ _ _ _ (member_written _ (given descriptor_written) (given_written _ descriptor_written (λ d old new h. h)) (codes "carrier") _ _ _ w15.1)
          (members-last (codes "no_international") _ _ _ (member_written _ (given descriptor_written) (given_written _ descriptor_written (λ d old new h. h)) (codes "no_international") _ _ _ w16.1)))))))))))))))),
    ))
