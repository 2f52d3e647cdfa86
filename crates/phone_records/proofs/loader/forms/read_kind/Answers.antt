use Rattle.std.proofs.Common.{codes, refl, ap}
use Rattle.phone_records.specs.Members.{descriptor_written, given}
use Rattle.phone_records.proofs.Written.{but_for-cons}
use Rattle.phone_records.proofs.loader.forms.read_kind.Goals as goal

pub returns : goal.returns
returns g c =
    (but_for-cons c.args.name.now (codes "general") _ _ _ _ (λ ne. ap (given descriptor_written) (c.read-done.ensures ne))
    (but_for-cons c.args.name.now (codes "fixed_line") _ _ _ _ (λ ne. ap (given descriptor_written) (c.read-done-2.ensures ne))
    (but_for-cons c.args.name.now (codes "mobile") _ _ _ _ (λ ne. ap (given descriptor_written) (c.read-done-3.ensures ne))
    (but_for-cons c.args.name.now (codes "toll_free") _ _ _ _ (λ ne. ap (given descriptor_written) (c.read-done-4.ensures ne))
    (but_for-cons c.args.name.now (codes "premium_rate") _ _ _ _ (λ ne. ap (given descriptor_written) (c.read-done-5.ensures ne))
    (but_for-cons c.args.name.now (codes "shared_cost") _ _ _ _ (λ ne. ap (given descriptor_written) (c.read-done-6.ensures ne))
    (but_for-cons c.args.name.now (codes "personal_number") _ _ _ _ (λ ne. ap (given descriptor_written) (c.read-done-7.ensures ne))
    (but_for-cons c.args.name.now (codes "voip") _ _ _ _ (λ ne. ap (given descriptor_written) (c.read-done-8.ensures ne))
    (but_for-cons c.args.name.now (codes "pager") _ _ _ _ (λ ne. ap (given descriptor_written) (c.read-done-9.ensures ne))
    (but_for-cons c.args.name.now (codes "uan") _ _ _ _ (λ ne. ap (given descriptor_written) (c.read-done-10.ensures ne))
    (but_for-cons c.args.name.now (codes "emergency") _ _ _ _ (λ ne. ap (given descriptor_written) (c.read-done-11.ensures ne))
    (but_for-cons c.args.name.now (codes "voicemail") _ _ _ _ (λ ne. ap (given descriptor_written) (c.read-done-12.ensures ne))
    (but_for-cons c.args.name.now (codes "short_code") _ _ _ _ (λ ne. ap (given descriptor_written) (c.read-done-13.ensures ne))
    (but_for-cons c.args.name.now (codes "standard_rate") _ _ _ _ (λ ne. ap (given descriptor_written) (c.read-done-14.ensures ne))
    (but_for-cons c.args.name.now (codes "carrier") _ _ _ _ (λ ne. ap (given descriptor_written) (c.read-done-15.ensures ne))
    (but_for-cons c.args.name.now (codes "no_international") _ _ _ _ (λ ne. ap (given descriptor_written) (c.read-done-16.ensures ne))
    (but_for-cons c.args.name.now (codes "id") _ _ _ _ (λ ne. refl)
    (but_for-cons c.args.name.now (codes "country_code") _ _ _ _ (λ ne. refl)
    (but_for-cons c.args.name.now (codes "international_prefix") _ _ _ _ (λ ne. refl)
    (but_for-cons c.args.name.now (codes "preferred_international_prefix") _ _ _ _ (λ ne. refl)
    (but_for-cons c.args.name.now (codes "national_prefix") _ _ _ _ (λ ne. refl)
    (but_for-cons c.args.name.now (codes "preferred_extension_prefix") _ _ _ _ (λ ne. refl)
    (but_for-cons c.args.name.now (codes "national_prefix_for_parsing") _ _ _ _ (λ ne. refl)
    (but_for-cons c.args.name.now (codes "national_prefix_transform_rule") _ _ _ _ (λ ne. refl)
    (but_for-cons c.args.name.now (codes "formats") _ _ _ _ (λ ne. refl)
    (but_for-cons c.args.name.now (codes "international_formats") _ _ _ _ (λ ne. refl)
    (but_for-cons c.args.name.now (codes "main_country_for_code") _ _ _ _ (λ ne. refl)
    (but_for-cons c.args.name.now (codes "leading_digits") _ _ _ _ (λ ne. refl)
    (but_for-cons c.args.name.now (codes "mobile_number_portable") _ _ _ _ (λ ne. refl)
    (but_for-cons c.args.name.now (codes "defaults") _ _ _ _ (λ ne. refl) refl))))))))))))))))))))))))))))))
