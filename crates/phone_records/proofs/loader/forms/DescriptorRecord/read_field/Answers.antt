use Rattle.std.proofs.Common.{codes, refl, ap}
use Rattle.phone_records.specs.Members.{given, number_written, sequence, text_written}
use Rattle.phone_records.proofs.Written.{but_for-cons}
use Rattle.phone_records.proofs.loader.forms.DescriptorRecord.read_field.Goals as goal

pub returns : goal.returns
returns g c =
    (but_for-cons c.args.name.now (codes "national_number") _ _ _ _ (λ ne. ap (given text_written) (c.read-done.ensures ne))
    (but_for-cons c.args.name.now (codes "possible_length") _ _ _ _ (λ ne. ap (sequence number_written) (c.read-done-2.ensures ne))
    (but_for-cons c.args.name.now (codes "possible_local_length") _ _ _ _ (λ ne. ap (sequence number_written) (c.read-done-3.ensures ne))
    (but_for-cons c.args.name.now (codes "example") _ _ _ _ (λ ne. ap (given text_written) (c.read-done-4.ensures ne)) refl))))
