use Rattle.std.proofs.Common.{codes, refl, ap}
use Rattle.phone_records.specs.Members.{descriptor_written, format_written}
use Rattle.phone_records.proofs.Written.{but_for-cons}
use Rattle.phone_records.proofs.loader.forms.DefaultsRecord.read_field.Goals as goal

pub returns : goal.returns
returns g c =
    (but_for-cons c.args.name.now (codes "format") _ _ _ _ (λ ne. ap (format_written) (c.read-done.ensures ne))
    (but_for-cons c.args.name.now (codes "descriptor") _ _ _ _ (λ ne. ap (descriptor_written) (c.read-done-2.ensures ne)) refl))
