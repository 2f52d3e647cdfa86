use Rattle.std.proofs.Common.{◌∷◌, [], codes, refl, ap}
use Rattle.serde.specs.Event.{boolean}
use Rattle.phone_records.specs.Members.{given, sequence, text_written}
use Rattle.phone_records.proofs.Written.{but_for-cons}
use Rattle.phone_records.proofs.loader.forms.LayoutRecord.read_field.Goals as goal

pub returns : goal.returns
returns g c =
    (but_for-cons c.args.name.now (codes "pattern") _ _ _ _ (λ ne. ap (given text_written) (c.read-done.ensures ne))
    (but_for-cons c.args.name.now (codes "format") _ _ _ _ (λ ne. ap (given text_written) (c.read-done-2.ensures ne))
    (but_for-cons c.args.name.now (codes "leading_digits") _ _ _ _ (λ ne. ap (sequence text_written) (c.read-done-3.ensures ne))
    (but_for-cons c.args.name.now (codes "national_prefix_formatting_rule") _ _ _ _ (λ ne. ap (given text_written) (c.read-done-4.ensures ne))
    (but_for-cons c.args.name.now (codes "national_prefix_optional_when_formatting") _ _ _ _ (λ ne. ap (λ b. boolean b ∷ []) (c.read-done-5.ensures ne))
    (but_for-cons c.args.name.now (codes "domestic_carrier") _ _ _ _ (λ ne. ap (given text_written) (c.read-done-6.ensures ne)) refl))))))
