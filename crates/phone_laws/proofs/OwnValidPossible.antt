-- Valid numbers are possible by the lengths of their own region.
use Rattle.std.proofs.Common.{◌≡◌, true, false, if◌then◌else◌, List, None, Some, length, Option, refl, ap, ◌∙◌}
use Rattle.std.specs.Option.{option_map_or, option_or}
use Rattle.phone_values.specs.Numbers.{text_of}
use Rattle.phone_values.specs.Validations.{is_possible}
use Rattle.phone_values.specs.declared.kind.«Type».TheVariants.{Unknown}
use Rattle.phone_values.specs.declared.reading.Reading.{Reading}
use Rattle.phone_values.specs.declared.validator.Validation.TheVariants.{InvalidCountryCode}
use Rattle.phone_library.specs.Facts.{is_valid_number}
use Rattle.phone_plans.specs.CodeLookUps.{first_of, territories}
use Rattle.phone_records.specs.declared.loader.Descriptor.{Descriptor}
use Rattle.phone_records.specs.declared.loader.Metadata.{Metadata}
use Rattle.phone_territory.specs.Records.{allows_length}
use Rattle.phone_questions.specs.Belonging.{own_territory}
use Rattle.phone_questions.specs.Possible.{verdict_in}
use Rattle.phone_laws.proofs.ValidPossible.{by_general}
use Rattle.phone_further.specs.Possible.{possibility_of, telling_territory}

module _ (db : List Metadata) (n : Reading) (m : Metadata) where
  told : is_valid_number db n ≡ true → own_territory db n ≡ Some m → telling_territory db n ≡ Some m
  told valid own =
      let first = first_of (territories n.code.value db) in
      ap (λ b. option_or (if b then own_territory db n else None) first) valid ∙ ap (λ (o : Option Metadata). option_or o first) own

  pub valid-possible : is_valid_number db n ≡ true → own_territory db n ≡ Some m →
      option_map_or (λ (d : Descriptor). allows_length d (length (text_of n.national))) m.general false ≡ true →
      is_possible (possibility_of db Unknown n) ≡ true
  valid-possible valid own allowed =
      ap (λ (o : Option Metadata). is_possible (option_map_or (verdict_in Unknown (length (text_of n.national))) o InvalidCountryCode)) (told valid own)
      ∙ by_general m (length (text_of n.national)) m.general refl allowed
