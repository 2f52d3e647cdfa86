-- The compact form of each record is read in one way.
use Rattle.std.proofs.Common.{refl}
use Rattle.std.specs.Prelude.{ℕ, List, Bool}
use Rattle.phone_records.specs.declared.loader.Defaults.{Defaults}
use Rattle.phone_records.specs.declared.loader.Descriptor.{Descriptor}
use Rattle.phone_records.specs.declared.loader.Format.{Format}
use Rattle.phone_records.specs.declared.loader.Metadata.{Metadata}
use Rattle.phone_compact.specs.Forms.{IsUnique, number, truth, text}
use Rattle.phone_compact.specs.Records.{Word, DescriptorFields, descriptor_fields, descriptor}
use Rattle.phone_compact.specs.Records.{FormatFields, format_fields, format, defaults}
use Rattle.phone_compact.specs.Records.{FourKinds, Kinds, kinds_of, Prefixes, prefixes_of, Layouts}
use Rattle.phone_compact.specs.Records.{layouts_of, metadata}
use Rattle.phone_compact.specs.Unique.{number_unique, truth_unique, text_unique, UniqueForm}
use Rattle.phone_compact.specs.Unique.{option_of, items_of, ◌before◌, fields_of}

-- a number, with the law that what stands in front of a text is at most one number's form
abbrev number_form : UniqueForm ℕ
number_form = record { form = number; unique = number_unique }

-- numbers in a row, with that law
abbrev numbers : UniqueForm (List ℕ)
numbers = items_of number_form

-- a truth value, with that law
abbrev truths : UniqueForm Bool
truths = record { form = truth; unique = truth_unique }

-- a text, with that law
abbrev texts : UniqueForm (List ℕ)
texts = record { form = text; unique = text_unique }

-- a text or none, with that law
abbrev words : UniqueForm Word
words = option_of texts

-- a descriptor of these fields
abbrev descriptor_of : DescriptorFields → Descriptor
descriptor_of (national_number, (possible_length, (possible_local_length, example))) = record {
  national_number = national_number;
  possible_length = possible_length;
  possible_local_length = possible_local_length;
  example = example;
}

-- a descriptor, its fields in a row, with that law
abbrev descriptors : UniqueForm Descriptor
descriptors = fields_of descriptor_fields (words before numbers before numbers before words)
    descriptor_of (λ d. refl)

-- no bytes begin with the forms of two descriptors
pub descriptor_unique : IsUnique descriptor
descriptor_unique = descriptors.unique

-- a layout of these fields
abbrev format_of : FormatFields → Format
format_of (pattern, (format, (leading_digits, (rule, (optional, carrier))))) = record {
  pattern = pattern;
  format = format;
  leading_digits = leading_digits;
  national_prefix_formatting_rule = rule;
  national_prefix_optional_when_formatting = optional;
  domestic_carrier = carrier;
}

-- a layout, its fields in a row, with that law
abbrev formats : UniqueForm Format
formats = fields_of format_fields
    (words before words before items_of texts before words before truths before words)
    format_of (λ f. refl)

-- no bytes begin with the forms of two layouts
pub format_unique : IsUnique format
format_unique = formats.unique

-- the defaults, their layout and then their descriptor, with that law
abbrev all_defaults : UniqueForm Defaults
all_defaults = fields_of (λ (d : Defaults). (d.format, d.descriptor)) (formats before descriptors)
    (λ (d : Format × Descriptor). record { format = d.0; descriptor = d.1 }) (λ d. refl)

-- nor with those of two territories' defaults
pub defaults_unique : IsUnique defaults
defaults_unique = all_defaults.unique

-- four descriptors, each there or not
abbrev four : UniqueForm FourKinds
four = option_of descriptors before option_of descriptors before option_of descriptors before
    option_of descriptors

-- the sixteen descriptors of a territory
abbrev all_kinds : UniqueForm Kinds
all_kinds = four before four before four before four

-- what a territory is called and dialled by
abbrev all_prefixes : UniqueForm Prefixes
all_prefixes = words before option_of number_form before words before words before words before
    words before words before words

-- how a territory's numbers are laid out
abbrev all_layouts : UniqueForm Layouts
all_layouts = items_of formats before items_of formats before truths before words before truths
    before all_defaults

-- a territory of these parts
abbrev metadata_of : Kinds × (Prefixes × Layouts) → Metadata
metadata_of (k, (p, l)) = record {
  general = k.0.0;
  fixed_line = k.0.1.0;
  mobile = k.0.1.1.0;
  toll_free = k.0.1.1.1;
  premium_rate = k.1.0.0;
  shared_cost = k.1.0.1.0;
  personal_number = k.1.0.1.1.0;
  voip = k.1.0.1.1.1;
  pager = k.1.1.0.0;
  uan = k.1.1.0.1.0;
  emergency = k.1.1.0.1.1.0;
  voicemail = k.1.1.0.1.1.1;
  short_code = k.1.1.1.0;
  standard_rate = k.1.1.1.1.0;
  carrier = k.1.1.1.1.1.0;
  no_international = k.1.1.1.1.1.1;
  id = p.0;
  country_code = p.1.0;
  international_prefix = p.1.1.0;
  preferred_international_prefix = p.1.1.1.0;
  national_prefix = p.1.1.1.1.0;
  preferred_extension_prefix = p.1.1.1.1.1.0;
  national_prefix_for_parsing = p.1.1.1.1.1.1.0;
  national_prefix_transform_rule = p.1.1.1.1.1.1.1;
  formats = l.0;
  international_formats = l.1.0;
  main_country_for_code = l.1.1.0;
  leading_digits = l.1.1.1.0;
  mobile_number_portable = l.1.1.1.1.0;
  defaults = l.1.1.1.1.1;
}

-- nor with those of two territories
pub metadata_unique : IsUnique metadata
metadata_unique =
    (fields_of (λ (m : Metadata). (kinds_of m, (prefixes_of m, layouts_of m)))
    (all_kinds before all_prefixes before all_layouts) metadata_of (λ m. refl)).unique
