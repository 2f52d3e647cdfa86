-- The records that a database text is.
use Rattle.std.specs.Prelude.{ℕ, List, map, Option, Result, Ok, Err, codes, option_map}
use Rattle.std.specs.Option.{option_map_or}
use Rattle.serde_json.specs.Data.{Data}
use Rattle.serde_json.specs.Read.{read}
use Rattle.phone_records.specs.Empty.{no_descriptor, no_format, no_defaults, no_metadata}
use Rattle.phone_records.specs.declared.loader.Defaults.{Defaults}
use Rattle.phone_records.specs.declared.loader.Descriptor.{Descriptor}
use Rattle.phone_records.specs.declared.loader.Format.{Format}
use Rattle.phone_records.specs.declared.loader.Metadata.{Metadata}
use Rattle.phone_json.specs.Faults.{Refusal, no_json, database_fault}
use Rattle.phone_json.specs.Fields.{field, text_at, number_at, truth_at, items_at, texts_at}
use Rattle.phone_json.specs.Fields.{numbers_at, items_in}

-- the descriptor that an object is
unfoldable pub descriptor_of : Data → Descriptor
descriptor_of d = record {
  national_number = text_at (codes "national_number") d;
  possible_length = numbers_at (codes "possible_length") d;
  possible_local_length = numbers_at (codes "possible_local_length") d;
  example = text_at (codes "example") d;
}

-- the descriptor at a key
abbrev pub descriptor_at : List ℕ → Data → Option Descriptor
descriptor_at key d = option_map descriptor_of (field key d)

-- the layout that an object is
unfoldable pub format_of : Data → Format
format_of d = record {
  pattern = text_at (codes "pattern") d;
  format = text_at (codes "format") d;
  leading_digits = texts_at (codes "leading_digits") d;
  national_prefix_formatting_rule = text_at (codes "national_prefix_formatting_rule") d;
  national_prefix_optional_when_formatting = truth_at
      (codes "national_prefix_optional_when_formatting") d;
  domestic_carrier = text_at (codes "domestic_carrier") d;
}

-- the layouts at a key
abbrev pub formats_at : List ℕ → Data → List Format
formats_at key d = map format_of (items_at key d)

-- the defaults that an object is: a record that isn't there is as one in which nothing is given
unfoldable pub defaults_of : Data → Defaults
defaults_of d = record {
  format = option_map_or format_of (field (codes "format") d) no_format;
  descriptor = option_map_or descriptor_of (field (codes "descriptor") d) no_descriptor;
}

-- a territory with the first eight descriptors that an object gives
unfoldable pub with_first_kinds : Data → Metadata → Metadata
with_first_kinds d m = record m {
  general = descriptor_at (codes "general") d;
  fixed_line = descriptor_at (codes "fixed_line") d;
  mobile = descriptor_at (codes "mobile") d;
  toll_free = descriptor_at (codes "toll_free") d;
  premium_rate = descriptor_at (codes "premium_rate") d;
  shared_cost = descriptor_at (codes "shared_cost") d;
  personal_number = descriptor_at (codes "personal_number") d;
  voip = descriptor_at (codes "voip") d;
}

-- a territory with the last eight descriptors that an object gives
unfoldable pub with_last_kinds : Data → Metadata → Metadata
with_last_kinds d m = record m {
  pager = descriptor_at (codes "pager") d;
  uan = descriptor_at (codes "uan") d;
  emergency = descriptor_at (codes "emergency") d;
  voicemail = descriptor_at (codes "voicemail") d;
  short_code = descriptor_at (codes "short_code") d;
  standard_rate = descriptor_at (codes "standard_rate") d;
  carrier = descriptor_at (codes "carrier") d;
  no_international = descriptor_at (codes "no_international") d;
}

-- a territory with the prefixes that an object gives
unfoldable pub with_prefixes : Data → Metadata → Metadata
with_prefixes d m = record m {
  international_prefix = text_at (codes "international_prefix") d;
  preferred_international_prefix = text_at (codes "preferred_international_prefix") d;
  national_prefix = text_at (codes "national_prefix") d;
  preferred_extension_prefix = text_at (codes "preferred_extension_prefix") d;
  national_prefix_for_parsing = text_at (codes "national_prefix_for_parsing") d;
  national_prefix_transform_rule = text_at (codes "national_prefix_transform_rule") d;
}

-- a territory with the other fields that an object gives
unfoldable pub with_others : Data → Metadata → Metadata
with_others d m = record m {
  id = text_at (codes "id") d;
  country_code = number_at (codes "country_code") d;
  formats = formats_at (codes "formats") d;
  international_formats = formats_at (codes "international_formats") d;
  main_country_for_code = truth_at (codes "main_country_for_code") d;
  leading_digits = text_at (codes "leading_digits") d;
  mobile_number_portable = truth_at (codes "mobile_number_portable") d;
  defaults = option_map_or defaults_of (field (codes "defaults") d) no_defaults;
}

-- the territory that an object is
unfoldable pub metadata_of : Data → Metadata
metadata_of d = with_others d (with_prefixes d (with_last_kinds d (with_first_kinds d no_metadata)))

-- the territories that a list of objects is, unless one of them has a fault
abbrev pub records_in : Data → Result (List Metadata) Refusal
records_in d = option_map_or Err (database_fault d) (Ok (map metadata_of (items_in d)))

-- the territories that a text is, unless it is no JSON or has a fault
abbrev pub records_of : List ℕ → Result (List Metadata) Refusal
records_of text = option_map_or records_in (read text) (Err no_json)
