-- The records in which nothing is given.
use Rattle.std.specs.Prelude.{[], None, false}
use Rattle.phone_records.specs.declared.loader.Defaults.{Defaults}
use Rattle.phone_records.specs.declared.loader.Descriptor.{Descriptor}
use Rattle.phone_records.specs.declared.loader.Format.{Format}
use Rattle.phone_records.specs.declared.loader.Metadata.{Metadata}

-- no pattern, no lengths, no example
abbrev pub no_descriptor : Descriptor
no_descriptor = record {
  national_number = None;
  possible_length = [];
  possible_local_length = [];
  example = None;
}

-- no pattern, no template, no rule
abbrev pub no_format : Format
no_format = record {
  pattern = None;
  format = None;
  leading_digits = [];
  national_prefix_formatting_rule = None;
  national_prefix_optional_when_formatting = false;
  domestic_carrier = None;
}

-- defaults that are empty records
abbrev pub no_defaults : Defaults
no_defaults = record { format = no_format; descriptor = no_descriptor }

-- no descriptor, no text, no code, no layout
abbrev pub no_metadata : Metadata
no_metadata = record {
  general = None;
  fixed_line = None;
  mobile = None;
  toll_free = None;
  premium_rate = None;
  shared_cost = None;
  personal_number = None;
  voip = None;
  pager = None;
  uan = None;
  emergency = None;
  voicemail = None;
  short_code = None;
  standard_rate = None;
  carrier = None;
  no_international = None;
  id = None;
  country_code = None;
  international_prefix = None;
  preferred_international_prefix = None;
  national_prefix = None;
  preferred_extension_prefix = None;
  national_prefix_for_parsing = None;
  national_prefix_transform_rule = None;
  formats = [];
  international_formats = [];
  main_country_for_code = false;
  leading_digits = None;
  mobile_number_portable = false;
  defaults = no_defaults;
}
