-- The compact form of the records of a table: each field in the order of its declaration.
use Rattle.std.specs.Prelude.{◌≡◌, ℕ, Bool, List, ◌++◌, Option, codes}
use Rattle.phone_records.specs.declared.loader.Defaults.{Defaults}
use Rattle.phone_records.specs.declared.loader.Descriptor.{Descriptor}
use Rattle.phone_records.specs.declared.loader.Format.{Format}
use Rattle.phone_records.specs.declared.loader.Metadata.{Metadata}
use Rattle.phone_compact.specs.Forms.{Form, number, truth, text, option, items, ◌then◌, seen_as}

-- a text that may be absent
abbrev pub Word : Type 0
Word = Option (List ℕ)

-- as it is written
abbrev pub word : Form Word
word = option text

-- the fields of a descriptor
abbrev pub DescriptorFields : Type 0
DescriptorFields = Word × (List ℕ × (List ℕ × Word))

-- they are its pattern, its two lists of lengths and its example
abbrev pub descriptor_fields : Descriptor → DescriptorFields
descriptor_fields d =
    (d.national_number, (d.possible_length, (d.possible_local_length, d.example)))

-- a descriptor is written as its fields, in this order
abbrev pub descriptor : Form Descriptor
descriptor = seen_as descriptor_fields (word then items number then items number then word)

-- the fields of a layout
abbrev pub FormatFields : Type 0
FormatFields = Word × (Word × (List (List ℕ) × (Word × (Bool × Word))))

-- they are its pattern, its template, its leading digits and its three rules
abbrev pub format_fields : Format → FormatFields
format_fields f = (
  f.pattern,
  (
    f.format,
    (
      f.leading_digits,
      (
        f.national_prefix_formatting_rule,
        (f.national_prefix_optional_when_formatting, f.domestic_carrier),
      ),
    ),
  ),
)

-- a layout is written as its fields, in this order
abbrev pub format : Form Format
format = seen_as format_fields
    (word then word then items text then word then truth then word)

-- the fields of defaults
abbrev pub defaults : Form Defaults
defaults = seen_as (λ d. (d.format, d.descriptor)) (format then descriptor)

-- the descriptor of one kind of number, which may be absent
abbrev pub Kind : Type 0
Kind = Option Descriptor

-- those of four kinds
abbrev pub FourKinds : Type 0
FourKinds = Kind × (Kind × (Kind × Kind))

-- as it is written
abbrev pub kind : Form Kind
kind = option descriptor

-- as they are written, one after the other
abbrev pub four_kinds : Form FourKinds
four_kinds = kind then kind then kind then kind

-- the descriptors of a territory
abbrev pub Kinds : Type 0
Kinds = FourKinds × (FourKinds × (FourKinds × FourKinds))

-- they are the sixteen that a record has, in the order of their declaration
abbrev pub kinds_of : Metadata → Kinds
kinds_of m = (
  (m.general, (m.fixed_line, (m.mobile, m.toll_free))),
  (
    (m.premium_rate, (m.shared_cost, (m.personal_number, m.voip))),
    (
      (m.pager, (m.uan, (m.emergency, m.voicemail))),
      (m.short_code, (m.standard_rate, (m.carrier, m.no_international))),
    ),
  ),
)

-- as they are written
abbrev pub kinds : Form Kinds
kinds = four_kinds then four_kinds then four_kinds then four_kinds

-- the id of a territory, its calling code and its prefixes
abbrev pub Prefixes : Type 0
Prefixes = Word × (Option ℕ × (Word × (Word × (Word × (Word × (Word × Word))))))

-- they are these fields of a record
abbrev pub prefixes_of : Metadata → Prefixes
prefixes_of m = (
  m.id,
  (
    m.country_code,
    (
      m.international_prefix,
      (
        m.preferred_international_prefix,
        (
          m.national_prefix,
          (
            m.preferred_extension_prefix,
            (m.national_prefix_for_parsing, m.national_prefix_transform_rule),
          ),
        ),
      ),
    ),
  ),
)

-- as they are written
abbrev pub prefixes : Form Prefixes
prefixes = word then option number then word then word then word then word then word then word

-- its layouts, and what stands behind them
abbrev pub Layouts : Type 0
Layouts = List Format × (List Format × (Bool × (Word × (Bool × Defaults))))

-- they are these fields of a record
abbrev pub layouts_of : Metadata → Layouts
layouts_of m = (
  m.formats,
  (
    m.international_formats,
    (
      m.main_country_for_code,
      (m.leading_digits, (m.mobile_number_portable, m.defaults)),
    ),
  ),
)

-- as they are written
abbrev pub layouts : Form Layouts
layouts = items format then items format then truth then word then truth then defaults

-- a territory
abbrev pub metadata : Form Metadata
metadata = seen_as (λ m. (kinds_of m, (prefixes_of m, layouts_of m)))
    (kinds then prefixes then layouts)

-- the first line, with the version of the form
abbrev pub first_line : List ℕ
first_line = codes "phone_compact 1\n"

-- bytes that begin with the first line are meant as the compact form
abbrev pub IsCompact : List ℕ → Type 0
IsCompact bytes = (rest : List ℕ) × (bytes ≡ first_line ++ rest)

-- the records of a table: the first line, and the list of the records
abbrev pub written : List Metadata → List ℕ
written records = first_line ++ (items metadata).written records

-- the records that have the form: their texts are UTF-8, and their numbers have 16 bits, which in
-- Rust all have
abbrev pub AreRecords : List Metadata → Type 0
AreRecords records = (items metadata).holds records

-- no records are written as these bytes
abbrev pub IsNotWritten : List ℕ → Type 0
IsNotWritten bytes = (records : List Metadata) → AreRecords records → ¬ (bytes ≡ written records)
