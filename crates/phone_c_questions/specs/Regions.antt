-- What a database tells of a region whose id bytes are.
use Rattle.std.specs.Prelude.{◌≡◌, ℕ, ◌==◌, if◌then◌else◌, List, [], None, unwrap_or, map}
use Rattle.std.specs.Prelude.{IsSomeAnd}
use Rattle.phone_values.specs.Ids.{id_of}
use Rattle.phone_values.specs.declared.country.Id.{Id}
use Rattle.phone_records.specs.declared.loader.Metadata.{Metadata}
use Rattle.phone_questions.specs.Kinds.{kinds_of_region}
use Rattle.phone_questions.specs.Regions.{code_of_region, is_nanpa, is_portable, national_prefix}
use Rattle.phone_questions.specs.Regions.{national_prefix_digits}
use Rattle.phone_c_base.specs.Answers.{kind_number}
use Rattle.phone_c_base.specs.ShortNumbers.{flag}
use Rattle.phone_c_questions.specs.declared.regions.RegionFacts.{RegionFacts}

-- what is known of a region that has this calling code
abbrev pub region_facts : List Metadata → Id → (code : ℕ) → RegionFacts
region_facts db region code = record {
  code = code;
  is_nanpa = flag (is_nanpa db region);
  is_portable = flag (is_portable db region);
}

-- the region has a calling code, and this is known of it
abbrev pub AreRegionFacts : List Metadata → (region : List ℕ) → RegionFacts → Type 0
AreRegionFacts db region facts = IsSomeAnd (id_of region)
    (λ id. IsSomeAnd (code_of_region db id) (λ code. facts ≡ region_facts db id code))

-- the bytes are a region's id of which the database has no territory
abbrev pub HasNoTerritory : List Metadata → (region : List ℕ) → Type 0
HasNoTerritory db region = IsSomeAnd (id_of region) (λ id. code_of_region db id ≡ None)

-- its national prefix, as the table has it, or without tildes; nothing where it has none
abbrev pub prefix_of : List Metadata → Id → (only_digits : ℕ) → List ℕ
prefix_of db region only_digits =
    if only_digits == 0 then unwrap_or (national_prefix db region) []
    else unwrap_or (national_prefix_digits db region) []

-- the text is that prefix
abbrev pub IsPrefixOf : List Metadata → (region : List ℕ) → (only_digits : ℕ) → List ℕ → Type 0
IsPrefixOf db region only_digits text =
    IsSomeAnd (id_of region) (λ id. text ≡ prefix_of db id only_digits)

-- the kinds of number that it has, by their numbers
abbrev pub AreKindsOf : List Metadata → (region : List ℕ) → List ℕ → Type 0
AreKindsOf db region kinds =
    IsSomeAnd (id_of region) (λ id. kinds ≡ map kind_number (kinds_of_region db id))
