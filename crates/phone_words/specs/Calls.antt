-- The call that words are.
use Rattle.std.specs.Prelude.{◌≡◌, ℕ, Bool, not, ◌||◌, ◌&&◌, List, [], ◌∷◌, codes, fold}
use Rattle.std.specs.Prelude.{Option, Some, None, is_some, option_and_then, option_map}
use Rattle.std.specs.Prelude.{if◌then◌else◌}
use Rattle.std.specs.Prelude.{Result, Ok, Err}
use Rattle.std.specs.List.{filter_map, find}
use Rattle.std.specs.Option.{option_or}
use Rattle.std.specs.Str.{bytes_eq}
use Rattle.phone_encodings.specs.declared.encoding.Encoding.{Encoding}
use Rattle.phone_values.specs.declared.rules.Rules.{Rules}
use Rattle.phone_values.specs.declared.rules.Rules.TheVariants.{Crate, Library}
use Rattle.phone_words.specs.Parts.{Fault, Said, either, fault, fault_at, operand, option, parts_in}
use Rattle.phone_words.specs.Parts.{and_then}
use Rattle.phone_words.specs.Rows.{Entry, Lent, is_empty, text_in, texts_of}
use Rattle.phone_words.specs.Values.{count_named, delimiter_named, encoding_named, form_named}
use Rattle.phone_words.specs.Values.{level_named, rules_named}
use Rattle.phone_words.specs.declared.call.Call.{Call}
use Rattle.phone_words.specs.declared.command.Command.{Command}
use Rattle.phone_words.specs.declared.command.Command.TheVariants as command
use Rattle.phone_words.specs.declared.parts.Why.{Why}
use Rattle.phone_words.specs.declared.parts.Why.TheVariants as why
use Rattle.phone_words.specs.declared.parts.WordError.{WordError}
use Rattle.phone_words.specs.declared.table.Further.{Further}
use Rattle.phone_words.specs.declared.table.Table.{Table}
use Rattle.phone_words.specs.declared.values.Form.{Form}
use Rattle.phone_words.specs.declared.values.Level.{Level}

-- the value of the option of this name, after one more part
abbrev pub with_part : List ℕ → Option (List ℕ) → Said → Option (List ℕ)
with_part name before (option r v) = if bytes_eq r.name name then Some v else before
with_part name before (operand word) = before

-- the last value that the option of this name has, where it is there
abbrev pub value : List Said → List ℕ → Option (List ℕ)
value ps name = fold (with_part name) None ps

-- the option of this name is there
abbrev pub has : List Said → List ℕ → Bool
has ps name = is_some (value ps name)

-- a text, or the empty one
abbrev pub text_or_none : Option (List ℕ) → List ℕ
text_or_none None = []
text_or_none (Some text) = text

-- the value of the option of this name; empty where it takes none or isn't there
abbrev pub text : List Said → List ℕ → List ℕ
text ps name = text_or_none (value ps name)

-- the option of this name has no value
abbrev pub lacks : List Said → List ℕ → Bool
lacks ps name = is_empty (text ps name)

-- a fault of an option and another
abbrev pub fault_of : Entry → Why → List ℕ → Fault
fault_of r w other = record { why = w; word = r.name; other = other }

-- why an option doesn't go with the others: it excludes one that is there, or it needs one that has
-- no value
abbrev pub misfit_of : List Said → Said → Option Fault
misfit_of ps (operand word) = None
misfit_of ps (option r v) = option_or
    (option_map (fault_of r why.Together) (find (has ps) r.excludes))
    (option_map (fault_of r why.Without) (find (lacks ps) r.needs))

-- the first fault of some parts
abbrev pub first_fault : (Said → Option Fault) → List Said → Option Fault
first_fault f [] = None
first_fault f (p ∷ ps) = option_or (f p) (first_fault f ps)

-- numbers are to be read: neither help, nor the version, nor the regions are asked for
abbrev pub is_run : List Said → Bool
is_run ps = not (has ps (codes "--help") || (has ps (codes "--version") ||
    has ps (codes "--regions")))

-- why options don't go together, where numbers are to be read
abbrev pub misfit : List Said → Option Fault
misfit ps = if is_run ps then first_fault (misfit_of ps) ps else None

-- what is asked for of the numbers in a text
abbrev pub found_command : List Said → Command
found_command ps =
    if has ps (codes "--json") then command.FoundObjects else
    if has ps (codes "--csv") then command.FoundRecords else command.Find

-- the format that is named, where one is
abbrev pub form_in : List Said → Option Form
form_in ps = option_and_then form_named (value ps (codes "--format"))

-- what else is asked for of lines
abbrev pub other_command : List Said → Command
other_command ps =
    if has ps (codes "--typed") then command.Typed else
    if has ps (codes "--short") then command.Short else
    if has ps (codes "--find") then found_command ps else
    if has ps (codes "--json") then command.Objects else
    if has ps (codes "--unique") then command.Unique else
    if has ps (codes "--with-input") then command.ReportWithInput else command.Report

-- what is asked for of lines
abbrev pub line_command : List Said → Command
line_command ps = either command.Written (form_in ps) (other_command ps)

-- what is asked for: help before the version, that before the regions, these before what reads
-- numbers; of that a table, where its column is named, or else lines
abbrev pub command_of : List Said → Command
command_of ps =
    if has ps (codes "--help") then command.Help else
    if has ps (codes "--version") then command.Version else
    if has ps (codes "--regions") then command.Regions else
    if lacks ps (codes "--csv") then line_command ps else command.Table

-- the value that the word of an option names, or another one where the option isn't there; a fault
-- where it names none
abbrev pub named_or : {A : Type 0} → Why → (List ℕ → Option A) → A → Option (List ℕ) →
    Result A Fault
named_or w f other None = Ok other
named_or w f other (Some word) = either Ok (f word) (Err (fault_at w word))

-- the first mode that knows libphonenumber's rules alone, where others are named, is a fault
abbrev pub known : List Said → Rules → Result Rules Fault
known ps Library = Ok Library
known ps Crate = either (λ name. Err (fault_at why.LibraryAlone name))
    (find (has ps) (codes "--typed" ∷ codes "--short" ∷ codes "--leniency" ∷ codes "--format" ∷
    [])) (Ok Crate)

-- by whose rules numbers are read: by libphonenumber's, unless others are named
abbrev pub rules_of : List Said → Result Rules Fault
rules_of ps =
    and_then (named_or why.Rules rules_named Library (value ps (codes "--rules"))) (known ps)

-- how many lines were left out before: none, unless a count is named
abbrev pub skipped_of : List Said → Result ℕ Fault
skipped_of ps = named_or why.Skipped count_named 0 (value ps (codes "--skipped"))

-- the byte between fields, where numbers are to be read: a comma, unless another one is named
abbrev pub delimiter_of : List Said → Result ℕ Fault
delimiter_of ps = named_or why.Delimiter delimiter_named 44
    (if is_run ps then value ps (codes "--delimiter") else None)

-- the encoding of the inputs, where that isn't UTF-8: it is, unless another one is named
abbrev pub encoding_of : List Said → Result (Option Encoding) Fault
encoding_of ps = named_or why.Encoding encoding_named None (value ps (codes "--encoding"))

-- a level is named, though no numbers are to be found in a text
abbrev pub findless : List Said → Option Fault
findless ps =
    if is_run ps && (has ps (codes "--leniency") && not (has ps (codes "--find")))
    then Some record { why = why.Without; word = codes "--leniency"; other = codes "--find" }
    else None

-- no format has a name
abbrev pub unless_form : List ℕ → Option Fault
unless_form name = if is_some (form_named name) then None else Some (fault_at why.Format name)

-- no format has the name that is given
abbrev pub formless : List Said → Option Fault
formless ps = option_and_then unless_form (value ps (codes "--format"))

-- a level or a format is named wrongly
abbrev pub misnamed : List Said → Option Fault
misnamed ps = option_or (findless ps) (formless ps)

-- the level of a name, which may be none
abbrev pub some_level : List ℕ → Option (Option Level)
some_level name = option_map Some (level_named name)

-- the level that is named, where one is
abbrev pub level_in : List Said → Result (Option Level) Fault
level_in ps = named_or why.Leniency some_level None (value ps (codes "--leniency"))

-- the level by which libphonenumber's matcher finds numbers, where one is named; it goes with
-- `--find`. Refused too where a format is named that there isn't
abbrev pub level_of : List Said → Result (Option Level) Fault
level_of ps = either Err (misnamed ps) (level_in ps)

-- the operand that a part is
abbrev pub operand_in : Said → Option (List ℕ)
operand_in (option r v) = None
operand_in (operand word) = Some word

-- the operands among parts
abbrev pub operands_in : List Said → List (List ℕ)
operands_in ps = filter_map operand_in ps

-- what a list of words means: what is asked for, by whose rules, how many lines were left out
-- before, the byte between fields, the encoding of the inputs, the level of libphonenumber's
-- matcher, and the parts: options with their values, region and files
pub record Meaning : Type 0 where
  pub command : Command
  pub rules : Rules
  pub skipped : ℕ
  pub delimiter : ℕ
  pub encoding : Option Encoding
  pub level : Option Level
  pub parts : List Said

-- what parts mean with these rules, this count of lines, this byte, this encoding and this level
abbrev pub with_level : List Said → Rules → ℕ → ℕ → Option Encoding → Option Level →
    Result Meaning Fault
with_level ps rules skipped delimiter encoding level = Ok record {
  command = command_of ps;
  rules = rules;
  skipped = skipped;
  delimiter = delimiter;
  encoding = encoding;
  level = level;
  parts = ps;
}

-- what they mean with these rules, this count, this byte and this encoding
abbrev pub with_encoding : List Said → Rules → ℕ → ℕ → Option Encoding → Result Meaning Fault
with_encoding ps rules skipped delimiter encoding =
    and_then (level_of ps) (with_level ps rules skipped delimiter encoding)

-- what they mean with these rules, this count and this byte
abbrev pub with_byte : List Said → Rules → ℕ → ℕ → Result Meaning Fault
with_byte ps rules skipped delimiter =
    and_then (encoding_of ps) (with_encoding ps rules skipped delimiter)

-- what they mean with these rules and this count
abbrev pub with_count : List Said → Rules → ℕ → Result Meaning Fault
with_count ps rules skipped = and_then (delimiter_of ps) (with_byte ps rules skipped)

-- what they mean with these rules
abbrev pub with_rules : List Said → Rules → Result Meaning Fault
with_rules ps rules = and_then (skipped_of ps) (with_count ps rules)

-- what parts mean, or why they are no call
abbrev pub meaning_in : List Said → Result Meaning Fault
meaning_in ps = either Err (misfit ps) (and_then (rules_of ps) (with_rules ps))

-- what words mean, or why they are no call
abbrev pub meaning : List (List ℕ) → Result Meaning Fault
meaning words = and_then (parts_in words) meaning_in

-- the file of a column, where that is asked for
abbrev pub file_if : List Said → List ℕ → List ℕ → Option (List ℕ)
file_if ps name file = if has ps name then value ps file else None

-- these further columns are asked for
pub record IsFurther (ps : List Said) (f : Further) : Type 0 where
  pub prefixes : text_in f.prefixes ≡ value ps (codes "--prefixes")
  pub name : f.name.now ≡ text ps (codes "--as")
  pub time_zones : text_in f.time_zones ≡ file_if ps (codes "--time-zone") (codes "--time-zones")
  pub carriers : text_in f.carriers ≡ file_if ps (codes "--carrier") (codes "--carriers")
  pub first_carriers : text_in f.first_carriers ≡
      file_if ps (codes "--first-carrier") (codes "--carriers")
  pub areas : text_in f.areas ≡ file_if ps (codes "--area") (codes "--areas")
  pub language : text_in f.language ≡ value ps (codes "--language")
  pub places : text_in f.places ≡ value ps (codes "--places")
  pub extension : f.extension ≡ has ps (codes "--extension")
  pub calling_code : f.calling_code ≡ has ps (codes "--calling-code")
  pub national_number : f.national_number ≡ has ps (codes "--national-number")
  pub possibility : f.possibility ≡ has ps (codes "--possibility")
  pub area_code : f.area_code ≡ has ps (codes "--area-code")
  pub suspicion : f.suspicion ≡ has ps (codes "--suspicion")
  pub split : f.split ≡ has ps (codes "--split")

-- the files by which further columns tell, but for those of a language
abbrev pub further_files : Further → List (Option Lent)
further_files f = f.prefixes ∷ f.time_zones ∷ f.carriers ∷ f.first_carriers ∷ f.areas ∷ []

-- this is asked of a table
pub record IsTable (ps : List Said) (t : Table) : Type 0 where
  pub column : t.column.now ≡ text ps (codes "--csv")
  pub region_column : text_in t.region_column ≡ value ps (codes "--region-column")
  pub countries : text_in t.countries ≡ file_if ps (codes "--region-column") (codes "--countries")
  pub fallback_region : t.fallback_region ≡ has ps (codes "--fallback-region")
  pub is_unique : t.is_unique ≡ has ps (codes "--unique")
  pub duplicates : t.duplicates ≡ has ps (codes "--duplicates")
  pub mark_bad : t.mark_bad ≡ has ps (codes "--mark-bad-records")
  pub front : t.front.now ≡ text ps (codes "--prefix")
  pub summary : text_in t.summary ≡ value ps (codes "--summary")
  pub further : IsFurther ps t.further

-- a call says what this meaning is
pub record Says (m : Meaning) (c : Call) : Type 0 where
  pub command : c.command ≡ m.command
  pub rules : c.rules ≡ m.rules
  pub skipped : c.skipped ≡ m.skipped
  pub delimiter : c.table.delimiter ≡ m.delimiter
  pub encoding : c.encoding ≡ m.encoding
  pub level : c.level ≡ m.level
  pub lenient : c.lenient ≡ has m.parts (codes "--lenient")
  pub table : IsTable m.parts c.table
  pub database : text_in c.database ≡ value m.parts (codes "--database")
  pub short_database : text_in c.short_database ≡ value m.parts (codes "--short-database")
  pub alternates : text_in c.alternates ≡ value m.parts (codes "--alternates")
  pub output : text_in c.output ≡ value m.parts (codes "--output")
  pub operands : texts_of c.operands.items ≡ operands_in m.parts

-- parts are this call
pub record IsCallIn (ps : List Said) (c : Call) : Type 0 where
  pub meant : Meaning
  pub means : meaning_in ps ≡ Ok meant
  pub says : Says meant c

-- words are this call
pub record IsCall (words : List (List ℕ)) (c : Call) : Type 0 where
  pub meant : Meaning
  pub means : meaning words ≡ Ok meant
  pub says : Says meant c

-- words are no call, for this reason
abbrev pub IsNoCall : List (List ℕ) → WordError → Type 0
IsNoCall words e = meaning words ≡ Err (fault e)
