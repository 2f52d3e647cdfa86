-- The values that words are: rules, levels, formats, encodings, counts of lines, bytes between
-- fields.
use Rattle.std.specs.Prelude.{ℕ, ◌&&◌, nat_lt, List, [], ◌∷◌, codes, if◌then◌else◌}
use Rattle.std.specs.Prelude.{Option, Some, None, option_map}
use Rattle.std.specs.Str.{bytes_eq, str_eq_ignore_ascii_case}
use Rattle.phone_csv.specs.Formats.{is_delimiter}
use Rattle.phone_encodings.specs.declared.encoding.Encoding.{Encoding}
use Rattle.phone_encodings.specs.declared.encoding.Encoding.TheVariants as encoding
use Rattle.phone_encodings.specs.declared.encoding.Order.TheVariants.{LowFirst, HighFirst}
use Rattle.phone_values.specs.Numbers.{number_in}
use Rattle.phone_values.specs.declared.rules.Rules.{Rules}
use Rattle.phone_values.specs.declared.rules.Rules.TheVariants as rules
use Rattle.phone_values.specs.declared.mode.Mode.TheVariants.{E164, International, National}
use Rattle.phone_values.specs.declared.mode.Mode.TheVariants.{Rfc3966}
use Rattle.phone_words.specs.declared.values.Form.{Form}
use Rattle.phone_words.specs.declared.values.Form.TheVariants as form
use Rattle.phone_words.specs.declared.values.Level.{Level}
use Rattle.phone_words.specs.declared.values.Level.TheVariants as level

-- the rules of this name
abbrev pub rules_named : List ℕ → Option Rules
rules_named name =
    if bytes_eq name (codes "library") then Some rules.Library else
    if bytes_eq name (codes "crate") then Some rules.Crate else None

-- the level of libphonenumber's matcher of this name
abbrev pub level_named : List ℕ → Option Level
level_named name =
    if bytes_eq name (codes "possible") then Some level.Possible else
    if bytes_eq name (codes "valid") then Some level.Valid else
    if bytes_eq name (codes "strict-grouping") then Some level.StrictGrouping else
    if bytes_eq name (codes "exact-grouping") then Some level.ExactGrouping else None

-- the format of this name
abbrev pub form_named : List ℕ → Option Form
form_named name =
    if bytes_eq name (codes "e164") then Some (form.In E164) else
    if bytes_eq name (codes "international") then Some (form.In International) else
    if bytes_eq name (codes "national") then Some (form.In National) else
    if bytes_eq name (codes "rfc3966") then Some (form.In Rfc3966) else
    if bytes_eq name (codes "original") then Some form.Original else
    if bytes_eq name (codes "mobile") then Some form.Mobile else None

-- the encoding of this name, in capital or small letters, other than UTF-8
abbrev pub other_named : List ℕ → Option Encoding
other_named name =
    if str_eq_ignore_ascii_case name (codes "utf-16") then Some encoding.Utf16 else
    if str_eq_ignore_ascii_case name (codes "utf-16le")
    then Some (encoding.Utf16In LowFirst) else
    if str_eq_ignore_ascii_case name (codes "utf-16be")
    then Some (encoding.Utf16In HighFirst) else
    if str_eq_ignore_ascii_case name (codes "latin-1") then Some encoding.Latin1 else
    if str_eq_ignore_ascii_case name (codes "windows-1252") then Some encoding.Windows1252 else None

-- the encoding that a name names: of UTF-8 none
abbrev pub encoding_named : List ℕ → Option (Option Encoding)
encoding_named name =
    if str_eq_ignore_ascii_case name (codes "utf-8") then Some None else
    option_map Some (other_named name)

-- the one ASCII character of a word, where it may stand between fields
abbrev pub one_delimiter : List ℕ → Option ℕ
one_delimiter [] = None
one_delimiter (c ∷ []) = if nat_lt c 128 && is_delimiter c then Some c else None
one_delimiter (c ∷ d ∷ cs) = None

-- the byte that a word names as one between fields: such a character, or a tab
abbrev pub delimiter_named : List ℕ → Option ℕ
delimiter_named word = if bytes_eq word (codes "tab") then Some 9 else one_delimiter word

-- the count that a word is
abbrev pub count_named : List ℕ → Option ℕ
count_named word = number_in 64 word
