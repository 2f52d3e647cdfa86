-- That a number has the national prefix that its territory writes before such numbers: as
-- libphonenumber asks it of a valid number in a text that is told by neither a plus sign, nor an
-- international prefix, nor a calling code.
use Rattle.std.specs.Prelude.{ℕ, ◌==◌, ◌&&◌, ◌||◌, not, Bool, true, false, List, [], ◌∷◌, length}
use Rattle.std.specs.Prelude.{codes, Option, None}
use Rattle.std.specs.List.{find, list_any}
use Rattle.std.specs.Option.{option_map_or}
use Rattle.std.specs.Str.{bytes_eq}
use Rattle.phone_library.specs.Kinds.{matches_whole}
use Rattle.phone_library.specs.Stripping.{left_by_prefix}
use Rattle.phone_parts.specs.Texts.{is_front}
use Rattle.phone_plans.specs.CodeLookUps.{first_of, territories}
use Rattle.phone_questions.specs.Letters.{digits_only}
use Rattle.phone_records.specs.declared.loader.Format.{Format}
use Rattle.phone_records.specs.declared.loader.Metadata.{Metadata}
use Rattle.phone_territory.specs.First.{at_start, is_whole_match}
use Rattle.phone_territory.specs.Layouts.{layout_pattern}
use Rattle.phone_territory.specs.Records.{is_led}
use Rattle.phone_values.specs.Numbers.{text_of}
use Rattle.phone_values.specs.declared.country.Source.{Source}
use Rattle.phone_values.specs.declared.country.Source.TheVariants.{Default}
use Rattle.phone_values.specs.declared.reading.Reading.{Reading}

-- a layout is that of digits: its last leading pattern matches at their front, or it has none, and
-- its pattern matches them as a whole
abbrev pub fits : List ℕ → Format → Bool
fits digits f = is_led digits f && is_whole_match (layout_pattern f) digits

-- the rules that write the first group alone, perhaps in round brackets
abbrev pub bare_rules : List (List ℕ)
bare_rules = codes "$FG" ∷ codes "($FG" ∷ codes "$FG)" ∷ codes "($FG)" ∷ []

-- a rule is one of these
abbrev pub is_bare : List ℕ → Bool
is_bare rule = list_any (bytes_eq rule) bare_rules

-- a rule writes more
abbrev pub is_prefixing : List ℕ → Bool
is_prefixing rule = not (length rule == 0) && not (is_bare rule)

-- a layout writes a national prefix, which may not be left out
abbrev pub writes_prefix : Format → Bool
writes_prefix f = not f.national_prefix_optional_when_formatting &&
    option_map_or is_prefixing f.national_prefix_formatting_rule false

-- a territory's layout of digits does
abbrev pub wants_prefix : Metadata → List ℕ → Bool
wants_prefix m digits = option_map_or writes_prefix (find (fits digits) m.formats) false

-- a territory's parsing pattern matches at the front of digits; where it has none, they begin with
-- its national prefix
abbrev pub begins_prefixed : Metadata → List ℕ → Bool
begins_prefixed m digits = option_map_or (λ pattern. at_start pattern digits)
    m.national_prefix_for_parsing
    (option_map_or (λ prefix. is_front prefix digits) m.national_prefix false)

-- the general pattern matches digits as they are, and would no longer once the prefix is cut off
abbrev pub is_kept : Metadata → List ℕ → Bool
is_kept m digits = matches_whole m.general digits &&
    not (matches_whole m.general (left_by_prefix m digits).national)

-- digits have the national prefix, if only an empty one
abbrev pub is_prefixed : Metadata → List ℕ → Bool
is_prefixed m digits = begins_prefixed m digits && not (is_kept m digits)

-- the territory that is asked where the code is the hint's own
abbrev pub asked : Source → Option Metadata → Option Metadata
asked Default m = m
asked source m = None

-- a number that is read from a text has the prefix where its main territory writes one: all digits
-- of the text count, its extension's too
abbrev pub has_prefix : List Metadata → Reading → List ℕ → Bool
has_prefix db n t = option_map_or
    (λ m. not (wants_prefix m (text_of n.national)) || is_prefixed m (digits_only t))
    (asked n.code.source (first_of (territories n.code.value db))) true
