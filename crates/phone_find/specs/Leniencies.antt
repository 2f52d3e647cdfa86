-- How strictly the numbers of a text are judged.
use Rattle.std.specs.Prelude.{ℕ, ◌&&◌, Bool, true, false, List}
use Rattle.phone_engine.specs.Possibilities.{possibility_of}
use Rattle.phone_engine.specs.declared.possibilities.Possibility.{Possibility}
use Rattle.phone_engine.specs.declared.possibilities.Possibility.TheVariants as possibility
use Rattle.phone_values.specs.declared.reading.Reading.{Reading}
use Rattle.phone_records.specs.declared.loader.Metadata.{Metadata}
use Rattle.phone_engine.specs.Facts.{is_valid_by}
use Rattle.phone_matches.specs.Prefixes.{has_prefix}
use Rattle.phone_values.specs.declared.rules.Rules.{Rules}
use Rattle.phone_values.specs.declared.rules.Rules.TheVariants.{Library}
use Rattle.phone_find.specs.declared.leniency.Leniency.{Leniency}
use Rattle.phone_find.specs.declared.leniency.Leniency.TheVariants.{Possible, Valid}

-- a count of digits is one of the territory's numbers, or of those that suffice inside an area
abbrev pub is_possible_count : Possibility → Bool
is_possible_count possibility.Possible = true
is_possible_count possibility.PossibleLocally = true
is_possible_count possibility.TooShort = false
is_possible_count possibility.TooLong = false
is_possible_count possibility.WrongLength = false
is_possible_count possibility.UnknownCode = false

-- a number is possible by the count of its digits
abbrev pub is_possible : Rules → List Metadata → Reading → Bool
is_possible rules db n = is_possible_count (possibility_of rules db n)

-- a number suffices: it is possible, or valid
abbrev pub suffices : Rules → List Metadata → Leniency → Reading → Bool
suffices rules db Possible n = is_possible rules db n
suffices rules db Valid n = is_valid_by rules db n

-- a number has in its text the national prefix that it should have: asked of valid numbers, by the
-- rules of libphonenumber
abbrev pub has_prefix_by : Rules → List Metadata → Leniency → Reading → List ℕ → Bool
has_prefix_by Library db Valid n t = has_prefix db n t
has_prefix_by rules db leniency n t = true

-- a number that is read from a text suffices there
abbrev pub suffices_in : Rules → List Metadata → Leniency → List ℕ → Reading → Bool
suffices_in rules db leniency t n =
    suffices rules db leniency n && has_prefix_by rules db leniency n t
