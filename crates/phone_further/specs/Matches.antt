-- How like two numbers are: our own answer.
use Rattle.std.specs.Prelude.{ℕ, ◌&&◌, ◌||◌, nat_eq, nat_le, Bool, if◌then◌else◌, List, length}
use Rattle.std.specs.List.{ends_with}
use Rattle.phone_values.specs.Numbers.{text_of}
use Rattle.phone_values.specs.declared.reading.Reading.{Reading}
use Rattle.phone_questions.specs.Matches.{match_of}
use Rattle.phone_questions.specs.declared.matches.NumberMatch.{NumberMatch}
use Rattle.phone_questions.specs.declared.matches.NumberMatch.TheVariants.{NoMatch, ShortNsnMatch}

-- seven digits at least are an end of these
abbrev pub is_long_end : (digits end : List ℕ) → Bool
is_long_end digits end = nat_le 7 (length end) && ends_with nat_eq digits end

-- seven digits at least of one number, its leading zeros included, are an end of the other's
abbrev pub share_end : Reading → Reading → Bool
share_end a b = is_long_end (text_of a.national) (text_of b.national) ||
    is_long_end (text_of b.national) (text_of a.national)

-- a match by the end of one number counts where the numbers share one
abbrev pub if_shared : Bool → NumberMatch → NumberMatch
if_shared shared ShortNsnMatch = if shared then ShortNsnMatch else NoMatch
if_shared shared m = m

-- how like two numbers are: as libphonenumber has it, but for a match by an end
abbrev pub match_numbers : Reading → Reading → NumberMatch
match_numbers a b = if_shared (share_end a b) (match_of a b)
