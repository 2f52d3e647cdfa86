-- What the two columns of duplicates tell.
use Rattle.std.specs.Prelude.{◌≡◌, ◌==◌, ◌<◌, ◌&&◌, ◌+◌, ◌-◌, nat_lt, ℕ, List, [], ◌∷◌, ◌++◌, codes}
use Rattle.std.specs.Prelude.{if◌then◌else◌, Option, None, Some, option_map, slice_get}
use Rattle.std.specs.Fmt.{decimal}
use Rattle.std.specs.List.{count_by, position_from}
use Rattle.std.specs.Option.{option_and_then, option_map_or}
use Rattle.phone_csv.specs.Formats.{Record}
use Rattle.phone_table.specs.Answered.{Answered, has_key}
use Rattle.phone_table.specs.declared.duplicates.Shared.{Shared}

-- their names
abbrev pub duplicate_names : Record
duplicate_names = codes "duplicate_of" ∷ codes "duplicates" ∷ []

-- those of all records that share a key: the number of the first one, and how many they are; the
-- header is number 1
abbrev pub shared_by : List Answered → List ℕ → Option Shared
shared_by all key =
    option_map (λ number. record { first = number; count = count_by (has_key key) all })
    (position_from (has_key key) 2 all)

-- those that share the key of this one; none where it has no key
abbrev pub shared_of : List Answered → Answered → Option Shared
shared_of all a = option_and_then (shared_by all) a.key

-- `duplicate_of`, told of the record of a number: the number of the first one, if that is another
abbrev pub duplicate_of : Option Shared → ℕ → Option ℕ
duplicate_of None number = None
duplicate_of (Some s) number = if s.first == number then None else Some s.first

-- `duplicates`, told of the first one: how many later ones there are, if any
abbrev pub duplicates : Option Shared → ℕ → Option ℕ
duplicates None number = None
duplicates (Some s) number =
    if (s.first == number) && nat_lt 1 s.count then Some (s.count - 1) else None

-- a number as a field; an empty one for none
abbrev pub number_text : Option ℕ → List ℕ
number_text n = option_map_or decimal n []

-- the two fields
abbrev pub marks : Option Shared → ℕ → Record
marks shared number = number_text (duplicate_of shared number) ∷
    number_text (duplicates shared number) ∷ []

-- the row for the record of a number: its own fields, the two, and its answer
abbrev pub marked_row : List Answered → ℕ → Answered → Record
marked_row all number a = a.own ++ (marks (shared_of all a) number ++ a.answer)

-- the rows for some of all records, of which the first one has this number
abbrev pub marked_rows : List Answered → ℕ → List Answered → List Record
marked_rows all number [] = []
marked_rows all number (a ∷ more) = marked_row all number a ∷ marked_rows all (number + 1) more

-- the record at this place, counted from 0, names this one: an earlier one with its key, which
-- names no other
pub record NamesFirst (all : List Answered) (a : Answered) (place first : ℕ) : Type 0 where
  pub earlier : ℕ
  pub number : first ≡ earlier + 2
  pub before : earlier < place
  pub other : Answered
  pub at : slice_get all earlier ≡ Some other
  pub key : other.key ≡ a.key
  pub is_first : duplicate_of (shared_of all other) first ≡ None
