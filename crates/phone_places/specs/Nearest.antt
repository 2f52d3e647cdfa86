-- How far the names of a table are from a text.
use Rattle.std.specs.Prelude.{ℕ, List, chars, length, map, nat_eq}
use Rattle.strsim.specs.Edits.{levenshtein_row}
use Rattle.phone_places.specs.Tables.{name_of}
use Rattle.phone_places.specs.declared.countries.Entry.{Entry}

-- how many characters have to be put in, taken out or replaced: Levenshtein's distance
abbrev pub distance : List ℕ → List ℕ → ℕ
distance name text = levenshtein_row nat_eq (chars name) (chars text) (length (chars text))

-- each entry, with how far its name is from a text
abbrev pub measured_of : List Entry → List ℕ → List (Entry × ℕ)
measured_of entries text = map (λ e. (e, distance (name_of e) text)) entries
