-- Which hint bytes are, and where an id stands among all ids.
use Rattle.std.specs.Prelude.{ℕ, ◌+◌, ◌-◌, ◌==◌, List, [], ◌∷◌, Option, None, Some, get_or, map}
use Rattle.std.specs.Prelude.{option_map, IsSomeAnd}
use Rattle.std.specs.List.{position}
use Rattle.std.specs.Option.{option_map_or}
use Rattle.phone_values.specs.Ids.{id_of}
use Rattle.phone_values.specs.declared.country.Id.{Id}
use Rattle.phone_c_base.specs.declared.hint.TheConstants.{SECOND_LETTERS, STARTS}

-- no byte is no hint; else the region whose id the bytes are, where there is one
abbrev pub hint_of : List ℕ → Option (Option Id)
hint_of [] = Some None
hint_of (b ∷ bs) = option_map (λ id. Some id) (id_of (b ∷ bs))

-- the bytes are a hint, and it is so under it
abbrev pub UnderHint : List ℕ → (Option Id → Type 0) → Type 0
UnderHint bytes IsSoUnder = IsSomeAnd (hint_of bytes) IsSoUnder

-- a place as far behind a start as a letter stands in a row of letters; the start where it doesn't
abbrev pub place_behind : (start : ℕ) (letters : List ℕ) (letter : ℕ) → ℕ
place_behind start letters letter =
    option_map_or (λ at. start + at) (position (λ l. l == letter) letters) start

-- where among all ids one of two letters stands, by the row of the first
abbrev pub place_of_two : (first second : ℕ) → ℕ
place_of_two first second = place_behind (get_or STARTS (first - 65) 0)
    (get_or (map (λ l. l.now) SECOND_LETTERS) (first - 65) []) second

-- where an id stands among all ids
abbrev pub place_of : List ℕ → ℕ
place_of (first ∷ second ∷ _) = place_of_two first second
place_of _ = 0
