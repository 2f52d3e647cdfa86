-- What is shown while the characters of a line are typed.
use Rattle.std.specs.Prelude.{ℕ, List, [], ◌∷◌, ◌++◌, chars, flat_map}
use Rattle.std.specs.Str.Lossy.{utf8_lossy}
use Rattle.phone_typed.specs.Fields.{Field, shown}
use Rattle.phone_typed.specs.Keys.{with_key, with_keys}

-- a field once a character is typed into it
abbrev pub typed_into : Field → ℕ → Field
typed_into field c = record field { keys = with_key field.keys c }

-- what it shows after each of some characters, one after the other
abbrev pub shown_after_each : Field → List ℕ → List (List ℕ)
shown_after_each field [] = []
shown_after_each field (c ∷ cs) =
    shown (typed_into field c) ∷ shown_after_each (typed_into field c) cs

-- texts, each with a vertical bar in front
abbrev pub behind_bars : List (List ℕ) → List ℕ
behind_bars texts = flat_map (λ text. 124 ∷ text) texts

-- texts parted by vertical bars
abbrev pub barred : List (List ℕ) → List ℕ
barred [] = []
barred (text ∷ texts) = text ++ behind_bars texts

-- a field with no keys
abbrev pub emptied : Field → Field
emptied field = record field { keys = [] }

-- the characters of a line, in which bytes that aren't UTF-8 are replaced
abbrev pub typed_chars : List ℕ → List ℕ
typed_chars line = chars (utf8_lossy line)

-- what a line is answered: what the emptied field shows after each of its characters
abbrev pub typed_line : Field → List ℕ → List ℕ
typed_line field line = barred (shown_after_each (emptied field) (typed_chars line)) ++ 10 ∷ []

-- the field after a line: the line's keys alone
abbrev pub after_line : Field → List ℕ → Field
after_line field line = record field { keys = with_keys [] (typed_chars line) }
