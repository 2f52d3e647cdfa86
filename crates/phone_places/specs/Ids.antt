-- Ids as people write them.
use Rattle.std.specs.Prelude.{ℕ, Bool, List, map, Option}
use Rattle.std.specs.Char.{to_ascii_lowercase}
use Rattle.std.specs.List.{find}
use Rattle.std.specs.Str.{bytes_eq}
use Rattle.phone_values.specs.Ids.{name}
use Rattle.phone_values.specs.declared.country.Id.{Id}
use Rattle.phone_values.specs.declared.country.TheConstants.{ALL}

-- a text is this id, its letters capital or small
abbrev pub is_id : List ℕ → Id → Bool
is_id text id = bytes_eq (map to_ascii_lowercase (name id)) (map to_ascii_lowercase text)

-- the id that a text is
unfoldable pub id_in : List ℕ → Option Id
id_in text = find (is_id text) ALL
