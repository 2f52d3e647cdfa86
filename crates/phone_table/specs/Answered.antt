-- Records that were answered.
use Rattle.std.specs.Prelude.{ℕ, Bool, false, List, [], ◌∷◌, ◌++◌, Option, option_map}
use Rattle.std.specs.Option.{option_map_or}
use Rattle.std.specs.Str.{bytes_eq}
use Rattle.phone_book.specs.Keys.{key_text}
use Rattle.phone_csv.specs.Formats.{Record}
use Rattle.phone_values.specs.declared.reading.Reading.{Reading}

-- a record that was answered: its own fields, those of its answer, and the key of its number, which
-- has the E.164 text and the extension; no key where no number was read
pub record Answered : Type 0 where
  pub own : Record
  pub answer : Record
  pub key : Option (List ℕ)

-- the key of the number that was read
abbrev pub key_in : Option Reading → Option (List ℕ)
key_in number = option_map key_text number

-- each of these records with its answer, in their order
pub data AreAnswered (gives : Record → Option Reading → Record → Type 0) :
    List Record → List Answered → Type 0 where
  none : AreAnswered gives [] []
  next : (records : List Record) (all : List Answered) (fields answer : Record)
      (number : Option Reading) → AreAnswered gives records all → gives fields number answer →
      AreAnswered gives (records ++ fields ∷ [])
      (all ++ record { own = fields; answer = answer; key = key_in number } ∷ [])

-- a record's number has this key
abbrev pub has_key : List ℕ → Answered → Bool
has_key key a = option_map_or (bytes_eq key) a.key false
