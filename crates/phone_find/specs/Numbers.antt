-- Which numbers stand in a running text, by whose rules, under a database, a hint and a leniency. A
-- text is the list of its bytes, a place an offset in it.
use Rattle.std.specs.Prelude.{◌≡◌, ℕ, true, List, Option, Ok, chars, drop, take, slice_range}
use Rattle.phone_values.specs.declared.country.Id.{Id}
use Rattle.phone_records.specs.declared.loader.Metadata.{Metadata}
use Rattle.phone_engine.specs.Readings.{ReadsBy}
use Rattle.phone_values.specs.declared.rules.Rules.{Rules}
use Rattle.phone_values.specs.declared.reading.Reading.{Reading}
use Rattle.phone_find.specs.Standing.{is_candidate}
use Rattle.phone_find.specs.Founds.{AreFound}
use Rattle.phone_find.specs.Leniencies.{suffices_in}
use Rattle.phone_find.specs.declared.leniency.Leniency.{Leniency}
use Rattle.phone_find.specs.declared.search.Found.{Found}

-- a text, by itself, is read as this number, which suffices there
pub record IsReadWell (rules : Rules) (db : List Metadata) (hint : Option Id)
    (leniency : Leniency) (piece : List ℕ) (n : Reading) : Type 0 where
  pub read : ReadsBy rules db hint (chars piece) (Ok n)
  pub enough : suffices_in rules db leniency (chars piece) n ≡ true

-- a piece between what stands before it and after it may be a number by the characters, and is
-- read as this number, which suffices there
pub record IsNumberBetween (rules : Rules) (db : List Metadata) (hint : Option Id)
    (leniency : Leniency) (before piece after : List ℕ) (n : Reading) : Type 0 where
  pub candidate : is_candidate (chars before) (chars piece) (chars after) ≡ true
  pub number : IsReadWell rules db hint leniency piece n

-- such a piece of a text, from one place to another
abbrev pub IsNumberAt : Rules → List Metadata → Option Id → Leniency → (text : List ℕ) →
    (start end : ℕ) → Reading → Type 0
IsNumberAt rules db hint leniency text start end n =
    IsNumberBetween rules db hint leniency (take start text) (slice_range text start end)
    (drop end text) n

-- the numbers of a text: of all pieces that are numbers the first, of those that begin at one place
-- the longest, and so on behind each
abbrev pub AreNumbers : Rules → List Metadata → Option Id → Leniency → List ℕ →
    List (Found Reading) → Type 0
AreNumbers rules db hint leniency text all =
    AreFound (IsNumberAt rules db hint leniency text) text 0 all
