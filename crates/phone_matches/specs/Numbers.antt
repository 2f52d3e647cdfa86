-- Which numbers stand in a running text: as libphonenumber finds them. Texts are lists of
-- characters.
use Rattle.std.specs.Prelude.{◌≡◌, ◌&&◌, not, ℕ, Bool, true, List, [], Option, Ok}
use Rattle.phone_library.specs.Readings.{ReadsByLibrary}
use Rattle.phone_matches.specs.Leniencies.{Suffices, is_free}
use Rattle.phone_matches.specs.declared.leniency.Leniency.{Leniency}
use Rattle.phone_matches.specs.Searches.{AreMatches, Matched}
use Rattle.phone_matches_text.specs.Brackets.{has_good_brackets, has_pages}
use Rattle.phone_records.specs.declared.loader.Metadata.{Metadata}
use Rattle.phone_values.specs.declared.country.Id.{Id}
use Rattle.phone_values.specs.declared.reading.Reading.{Reading}

-- a text, by itself, is read under the hint as this number, which suffices
pub record IsReadWell (db alternates : List Metadata) (hint : Option Id) (leniency : Leniency)
    (t : List ℕ) (n : Reading) : Type 0 where
  pub read : ReadsByLibrary db hint t (Ok n)
  pub enough : Suffices db alternates n t leniency

-- a piece of a text may be a number: its brackets are good, it has no page numbers, and what stands
-- beside it may stand there
abbrev pub may_be_number : Leniency → (before piece after : List ℕ) → Bool
may_be_number leniency before piece after = has_good_brackets piece && not (has_pages piece) &&
    is_free leniency before piece after

-- a piece of a text is this number, by a database of alternate layouts: it may be one, and is read
-- so
pub record IsNumberBy (db alternates : List Metadata) (hint : Option Id) (leniency : Leniency)
    (before piece after : List ℕ) (n : Reading) : Type 0 where
  pub candidate : may_be_number leniency before piece after ≡ true
  pub number : IsReadWell db alternates hint leniency piece n

-- the numbers of a text, each with its place, in their order, with so many tries
abbrev pub AreNumbersBy : (db alternates : List Metadata) → Option Id → Leniency → (tries : ℕ) →
    List ℕ → List (Matched Reading) → Type 0
AreNumbersBy db alternates hint leniency tries text all =
    AreMatches (IsNumberBy db alternates hint leniency) text tries text all

-- the same without alternate layouts
abbrev pub AreNumbers : List Metadata → Option Id → Leniency → (tries : ℕ) → List ℕ →
    List (Matched Reading) → Type 0
AreNumbers db hint leniency tries text all = AreNumbersBy db [] hint leniency tries text all
