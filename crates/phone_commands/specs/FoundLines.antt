-- What is told of the numbers that stand in each line.
use Rattle.std.specs.Prelude.{◌≡◌, ℕ, suc, zero, ◌+◌, ◌-◌, nat_lt, if◌then◌else◌, List, [], ◌∷◌}
use Rattle.std.specs.Prelude.{◌++◌, chars, codes, length, map, Option, None, Some, option_map}
use Rattle.std.specs.Prelude.{IsCharBoundary, slice_get, slice_range, take, unwrap_or}
use Rattle.std.specs.Borrow.{Bor}
use Rattle.std.specs.Fmt.{decimal}
use Rattle.std.specs.List.{AllByRecursion}
use Rattle.std.specs.Option.{option_copied, option_to_list}
use Rattle.std.specs.Str.Lossy.{utf8_lossy}
use Rattle.phone_csv.specs.Feeds.{counted}
use Rattle.phone_csv.specs.Formats.{Record, record_text}
use Rattle.phone_csv.specs.declared.format.Format.{Format}
use Rattle.phone_csv.specs.declared.format.LineEnd.TheVariants.{Feed}
use Rattle.phone_find.specs.Numbers.{AreNumbers}
use Rattle.phone_find.specs.declared.leniency.Leniency.TheVariants.{Valid}
use Rattle.phone_find.specs.declared.search.Found.{Found}
use Rattle.phone_commands.specs.declared.finder.FoundForm.{FoundForm}
use Rattle.phone_commands.specs.declared.finder.FoundForm.TheVariants as form
use Rattle.phone_commands.specs.declared.finder.Matching.{Matching}
use Rattle.phone_matches.specs.Numbers.{AreNumbersBy}
use Rattle.phone_matches.specs.Told.{AllMatchThere, told_matches}
use Rattle.phone_matches.specs.declared.places.Match.{Match}
use Rattle.phone_plans.specs.CodeLookUps.{first_of, territories}
use Rattle.phone_print.specs.Tabbed.{tabbed}
use Rattle.phone_print.specs.Texts.{e164_text}
use Rattle.phone_records.specs.declared.loader.Metadata.{Metadata}
use Rattle.phone_answers.specs.Finds.{IsFoundObject, IsFoundRecord, found_names}
use Rattle.phone_answers.specs.declared.finds.Spot.{Spot}
use Rattle.phone_values.specs.declared.country.Id.{Id}
use Rattle.phone_values.specs.declared.reading.Reading.{Reading}
use Rattle.phone_values.specs.declared.rules.Rules.{Rules}

-- how records are written: with commas and line feeds
abbrev pub records : Format
records = record { delimiter = 44; line_end = Feed }

-- the name of the last input of so many that were begun, where it is told: where there are several
abbrev pub name_told : List (Bor (List ℕ)) → (begun : ℕ) → Option (List ℕ)
name_told names begun =
    if nat_lt (length names) 2 then None
    else option_map (λ (name : Bor (List ℕ)). name.now) (slice_get names (begun - 1))

-- the names of the columns of records, the first that of the input's name, where it is told
abbrev pub columns : Option (List ℕ) → Record
columns None = found_names
columns (Some name) = codes "file" ∷ found_names

-- what stands in front of the first input's records is their header; nothing stands elsewhere
abbrev pub in_front : FoundForm → (begun : ℕ) → (name : Option (List ℕ)) → List ℕ
in_front form.Fields begun name = []
in_front form.Object begun name = []
in_front form.Record zero name = record_text records (columns name)
in_front form.Record (suc begun) name = []

-- a number that was found in a text stands on a line of this number, in the column after as many
-- characters as stand before it
pub record IsSpot (place : ℕ) (text : List ℕ) (f : Found Reading) (spot : Spot) : Type 0 where
  pub line : spot.line ≡ place
  pub column : spot.column ≡ counted (length (chars (take f.start text)) + 1)
  pub piece : spot.piece.now ≡ slice_range text f.start f.end

-- what is told of a number that was found, the name of the input where it is told in front of
-- fields and records: its place, its E.164 text and the piece, parted by tabs; its object; its
-- record
pub data IsTold (rules : Rules) (db : List Metadata) (name : Option (List ℕ)) (spot : Spot)
    (n : Reading) : FoundForm → List ℕ → Type 0 where
  fields : IsTold rules db name spot n form.Fields
      (tabbed (option_to_list name ++ (decimal spot.line ∷ decimal spot.column ∷ e164_text n ∷
      spot.piece.now ∷ [])) ++ 10 ∷ [])
  object : (text : List ℕ) → IsFoundObject rules db spot n text →
      IsTold rules db name spot n form.Object (text ++ 10 ∷ [])
  row : (fields : Record) → IsFoundRecord rules db spot n fields →
      IsTold rules db name spot n form.Record (record_text records (option_to_list name ++ fields))

-- what is told of numbers that were found in a line, one after the other
pub data AreTold (rules : Rules) (db : List Metadata) (form : FoundForm) (name : Option (List ℕ))
    (place : ℕ) (text : List ℕ) : List (Found Reading) → List ℕ → Type 0 where
  none : AreTold rules db form name place text [] []
  next : (fs : List (Found Reading)) (told : List ℕ) (f : Found Reading) (spot : Spot)
      (one : List ℕ) → AreTold rules db form name place text fs told → IsSpot place text f spot →
      IsTold rules db name spot f.number form one →
      AreTold rules db form name place text (fs ++ f ∷ []) (told ++ one)

-- a match by the bytes at which it begins and ends
abbrev pub found_of : Match Reading → Found Reading
found_of m = record {
  start = length m.place.before.now;
  end = length m.place.before.now + length m.place.text.now;
  number = m.number;
}

-- a match begins at this byte, between characters, in this column
pub record IsPlace (text : List ℕ) (m : Match Reading) (start column : ℕ) : Type 0 where
  pub begins : start ≡ length m.place.before.now
  pub border : IsCharBoundary text start
  pub counts : column ≡ counted (length (chars (take start text)) + 1)

-- as many tries as no text that memory holds uses up: 2^64 - 1
abbrev pub all_tries : ℕ
all_tries = 18446744073709551615

-- these are what libphonenumber's matcher finds in a text: so strictly, by these other formats
pub record AreMatched (db : List Metadata) (hint : Option Id) (m : Matching) (text : List ℕ)
    (all : List (Found Reading)) : Type 0 where
  pub matches : List (Match Reading)
  pub numbers : AreNumbersBy db (unwrap_or (option_copied m.alternates) []) hint m.leniency
      all_tries (chars text) (told_matches matches)
  pub stand : AllMatchThere text matches
  pub are : all ≡ map found_of matches

-- these are found in a text: what libphonenumber's matcher finds, where that does; else the valid
-- numbers
abbrev pub AreFoundIn : Rules → List Metadata → Option Id → Option Matching → List ℕ →
    List (Found Reading) → Type 0
AreFoundIn rules db hint (Some m) text all = AreMatched db hint m text all
AreFoundIn rules db hint None text all = AreNumbers rules db hint Valid text all

-- what is told of all numbers of a text that are these
abbrev pub AreToldOf : (List (Found Reading) → Type 0) → Rules → List Metadata → FoundForm →
    Option (List ℕ) → ℕ → List ℕ → List ℕ → Type 0
AreToldOf Are rules db form name place text told = (all : List (Found Reading)) × Are all ×
    AreTold rules db form name place text all told

-- what is told of all numbers that are found in a text
abbrev pub AreToldIn : Rules → List Metadata → Option Id → Option Matching → FoundForm →
    Option (List ℕ) → ℕ → List ℕ → List ℕ → Type 0
AreToldIn rules db hint m form name place text told =
    AreToldOf (AreFoundIn rules db hint m text) rules db form name place text told

-- what a line is answered: the same of its text, in which bytes that aren't UTF-8 are replaced
abbrev pub IsFoundLine : Rules → List Metadata → Option Id → Option Matching → FoundForm →
    Option (List ℕ) → ℕ → List ℕ → List ℕ → Type 0
IsFoundLine rules db hint m form name place line answer =
    AreToldIn rules db hint m form name place (utf8_lossy line) answer

-- the calling code of a number has a territory
abbrev pub HasTerritory : List Metadata → Reading → Type 0
HasTerritory db n = ¬ (first_of (territories n.code.value db) ≡ None)

-- so those of numbers that were found
abbrev pub HaveTerritories : List Metadata → List (Found Reading) → Type 0
HaveTerritories db fs = AllByRecursion (λ (f : Found Reading). HasTerritory db f.number) fs
