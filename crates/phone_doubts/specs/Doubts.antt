-- Why a field of a table is suspicious, and the words that say so.
use Rattle.std.specs.Prelude.{◌≡◌, ◌↔◌, ℕ, Bool, true, false, IsTrue, List, [], ◌∷◌, ◌++◌, codes}
use Rattle.std.specs.Prelude.{chars, map, Option, Some}
use Rattle.std.specs.List.{filter}
use Rattle.std.specs.Str.{trim}
use Rattle.phone_engine.specs.Facts.{is_valid_by, region_by}
use Rattle.phone_records.specs.declared.loader.Metadata.{Metadata}
use Rattle.phone_values.specs.declared.country.Id.{Id}
use Rattle.phone_values.specs.declared.reading.Reading.{Reading}
use Rattle.phone_values.specs.declared.rules.Rules.{Rules}
use Rattle.phone_doubts.specs.Fronts.{has_zero_in_brackets, LacksPlus, LacksZero}
use Rattle.phone_doubts.specs.Lettered.{HasLetters}
use Rattle.phone_doubts.specs.Spreadsheets.{is_date, is_float}
use Rattle.phone_doubts.specs.Valid.{AreTwoNumbers}
use Rattle.phone_doubts.specs.declared.doubt.Doubt.{Doubt}
use Rattle.phone_doubts.specs.declared.doubt.Doubt.TheVariants as doubt

-- a doubt's word
abbrev pub word_of : Doubt → List ℕ
word_of doubt.Float = codes "float"
word_of doubt.NoPlus = codes "no-plus"
word_of doubt.ZeroInBrackets = codes "zero-in-brackets"
word_of doubt.Letters = codes "letters"
word_of doubt.TwoNumbers = codes "two-numbers"
word_of doubt.Date = codes "date"
word_of doubt.ZeroLost = codes "zero-lost"
word_of doubt.OtherRegion = codes "other-region"

-- all of them, in the order in which they are told
abbrev pub all_doubts : List Doubt
all_doubts = doubt.Float ∷ doubt.NoPlus ∷ doubt.ZeroInBrackets ∷ doubt.Letters ∷
    doubt.TwoNumbers ∷ doubt.Date ∷ doubt.ZeroLost ∷ doubt.OtherRegion ∷ []

-- no valid number was read
abbrev pub IsNotValid : Rules → List Metadata → Option Reading → Type 0
IsNotValid rules db number = (n : Reading) → number ≡ Some n → is_valid_by rules db n ≡ false

-- a number has a region, and it isn't the hint
abbrev pub IsElsewhere : Rules → List Metadata → Id → Reading → Type 0
IsElsewhere rules db hint n = (region : Id) × (region_by rules db n ≡ Some region) ×
    ¬ (region ≡ hint)

-- a doubt about a text and the number that was read in it, if any
pub data IsDoubt (rules : Rules) (db : List Metadata) (hint : Option Id) (t : List ℕ)
    (number : Option Reading) : Doubt → Type 0 where
  float : is_float t ≡ true → IsDoubt rules db hint t number doubt.Float
  no_plus : (n : Reading) → number ≡ Some n → LacksPlus rules db hint t n →
      IsDoubt rules db hint t number doubt.NoPlus
  zero_in_brackets : (n : Reading) → number ≡ Some n →
      has_zero_in_brackets n.code.value t ≡ true →
      IsDoubt rules db hint t number doubt.ZeroInBrackets
  letters : (n : Reading) → number ≡ Some n → HasLetters (chars t) rules →
      IsDoubt rules db hint t number doubt.Letters
  two_numbers : (first second : List ℕ) → AreTwoNumbers rules db hint (chars t) first second →
      IsDoubt rules db hint t number doubt.TwoNumbers
  date : is_date t ≡ true → IsDoubt rules db hint t number doubt.Date
  zero_lost : (region : Id) → hint ≡ Some region → IsNotValid rules db number →
      LacksZero rules db region t → IsDoubt rules db hint t number doubt.ZeroLost
  other_region : (region : Id) (n : Reading) → hint ≡ Some region → number ≡ Some n →
      IsElsewhere rules db region n → IsDoubt rules db hint t number doubt.OtherRegion

-- words, parted by a space
abbrev pub spaced : List (List ℕ) → List ℕ
spaced [] = []
spaced (word ∷ []) = word
spaced (word ∷ next ∷ words) = word ++ 32 ∷ spaced (next ∷ words)

-- the words of the doubts that hold
abbrev pub words_of : (Doubt → Bool) → List ℕ
words_of holds = spaced (map word_of (filter holds all_doubts))

-- exactly these doubts are there
abbrev pub AreDoubts : Rules → List Metadata → Option Id → List ℕ → Option Reading →
    (Doubt → Bool) → Type 0
AreDoubts rules db hint t number holds =
    (d : Doubt) → IsTrue (holds d) ↔ IsDoubt rules db hint t number d

-- the words that are told of a field and the number that was read in it, if any: of its text
-- without the white space around it, those of the doubts about it
pub record IsDoubted (rules : Rules) (db : List Metadata) (hint : Option Id) (field : List ℕ)
    (number : Option Reading) (words : List ℕ) : Type 0 where
  pub holds : Doubt → Bool
  pub doubts : AreDoubts rules db hint (trim field) number holds
  pub told : words ≡ words_of holds
