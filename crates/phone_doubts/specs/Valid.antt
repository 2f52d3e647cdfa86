-- Texts that are read as valid numbers, and two of them in one text.
use Rattle.std.specs.Prelude.{◌≡◌, ◌<◌, ℕ, ◌-◌, true, if◌then◌else◌, List, [], ◌∷◌, ◌++◌, chars}
use Rattle.std.specs.Prelude.{codes, drop, length, map, take, Ok, Option, None, Some}
use Rattle.std.specs.Borrow.{Bor}
use Rattle.phone_engine.specs.Facts.{is_valid_by}
use Rattle.phone_engine.specs.Readings.{ReadsBy}
use Rattle.phone_parts.specs.Texts.{is_front}
use Rattle.phone_records.specs.declared.loader.Metadata.{Metadata}
use Rattle.phone_values.specs.declared.country.Id.{Id}
use Rattle.phone_values.specs.declared.reading.Reading.{Reading}
use Rattle.phone_values.specs.declared.rules.Rules.{Rules}

-- a text is read as this number, which is valid
pub record IsValidText (rules : Rules) (db : List Metadata) (hint : Option Id) (t : List ℕ)
    (n : Reading) : Type 0 where
  pub read : ReadsBy rules db hint t (Ok n)
  pub valid : is_valid_by rules db n ≡ true

-- a text is read as a valid number
abbrev pub IsNumber : Rules → List Metadata → Option Id → List ℕ → Type 0
IsNumber rules db hint t = (n : Reading) × IsValidText rules db hint t n

-- what parts two numbers that are written in one field
abbrev pub separators : List (List ℕ)
separators = codes "/" ∷ codes ";" ∷ codes "," ∷ codes "|" ∷ codes "&" ∷ (10 ∷ []) ∷
    codes " or " ∷ codes " and " ∷ codes " oder " ∷ codes " und " ∷ codes " ou " ∷
    codes " et " ∷ []

-- what follows the first of these words that stands at the front of a text; none where none does
abbrev pub behind_one_of : List (List ℕ) → List ℕ → Option (List ℕ)
behind_one_of [] t = None
behind_one_of (word ∷ words) t =
    if is_front word t then Some (drop (length word) t) else behind_one_of words t

-- the characters of texts
abbrev pub characters : List (Bor (List ℕ)) → List (List ℕ)
characters texts = map (λ (t : Bor (List ℕ)). chars t.now) texts

-- two texts are numbers, each alone, and a separator stands between them, at the front of the rest
pub record ArePartedNumbers (rules : Rules) (db : List Metadata) (hint : Option Id)
    (first rest second : List ℕ) : Type 0 where
  pub parted : behind_one_of separators rest ≡ Some second
  pub is_first : IsNumber rules db hint first
  pub is_second : IsNumber rules db hint second

-- what stands before an end of a text
abbrev pub before_end : List ℕ → List ℕ → List ℕ
before_end t rest = take (length t - length rest) t

-- a text is two such numbers
pub record AreTwoNumbers (rules : Rules) (db : List Metadata) (hint : Option Id)
    (t first second : List ℕ) : Type 0 where
  pub rest : List ℕ
  pub whole : t ≡ first ++ rest
  pub numbers : ArePartedNumbers rules db hint first rest second

-- no such numbers are parted before a place of a text
abbrev pub NoneBefore : Rules → List Metadata → Option Id → (t : List ℕ) → (place : ℕ) → Type 0
NoneBefore rules db hint t place = (first rest second : List ℕ) → t ≡ first ++ rest →
    length first < place → ¬ (ArePartedNumbers rules db hint first rest second)

-- the two numbers that a text is: of several ways to part it the first one counts
pub record AreFirstTwo (rules : Rules) (db : List Metadata) (hint : Option Id)
    (t first second : List ℕ) : Type 0 where
  pub numbers : AreTwoNumbers rules db hint t first second
  pub none_before : NoneBefore rules db hint t (length first)

-- these are the numbers that a text is, which has two
pub record AreReadAsTwo (rules : Rules) (db : List Metadata) (hint : Option Id) (t : List ℕ)
    (n k : Reading) : Type 0 where
  pub first : List ℕ
  pub second : List ℕ
  pub texts : AreFirstTwo rules db hint t first second
  pub is_first : IsValidText rules db hint first n
  pub is_second : IsValidText rules db hint second k

-- a text isn't two numbers
abbrev pub IsNoPair : Rules → List Metadata → Option Id → List ℕ → Type 0
IsNoPair rules db hint t = (first second : List ℕ) → ¬ (AreTwoNumbers rules db hint t first second)
