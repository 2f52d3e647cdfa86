-- How like numbers and texts are, told by a number.
use Rattle.std.specs.Prelude.{◌≡◌, ℕ, List, chars}
use Rattle.phone_values.specs.declared.reading.Reading.{Reading}
use Rattle.phone_records.specs.declared.loader.Metadata.{Metadata}
use Rattle.phone_questions.specs.Matches.{match_of}
use Rattle.phone_questions.specs.declared.matches.NumberMatch.{NumberMatch}
use Rattle.phone_questions.specs.declared.matches.NumberMatch.TheVariants.{ExactMatch, NoMatch}
use Rattle.phone_questions.specs.declared.matches.NumberMatch.TheVariants.{NotANumber, NsnMatch}
use Rattle.phone_questions.specs.declared.matches.NumberMatch.TheVariants.{ShortNsnMatch}
use Rattle.phone_further.specs.Matches.{match_numbers}
use Rattle.phone_further.specs.TextMatches.{AreTextsMatch, IsTextMatch, match_guessed}
use Rattle.phone_further.specs.TextMatches.{match_unsure}
use Rattle.phone_c_base.specs.Numbers.{IsNumber}
use Rattle.phone_c_base.specs.declared.number.Number as plain

-- how like two numbers are, by its number
abbrev pub match_number : NumberMatch → ℕ
match_number NotANumber = 0
match_number NoMatch = 1
match_number ShortNsnMatch = 2
match_number NsnMatch = 3
match_number ExactMatch = 4

-- two numbers with their bytes are so like, by what two numbers are
abbrev pub AreLike : (Reading → Reading → NumberMatch) → plain.Number → (bytes : List ℕ) →
    plain.Number → (bytes : List ℕ) → ℕ → Type 0
AreLike like x first y second told = (m : Reading) × (n : Reading) × IsNumber x first m ×
    IsNumber y second n × (told ≡ match_number (like m n))

-- a number with its bytes and a text are, by that and by what a number is to one read beside it
abbrev pub IsLikeText : (Reading → Reading → NumberMatch) → (Reading → Reading → NumberMatch) →
    List Metadata → plain.Number → (bytes text : List ℕ) → ℕ → Type 0
IsLikeText like guessed db x bytes text told = (n : Reading) × (m : NumberMatch) ×
    IsNumber x bytes n × IsTextMatch like guessed db n (chars text) m × (told ≡ match_number m)

-- two texts are so like
abbrev pub AreLikeTexts : (Reading → Reading → NumberMatch) →
    (Reading → Reading → NumberMatch) → List Metadata → (first second : List ℕ) → ℕ → Type 0
AreLikeTexts like guessed db first second told = (m : NumberMatch) ×
    AreTextsMatch like guessed db (chars first) (chars second) m × (told ≡ match_number m)

-- two numbers, as libphonenumber tells
abbrev pub AreMatch : plain.Number → (bytes : List ℕ) → plain.Number → (bytes : List ℕ) → ℕ →
    Type 0
AreMatch x first y second told = AreLike match_of x first y second told

-- a number and a text
abbrev pub IsMatchText : List Metadata → plain.Number → (bytes text : List ℕ) → ℕ → Type 0
IsMatchText db x bytes text told = IsLikeText match_of match_unsure db x bytes text told

-- two texts
abbrev pub AreMatchTexts : List Metadata → (first second : List ℕ) → ℕ → Type 0
AreMatchTexts db first second told = AreLikeTexts match_of match_unsure db first second told

-- two numbers, by our own answer
abbrev pub AreOwnMatch : plain.Number → (bytes : List ℕ) → plain.Number → (bytes : List ℕ) → ℕ →
    Type 0
AreOwnMatch x first y second told = AreLike match_numbers x first y second told

-- a number and a text
abbrev pub IsOwnMatchText : List Metadata → plain.Number → (bytes text : List ℕ) → ℕ → Type 0
IsOwnMatchText db x bytes text told = IsLikeText match_numbers match_guessed db x bytes text told

-- two texts
abbrev pub AreOwnMatchTexts : List Metadata → (first second : List ℕ) → ℕ → Type 0
AreOwnMatchTexts db first second told =
    AreLikeTexts match_numbers match_guessed db first second told
