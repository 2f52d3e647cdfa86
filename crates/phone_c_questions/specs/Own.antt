-- Our own answers of a number that is given as plain numbers.
use Rattle.std.specs.Prelude.{◌≡◌, ℕ, ◌==◌, not, List, IsSomeAnd}
use Rattle.phone_values.specs.declared.reading.Reading.{Reading}
use Rattle.phone_records.specs.declared.loader.Metadata.{Metadata}
use Rattle.phone_further.specs.Answers.{mobile_text_in, reaches_from_abroad}
use Rattle.phone_further.specs.Costs.{known_cost}
use Rattle.phone_further.specs.Possible.{possibility_of}
use Rattle.phone_c_base.specs.Kinds.{kind_of}
use Rattle.phone_c_base.specs.Numbers.{HasNumbers, IsNumber}
use Rattle.phone_c_base.specs.ShortNumbers.{cost_number, flag}
use Rattle.phone_c_base.specs.declared.number.Number as plain
use Rattle.phone_c_questions.specs.Numbers.{validation_number}

-- what a mobile phone dials where a region's id is this, with symbols where their number isn't 0
abbrev pub own_mobile_text : List Metadata → (id : List ℕ) → (symbols : ℕ) → Reading → List ℕ
own_mobile_text db id symbols n = mobile_text_in db id (not (symbols == 0)) n

-- the plain numbers and their bytes are a number, and a mobile phone dials it so
abbrev pub IsOwnMobileText : List Metadata → (id : List ℕ) → (symbols : ℕ) → plain.Number →
    (bytes text : List ℕ) → Type 0
IsOwnMobileText db id symbols x bytes text = (n : Reading) × IsNumber x bytes n ×
    (text ≡ own_mobile_text db id symbols n)

-- 1 where the number that has these plain numbers can be dialled from abroad, else 0
abbrev pub IsReach : List Metadata → plain.Number → ℕ → Type 0
IsReach db x told = (n : Reading) × HasNumbers x n × (told ≡ flag (reaches_from_abroad db n))

-- what it costs as a short number: one table has the territories of its calling code, the other
-- their short numbers
abbrev pub IsKnownCost : (db short : List Metadata) → plain.Number → ℕ → Type 0
IsKnownCost db short x told =
    (n : Reading) × HasNumbers x n × (told ≡ cost_number (known_cost db short n))

-- the number is a kind's, and this is what the count of its digits says of it as of that kind
abbrev pub IsPossibilityOf : List Metadata → (kind : ℕ) → plain.Number → ℕ → Type 0
IsPossibilityOf db kind x told = IsSomeAnd (kind_of kind) (λ k. (n : Reading) × HasNumbers x n ×
    (told ≡ validation_number (possibility_of db k n)))
