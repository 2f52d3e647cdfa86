-- The words of values that calls tell by their numbers.
use Rattle.std.specs.Prelude.{ℕ, ◌==◌, if◌then◌else◌, List, [], ◌∷◌, Option, None, codes}
use Rattle.std.specs.Prelude.{map, option_map}
use Rattle.std.specs.Borrow.{Bor}
use Rattle.std.specs.List.{find}
use Rattle.phone_engine.specs.declared.possibilities.Possibility.{Possibility}
use Rattle.phone_engine.specs.declared.possibilities.Possibility.TheVariants.{Possible}
use Rattle.phone_engine.specs.declared.possibilities.Possibility.TheVariants.{PossibleLocally}
use Rattle.phone_engine.specs.declared.possibilities.Possibility.TheVariants.{TooShort, TooLong}
use Rattle.phone_engine.specs.declared.possibilities.Possibility.TheVariants.{WrongLength}
use Rattle.phone_engine.specs.declared.possibilities.Possibility.TheVariants.{UnknownCode}
use Rattle.phone_engine.specs.declared.sameness.Sameness.{Sameness}
use Rattle.phone_engine.specs.declared.sameness.Sameness.TheVariants.{Exact, Number, National, End}
use Rattle.phone_engine.specs.declared.sameness.Sameness.TheVariants.{Different}

-- the word in the first row of a table that has this number; none where no row has it
abbrev pub word_in : List (ℕ × List ℕ) → ℕ → Option (List ℕ)
word_in rows value = option_map (λ (row : ℕ × List ℕ). row.1)
    (find (λ (row : ℕ × List ℕ). row.0 == value) rows)

-- the rows of a table as the code has it, whose words are references
abbrev pub rows_of : List (ℕ × Bor (List ℕ)) → List (ℕ × List ℕ)
rows_of = map (λ (row : ℕ × Bor (List ℕ)). (row.0, row.1.now))

-- the words of kinds, each with the number by which `phone_kind` tells it
abbrev pub kind_rows : List (ℕ × List ℕ)
kind_rows =
    (0, codes "FixedLine") ∷
    (1, codes "Mobile") ∷
    (2, codes "FixedLineOrMobile") ∷
    (3, codes "TollFree") ∷
    (4, codes "PremiumRate") ∷
    (5, codes "SharedCost") ∷
    (6, codes "PersonalNumber") ∷
    (7, codes "Voip") ∷
    (8, codes "Pager") ∷
    (9, codes "Uan") ∷
    (10, codes "Emergency") ∷
    (11, codes "Voicemail") ∷
    (12, codes "ShortCode") ∷
    (13, codes "StandardRate") ∷
    (14, codes "Carrier") ∷
    (15, codes "NoInternational") ∷
    (16, codes "Unknown") ∷
    []

-- the words of the ways in which a calling code was found
abbrev pub source_rows : List (ℕ × List ℕ)
source_rows =
    (0, codes "plus") ∷
    (1, codes "idd") ∷
    (2, codes "number") ∷
    (3, codes "default") ∷
    []

-- the words of what a length says
abbrev pub possibility_rows : List (ℕ × List ℕ)
possibility_rows =
    (0, codes "possible") ∷
    (1, codes "possible-locally") ∷
    (2, codes "too-short") ∷
    (3, codes "too-long") ∷
    (4, codes "wrong-length") ∷
    (5, codes "unknown-code") ∷
    []

-- the words of how like two numbers are
abbrev pub sameness_rows : List (ℕ × List ℕ)
sameness_rows =
    (0, codes "exact") ∷
    (1, codes "number") ∷
    (2, codes "national") ∷
    (3, codes "end") ∷
    (4, codes "different") ∷
    []

-- the words of costs
abbrev pub cost_rows : List (ℕ × List ℕ)
cost_rows =
    (0, codes "TOLL_FREE") ∷
    (1, codes "STANDARD_RATE") ∷
    (2, codes "PREMIUM_RATE") ∷
    (3, codes "UNKNOWN_COST") ∷
    []

-- the words of statuses: of those from 1 to 6 the words of the refusals of a text
abbrev pub status_rows : List (ℕ × List ℕ)
status_rows =
    (0, codes "done") ∷
    (1, codes "not a number") ∷
    (2, codes "invalid country code") ∷
    (3, codes "the number is too short after IDD") ∷
    (4, codes "the number is too short after the country code") ∷
    (5, codes "the number is too long") ∷
    (6, codes "malformed integer part in phone number") ∷
    (7, codes "out of memory") ∷
    (8, codes "a record lacks a value that it must have") ∷
    (9, codes "a record has a key that it may not have") ∷
    (10, codes "malformed JSON") ∷
    (11, codes "a value is of the wrong kind") ∷
    (12, codes "a text is no pattern") ∷
    (16, codes "closed") ∷
    (17, codes "the buffer is too short for the answer") ∷
    (18, codes "not UTF-8") ∷
    (19, codes "unknown region") ∷
    (20, codes "unknown calling code") ∷
    (21, codes "the plain numbers are no phone number") ∷
    (22, codes "unknown mode") ∷
    (24, codes "unknown rules") ∷
    (25, codes "the line is empty") ∷
    (26, codes "the line has no tab") ∷
    (27, codes "the prefix isn't 1 to 15 digits") ∷
    (28, codes "the text isn't UTF-8") ∷
    (29, codes "the prefix stands in an earlier line") ∷
    (30, codes "no prefix begins the digits") ∷
    (31, codes "unknown kind") ∷
    (32, codes "the table has no example") ∷
    (33, codes "no value has the number") ∷
    (34, codes "the table has no territory of the region") ∷
    (35, codes "unknown leniency") ∷
    (36, codes "unknown column") ∷
    (37, codes "the texts or hints are laid out as no column") ∷
    []

-- the word of a value of a set: of kinds, 0; of the ways in which a calling code was found, 1; of
-- what a length says, 2; of how like two numbers are, 3; of costs, 4
unfoldable pub word_of : (set value : ℕ) → Option (List ℕ)
word_of set value =
    if set == 0 then word_in kind_rows value
    else if set == 1 then word_in source_rows value
    else if set == 2 then word_in possibility_rows value
    else if set == 3 then word_in sameness_rows value
    else if set == 4 then word_in cost_rows value
    else None

-- the words of a status
unfoldable pub status_words : ℕ → Option (List ℕ)
status_words status = word_in status_rows status

-- what a length says, in a word
abbrev pub possibility_word : Possibility → List ℕ
possibility_word Possible = codes "possible"
possibility_word PossibleLocally = codes "possible-locally"
possibility_word TooShort = codes "too-short"
possibility_word TooLong = codes "too-long"
possibility_word WrongLength = codes "wrong-length"
possibility_word UnknownCode = codes "unknown-code"

-- how like two numbers are, in a word
abbrev pub sameness_word : Sameness → List ℕ
sameness_word Exact = codes "exact"
sameness_word Number = codes "number"
sameness_word National = codes "national"
sameness_word End = codes "end"
sameness_word Different = codes "different"
