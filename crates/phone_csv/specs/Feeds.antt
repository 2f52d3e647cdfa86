-- The line feeds in front of a record, which tell the line on which it begins.
use Rattle.std.specs.Prelude.{ℕ, ◌-◌, ◌^◌, ◌==◌, ◌||◌, min, List, [], ◌∷◌, if◌then◌else◌, count_by}
use Rattle.csv.specs.Machine.{ends_at_end}
use Rattle.csv.specs.declared.parser.State.{State}

-- the line feeds of a text
abbrev pub line_feeds : List ℕ → ℕ
line_feeds text = count_by (λ c. c == 10) text

-- a number as it is counted: 2^64 - 1 at most
abbrev pub counted : ℕ → ℕ
counted n = min n (2 ^ 64 - 1)

-- a text behind the line ends that it begins with
abbrev pub past_line_ends : List ℕ → List ℕ
past_line_ends [] = []
past_line_ends (c ∷ cs) = if (c == 13) || (c == 10) then past_line_ends cs else c ∷ cs

-- a text from its record on: line ends in front of a record are passed over
abbrev pub from_record : State → List ℕ → List ℕ
from_record state rest = if ends_at_end state then rest else past_line_ends rest

-- the line feeds of bytes in front of the record that their rest has
abbrev pub feeds_before : State → List ℕ → List ℕ → ℕ
feeds_before state bytes rest = line_feeds bytes - line_feeds (from_record state rest)
