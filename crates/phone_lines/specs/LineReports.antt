-- The report on bytes: the answers to their lines.
use Rattle.std.specs.Prelude.{◌≡◌, ◌⊎◌, ℕ, List, [], ◌∷◌, ◌++◌, Option}
use Rattle.phone_device.specs.Passing.{IsAtEnd, Takes, TakesFront}
use Rattle.phone_lines.specs.Lines.{AreCut, AreLines, last_line, without_return}

-- what may be answered to a line
abbrev pub Gives : Type 1
Gives = List ℕ → List ℕ → Type 0

-- a line has at most one answer
abbrev pub HasOneAnswer : Gives → Type 0
HasOneAnswer gives = (line a b : List ℕ) → gives line a → gives line b → a ≡ b

-- a line has an answer, whatever it is
abbrev pub HasAnAnswer : Gives → Type 0
HasAnAnswer gives = (line : List ℕ) → (answer : List ℕ) × gives line answer

-- the answers to lines, in their order: to each without the carriage return at its end, and each
-- ended by a line feed
pub data AreAnswers (gives : List ℕ → List ℕ → Type 0) : List (List ℕ) → List ℕ → Type 0 where
  none : AreAnswers gives [] []
  next : (line answer : List ℕ) (lines : List (List ℕ)) (answers : List ℕ) →
      gives (without_return line) answer → AreAnswers gives lines answers →
      AreAnswers gives (line ∷ lines) (answer ++ 10 ∷ answers)

-- the report on bytes: the answers to all their lines
abbrev pub IsReport : Gives → List ℕ → List ℕ → Type 0
IsReport gives bytes report = (lines : List (List ℕ)) × AreLines bytes lines ×
    AreAnswers gives lines report

-- the report on the lines that a line feed ends
abbrev pub IsReportOnEnded : Gives → List ℕ → List ℕ → Type 0
IsReportOnEnded gives bytes report = (lines : List (List ℕ)) × (last : List ℕ) ×
    AreCut bytes lines last × AreAnswers gives lines report

-- the report on some first ones of them
abbrev pub IsReportOnFirst : Gives → List ℕ → List ℕ → Type 0
IsReportOnFirst gives bytes report =
    (first : List (List ℕ)) × (others : List (List ℕ)) × (last : List ℕ) ×
    AreCut bytes (first ++ others) last × AreAnswers gives first report

-- lines of what was read, where this is still to come: those that a line feed ends, and what
-- stands after the last line feed only where nothing is to come
abbrev pub AreLinesSoFar : Option (List ℕ) → List ℕ → List (List ℕ) → Type 0
AreLinesSoFar to_come bytes lines =
    (ended : List (List ℕ)) × (last : List ℕ) × AreCut bytes ended last ×
    ((lines ≡ ended) ⊎ (IsAtEnd to_come × (lines ≡ ended ++ last_line last)))

-- a beginning of the answer to the first one of these lines and its line feed, or nothing
pub data BeginsAnswer (gives : List ℕ → List ℕ → Type 0) : List (List ℕ) → List ℕ → Type 0 where
  nothing : (lines : List (List ℕ)) → BeginsAnswer gives lines []
  some : (line answer part rest : List ℕ) (lines : List (List ℕ)) →
      gives (without_return line) answer → answer ++ 10 ∷ [] ≡ part ++ rest →
      BeginsAnswer gives (line ∷ lines) part

-- a beginning of the report on what was read: the answers to some first lines, each whole, then a
-- beginning of the answer to the next line
pub record IsBeginning (gives : List ℕ → List ℕ → Type 0)
    (to_come : Option (List ℕ)) (bytes text : List ℕ) : Type 0 where
  pub first : List (List ℕ)
  pub others : List (List ℕ)
  pub lines : AreLinesSoFar to_come bytes (first ++ others)
  pub whole : List ℕ
  pub part : List ℕ
  pub answers : AreAnswers gives first whole
  pub begun : BeginsAnswer gives others part
  pub is : text ≡ whole ++ part

-- a sink took a text of which this holds
abbrev pub TakesA : (List ℕ → Type 0) → Option (List ℕ) → Option (List ℕ) → Type 0
TakesA is_text before after = (text : List ℕ) × is_text text × Takes before text after

-- a sink took a beginning of whatever is the report on bytes
abbrev pub TakesBeginning : Gives → List ℕ → Option (List ℕ) → Option (List ℕ) → Type 0
TakesBeginning gives bytes before after = (report : List ℕ) → IsReport gives bytes report →
    TakesFront before report after
