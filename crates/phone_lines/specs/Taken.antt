-- Lines that are taken in their turn, by what may keep something from one to the next.
use Rattle.std.specs.Prelude.{◌≡◌, ◌⊎◌, ℕ, List, [], ◌∷◌, ◌++◌, Option}
use Rattle.phone_device.specs.Passing.{TakesFront}
use Rattle.phone_lines.specs.Lines.{AreCut, AreLines, without_return}
use Rattle.phone_lines.specs.LineReports.{AreLinesSoFar}

-- what may stand in front of an input's answers: what is kept before it begins, the bytes, and what
-- is kept then
abbrev pub Begins : Type 0 → Type 1
Begins Kept = Kept → List ℕ → Kept → Type 0

-- what may be answered to a line: what is kept before it, the line, the bytes of its answer, and
-- what is kept after it
abbrev pub Gives : Type 0 → Type 1
Gives Kept = Kept → List ℕ → List ℕ → Kept → Type 0

-- an input is begun in one way at most
abbrev pub BeginsInOneWay : {Kept : Type 0} → Begins Kept → Type 0
BeginsInOneWay begins = (kept : _) (a b : List ℕ) (p q : _) → begins kept a p → begins kept b q →
    (a ≡ b) × (p ≡ q)

-- a line is answered in one way at most
abbrev pub GivesInOneWay : {Kept : Type 0} → Gives Kept → Type 0
GivesInOneWay gives = (kept : _) (line a b : List ℕ) (p q : _) → gives kept line a p →
    gives kept line b q → (a ≡ b) × (p ≡ q)

-- what an input is answered, from what is kept first to what is kept last: what stands in front;
-- then, line by line, what each is answered, without the carriage return at its end
pub data AreTaken {Kept : Type 0} (begins : Kept → List ℕ → Kept → Type 0)
    (gives : Kept → List ℕ → List ℕ → Kept → Type 0) (first : Kept) :
    List (List ℕ) → List ℕ → Kept → Type 0 where
  begun : (head : List ℕ) (kept : Kept) → begins first head kept →
      AreTaken begins gives first [] head kept
  next : (lines : List (List ℕ)) (answers : List ℕ) (kept : Kept) (line answer : List ℕ)
      (last : Kept) → AreTaken begins gives first lines answers kept →
      gives kept (without_return line) answer last →
      AreTaken begins gives first (lines ++ line ∷ []) (answers ++ answer) last

-- the report on bytes: what all their lines are answered
abbrev pub IsReport : {Kept : Type 0} → Begins Kept → Gives Kept → (first : Kept) → List ℕ →
    (last : Kept) → List ℕ → Type 0
IsReport begins gives first bytes last report =
    (lines : List (List ℕ)) × AreLines bytes lines × AreTaken begins gives first lines report last

-- the report on the lines that a line feed ends
abbrev pub IsReportOnEnded : {Kept : Type 0} → Begins Kept → Gives Kept → (first : Kept) → List ℕ →
    (last : Kept) → List ℕ → Type 0
IsReportOnEnded begins gives first bytes last report =
    (lines : List (List ℕ)) × (piece : List ℕ) × AreCut bytes lines piece ×
    AreTaken begins gives first lines report last

-- what lines are answered, whatever is kept then; or nothing, not even what stands in front
abbrev pub AreAnswered : {Kept : Type 0} → Begins Kept → Gives Kept → (first : Kept) →
    List (List ℕ) → List ℕ → Type 0
AreAnswered begins gives first lines text =
    (text ≡ []) ⊎ ((last : _) × AreTaken begins gives first lines text last)

-- the report on some first ones of the lines that a line feed ends
abbrev pub IsReportOnFirst : {Kept : Type 0} → Begins Kept → Gives Kept → (first : Kept) →
    List ℕ → List ℕ → Type 0
IsReportOnFirst begins gives first bytes report =
    (some : List (List ℕ)) × (others : List (List ℕ)) × (piece : List ℕ) ×
    AreCut bytes (some ++ others) piece × AreAnswered begins gives first some report

-- the report on some first lines of what was read, where this is still to come
abbrev pub IsReportSoFar : {Kept : Type 0} → Begins Kept → Gives Kept → (first : Kept) →
    Option (List ℕ) → List ℕ → List ℕ → Type 0
IsReportSoFar begins gives first to_come bytes report =
    (some : List (List ℕ)) × (others : List (List ℕ)) ×
    AreLinesSoFar to_come bytes (some ++ others) × AreAnswered begins gives first some report

-- a sink took a beginning of such a report
abbrev pub BreaksOff : {Kept : Type 0} → Begins Kept → Gives Kept → (first : Kept) →
    Option (List ℕ) → List ℕ → Option (List ℕ) → Option (List ℕ) → Type 0
BreaksOff begins gives first to_come bytes before after = (report : List ℕ) ×
    IsReportSoFar begins gives first to_come bytes report × TakesFront before report after

-- nothing stands in front, and what is kept stays
abbrev pub begins_with_nothing : {Kept : Type 0} → Begins Kept
begins_with_nothing before head after = (head ≡ []) × (after ≡ before)

-- a line is answered by itself, by an answer and a line feed, and what is kept stays
abbrev pub each_by_itself : {Kept : Type 0} → (Kept → List ℕ → List ℕ → Type 0) → Gives Kept
each_by_itself gives before line bytes after = (answer : List ℕ) ×
    gives before line answer × (bytes ≡ answer ++ 10 ∷ []) × (after ≡ before)
