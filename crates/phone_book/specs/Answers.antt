-- What the answers to lines say of the numbers in a contact book.
use Rattle.std.specs.Prelude.{◌≡◌, ℕ, List, [], ◌∷◌, ◌++◌, chars, false, length, slice_get, Option}
use Rattle.std.specs.Prelude.{Some, Result, Ok, Err, true}
use Rattle.std.specs.Borrow.{Bor}
use Rattle.phone_values.specs.declared.country.Id.{Id}
use Rattle.phone_values.specs.declared.error.ParseError.{ParseError}
use Rattle.phone_values.specs.declared.error.ParseError.TheVariants as error
use Rattle.phone_records.specs.declared.loader.Metadata.{Metadata}
use Rattle.phone_engine.specs.Readings.{ReadsBy}
use Rattle.phone_values.specs.declared.rules.Rules.{Rules}
use Rattle.phone_values.specs.declared.reading.Reading.{Reading}
use Rattle.phone_book.specs.Firsts.{is_among, is_same_number}
use Rattle.phone_book.specs.declared.answers.BookError.{BookError}
use Rattle.phone_book.specs.declared.answers.BookError.TheVariants.{Refused, Memory}
use Rattle.phone_book.specs.declared.answers.Place.{Place}
use Rattle.phone_book.specs.declared.answers.Place.TheVariants.{Added, Present}

-- a line: the hint, and the text's bytes
abbrev pub Line : Type 0
Line = Option Id × List ℕ

-- a line as it is handed in
abbrev pub line_of : Option Id × Bor (List ℕ) → Line
line_of l = (l.0, l.1.now)

-- an answer to a line
abbrev pub Answer : Type 0
Answer = Result Place BookError

-- a line is read so, by these rules, under a database
abbrev pub IsRead : Rules → List Metadata → Line → Result Reading ParseError → Type 0
IsRead rules db line r = ReadsBy rules db line.0 (chars line.1) r

-- what a place says of a number and of the entries before it and after it
abbrev pub IsPlaced : List Reading → Reading → Place → List Reading → Type 0
IsPlaced before n (Added k) after = (is_among n before ≡ false) × (k ≡ length before) ×
    (after ≡ before ++ n ∷ [])
IsPlaced before n (Present k) after = (e : Reading) × (slice_get before k ≡ Some e) ×
    (is_same_number e n ≡ true) × (after ≡ before)

-- what an answer says of a line, and of the entries before it and after it
abbrev pub IsAnswered : Rules → List Metadata → List Reading → Line → Answer → List Reading →
    Type 0
IsAnswered rules db before line (Ok place) after = (n : Reading) ×
    (IsRead rules db line (Ok n)) × IsPlaced before n place after
IsAnswered rules db before line (Err (Refused e)) after = (IsRead rules db line (Err e)) ×
    (¬ (e ≡ error.Memory)) × (after ≡ before)
IsAnswered rules db before line (Err Memory) after = after ≡ before

-- one answer a line, in order, each by the entries that the lines before it left
abbrev pub AreAnswered : Rules → List Metadata → List Reading → List Line → List Answer →
    List Reading → Type 0
AreAnswered rules db before [] answers after = (answers ≡ []) × (after ≡ before)
AreAnswered rules db before (l ∷ ls) answers after = (a : Answer) × (others : List Answer) ×
    (between : List Reading) × (answers ≡ a ∷ others) ×
    (IsAnswered rules db before l a between) × AreAnswered rules db between ls others after

-- the numbers of a line: the one that it is read as; none where it is refused, and where memory was
abbrev pub HasNumbers : Rules → List Metadata → Line → Answer → List Reading → Type 0
HasNumbers rules db line (Ok place) ns = (n : Reading) × (IsRead rules db line (Ok n)) ×
    (ns ≡ n ∷ [])
HasNumbers rules db line (Err (Refused e)) ns = IsRead rules db line (Err e) × (ns ≡ [])
HasNumbers rules db line (Err Memory) ns = ns ≡ []

-- the numbers of lines with their answers, in order
abbrev pub HaveNumbers : Rules → List Metadata → List Line → List Answer → List Reading → Type 0
HaveNumbers rules db [] answers ns = (answers ≡ []) × (ns ≡ [])
HaveNumbers rules db (l ∷ ls) answers ns = (a : Answer) × (others : List Answer) ×
    (first rest : List Reading) × (answers ≡ a ∷ others) × (HasNumbers rules db l a first) ×
    (HaveNumbers rules db ls others rest) × (ns ≡ first ++ rest)
