-- What the rows of a column are answered: each what the call for one text answers.
use Rattle.std.specs.Prelude.{◌≡◌, ℕ, ◌+◌, List, [], ◌∷◌, Option, None, Some, Ok, Err, chars}
use Rattle.std.specs.Prelude.{get_or, IsUtf8, MatchOption, unwrap_or}
use Rattle.std.specs.List.{AllZip}
use Rattle.phone_values.specs.Refusals.{refusal_number}
use Rattle.phone_values.specs.declared.country.Id.{Id}
use Rattle.phone_values.specs.declared.error.ParseError.{ParseError}
use Rattle.phone_values.specs.declared.reading.Reading.{Reading}
use Rattle.phone_values.specs.declared.rules.Rules.{Rules}
use Rattle.phone_records.specs.declared.loader.Metadata.{Metadata}
use Rattle.phone_engine.specs.Readings.{ReadsBy}
use Rattle.phone_c_base.specs.Hints.{hint_of}
use Rattle.phone_c_base.specs.declared.status.TheConstants.{NO_REGION, NOT_UTF8}
use Rattle.phone_columns.specs.declared.answers.Answer.{Answer}
use Rattle.phone_columns.specs.declared.answers.Answer.TheVariants.{Absent, Number, Refused}
use Rattle.phone_columns.specs.declared.given.Hints.{Hints}
use Rattle.phone_columns.specs.declared.given.Hints.TheVariants.{Each, One}

-- a row: its text, where it has one, and the bytes of its hint
abbrev pub Row : Type 0
Row = Option (List ℕ) × List ℕ

-- the bytes of the hint at a place: the one of all, or the place's own; no byte where there is none
abbrev pub hint_at : Hints → ℕ → List ℕ
hint_at (One hint) place = hint.now
hint_at (Each hints) place = unwrap_or (get_or hints place None) []

-- texts from this place on, each with the hint at its place
abbrev pub rows_from : ℕ → List (Option (List ℕ)) → (ℕ → List ℕ) → List Row
rows_from place [] hint = []
rows_from place (text ∷ texts) hint = (text, hint place) ∷ rows_from (place + 1) texts hint

-- by rules and under a hint the bytes of a text are answered so: they aren't UTF-8, or they are
-- read as a number, or refused
pub data IsReadAs (rules : Rules) (db : List Metadata) (hint : Option Id) (text : List ℕ) :
    Answer → Type 0 where
  not_utf8 : ¬ (IsUtf8 text) → IsReadAs rules db hint text (Refused NOT_UTF8)
  refused : (e : ParseError) → IsUtf8 text → ReadsBy rules db hint (chars text) (Err e) →
      IsReadAs rules db hint text (Refused (refusal_number e))
  number : (n : Reading) → IsUtf8 text → ReadsBy rules db hint (chars text) (Ok n) →
      IsReadAs rules db hint text (Number n)

-- by rules a row is answered so: with nothing where it has no text, else with a refusal where its
-- hint is none, else as its text is read
abbrev pub IsAnswer : Rules → List Metadata → Row → Answer → Type 0
IsAnswer rules db (None, hint) answer = answer ≡ Absent
IsAnswer rules db (Some text, hint) answer = MatchOption (hint_of hint)
    (answer ≡ Refused NO_REGION) (λ h. IsReadAs rules db h text answer)

-- by rules rows are answered so, each for itself
abbrev pub AreAnswers : Rules → List Metadata → List Row → List Answer → Type 0
AreAnswers rules db rows answers = AllZip (IsAnswer rules db) rows answers
