-- The first line of each number.
use Rattle.std.specs.Prelude.{◌≡◌, ℕ, List, [], ◌∷◌, ◌++◌, chars, false, true, Ok, Err, IsUtf8}
use Rattle.phone_book.specs.Firsts.{is_among}
use Rattle.phone_book.specs.Keys.{key_text}
use Rattle.phone_engine.specs.Readings.{ReadsBy}
use Rattle.phone_commands.specs.ObjectLines.{after_one}
use Rattle.phone_commands.specs.declared.takers.FirstLines.{FirstLines}
use Rattle.phone_values.specs.declared.error.ParseError.{ParseError}
use Rattle.phone_values.specs.declared.reading.Reading.{Reading}

-- what a line is answered, and what is kept then: nothing where it is no text, is read as no
-- number, or has one that was there; else its key, a tab and the line itself, and its number is
-- kept; each is counted
pub data IsFirstLine (kept : FirstLines) (line : List ℕ) : List ℕ → FirstLines → Type 0 where
  no_text : ¬ (IsUtf8 line) →
      IsFirstLine kept line [] (record kept { refused = after_one kept.refused })
  no_number : (e : ParseError) → IsUtf8 line →
      ReadsBy kept.book.rules kept.book.database kept.hint (chars line) (Err e) →
      IsFirstLine kept line [] (record kept { refused = after_one kept.refused })
  present : (n : Reading) → IsUtf8 line →
      ReadsBy kept.book.rules kept.book.database kept.hint (chars line) (Ok n) →
      is_among n kept.book.entries ≡ true →
      IsFirstLine kept line [] (record kept { present = after_one kept.present })
  added : (n : Reading) → IsUtf8 line →
      ReadsBy kept.book.rules kept.book.database kept.hint (chars line) (Ok n) →
      is_among n kept.book.entries ≡ false →
      IsFirstLine kept line (key_text n ++ 9 ∷ (line ++ 10 ∷ [])) (record kept {
        book = record kept.book { entries = kept.book.entries ++ n ∷ [] };
        added = after_one kept.added;
      })
