-- What a text is read as is told by what is written in it.
use Rattle.std.proofs.Common.{◌≡◌, ℕ, List, Option, Result, Ok, Err, ap, sym}
use Rattle.phone_values.specs.declared.country.Id.{Id}
use Rattle.phone_values.specs.declared.error.ParseError.{ParseError}
use Rattle.phone_values.specs.declared.reading.Reading.{Reading}
use Rattle.phone_library.specs.Readings
use Rattle.phone_library.specs.Readings.{ReadsByLibrary, reading_under}
use Rattle.phone_library_text.specs.Written.{IsWritten}
use Rattle.phone_library_text.specs.declared.written.WrittenNumber.{WrittenNumber}
use Rattle.phone_read.specs.Hints.{hinted}
use Rattle.phone_records.specs.declared.loader.Metadata.{Metadata}

-- in a text one number is written, or it is refused for one reason
abbrev pub OneWritten : Type 0
OneWritten = (t : List ℕ) (a b : Result WrittenNumber ParseError) → IsWritten t a → IsWritten t b → a ≡ b

module _ (one : OneWritten) (db : List Metadata) (hint : Option Id) (t : List ℕ) where
  same_number : (v w : WrittenNumber) → IsWritten t (Ok v) → IsWritten t (Ok w) → v ≡ w
  same_number v w g h = let same : Ok v ≡ Ok w = one t (Ok v) (Ok w) g h in cc

  not_both : (w : WrittenNumber) (e : ParseError) → IsWritten t (Ok w) → ¬ (IsWritten t (Err e))
  not_both w e g h = let same : Ok w ≡ Err e = one t (Ok w) (Err e) g h in cc

  same_refusal : (d e : ParseError) → IsWritten t (Err d) → IsWritten t (Err e) → d ≡ e
  same_refusal d e g h = let same : Err d ≡ Err e = one t (Err d) (Err e) g h in cc

  -- a text with a number is read as that number is
  pub read_if_written : (w : WrittenNumber) (r : Result Reading ParseError) → IsWritten t (Ok w) → ReadsByLibrary db hint t r →
      r ≡ reading_under db (hinted db hint) w
  read_if_written w r h (Readings.refused e g) = absurd (not_both w e h g)
  read_if_written w r h (Readings.written v g) = ap (reading_under db (hinted db hint)) (same_number v w g h)

  -- and one that is refused is refused so
  pub read_if_refused : (e : ParseError) (r : Result Reading ParseError) → IsWritten t (Err e) → ReadsByLibrary db hint t r → r ≡ Err e
  read_if_refused e r h (Readings.refused d g) = ap Err (same_refusal d e g h)
  read_if_refused e r h (Readings.written v g) = absurd (not_both v e g h)

  pub reading_same : (a b : Result Reading ParseError) → ReadsByLibrary db hint t a → ReadsByLibrary db hint t b → a ≡ b
  reading_same a b (Readings.refused e h) g = sym (read_if_refused e b h g)
  reading_same a b (Readings.written w h) g = sym (read_if_written w b h g)

-- there is a reading
pub reading_some : (db : List Metadata) (hint : Option Id) (t : List ℕ) (r : Result WrittenNumber ParseError) → IsWritten t r →
    (s : Result Reading ParseError) × ReadsByLibrary db hint t s
reading_some db hint t (Ok w) h = (reading_under db (hinted db hint) w, Readings.written w h)
reading_some db hint t (Err e) h = (Err e, Readings.refused e h)
