-- What a call over a column is given, and what it writes.
use Rattle.std.specs.Prelude.{◌≡◌, ◌⊎◌, ◌<◌, ◌-◌, ◌==◌, ◌&&◌, ◌||◌, ℕ, Bool, if◌then◌else◌, List}
use Rattle.std.specs.Prelude.{[]}
use Rattle.std.specs.Prelude.{None, get_or, length, unwrap_or}
use Rattle.std.specs.List.{flat_map}
use Rattle.phone_arrow.specs.Buffers.{padded}
use Rattle.phone_arrow.specs.Texts.{is_column, texts_in}
use Rattle.phone_values.specs.declared.rules.Rules.{Rules}
use Rattle.phone_records.specs.declared.loader.Metadata.{Metadata}
use Rattle.phone_c_base.specs.Buffers.{IsWritten}
use Rattle.phone_c_base.specs.declared.found.Place.{Place}
use Rattle.phone_columns.specs.Bodies.{all_buffers, places_from}
use Rattle.phone_columns.specs.Columns.{columns_of}
use Rattle.phone_columns.specs.Rows.{AreAnswers, Row, rows_from}
use Rattle.phone_columns.specs.declared.answers.Answer.{Answer}
use Rattle.phone_columns.specs.declared.given.Layout.{Layout}
use Rattle.phone_columns.specs.declared.given.Narrow.{Narrow}

-- texts or hints as a call is given them
pub record Seen : Type 0 where
  pub offsets : List ℕ
  pub bytes : List ℕ
  pub bits : List ℕ
  pub first : ℕ

-- the same of what is lent
abbrev pub seen : Layout → Seen
seen l = record { offsets = l.offsets.now; bytes = l.bytes.now; bits = l.bits.now; first = l.first }

-- the same with offsets of 32 bits
abbrev pub seen_narrow : Narrow → Seen
seen_narrow l =
    record { offsets = l.offsets.now; bytes = l.bytes.now; bits = l.bits.now; first = l.first }

-- the same, told part by part
abbrev pub laid_out : (offsets bytes bits : List ℕ) → (first : ℕ) → Seen
laid_out offsets bytes bits first =
    record { offsets = offsets; bytes = bytes; bits = bits; first = first }

-- they are a column
abbrev pub is_laid_out : Seen → Bool
is_laid_out l = is_column l.offsets l.bytes l.bits l.first

-- hints without an offset are one for all texts, whose bytes they are; else they are a column with
-- one less than this count
abbrev pub are_hints : Seen → ℕ → Bool
are_hints hints count = length hints.offsets == 0 ||
    (is_laid_out hints && (length hints.offsets - 1) == (count - 1))

-- texts and their hints
abbrev pub are_given : (texts hints : Seen) → Bool
are_given texts hints = is_laid_out texts && are_hints hints (length texts.offsets)

-- the bytes of the hint at a place
abbrev pub hint_in : Seen → ℕ → List ℕ
hint_in hints place = if length hints.offsets == 0 then hints.bytes
    else unwrap_or (get_or
    (texts_in hints.offsets hints.bytes hints.bits hints.first) place None) []

-- the rows of texts and their hints
abbrev pub rows_of : (texts hints : Seen) → List Row
rows_of texts hints = rows_from 0
    (texts_in texts.offsets texts.bytes texts.bits texts.first) (hint_in hints)

-- what is written: some answers of the rows, whose buffers go to the front of `out`, and where each
-- stands to the front of the places
pub record AreWritten (rules : Rules) (db : List Metadata) (columns : List ℕ) (rows : List Row)
    (places places_then : List Place) (out out_then : List ℕ) (wrote : ℕ) : Type 0 where
  pub answers : List Answer
  pub count : ℕ
  pub are_theirs : AreAnswers rules db rows answers
  pub bytes : IsWritten
      (flat_map padded (all_buffers rules db (columns_of columns) answers)) out out_then wrote
  pub stand : IsWritten
      (places_from 0 (all_buffers rules db (columns_of columns) answers)) places places_then count

-- what is too long: the buffers of the rows' answers for `out`, or their places; the length of the
-- buffers is told
pub record AreTooLong (rules : Rules) (db : List Metadata) (columns : List ℕ) (rows : List Row)
    (places : List Place) (out : List ℕ) (wrote : ℕ) : Type 0 where
  pub answers : List Answer
  pub are_theirs : AreAnswers rules db rows answers
  pub no_room : (length out <
      length (flat_map padded (all_buffers rules db (columns_of columns) answers))) ⊎
      (length places < length (places_from 0 (all_buffers rules db (columns_of columns) answers)))
  pub told : wrote ≡
      length (flat_map padded (all_buffers rules db (columns_of columns) answers))
