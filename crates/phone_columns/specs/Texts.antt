-- The texts of rows in the four modes, each with where its texts end.
use Rattle.std.specs.Prelude.{◌≡◌, ◌++◌, ℕ, List, [], length}
use Rattle.std.specs.Int.{w64, to_le_bytes}
use Rattle.std.specs.List.{flat_map}
use Rattle.phone_values.specs.declared.mode.Mode.{Mode}
use Rattle.phone_values.specs.declared.mode.Mode.TheVariants.{E164, International, National}
use Rattle.phone_values.specs.declared.mode.Mode.TheVariants.{Rfc3966}
use Rattle.phone_values.specs.declared.rules.Rules.{Rules}
use Rattle.phone_records.specs.declared.loader.Metadata.{Metadata}
use Rattle.phone_columns.specs.Cells.{text_of_row}
use Rattle.phone_columns.specs.Columns.{offsets_by}
use Rattle.phone_columns.specs.declared.answers.Answer.{Answer}
use Rattle.phone_columns.specs.declared.printed.Printed.{Printed}
use Rattle.phone_columns.specs.declared.texts.InModes.{InModes}

-- these are the texts of rows in a mode, and where each ends
pub record AreTexts (rules : Rules) (db : List Metadata) (mode : Mode) (answers : List Answer)
    (printed : Printed) : Type 0 where
  pub offsets : printed.offsets.items ≡ offsets_by (text_of_row rules db mode) answers
  pub texts : printed.texts.items ≡ flat_map (text_of_row rules db mode) answers

-- these are the texts of rows in each mode
pub record AreTextsInModes (rules : Rules) (db : List Metadata) (answers : List Answer)
    (all : InModes) : Type 0 where
  pub e164 : AreTexts rules db E164 answers all.e164
  pub international : AreTexts rules db International answers all.international
  pub national : AreTexts rules db National answers all.national
  pub rfc3966 : AreTexts rules db Rfc3966 answers all.rfc3966

-- there is no text: one offset
pub record IsEmpty (printed : Printed) : Type 0 where
  pub offsets : printed.offsets.items ≡ to_le_bytes w64 0
  pub texts : printed.texts.items ≡ []

-- one text more
pub record IsOneMore (text : List ℕ) (old new : Printed) : Type 0 where
  pub texts : new.texts.items ≡ old.texts.items ++ text
  pub offsets : new.offsets.items ≡ old.offsets.items ++ to_le_bytes w64 (length new.texts.items)
