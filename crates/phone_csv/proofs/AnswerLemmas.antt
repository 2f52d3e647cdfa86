-- Rows for records, as one more is answered or left out.
use Rattle.std.proofs.Common.{◌≡◌, ℕ, List, [], ◌∷◌, ◌++◌, Option, Some, None, refl, sym, ap, ◌∙◌}
use Rattle.std.proofs.lemmas.List.{append-nil}
use Rattle.std.proofs.lemmas.Grind.{flat_map-append}
use Rattle.phone_csv.specs.Formats.{Record, record_text}
use Rattle.phone_csv.specs.RecordReports.{AreRows, Gives, WritesRows, WritesSomeRows, rows_text}
use Rattle.phone_csv.specs.RecordReports.AreRows.{none, answered, left_out}
use Rattle.phone_csv.specs.Runs.{Adds}
use Rattle.phone_csv.specs.declared.format.Format.{Format}

module _ {Kept : Type 0} (gives : Gives Kept) (d : Format) (first : Kept) where
  -- no record yet
  pub writes_nothing : WritesRows gives d first first [] []
  writes_nothing = ([], none, refl)

  -- one more row
  pub adds_row : (kept last : Kept) (fields answer : Record) → gives kept fields (Some answer) last →
      Adds (WritesRows gives d first kept) (WritesRows gives d first last) fields (record_text d (fields ++ answer))
  adds_row kept last fields answer given records text (rows, are, is) = (
    rows ++ (fields ++ answer) ∷ [],
    answered records rows kept fields answer last are given,
    ap (λ t. t ++ record_text d (fields ++ answer)) is ∙ ap (λ t. rows_text d rows ++ t) (sym (append-nil (record_text d (fields ++ answer))))
        ∙ sym (flat_map-append (record_text d) rows ((fields ++ answer) ∷ [])),
  )

  -- one more record that is left out
  pub adds_nothing : (kept last : Kept) (fields : Record) → gives kept fields None last →
      Adds (WritesRows gives d first kept) (WritesRows gives d first last) fields []
  adds_nothing kept last fields given records text (rows, are, is) = (rows, left_out records rows kept fields last are given, append-nil text ∙ is)

  -- whatever is kept then
  pub some_rows : (last : Kept) (records : List Record) (text : List ℕ) → WritesRows gives d first last records text → WritesSomeRows gives d first records text
  some_rows last records text w = (last, w)
