-- What the fields of an answer tell, as its body has them.
use Rattle.std.specs.Prelude.{ℕ, List}
use Rattle.phone_csv.specs.Formats.{Record}
use Rattle.phone_answers.specs.Fields.{answer_by, of_known, of_refusal, of_short}
use Rattle.phone_answers.specs.declared.field.Cells.{Cells}
use Rattle.phone_answers.specs.declared.field.Cells.TheVariants.{Number, Refused, Short}
use Rattle.phone_answers.specs.declared.field.Field.{Field}

-- what a field tells
abbrev pub told_by : Cells → Field → List ℕ
told_by (Number known) field = of_known known.now field
told_by (Short region kind) field = of_short region kind field
told_by (Refused words) field = of_refusal words.now field

-- what all fields tell
abbrev pub spelled_by : Cells → Record
spelled_by cells = answer_by (told_by cells)
