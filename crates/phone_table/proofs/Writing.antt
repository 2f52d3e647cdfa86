-- What is written for records by what answers them, under each format.
use Rattle.std.proofs.Common.{[]}
use Rattle.phone_csv.specs.RecordReports.{Gives, Writes, WritesRows, WritesSomeRows}
use Rattle.phone_csv.specs.declared.format.Format.{Format}
use Rattle.phone_csv.proofs.AnswerLemmas.{some_rows, writes_nothing}

module _ {Kept : Type 0} (gives : Gives Kept) (first : Kept) where
  abbrev pub told : (last : Kept) → Format → Writes
  told last format = WritesRows gives format first last

  abbrev pub some_told : Format → Writes
  some_told format = WritesSomeRows gives format first

  -- nothing for none
  pub writes_nothing_by : (format : Format) → told first format [] []
  writes_nothing_by format = writes_nothing gives format first

  pub nothing_told : (format : Format) → some_told format [] []
  nothing_told format = some_rows gives format first first [] [] (writes_nothing gives format first)
