-- What a summary tells of the rows of a table.
use Rattle.std.specs.Prelude.{◌≡◌, ◌-◌, ℕ, true, List, [], length, map, Option, None, Some}
use Rattle.std.specs.List.{position}
use Rattle.phone_csv.specs.Formats.{Record}
use Rattle.phone_table.specs.Summaries.{CountsRow, IsSummary, Row}
use Rattle.phone_table.specs.declared.summary.Summary.{Summary}
use Rattle.phone_table.specs.Answered.{Answered}
use Rattle.phone_answers.specs.Extras.{tells_doubts}
use Rattle.phone_answers.specs.Fields.{fields}
use Rattle.phone_answers.specs.declared.field.Field.TheVariants.{Kind, Refusal, Region}
use Rattle.phone_table.specs.Counts.{answer_field}
use Rattle.phone_table.specs.Regions.{field_in}
use Rattle.phone_table.specs.Rows.{row_of}
use Rattle.phone_table.specs.declared.counts.Counts.{Counts}
use Rattle.phone_answers.specs.declared.extra.Extra.{Extra}
use Rattle.phone_table.specs.declared.run.Asked.{Asked}
use Rattle.phone_table.specs.declared.summed.Totals.{Totals}
use Rattle.phone_table.specs.declared.table.Table.{Table}

-- the place of the column that tells what is suspicious, where it is asked for
abbrev pub doubts_place : List Extra → Option ℕ
doubts_place extra = position (λ (column : Extra). tells_doubts column.told) extra

-- the field of a row in a column that is asked for: all these stand before the answer
abbrev pub extra_field : List Extra → Record → Option ℕ → List ℕ
extra_field extra row None = []
extra_field extra row (Some place) =
    field_in row (length row - length fields - (length extra - place))

-- what a summary tells of a row: the type, the region and the refusal of its answer, and what is
-- suspicious
abbrev pub told_of : List Extra → Record → Row
told_of extra row = record {
  kind = answer_field row Kind;
  region = answer_field row Region;
  refusal = answer_field row Refusal;
  suspicion = extra_field extra row (doubts_place extra);
}

-- where a summary is asked for, it has one row more
pub record SumsRow (asked : Asked) (row : Record) (before after : Summary) : Type 0 where
  pub summed : asked.is_summed ≡ true → CountsRow before (told_of asked.extra.now row) after

-- where a summary is asked for, this is the one of the rows of all records that were answered
abbrev pub IsSummed : Asked → List Answered → Summary → Type 0
IsSummed asked all s = asked.is_summed ≡ true →
    IsSummary (map (λ (a : Answered). told_of asked.extra.now (row_of a)) all) s

-- the counts and the summary that a table has
abbrev pub totals_of : Table → Totals
totals_of t = record { counts = t.counts; summary = t.summary }
