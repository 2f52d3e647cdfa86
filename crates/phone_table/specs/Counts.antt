-- How many rows a table has, and what their answers say: the kind of a number, its validity, and
-- the words of a refusal; and how many aren't UTF-8.
use Rattle.std.specs.Prelude.{ℕ, ◌+◌, ◌-◌, ◌&&◌, ◌||◌, not, Bool, true, false, if◌then◌else◌, List}
use Rattle.std.specs.Prelude.{codes, length, Option, None, Some}
use Rattle.std.specs.List.{list_any}
use Rattle.std.specs.Option.{option_or}
use Rattle.std.specs.Str.{bytes_eq, is_utf8}
use Rattle.phone_csv.specs.Feeds.{counted}
use Rattle.phone_csv.specs.Formats.{Record}
use Rattle.phone_answers.specs.Fields.{from_end}
use Rattle.phone_answers.specs.declared.field.Field.{Field}
use Rattle.phone_answers.specs.declared.field.Field.TheVariants.{Kind, Refusal, Validity}
use Rattle.phone_table.specs.Regions.{field_in}
use Rattle.phone_table.specs.declared.counts.Counts.{Counts}

-- the field of a row's answer, which stands behind all others
abbrev pub answer_field : Record → Field → List ℕ
answer_field row field = field_in row (length row - from_end field)

-- a field of a row's answer is this word
abbrev pub tells : Record → Field → List ℕ → Bool
tells row field word = bytes_eq (answer_field row field) word

-- a row is refused with these words; with none, where it isn't refused
abbrev pub has_refusal : List ℕ → Record → Bool
has_refusal words row = tells row Refusal words

-- a row is refused with other words than those for a region, an empty field and a count of fields
abbrev pub is_junk : Record → Bool
is_junk row = not (has_refusal (codes "") row) && not (has_refusal (codes "unknown region") row) &&
    not (has_refusal (codes "empty") row) && not (has_refusal (codes "wrong count of fields") row)

-- a row's number isn't valid
abbrev pub is_invalid : Record → Bool
is_invalid row = tells row Validity (codes "invalid")

-- a row's number is a short number
abbrev pub is_short : Record → Bool
is_short row = tells row Kind (codes "Emergency") || tells row Kind (codes "ShortNumber")

-- a row isn't UTF-8: one of its fields isn't
abbrev pub is_stray : Record → Bool
is_stray row = list_any (λ field. not (is_utf8 field)) row

-- a count, and one more where this holds
abbrev pub counted_if : Bool → ℕ → ℕ
counted_if holds n = if holds then counted (n + 1) else n

-- the number of the first row that isn't UTF-8 after one more row, the header counted as 1
abbrev pub first_after : Counts → (is_stray : Bool) → Option ℕ
first_after c false = c.first_stray
first_after c true = option_or c.first_stray (Some (counted (c.records + 2)))

-- the counts after one more row
abbrev pub counts_after : Counts → Record → Counts
counts_after c row = record {
  records = counted_if true c.records;
  unknown_region = counted_if (has_refusal (codes "unknown region") row) c.unknown_region;
  empty = counted_if (has_refusal (codes "empty") row) c.empty;
  wrong_count = counted_if (has_refusal (codes "wrong count of fields") row) c.wrong_count;
  no_number = counted_if (is_junk row) c.no_number;
  invalid = counted_if (is_invalid row) c.invalid;
  short = counted_if (is_short row) c.short;
  repeated = c.repeated;
  strays = counted_if (is_stray row) c.strays;
  first_stray = first_after c (is_stray row);
}

-- the counts after one more row that isn't written
abbrev pub counts_without : Counts → Record → Counts
counts_without c row = record (counts_after c row) { repeated = counted (c.repeated + 1) }

-- no row was counted
abbrev pub no_counts : Counts
no_counts = record {
  records = 0;
  unknown_region = 0;
  empty = 0;
  wrong_count = 0;
  no_number = 0;
  invalid = 0;
  short = 0;
  repeated = 0;
  strays = 0;
  first_stray = None;
}
