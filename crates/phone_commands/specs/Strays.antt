-- The lines of a call's inputs that aren't UTF-8, and the records of a table that aren't.
use Rattle.std.specs.Prelude.{◌≡◌, ℕ, ◌+◌, List, Option, Some, None, if◌then◌else◌, option_map}
use Rattle.std.specs.Option.{option_or}
use Rattle.std.specs.Str.{is_utf8}
use Rattle.phone_commands.specs.ObjectLines.{after_one}
use Rattle.phone_commands.specs.declared.strays.LinePlace.{LinePlace}
use Rattle.phone_commands.specs.declared.strays.Strays.{Strays}
use Rattle.phone_commands.specs.declared.strays.Tally.{Tally}
use Rattle.phone_csv.specs.Feeds.{counted}
use Rattle.phone_lines.specs.Taken.{Begins, Gives}
use Rattle.phone_table.specs.declared.counts.Counts.{Counts}

-- none
abbrev pub no_strays : Strays
no_strays = record { count = 0; first = None }

-- these, and one more, which stands there
abbrev pub with_stray : Strays → LinePlace → Strays
with_stray s place = record {
  count = after_one s.count;
  first = option_or s.first (Some place);
}

-- nothing was begun yet, and so many lines count as if they stood before each input
abbrev pub no_tally : ℕ → Tally
no_tally skipped = record { skipped = skipped; begun = 0; taken = 0; strays = no_strays }

-- where the next line stands
abbrev pub next_place : Tally → LinePlace
next_place t = record { input = t.begun; line = counted (counted (t.skipped + t.taken) + 1) }

-- an input is begun: its lines are numbered anew
abbrev pub after_begin : Tally → Tally
after_begin t = record t { begun = after_one t.begun; taken = 0 }

-- a line is counted among those that aren't UTF-8 where it isn't
abbrev pub after_line : Tally → List ℕ → Tally
after_line t line = record t {
  taken = after_one t.taken;
  strays = if is_utf8 line then t.strays else with_stray t.strays (next_place t);
}

-- an input is counted, whatever stands in front of its lines
abbrev pub CountsBegin : Begins Tally
CountsBegin t head after = after ≡ after_begin t

-- a line is counted, whatever it is answered
abbrev pub CountsLine : Gives Tally
CountsLine t line answer after = after ≡ after_line t line

-- where a record of a table stands, which is one input: its number is in the place of a line's
abbrev pub record_place : ℕ → LinePlace
record_place number = record { input = 1; line = number }

-- the records of a table that aren't UTF-8
abbrev pub strays_of : Counts → Strays
strays_of c = record { count = c.strays; first = option_map record_place c.first_stray }
