-- What a territory cuts off digits that are dialled inside it: a national prefix, perhaps with a
-- carrier's selection code. As libphonenumber has it.
use Rattle.std.specs.Prelude.{ℕ, ◌==◌, ◌&&◌, not, nat_le, if◌then◌else◌, List, length, drop}
use Rattle.std.specs.Prelude.{Option}
use Rattle.std.specs.Prelude.{None, Some}
use Rattle.std.specs.Option.{option_map_or}
use Rattle.phone_library.specs.Kinds.{matches_whole}
use Rattle.phone_library.specs.Lengths.{length_in, may_be_left}
use Rattle.phone_parts.specs.Texts.{without_front}
use Rattle.phone_read.specs.Strips.{Stripped, held}
use Rattle.phone_records.specs.declared.loader.Metadata.{Metadata}
use Rattle.phone_territory.specs.First.{Captured, captured, last_group, replaced}

-- the digits as they are
abbrev pub untouched : List ℕ → Stripped
untouched digits = record { national = digits; carrier = None }

-- what a match at the front leaves: where there is a transform rule and the last group took part,
-- the rule writes the digits anew, and the first of several groups is the carrier; else the match
-- is cut off, and the first group is the carrier
abbrev pub left_by_match : List ℕ → Option (List ℕ) → List ℕ → Captured → Option (ℕ × ℕ) → Stripped
left_by_match pattern (Some rule) digits found (Some last) = record {
  national = replaced pattern rule digits;
  carrier = if nat_le 2 (last_group pattern) then held digits found.first else None;
}
left_by_match pattern rule digits found last = record {
  national = drop found.span.1 digits;
  carrier = held digits found.first;
}

-- by a parsing pattern, where its first match is at the front
abbrev pub left_by_pattern : List ℕ → Option (List ℕ) → List ℕ → Stripped
left_by_pattern pattern rule digits = option_map_or (λ (found : Captured).
    if found.span.0 == 0 then left_by_match pattern rule digits found found.last
    else untouched digits) (captured pattern digits) (untouched digits)

-- by the text of a national prefix, where the digits begin with it
abbrev pub left_by_text : Option (List ℕ) → List ℕ → Stripped
left_by_text prefix digits = record { national = without_front prefix digits; carrier = None }

-- by a territory's parsing pattern; where it has none, by its national prefix
abbrev pub left_by_prefix : Metadata → List ℕ → Stripped
left_by_prefix m digits = option_map_or
    (λ (pattern : List ℕ). left_by_pattern pattern m.national_prefix_transform_rule digits)
    m.national_prefix_for_parsing (left_by_text m.national_prefix digits)

-- what is left; all digits, where they match the territory's general pattern as they are and would
-- no longer
abbrev pub strip : Metadata → List ℕ → Stripped
strip m digits =
    let left = left_by_prefix m digits in
    if matches_whole m.general digits && not (matches_whole m.general left.national)
    then untouched digits else left

-- what a territory strips off digits, unless fewer would be left than a number has, or not as many
-- as one can have
abbrev pub stripped : Option Metadata → List ℕ → Stripped
stripped None digits = untouched digits
stripped (Some m) digits =
    let left = strip m digits in
    if may_be_left (length_in m (length left.national)) then left else untouched digits
