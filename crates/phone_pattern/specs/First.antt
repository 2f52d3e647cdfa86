-- The first match of a pattern text in a text, under flag x: as the kit's `regex` defines it.
use Rattle.std.specs.Prelude.{◌≡◌, ℕ, ◌+◌, ◌-◌, ◌*◌, ◌==◌, ◌≤◌, ◌&&◌, nat_le, Bool, false}
use Rattle.std.specs.Prelude.{if◌then◌else◌, true, List, [], ◌∷◌, ◌++◌, map, take, drop, length}
use Rattle.std.specs.Prelude.{Option, Some, None, option_map, IfSome, IsCharBoundary}
use Rattle.std.specs.Borrow.{Bor}
use Rattle.std.specs.List.{AllByRecursion}
use Rattle.std.specs.Option.{IsSome, option_and_then, option_map_or}
use Rattle.std.specs.Str.{chars}
use Rattle.regex.specs.Patterns.{default_config, Config, Match, find_str, slot_of}
use Rattle.regex.specs.Replace.{bytes_of}
use Rattle.regex.specs.Strings.{regex_source, regex_config, IsReadFromSource}
use Rattle.regex.specs.Templates.{written_after}
use Rattle.regex.specs.Writes.{both}
use Rattle.regex.specs.declared.string.regex.Regex.{Regex}
use Rattle.regex_syntax.specs.Grammar.{Names, read}
use Rattle.phone_pattern.specs.declared.pattern.Captured.{Captured}

-- the options of a database pattern: flag x
abbrev pub verbose : Config
verbose = record default_config { flags = record default_config.flags { ignore_whitespace = true } }

-- a text is a pattern if the grammar of patterns reads it
unfoldable pub IsPattern : List ℕ → Type 0
IsPattern text = IsSome (read verbose (chars text))

-- where a match begins and ends, and the slots of its groups
abbrev pub Seen : Type 0
Seen = ℕ × ℕ × (ℕ → Option ℕ)

-- what is seen of a match
abbrev pub seen_of : Match → Seen
seen_of m = (m.start, m.trace.end, slot_of m)

-- the first match of the pattern text in a text
unfoldable pub first_match : List ℕ → List ℕ → Option Seen
first_match pattern hay = option_and_then (λ (re, _). option_map seen_of (find_str re.value hay 0))
    (read verbose (chars pattern))

-- the names of its groups, from group 0 on
unfoldable pub names_in : List ℕ → Names
names_in pattern = option_map_or (λ (_, names). names) (read verbose (chars pattern)) []

-- where the first match begins and ends
abbrev pub first_span : List ℕ → List ℕ → Option (ℕ × ℕ)
first_span pattern hay = option_map (λ (s : Seen). (s.0, s.1)) (first_match pattern hay)

-- whether the first match begins at the first byte
abbrev pub at_start : List ℕ → List ℕ → Bool
at_start pattern hay = option_map_or (λ (s : Seen). s.0 == 0) (first_match pattern hay) false

-- where the first match ends, if it begins at the first byte
abbrev pub front_end : List ℕ → List ℕ → Option ℕ
front_end pattern hay = option_and_then (λ (s : ℕ × ℕ). if s.0 == 0 then Some s.1 else None)
    (first_span pattern hay)

-- digits are led by patterns, the last of which comes first here: where there is none, or the last
-- one's first match begins at the first byte
abbrev pub led_by : List ℕ → List (List ℕ) → Bool
led_by digits [] = true
led_by digits (last ∷ others) = at_start last digits

-- whether the first match begins at the first byte and ends after the last
abbrev pub is_whole_match : List ℕ → List ℕ → Bool
is_whole_match pattern digits = option_map_or (λ (s : ℕ × ℕ). (s.0 == 0) &&
    (s.1 == length digits)) (first_span pattern digits) false

-- what group n spans; group 0 is the match
abbrev pub group_in : Seen → ℕ → Option (ℕ × ℕ)
group_in s n = if n == 0 then Some (s.0, s.1) else both (s.2 (2 * n)) (s.2 (2 * n + 1))

-- the number of the last group; 0, which is the match, where there is none
abbrev pub last_group : List ℕ → ℕ
last_group pattern = length (names_in pattern) - 1

-- a match's span, its first group if the pattern has groups, and its last group, whose number is
-- given
abbrev pub captured_by : ℕ → Seen → Captured
captured_by last s = record {
  span = (s.0, s.1);
  first = if nat_le 1 last then group_in s 1
      else None;
  last = group_in s last;
}

-- what the first match captures
abbrev pub captured : List ℕ → List ℕ → Option Captured
captured pattern hay = option_map (captured_by (last_group pattern)) (first_match pattern hay)

-- a span begins and ends between characters of a text
abbrev pub IsCut : List ℕ → ℕ × ℕ → Type 0
IsCut text s = (s.0 ≤ s.1) × (s.1 ≤ length text) × IsCharBoundary text s.0 × IsCharBoundary text s.1

-- so does all that is captured
abbrev pub AreCuts : List ℕ → Captured → Type 0
AreCuts text c = IsCut text c.span × IfSome c.first (IsCut text) × IfSome c.last (IsCut text)

-- the text with a match replaced by what the template's text writes there
abbrev pub with_first_replaced : Names → List ℕ → List ℕ → Option Seen → List ℕ
with_first_replaced names template hay None = hay
with_first_replaced names template hay (Some s) =
    (take s.0 hay ++ written_after names (λ n. bytes_of hay (group_in s n)) template 0) ++ drop s.1
    hay

-- the text with the first match replaced by what the template's text writes there
abbrev pub replaced : List ℕ → List ℕ → List ℕ → List ℕ
replaced pattern template hay = with_first_replaced (names_in pattern) template hay
    (first_match pattern hay)

-- a pattern was compiled from its text under flag x
abbrev pub IsUnderX : Regex → Type 0
IsUnderX re = (regex_config re ≡ verbose) × IsReadFromSource re

-- a compiled pattern is of this text under flag x
abbrev pub IsPatternOf : List ℕ → Regex → Type 0
IsPatternOf pattern re = (regex_source re ≡ pattern) × IsUnderX re

-- compiled patterns are of these texts, in this order, under flag x
abbrev pub ArePatternsOf : List (List ℕ) → List Regex → Type 0
ArePatternsOf patterns res = (map regex_source res ≡ patterns) × AllByRecursion IsUnderX res

-- a compiled pattern is lent just where its text is given
abbrev pub IsLentPattern : Option (List ℕ) → Option (Bor Regex) → Type 0
IsLentPattern None None = Unit {0}
IsLentPattern (Some pattern) (Some re) = IsPatternOf pattern re.now
IsLentPattern None (Some re) = ⊥
IsLentPattern (Some pattern) None = ⊥
