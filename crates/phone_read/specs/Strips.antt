-- What is cut off the digits after the calling code: national prefix and carrier code. After the
-- original's `parser/helper` and `parser`.
use Rattle.std.specs.Prelude.{ℕ, ◌==◌, ◌&&◌, not, Bool, true, false, if◌then◌else◌}
use Rattle.std.specs.Prelude.{List, length, drop, Option, None, Some, option_map}
use Rattle.std.specs.Option.{option_map_or}
use Rattle.regex.specs.Replace.{bytes_of}
use Rattle.phone_territory.specs.First.{captured, replaced, Captured}
use Rattle.phone_records.specs.declared.loader.Metadata.{Metadata}
use Rattle.phone_parts.specs.Texts.{without_front}
use Rattle.phone_read.specs.Kinds.{is_of}
use Rattle.phone_read.specs.Verdicts.{verdict, is_too_short}

-- the digits that are left, and the carrier that was named
pub record Stripped : Type 0 where
  pub national : List ℕ
  pub carrier : Option (List ℕ)

-- what a territory's rules do to digits
pub data Cut : Type 0 where
  -- nothing
  stay : Cut
  -- the national prefix is cut off, where the digits begin with it
  off_prefix : Cut
  -- so many bytes are cut off, and this names the carrier, if any
  off_match : ℕ → Option (List ℕ) → Cut
  -- they are written anew as these, and this names the carrier, if any
  anew : List ℕ → Option (List ℕ) → Cut

-- what each leaves, where a carrier may have been named before; it stays where none is named anew
abbrev pub left_by : Metadata → List ℕ → Option (List ℕ) → Cut → Stripped
left_by m digits was stay = record { national = digits; carrier = was }
left_by m digits was off_prefix = record {
  national = without_front m.national_prefix digits;
  carrier = was;
}
left_by m digits was (off_match end name) = record { national = drop end digits; carrier = name }
left_by m digits was (anew written name) = record { national = written; carrier = name }

-- the digits are written anew
abbrev pub is_anew : Cut → Bool
is_anew (anew written name) = true
is_anew _ = false

-- what a group holds, where it took part
abbrev pub held : List ℕ → Option (ℕ × ℕ) → Option (List ℕ)
held digits group = option_map (λ (s : ℕ × ℕ). bytes_of digits (Some s)) group

-- what a match at the front does: where there is a transform rule and the last group took part, the
-- rule writes the digits anew, and group 1 names the carrier, unless they would leave the
-- territory's general kind; else the match is cut off, and the last group names the carrier
abbrev pub by_match : Metadata → List ℕ → Option (List ℕ) → List ℕ → Captured → Option (ℕ × ℕ) →
    Cut
by_match m pattern (Some rule) digits found (Some last) =
    let written = replaced pattern rule digits in
    if is_of m.general digits && not (is_of m.general written) then stay
    else anew written (held digits found.first)
by_match m pattern rule digits found last = off_match found.span.1 (held digits last)

-- what the first match of a parsing pattern does, if it is at the front
abbrev pub cut_by : Metadata → List ℕ → List ℕ → Cut
cut_by m pattern digits = option_map_or (λ (found : Captured).
    if found.span.0 == 0
    then by_match m pattern m.national_prefix_transform_rule digits found found.last
    else stay) (captured pattern digits) stay

-- what the rules do: without a parsing pattern the national prefix is cut off; with one its first
-- match counts, where that is at the front
abbrev pub cut_of : Metadata → List ℕ → Cut
cut_of m digits = option_map_or (λ pattern. cut_by m pattern digits) m.national_prefix_for_parsing
    off_prefix

-- what they leave
abbrev pub step : Metadata → List ℕ → Option (List ℕ) → Stripped
step m digits was = left_by m digits was (cut_of m digits)

-- then the national prefix is cut off once more; but all digits stay where too few would be left
abbrev pub strip : Metadata → List ℕ → Stripped
strip m digits =
    let stepped = step m digits None in
    let national = without_front m.national_prefix stepped.national in
    if is_too_short (verdict m (length national)) then record { national = digits; carrier = None }
    else record { national = national; carrier = stepped.carrier }

-- a territory strips the digits; without one they stay
abbrev pub stripped : Option Metadata → List ℕ → Stripped
stripped None digits = record { national = digits; carrier = None }
stripped (Some m) digits = strip m digits
