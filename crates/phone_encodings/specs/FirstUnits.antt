-- The first character of units of UTF-16.
use Rattle.std.specs.Prelude.{ℕ, ◌&&◌, if◌then◌else◌}
use Rattle.std.specs.Char.Utf16.{is_high_surrogate, is_low_surrogate}
use Rattle.std.specs.Char.Utf16.{lone_unit_char, surrogate_pair_char}
use Rattle.std.specs.Option.{unwrap_or}

-- the character of a unit that is in no pair: of a surrogate U+FFFD
abbrev pub lone : ℕ → ℕ
lone u = unwrap_or (lone_unit_char u) 0xFFFD

-- the first character of two units, and how many bytes it takes
abbrev pub first_of_two : ℕ → ℕ → ℕ × ℕ
first_of_two u v = if is_high_surrogate u && is_low_surrogate v
    then (surrogate_pair_char u v, 4) else (lone u, 2)
