-- A text normalised, its characters' digits in order: after the original's `parser/helper`.
use Rattle.std.specs.Prelude.{ℕ, List}
use Rattle.std.specs.List.{filter_map}
use Rattle.phone_chars.specs.Characters.{digit_of}

-- each character gives its digit, or nothing
abbrev pub norm : List ℕ → List ℕ
norm cs = filter_map digit_of cs
