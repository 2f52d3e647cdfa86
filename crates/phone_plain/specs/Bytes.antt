-- The bytes of plain patterns.
use Rattle.std.specs.Prelude.{ℕ, Bool, true, false, ◌&&◌, ◌||◌, ◌==◌, nat_le, List, [], ◌∷◌}

-- a digit
abbrev pub is_digit : ℕ → Bool
is_digit c = nat_le 48 c && nat_le c 57

-- a digit or `]`: what may follow a digit in brackets
abbrev pub follows_member : ℕ → Bool
follows_member c = is_digit c || c == 93

-- `,` or `}`: what may follow a count
abbrev pub follows_count : ℕ → Bool
follows_count c = c == 44 || c == 125

-- a digit, or one of `$()[\|`: what may follow a part and its operator of repetition
abbrev pub follows_part : ℕ → Bool
follows_part c =
    is_digit c || c == 36 || c == 40 || c == 41 || c == 91 || c == 92 || c == 124

-- the text begins with a byte that passes the test
abbrev pub begins : (ℕ → Bool) → List ℕ → Bool
begins test [] = false
begins test (c ∷ t) = test c

-- nothing at the front belongs to the part before
abbrev pub is_apart : List ℕ → Bool
is_apart [] = true
is_apart (c ∷ t) = follows_part c

-- a branch ends here: at a bar, at a closing parenthesis, and at the end of the text
abbrev pub ends_branch : List ℕ → Bool
ends_branch [] = true
ends_branch (c ∷ t) = c == 124 || c == 41

-- `?` or `{`
abbrev pub is_operator : ℕ → Bool
is_operator c = c == 63 || c == 123

-- a digit, or one of `$([\`: what a part begins with
abbrev pub starts_part : ℕ → Bool
starts_part c = is_digit c || c == 36 || c == 40 || c == 91 || c == 92
