-- Exactly grouped: the runs of digits in a text are the groups of its number, or all digits are
-- one. Digits, runs and groups are lists of bytes.
use Rattle.std.specs.Prelude.{ℕ, ◌-◌, ◌==◌, ◌&&◌, ◌||◌, nat_eq, Bool, true, false}
use Rattle.std.specs.Prelude.{if◌then◌else◌, List, [], ◌∷◌, drop, length, take}
use Rattle.std.specs.List.{ends_with, list_any}
use Rattle.std.specs.Str.{bytes_eq}
use Rattle.phone_chars.specs.Characters.{is_digit}
use Rattle.phone_matches.specs.Runs.{groups}
use Rattle.phone_matches.specs.Texts.{contains}
use Rattle.phone_parts.specs.Texts.{begins}

-- the runs of digits of a text, a list of characters, with an empty one before them where it
-- doesn't begin with a digit
abbrev pub digit_runs : List ℕ → List (List ℕ)
digit_runs t = if begins is_digit t then groups is_digit t else [] ∷ groups is_digit t

-- lists of texts are the same
abbrev pub are_same : List (List ℕ) → List (List ℕ) → Bool
are_same [] [] = true
are_same [] (u ∷ us) = false
are_same (t ∷ ts) [] = false
are_same (t ∷ ts) (u ∷ us) = bytes_eq t u && are_same ts us

-- these runs are these groups, but the first may have more digits in front
abbrev pub are_groups : (first : List ℕ) → (others runs : List (List ℕ)) → Bool
are_groups first others [] = false
are_groups first others (r ∷ rs) = ends_with nat_eq r first && are_same rs others

-- the last runs, as many as there are groups, are the groups so
abbrev pub end_as : List (List ℕ) → (runs : List (List ℕ)) → Bool
end_as [] rs = false
end_as (g ∷ gs) rs = are_groups g gs (drop (length rs - length (g ∷ gs)) rs)

-- the last run has all digits in it
abbrev pub is_whole_in_last : (digits : List ℕ) → List (List ℕ) → Bool
is_whole_in_last digits rs = list_any (contains digits) (drop (length rs - 1) rs)

-- the runs without the last, which is the extension's, where there is one
abbrev pub without_extension : (has_extension : Bool) → List (List ℕ) → List (List ℕ)
without_extension has_extension rs = if has_extension then take (length rs - 1) rs else rs

-- there is one run alone; or but for the extension's the last has all digits, or the last are the
-- groups
abbrev pub is_exact : (has_extension : Bool) → (digits : List ℕ) → (runs groups : List (List ℕ)) →
    Bool
is_exact has_extension digits rs gs = (length rs == 1) ||
    (is_whole_in_last digits (without_extension has_extension rs) ||
    end_as gs (without_extension has_extension rs))
