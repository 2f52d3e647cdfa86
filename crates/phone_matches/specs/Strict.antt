-- Strictly grouped: each group of a number stands in its text, one behind the other. Texts, digits
-- and groups are lists of bytes.
use Rattle.std.specs.Prelude.{ℕ, ◌-◌, nat_eq, ◌&&◌, Bool, false, if◌then◌else◌, List, [], ◌∷◌}
use Rattle.std.specs.Prelude.{drop, length}
use Rattle.std.specs.List.{starts_with}
use Rattle.std.specs.Option.{option_map_or}
use Rattle.phone_chars.specs.Characters.{is_digit}
use Rattle.phone_matches.specs.Texts.{behind_all, contains, from_part}
use Rattle.phone_parts.specs.Texts.{begins}
use Rattle.phone_values.specs.declared.country.Source.{Source}
use Rattle.phone_values.specs.declared.country.Source.TheVariants as source

-- what follows the first place of a calling code's digits; where they stand nowhere, as many bytes
-- are passed as the code has digits, but one
abbrev pub behind_digits : (code : List ℕ) → List ℕ → List ℕ
behind_digits code t = option_map_or (drop (length code)) (from_part code t)
    (drop (length code - 1) t)

-- where groups are looked for: in all of the text where the code is the hint's own, else behind the
-- code
abbrev pub behind_code : Source → (code : List ℕ) → List ℕ → List ℕ
behind_code source.Default code t = t
behind_code source.Plus code t = behind_digits code t
behind_code source.Idd code t = behind_digits code t
behind_code source.Number code t = behind_digits code t

-- groups stand one behind the other, and behind them somewhere the extension
abbrev pub stand_in_order : (extension : List ℕ) → List (List ℕ) → List ℕ → Bool
stand_in_order extension gs t = option_map_or (contains extension) (behind_all gs t) false

-- from the first group's place on: where a digit follows it at once, in a territory that has a
-- national prefix, all digits of the number have to stand here; else the other groups
abbrev pub stand_from : (is_prefixed : Bool) → (digits extension first : List ℕ) →
    (others : List (List ℕ)) → List ℕ → Bool
stand_from is_prefixed digits extension first others t =
    if is_prefixed && begins is_digit (drop (length first) t) then starts_with nat_eq t digits
    else stand_in_order extension others (drop (length first) t)

-- the groups stand in a text so, the first at its first place
abbrev pub is_strict : (is_prefixed : Bool) → (digits extension t : List ℕ) →
    List (List ℕ) → Bool
is_strict is_prefixed digits extension t [] = contains extension t
is_strict is_prefixed digits extension t (g ∷ gs) =
    option_map_or (stand_from is_prefixed digits extension g gs) (from_part g t) false
