-- What a spreadsheet makes of a number: a float, or a date. All that counts here is of ASCII, so
-- texts are told by their bytes.
use Rattle.std.specs.Prelude.{ℕ, ◌+◌, ◌-◌, ◌*◌, ◌==◌, ◌&&◌, ◌||◌, not, nat_eq, nat_le, Bool, false}
use Rattle.std.specs.Prelude.{List, [], ◌∷◌, codes, length}
use Rattle.std.specs.List.{list_all, starts_with}
use Rattle.std.specs.Option.{option_map_or}
use Rattle.phone_chars.specs.Characters.{is_digit}
use Rattle.phone_parts.specs.Texts.{after_one, begins}
use Rattle.phone_library_text.specs.Places.{parted}

-- one digit at least, and nothing else
abbrev pub are_digits : List ℕ → Bool
are_digits t = not (length t == 0) && list_all is_digit t

-- one zero at least, and nothing else
abbrev pub are_zeros : List ℕ → Bool
are_zeros t = not (length t == 0) && list_all (λ c. c == 48) t

-- a plus sign, or a minus sign
abbrev pub is_sign : ℕ → Bool
is_sign c = (c == 43) || (c == 45)

-- a sign, and digits behind it
abbrev pub is_exponent : List ℕ → Bool
is_exponent t = begins is_sign t && are_digits (after_one is_sign t)

-- digits, this letter, and an exponent
abbrev pub is_scaled : List ℕ → List ℕ → Bool
is_scaled letter t = option_map_or (λ (p : List ℕ × List ℕ). are_digits p.0 && is_exponent p.1)
    (parted letter t) false

-- what may stand behind the mark: zeros, or digits, `E` of either case, and an exponent
abbrev pub is_fraction : List ℕ → Bool
is_fraction t = are_zeros t || is_scaled (codes "E") t || is_scaled (codes "e") t

-- digits, this mark, and a fraction
abbrev pub is_float_by : List ℕ → List ℕ → Bool
is_float_by mark t = option_map_or (λ (p : List ℕ × List ℕ). are_digits p.0 && is_fraction p.1)
    (parted mark t) false

-- a float, as `4930123437.0` or `6.4E+10`: its mark is a point, or a comma
abbrev pub is_float : List ℕ → Bool
is_float t = is_float_by (codes ".") t || is_float_by (codes ",") t

-- a number of one digit or two, from 1 to the most
abbrev pub counts_to : ℕ → List ℕ → Bool
counts_to most (d ∷ []) = is_digit d && nat_le 1 (d - 48) && nat_le (d - 48) most
counts_to most (c ∷ d ∷ []) = is_digit c && is_digit d &&
    nat_le 1 ((c - 48) * 10 + (d - 48)) && nat_le ((c - 48) * 10 + (d - 48)) most
counts_to most t = false

-- a year: four digits, the first two 19 or 20
abbrev pub is_year : List ℕ → Bool
is_year t = (length t == 4) && list_all is_digit t &&
    (starts_with nat_eq t (codes "19") || starts_with nat_eq t (codes "20"))

-- day, month and year, in one of the orders in which they are written
abbrev pub are_day_month_year : (a b c : List ℕ) → Bool
are_day_month_year a b c = (counts_to 31 a && counts_to 12 b && is_year c) ||
    (counts_to 12 a && counts_to 31 b && is_year c) ||
    (is_year a && counts_to 12 b && counts_to 31 c)

-- three groups that this separator parts, which are day, month and year
abbrev pub is_date_by : List ℕ → List ℕ → Bool
is_date_by separator t = option_map_or (λ (p : List ℕ × List ℕ).
    option_map_or (λ (q : List ℕ × List ℕ). are_day_month_year p.0 q.0 q.1)
    (parted separator p.1) false) (parted separator t) false

-- a date, as `3.10.1984`, `1984-10-03` or `3/10/1984`
abbrev pub is_date : List ℕ → Bool
is_date t = is_date_by (codes ".") t || is_date_by (codes "-") t || is_date_by (codes "/") t
