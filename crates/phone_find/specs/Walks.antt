-- How a rule fits a place of a text. A rule is a text of signs: those before `^` are held against
-- what stands before the place, from the place outwards; those behind it against what follows.
-- Texts are lists of characters; what stands before a place is told last character first.
use Rattle.std.specs.Prelude.{ℕ, ◌==◌, Bool, true, false, if◌then◌else◌, List, [], ◌∷◌}
use Rattle.std.specs.Prelude.{Option, None, Some}
use Rattle.std.specs.List.{list_any}
use Rattle.std.specs.Option.{option_and_then, option_map_or}
use Rattle.phone_find.specs.Sets.{is_absent, stands_for}

-- what follows a character that the sign stands for; none where another stands there
abbrev pub after_sign : ℕ → List ℕ → Option (List ℕ)
after_sign sign [] = if is_absent sign then Some [] else None
after_sign sign (c ∷ cs) = if stands_for sign c then Some cs else None

-- what follows characters that the signs stand for, one for one
abbrev pub after_signs : List ℕ → List ℕ → Option (List ℕ)
after_signs [] t = Some t
after_signs (s ∷ ss) t = option_and_then (after_signs ss) (after_sign s t)

-- the signs fit the front of a text
abbrev pub fits : List ℕ → List ℕ → Bool
fits signs t = option_map_or (λ _. true) (after_signs signs t) false

-- a rule fits a place
abbrev pub fits_place : (rule back from : List ℕ) → Bool
fits_place [] back from = true
fits_place (s ∷ ss) back from =
    if s == 94 then fits ss from
    else option_map_or (λ b. fits_place ss b from) (after_sign s back) false

-- one of the rules does
abbrev pub fits_some : List (List ℕ) → (back from : List ℕ) → Bool
fits_some rules back from = list_any (λ r. fits_place r back from) rules
