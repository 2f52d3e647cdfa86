-- The extension that stands at the front of a text, behind a candidate's digits: what follows it.
-- Digits may follow those that it may have.
use Rattle.std.specs.Prelude.{ℕ, Bool, if◌then◌else◌, List, [], ◌∷◌, Option, None, Some}
use Rattle.std.specs.Prelude.{option_map, unwrap_or, codes}
use Rattle.std.specs.Option.{option_and_then, option_or}
use Rattle.phone_chars.specs.Cuts.{after_front}
use Rattle.phone_library_text.specs.Announcements.{signs, words}
use Rattle.phone_library_text.specs.Scans.{after_alike}
use Rattle.phone_parts.specs.Suffixes.{is_lead}
use Rattle.phone_parts.specs.Texts.{after_one, begins}
use Rattle.phone_matches_text.specs.Sets.{is_in}
use Rattle.phone_matches_text.specs.Shapes.{after_few}
use Rattle.phone_matches_text.specs.declared.sets.Set.TheVariants as set

-- what follows digits, at least one and at most so many
abbrev pub after_digits : ℕ → List ℕ → Option (List ℕ)
after_digits most t =
    if begins (is_in set.AnyDigit) t then Some (after_few (is_in set.AnyDigit) most t) else None

-- what follows perhaps a mark, a gap, digits, and perhaps a number sign
abbrev pub after_ending : ℕ → List ℕ → Option (List ℕ)
after_ending most t = option_map (after_one (is_in set.NumberSign))
    (after_digits most (after_front (is_in set.Gap) (after_one (is_in set.Mark) t)))

-- what follows a label, whatever the case of its letters, and such an ending
abbrev pub after_label : (most : ℕ) → List ℕ → List ℕ → Option (List ℕ)
after_label most t label = option_and_then (after_ending most) (after_alike t label)

-- the same for the first of the labels that stands here so
abbrev pub after_some_label : (most : ℕ) → List (List ℕ) → List ℕ → Option (List ℕ)
after_some_label most [] t = None
after_some_label most (label ∷ labels) t =
    option_or (after_label most t label) (after_some_label most labels t)

-- `;ext=` and at most twenty digits
abbrev pub after_parameter : List ℕ → Option (List ℕ)
after_parameter t = option_and_then (after_digits 20) (after_alike t (codes ";ext="))

-- a lead, then a word and at most twenty digits, or a sign and at most nine
abbrev pub after_labelled : List ℕ → Option (List ℕ)
after_labelled t = option_or (after_some_label 20 words (after_front is_lead t))
    (after_some_label 9 signs (after_front is_lead t))

-- what follows a number sign
abbrev pub after_number_sign : List ℕ → Option (List ℕ)
after_number_sign t =
    if begins (is_in set.NumberSign) t then Some (after_one (is_in set.NumberSign) t) else None

-- hyphens and spaces, at least one, at most six digits, a number sign
abbrev pub after_dashed : List ℕ → Option (List ℕ)
after_dashed t = if begins (is_in set.Dash) t then option_and_then after_number_sign
    (after_digits 6 (after_front (is_in set.Dash) t)) else None

-- what follows an extension of one of these forms; none where none stands here
abbrev pub after_extension : List ℕ → Option (List ℕ)
after_extension t =
    option_or (after_parameter t) (option_or (after_labelled t) (after_dashed t))

-- what follows perhaps an extension
abbrev pub after_perhaps_extension : List ℕ → List ℕ
after_perhaps_extension t = unwrap_or (after_extension t) t
