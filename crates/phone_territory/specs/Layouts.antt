-- How one layout lays digits out: after the original's `formatter`.
use Rattle.std.specs.Prelude.{ℕ, ◌&&◌, Bool, true, List, [], ◌∷◌, reverse}
use Rattle.std.specs.Prelude.{Option, None, Some, option_map, unwrap_or}
use Rattle.std.specs.Option.{option_or, option_map_or}
use Rattle.phone_territory.specs.First.{at_start, is_whole_match, replaced}
use Rattle.phone_pattern.specs.Rules.{ruled_template}
use Rattle.phone_records.specs.declared.loader.Format.{Format}

-- the text of a layout's pattern
abbrev pub layout_pattern : Format → List ℕ
layout_pattern f = unwrap_or f.pattern []

-- the text of its template
abbrev pub layout_template : Format → List ℕ
layout_template f = unwrap_or f.format []

-- what suits digits, by the leading patterns from the last on: anything where there is none, else
-- the last has to match at their front, and the pattern to match them whole
abbrev pub suits_by : List ℕ → List ℕ → List (List ℕ) → Bool
suits_by digits pattern [] = true
suits_by digits pattern (last ∷ others) = at_start last digits && is_whole_match pattern digits

-- a layout suits digits where it names no leading digits, or its last leading pattern matches at
-- their front and its pattern matches them whole
abbrev pub suits : List ℕ → Format → Bool
suits digits f = suits_by digits (layout_pattern f) (reverse f.leading_digits)

-- the rule of national text and what its $CC stands for: the carrier rule where there are a carrier
-- and such a rule, else the prefix rule and nothing
abbrev pub rule_for : Format → Option (List ℕ) → Option (List ℕ × List ℕ)
rule_for f None = option_map (λ rule. (rule, [])) f.national_prefix_formatting_rule
rule_for f (Some carrier) =
    option_or (option_map (λ rule. (rule, carrier)) f.domestic_carrier)
    (option_map (λ rule. (rule, [])) f.national_prefix_formatting_rule)

-- the template of national text, by a territory's national prefix and a carrier, changed by its
-- rule
abbrev pub national_template : Format → Option (List ℕ) → Option (List ℕ) → List ℕ
national_template f prefix carrier =
    option_map_or (λ (r : List ℕ × List ℕ).
    ruled_template (layout_template f) r.0 (unwrap_or prefix []) r.1) (rule_for f carrier)
    (layout_template f)

-- the digits with the first match of the layout's pattern replaced by a template
abbrev pub laid_by : Format → List ℕ → List ℕ → List ℕ
laid_by f template digits = replaced (layout_pattern f) template digits
