-- Where a text is parted: at the first place where a word stands in it.
use Rattle.std.specs.Prelude.{ℕ, if◌then◌else◌, List, [], ◌∷◌, length, drop, Option, None, Some}
use Rattle.std.specs.Prelude.{option_map}
use Rattle.std.specs.Option.{option_map_or}
use Rattle.phone_parts.specs.Texts.{is_front}

-- what stands before the first place of the word, and what follows the word there
abbrev pub parted : List ℕ → List ℕ → Option (List ℕ × List ℕ)
parted word [] = None
parted word (c ∷ cs) =
    if is_front word (c ∷ cs) then Some ([], drop (length word) (c ∷ cs))
    else option_map (λ (p : List ℕ × List ℕ). (c ∷ p.0, p.1)) (parted word cs)

-- what stands before the first place of the word; all of the text where it has none
abbrev pub before_first : List ℕ → List ℕ → List ℕ
before_first word text = option_map_or (λ (p : List ℕ × List ℕ). p.0) (parted word text) text
