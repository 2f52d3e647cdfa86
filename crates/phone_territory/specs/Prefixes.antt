-- Which prefixes of an extension a reader of free text knows.
use Rattle.std.specs.Prelude.{ℕ, Bool, true, List, [], ◌∷◌, Option, None, Some, codes}
use Rattle.std.specs.List.{list_any}
use Rattle.std.specs.Str.{bytes_eq}

-- texts that a reader of free text knows as the announcement of an extension: spaces, an indicator
-- word (ext, extn, anexo, int, x), perhaps a mark, perhaps a space
abbrev pub benign_prefixes : List (List ℕ)
benign_prefixes =
    codes " ext. "
    ∷ codes " ext "
    ∷ codes " ext: "
    ∷ codes " extn. "
    ∷ codes " anexo "
    ∷ codes " int "
    ∷ codes " x"
    ∷ []

-- there is no prefix, or it is one of these
abbrev pub is_benign_prefix : Option (List ℕ) → Bool
is_benign_prefix None = true
is_benign_prefix (Some p) = list_any (bytes_eq p) benign_prefixes
