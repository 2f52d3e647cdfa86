-- The keys on which a text is dialled.
use Rattle.std.specs.Prelude.{ℕ, ◌==◌, ◌&&◌, Bool, if◌then◌else◌, List, [], ◌∷◌, encode_utf8_all}
use Rattle.std.specs.Prelude.{is_some, Option, None, Some}
use Rattle.std.specs.List.{filter_map}
use Rattle.std.specs.Option.{option_map_or}
use Rattle.std.specs.Str.{bytes_eq}
use Rattle.phone_parts.specs.Texts.{begins}
use Rattle.phone_library_text.specs.Letters.{key_of}

-- a character stands on a key
abbrev pub has_key : ℕ → Bool
has_key c = is_some (key_of c)

-- the keys on which the digits and letters of a text are dialled
abbrev pub keys_of : List ℕ → List ℕ
keys_of t = filter_map key_of t

-- a text begins with a key, and these are its keys
abbrev pub is_dialled_by : (digits t : List ℕ) → Bool
is_dialled_by digits t = begins has_key t && bytes_eq (keys_of t) digits

-- the end of a text that is dialled by these digits: no shorter one is
abbrev pub dialled_end : (digits t : List ℕ) → Option (List ℕ)
dialled_end digits [] = None
dialled_end digits (c ∷ cs) = if is_dialled_by digits (c ∷ cs)
    then Some (encode_utf8_all (c ∷ cs)) else dialled_end digits cs

-- what is left of digits behind the first one, where that is this key
abbrev pub behind : (key : ℕ) → (digits : List ℕ) → Option (List ℕ)
behind key [] = None
behind key (d ∷ ds) = if key == d then Some ds else None

-- the same behind the key of a character; all of them where it stands on no key
abbrev pub behind_key : ℕ → (digits : List ℕ) → Option (List ℕ)
behind_key c digits = option_map_or (λ key. behind key digits) (key_of c) (Some digits)
