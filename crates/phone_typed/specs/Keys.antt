-- The keys that are pressed while a number is typed, and how a text shows them.
use Rattle.std.specs.Prelude.{◌≡◌, ℕ, suc, zero, ◌==◌, ◌||◌, ◌&&◌, Bool, if◌then◌else◌, List}
use Rattle.std.specs.Prelude.{[], ◌∷◌, ◌+◌, ◌++◌, filter, get_or, Option, None, Some}
use Rattle.std.specs.List.{list_all}
use Rattle.std.specs.Option.{option_to_list}
use Rattle.std.specs.Str.{bytes_eq}
use Rattle.phone_chars.specs.Characters.{is_digit, is_one_of, is_plus}
use Rattle.phone_library_text.specs.Letters.{value_of}

-- keys: the digits, and the plus sign
abbrev pub is_key : ℕ → Bool
is_key c = is_digit c || (c == 43)

-- the key of a character: the digit of its value, in any script; before all other keys a plus sign
-- is one as well
abbrev pub key_of : List ℕ → ℕ → Option ℕ
key_of [] c = if is_plus c then Some 43 else value_of c
key_of (k ∷ keys) c = value_of c

-- the keys once a character is typed after them: most characters have no key, and change nothing
abbrev pub with_key : List ℕ → ℕ → List ℕ
with_key keys c = keys ++ option_to_list (key_of keys c)

-- the keys once all characters of a text are typed after them
abbrev pub with_keys : List ℕ → List ℕ → List ℕ
with_keys keys [] = keys
with_keys keys (c ∷ text) = with_keys (with_key keys c) text

-- the keys of a text
abbrev pub keys_in : List ℕ → List ℕ
keys_in text = with_keys [] text

-- marks between keys: the space, `(`, `)`, `-` and `.`
abbrev pub is_mark : ℕ → Bool
is_mark c = is_one_of (32 ∷ 40 ∷ 41 ∷ 45 ∷ 46 ∷ []) c

-- a text shows keys: these are all that stands in it, but for marks
abbrev pub shows : List ℕ → List ℕ → Bool
shows keys text = bytes_eq (filter is_key text) keys && list_all (λ c. is_key c || is_mark c) text

-- the beginning of a text up to its n-th key; all of it where it has fewer
abbrev pub up_to_key : ℕ → List ℕ → List ℕ
up_to_key zero text = []
up_to_key (suc n) [] = []
up_to_key (suc n) (c ∷ text) = c ∷ up_to_key (if is_key c then n else suc n) text

-- keys don't begin with a plus sign
abbrev pub HasNoPlus : List ℕ → Type 0
HasNoPlus keys = (rest : List ℕ) → ¬ (keys ≡ 43 ∷ rest)

-- past a byte of a text that shows keys, where n of them stand before it: how many stand up to it;
-- none where the byte is neither the next key nor a mark
abbrev pub passed : List ℕ → ℕ → ℕ → Option ℕ
passed keys n c =
    if is_key c then (if c == get_or keys n 0 then Some (n + 1) else None)
    else (if is_mark c then Some n else None)
