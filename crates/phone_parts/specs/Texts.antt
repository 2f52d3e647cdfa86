-- Words on texts, as lists of characters, that the readers' definitions share.
use Rattle.std.specs.Prelude.{ℕ, Bool, false, if◌then◌else◌, List, [], ◌∷◌, length, take, drop, map}
use Rattle.std.specs.Prelude.{Option, None, Some}
use Rattle.std.specs.Str.{bytes_eq}
use Rattle.ucd_case.specs.CaseFolding.{simple_fold}
use Rattle.phone_chars.specs.Characters.{same_fold}

-- the first character is there and is in the set
abbrev pub begins : (ℕ → Bool) → List ℕ → Bool
begins p [] = false
begins p (c ∷ cs) = p c

-- the last character is there and is in the set
abbrev pub ends : (ℕ → Bool) → List ℕ → Bool
ends p [] = false
ends p (c ∷ []) = p c
ends p (c ∷ d ∷ cs) = ends p (d ∷ cs)

-- the text without its first character, where that is in the set; else all of it
abbrev pub after_one : (ℕ → Bool) → List ℕ → List ℕ
after_one p [] = []
after_one p (c ∷ cs) = if p c then cs else c ∷ cs

-- two texts are alike where their characters have the same simple foldings, one for one
abbrev pub is_like : List ℕ → List ℕ → Bool
is_like a b = bytes_eq (map simple_fold a) (map simple_fold b)

-- one text stands at the front of the other
abbrev pub is_front : List ℕ → List ℕ → Bool
is_front front text = bytes_eq (take (length front) text) front

-- the text without a front, where there is one and the text begins with it
abbrev pub without_front : Option (List ℕ) → List ℕ → List ℕ
without_front None text = text
without_front (Some front) text = if is_front front text then drop (length front) text else text

-- what follows a front of the text that is like the word; none where no such front is there
abbrev pub after_like : List ℕ → List ℕ → Option (List ℕ)
after_like text [] = Some text
after_like [] (w ∷ ws) = None
after_like (c ∷ cs) (w ∷ ws) = if same_fold c w then after_like cs ws else None
