-- The text that a language has for digits, with English behind it.
use Rattle.std.specs.Prelude.{◌≡◌, ◌==◌, ◌&&◌, not, ℕ, if◌then◌else◌, List, [], length, Option}
use Rattle.std.specs.Prelude.{None, Some, unwrap_or}
use Rattle.phone_languages.specs.Locales.{is_alone}
use Rattle.phone_prefixes.specs.Tables.{Entry, IsLongest, NoneBegins}

-- what a table has for digits: the text of the longest prefix that begins them, an empty one too;
-- none without a table
abbrev pub IsTextIn : Option (List Entry) → List ℕ → Option (List ℕ) → Type 0
IsTextIn None digits text = text ≡ None
IsTextIn (Some entries) digits None = NoneBegins entries digits
IsTextIn (Some entries) digits (Some text) = (prefix : List ℕ) ×
    IsLongest entries digits (record { prefix = prefix; text = text })

-- the text of a language; where it has none, or an empty one, English's, unless the language stands
-- alone
abbrev pub told : List ℕ → (own english : Option (List ℕ)) → List ℕ
told locale own english =
    let text = unwrap_or own [] in
    if (length text == 0) && not (is_alone locale) then unwrap_or english [] else text

-- the text that a locale's language has for digits by two tables, its own and English's
abbrev pub IsTold : List ℕ → (own english : Option (List Entry)) → (digits text : List ℕ) → Type 0
IsTold locale own english digits text = (a b : Option (List ℕ)) × IsTextIn own digits a ×
    IsTextIn english digits b × (text ≡ told locale a b)
