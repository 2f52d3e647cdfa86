-- Tables of the names of regions in a language, and the name of a region.
use Rattle.std.specs.Prelude.{◌≡◌, ◌<◌, ◌+◌, ℕ, Bool, List, [], ◌∷◌, ◌++◌, length, ⊤}
use Rattle.std.specs.Prelude.{Option, None, Some, option_map, string_bytes}
use Rattle.std.specs.List.{find}
use Rattle.std.specs.Option.{option_or}
use Rattle.std.specs.Str.{IsUtf8, bytes_eq}
use Rattle.phone_languages.specs.Locales.{Lacks}
use Rattle.phone_languages.specs.declared.names.Name.{Name}
use Rattle.phone_languages.specs.declared.fault.LineFault.{LineFault}
use Rattle.phone_languages.specs.declared.fault.LineFault.TheVariants as fault
use Rattle.phone_languages.specs.declared.fault.NamesError.{NamesError}
use Rattle.phone_languages.specs.declared.fault.NamesError.TheVariants as error

-- the id of the region that has a name
abbrev pub id_of : Name → List ℕ
id_of e = string_bytes e.id

-- the text of a name
abbrev pub text_of : Name → List ℕ
text_of e = string_bytes e.text

-- it is the name of the region with this id
abbrev pub has_id : List ℕ → Name → Bool
has_id id e = bytes_eq (id_of e) id

-- the name that a table has for an id, of several the first
abbrev pub name_of : List Name → List ℕ → Option (List ℕ)
name_of names id = option_map text_of (find (has_id id) names)

-- the name by the first of these tables that has one
abbrev pub first_name : List (List Name) → List ℕ → Option (List ℕ)
first_name [] id = None
first_name (names ∷ more) id = option_or (name_of names id) (first_name more id)

-- a line is one more name's: the id, the first tab of the line, and the name
pub record IsOneMore (names : List Name) (line : List ℕ) (all : List Name) : Type 0 where
  pub name : Name
  pub is_line : line ≡ id_of name ++ 9 ∷ text_of name
  pub first_tab : Lacks 9 (id_of name)
  pub unbroken : Lacks 10 line
  pub whole : all ≡ names ++ name ∷ []

-- bytes are the lines of names, each ended by a line feed
pub data IsTable : List ℕ → List Name → Type 0 where
  none : IsTable [] []
  next : (bytes line : List ℕ) (names all : List Name) → IsTable bytes names →
      IsOneMore names line all → IsTable (bytes ++ line ++ 10 ∷ []) all

-- what comes next doesn't begin with a name's line, and this is wrong with it
pub data IsFault (rest : List ℕ) : LineFault → Type 0 where
  no_end : 0 < length rest → Lacks 10 rest → IsFault rest fault.NoEnd
  no_tab : (line after : List ℕ) → rest ≡ line ++ 10 ∷ after → Lacks 10 line → Lacks 9 line →
      IsFault rest fault.NoTab

-- a text is refused as what comes after the lines of these names
abbrev pub RefusesNext : List Name → List ℕ → NamesError → Type 0
RefusesNext names text error.NotUtf8 = ⊥
RefusesNext names text (error.Line number what) = (number ≡ length names + 1) × IsFault text what
RefusesNext names text error.Memory = ⊤

-- the first lines are those of names, and what follows can't come after them
pub record IsFirstFault (bytes : List ℕ) (number : ℕ) (what : LineFault) : Type 0 where
  pub before : List ℕ
  pub rest : List ℕ
  pub names : List Name
  pub whole : bytes ≡ before ++ rest
  pub table : IsTable before names
  pub counted : number ≡ length names + 1
  pub fault : IsFault rest what

-- these bytes are refused
abbrev pub Refuses : List ℕ → NamesError → Type 0
Refuses bytes error.NotUtf8 = ¬ (IsUtf8 bytes)
Refuses bytes (error.Line number what) = IsFirstFault bytes number what
Refuses bytes error.Memory = ⊤
