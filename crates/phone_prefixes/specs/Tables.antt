-- Tables of prefixes, and the entry whose prefix is the longest that begins a text.
use Rattle.std.specs.Prelude.{◌≡◌, ◌≤◌, ◌&&◌, ℕ, Bool, true, nat_le, List, [], ◌∷◌, ◌++◌}
use Rattle.std.specs.Prelude.{length}
use Rattle.std.specs.Char.{is_ascii_digit}
use Rattle.std.specs.List.{list_all, Contains}
use Rattle.std.specs.Str.{IsUtf8}
use Rattle.phone_lines.specs.Lines.{AreLines, without_return}
use Rattle.phone_prefixes.specs.Marks.{Begins}

-- an entry: its prefix, and the text that the prefix has
pub record Entry : Type 0 where
  pub prefix : List ℕ
  pub text : List ℕ

-- a prefix is 1 to 15 ASCII digits
abbrev pub is_prefix : List ℕ → Bool
is_prefix bytes =
    nat_le 1 (length bytes) && nat_le (length bytes) 15 && list_all is_ascii_digit bytes

-- a line is an entry's: the prefix, a tab, and the text in UTF-8
pub record IsEntry (line : List ℕ) (entry : Entry) : Type 0 where
  pub whole : line ≡ entry.prefix ++ 9 ∷ entry.text
  pub prefix : is_prefix entry.prefix ≡ true
  pub text : IsUtf8 entry.text

-- one of the entries has this prefix
abbrev pub HasPrefix : List Entry → List ℕ → Type 0
HasPrefix entries prefix = (entry : Entry) × Contains entries entry × (entry.prefix ≡ prefix)

-- a line is an entry's, whose prefix is another than theirs, and which comes after them
pub record IsOneMore (entries : List Entry) (line : List ℕ) (more : List Entry) : Type 0 where
  pub entry : Entry
  pub is : IsEntry line entry
  pub other : HasPrefix entries entry.prefix → ⊥
  pub all : more ≡ entries ++ entry ∷ []

-- the entries of lines, in the order of the lines
pub data AreEntries : List (List ℕ) → List Entry → Type 0 where
  none : AreEntries [] []
  next : (lines : List (List ℕ)) (entries all : List Entry) (line : List ℕ) →
      AreEntries lines entries → IsOneMore entries (without_return line) all →
      AreEntries (lines ++ line ∷ []) all

-- bytes are the text of a table: each of their lines is an entry's, in their order
abbrev pub IsTable : List ℕ → List Entry → Type 0
IsTable bytes entries = (lines : List (List ℕ)) × AreLines bytes lines × AreEntries lines entries

-- no prefix begins the text
abbrev pub NoneBegins : List Entry → List ℕ → Type 0
NoneBegins entries text = (entry : Entry) → Contains entries entry → Begins entry.prefix text → ⊥

-- the entry has the longest of the prefixes that begin the text
pub record IsLongest (entries : List Entry) (text : List ℕ) (entry : Entry) : Type 0 where
  pub is : Contains entries entry
  pub begins : Begins entry.prefix text
  pub longest : (other : Entry) → Contains entries other → Begins other.prefix text →
      length other.prefix ≤ length entry.prefix
