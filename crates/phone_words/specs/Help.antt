-- The text of `--help`: what stands in front of the options, the options, and what stands after.
use Rattle.std.specs.Prelude.{ℕ, List, [], ◌∷◌, ◌++◌, codes, if◌then◌else◌}
use Rattle.phone_words.specs.Rows.{Entry, is_empty, rows}
use Rattle.phone_words.specs.declared.usage.TheConstants.{BACK, FRONT}

-- a text between others; nothing where it is empty
abbrev pub between : (front text back : List ℕ) → List ℕ
between front text back = if is_empty text then [] else front ++ (text ++ back)

-- names, each after a space
abbrev pub names_text : List (List ℕ) → List ℕ
names_text [] = []
names_text (n ∷ ns) = between (codes " ") n [] ++ names_text ns

-- names, and what stands before them; nothing where there are none
abbrev pub listed : List ℕ → List (List ℕ) → List ℕ
listed front [] = []
listed front (n ∷ ns) = front ++ names_text (n ∷ ns)

-- what an option is called
abbrev pub called : Entry → List ℕ
called r = codes "  " ++ (between [] r.short (codes ", ") ++
    (r.name ++ between (codes " ") r.value []))

-- with which options an option goes, and with which it doesn't
abbrev pub company : Entry → List ℕ
company r = between (codes "; with ") r.beside [] ++ (listed (codes "; with") r.needs ++
    listed (codes "; not with") r.excludes)

-- what is told of an option
abbrev pub row_text : Entry → List ℕ
row_text r = called r ++ (company r ++ (r.help ++ codes "\n"))

-- what is told of options, one after the other
abbrev pub rows_text : List Entry → List ℕ
rows_text [] = []
rows_text (r ∷ rs) = row_text r ++ rows_text rs

-- how the program is called
unfoldable pub help_text : List ℕ
help_text = FRONT.now ++ (rows_text rows ++ BACK.now)
