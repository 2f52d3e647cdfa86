-- The options of the program, as the table in `src/rows.rt` has them.
use Rattle.std.specs.Prelude.{ℕ, ◌==◌, Bool, false, true, not, ◌&&◌, ◌||◌, List, [], ◌∷◌, ◌++◌, map}
use Rattle.std.specs.Prelude.{codes}
use Rattle.std.specs.Prelude.{Option, Some, None, option_map, option_and_then, if◌then◌else◌}
use Rattle.std.specs.Borrow.{Bor}
use Rattle.std.specs.List.{find}
use Rattle.std.specs.Option.{option_or}
use Rattle.std.specs.Str.{bytes_eq}
use Rattle.phone_words.specs.declared.rows.Row.{Row}
use Rattle.phone_words.specs.declared.rows.TheConstants.{MORE, ROWS}

-- a text that is lent
abbrev pub Lent : Type 0
Lent = Bor (List ℕ)

-- texts that are lent
abbrev pub texts_of : List Lent → List (List ℕ)
texts_of words = map (λ (w : Lent). w.now) words

-- a text that may be lent
abbrev pub text_in : Option Lent → Option (List ℕ)
text_in text = option_map (λ (t : Lent). t.now) text

-- a text has no character
abbrev pub is_empty : List ℕ → Bool
is_empty [] = true
is_empty (c ∷ cs) = false

-- an option of the program, with the fields that a row of the table has
pub record Entry : Type 0 where
  pub name : List ℕ
  pub short : List ℕ
  pub value : List ℕ
  pub beside : List ℕ
  pub needs : List (List ℕ)
  pub excludes : List (List ℕ)
  pub help : List ℕ

-- the option that a row describes
abbrev pub entry : Row → Entry
entry r = record {
  name = r.name.now;
  short = r.short.now;
  value = r.value.now;
  beside = r.beside.now;
  needs = texts_of r.needs.now;
  excludes = texts_of r.excludes.now;
  help = r.help.now;
}

-- the option that cells describe
abbrev pub entry_of : Lent × Lent × Lent × Lent × Bor (List Lent) × Bor (List Lent) × Lent → Entry
entry_of (name, short, value, beside, needs, excludes, help) = record {
  name = name.now;
  short = short.now;
  value = value.now;
  beside = beside.now;
  needs = texts_of needs.now;
  excludes = texts_of excludes.now;
  help = help.now;
}

-- the first options of the table
unfoldable pub first_rows : List Entry
first_rows = map (λ c. record {
  name = c.0.now;
  short = c.1.now;
  value = c.2.now;
  beside = c.3.now;
  needs = map (λ t. t.now) c.4.now;
  excludes = map (λ t. t.now) c.5.now;
  help = c.6.now;
}) ROWS

-- the others
unfoldable pub more_rows : List Entry
more_rows = map (λ c. record {
  name = c.0.now;
  short = c.1.now;
  value = c.2.now;
  beside = c.3.now;
  needs = map (λ t. t.now) c.4.now;
  excludes = map (λ t. t.now) c.5.now;
  help = c.6.now;
}) MORE

-- the options of the program
abbrev pub rows : List Entry
rows = first_rows ++ more_rows

-- an option takes a value
abbrev pub takes : Entry → Bool
takes r = not (is_empty r.value)

-- the word `--`, after which all words are operands
abbrev pub is_mark : List ℕ → Bool
is_mark word = bytes_eq word (codes "--")

-- a text is one of some words, in front of the mark
abbrev pub is_among : List ℕ → List (List ℕ) → Bool
is_among text [] = false
is_among text (w ∷ ws) = not (is_mark w) && (bytes_eq w text || is_among text ws)

-- an option counts among words: always, or where the word is there that it counts beside
abbrev pub counts : List (List ℕ) → Entry → Bool
counts words r = is_empty r.beside || is_among r.beside words

-- a word is an option's name, or its name of one letter
abbrev pub is_name : List ℕ → Entry → Bool
is_name word r = bytes_eq word r.name || (not (is_empty word) && bytes_eq word r.short)

-- the option that a word names, among words
abbrev pub named : List (List ℕ) → List ℕ → Option Entry
named words word = find (λ r. is_name word r && counts words r) rows

-- what stands after this front of a text
abbrev pub after : List ℕ → List ℕ → Option (List ℕ)
after [] text = Some text
after (c ∷ cs) [] = None
after (c ∷ cs) (d ∷ ds) = if c == d then after cs ds else None

-- what stands after an option's name and an equals sign
abbrev pub after_name : Entry → List ℕ → Option (List ℕ)
after_name r word = option_and_then (after (codes "=")) (after r.name word)

-- what stands after an option's name of one letter
abbrev pub after_short : Entry → List ℕ → Option (List ℕ)
after_short r word = if is_empty r.short then None else after r.short word

-- the value of an option that stands in one word with its name: `--csv=phone`, `-d;`
abbrev pub value_in : Entry → List ℕ → Option (List ℕ)
value_in r word = if takes r then option_or (after_name r word) (after_short r word) else None

-- the same of an option that counts among words
abbrev pub value_among : List (List ℕ) → Entry → List ℕ → Option (List ℕ)
value_among words r word = if counts words r then value_in r word else None

-- the first of some options that counts among words and whose name stands in a word with its value,
-- and that value
abbrev pub joined_in : List (List ℕ) → List Entry → List ℕ → Option (Entry × List ℕ)
joined_in words [] word = None
joined_in words (r ∷ rs) word =
    option_or (option_map (λ v. (r, v)) (value_among words r word)) (joined_in words rs word)

-- the option and its value that are one word, among words
abbrev pub joined : List (List ℕ) → List ℕ → Option (Entry × List ℕ)
joined words word = joined_in words rows word

-- a row's option, and a text that is lent
abbrev pub entry_and_text : Row × Lent → Entry × List ℕ
entry_and_text p = (entry p.0, p.1.now)
