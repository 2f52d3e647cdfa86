-- Operators of repetition, as the grammar of patterns reads them.
use Rattle.std.specs.Prelude.{◌≡◌, ◌≤◌, ◌<◌, ℕ, true, List, ◌∷◌, length, Some}
use Rattle.regex_hir.specs.declared.hir.Hir.{Hir}
use Rattle.regex_hir.specs.Meaning.{meaning}
use Rattle.regex_hir.specs.Re.{Re}
use Rattle.regex_syntax.specs.Brackets.{Nested}
use Rattle.regex_syntax.specs.Grammar.{bounds, counted_bounds, upper_bound}
use Rattle.regex_syntax.specs.Grammar.{with_repetitions, group_count}
use Rattle.regex_syntax.specs.Reading.{decimal}
use Rattle.phone_automaton.specs.Ascii.{AsciiSame}
use Rattle.phone_plain.specs.Bytes.{begins, is_digit, is_operator, is_apart}
use Rattle.phone_plain.specs.Grammar.{verbose, place}
use Rattle.phone_plain.specs.declared.bounds.Times.{Times}
use Rattle.phone_plain.specs.declared.cursor.Cursor.{Cursor}

-- a text begins with a count, and this is behind it
pub record IsCount (text : List ℕ) (n : ℕ) (rest : List ℕ) : Type 0 where
  pub starts : begins is_digit text ≡ true
  pub goes_on : length rest < length text
  pub reads : decimal true text ≡ Some (n, rest)

-- after its opening brace, a text is that of an operator, and this is behind it
pub record AreCounts (text : List ℕ) (times : Times) (rest : List ℕ) : Type 0 where
  pub starts : begins is_digit text ≡ true
  pub some : 1 ≤ times.most
  pub goes_on : length rest < length text
  pub reads : is_apart rest ≡ true →
      counted_bounds verbose text ≡ Some (times.least, Some times.most, rest)

-- a text begins with an operator, and this is behind it
pub record IsOperator (text : List ℕ) (times : Times) (rest : List ℕ) : Type 0 where
  pub some : 1 ≤ times.most
  pub goes_on : length rest < length text
  pub starts : begins is_operator text ≡ true
  pub reads : is_apart rest ≡ true →
      bounds verbose text ≡ Some (times.least, Some times.most, rest)

-- what follows a part is read, and the part under it is what the tree stands for
pub record IsRepeated (part : Nested Re) (from : Cursor) (hir : Hir) (to : Cursor) : Type 0 where
  pub whole : Nested Re
  pub matches : AsciiSame (meaning hir) whole.value
  pub same_groups : group_count whole.value ≡ group_count part.value
  pub goes_on : length to.rest.now ≤ length from.rest.now
  pub kept : to.groups ≡ from.groups
  pub reads : with_repetitions part (place from) ≡ Some (whole, place to)

-- whatever part the tree stands for, it stands for it repeated by what follows
abbrev pub Repeats : Hir → Cursor → Hir → Cursor → Type 0
Repeats sub from hir to = (part : Nested Re) → AsciiSame (meaning sub) part.value →
    IsRepeated part from hir to

-- after a first count, a text is the end of `n}` or of `n,m}`, and this is behind it
pub record IsUpper (least : ℕ) (text : List ℕ) (most : ℕ) (rest : List ℕ) : Type 0 where
  pub least_first : least ≤ most
  pub goes_on : length rest < length text
  pub reads : upper_bound verbose least text ≡ Some (Some most, 125 ∷ rest)
