-- What the characters of a plain pattern are: a pattern under flag x, whose groups have no name.
use Rattle.std.specs.Prelude.{◌≡◌, ℕ, List, Some}
use Rattle.regex_hir.specs.Meaning.{meaning}
use Rattle.regex_hir.specs.Re.{Re}
use Rattle.regex_syntax.specs.Brackets.{Nested}
use Rattle.regex_syntax.specs.Grammar.{read}
use Rattle.phone_automaton.specs.Ascii.{AsciiSame}
use Rattle.phone_plain.specs.Grammar.{verbose, unnamed}
use Rattle.phone_plain.specs.declared.whole.PlainPattern.{PlainPattern}

-- the grammar reads the characters; the tree matches ASCII as what it reads, and counts its groups
pub record IsPlain (text : List ℕ) (found : PlainPattern) : Type 0 where
  pub whole : Nested Re
  pub reads : read verbose text ≡ Some (whole, unnamed found.groups)
  pub matches : AsciiSame (meaning found.hir) whole.value
