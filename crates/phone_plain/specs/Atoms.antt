-- Parts of a pattern without parts of their own, as the grammar of patterns reads them.
use Rattle.std.specs.Prelude.{◌≡◌, ◌<◌, ℕ, false, List, length, Some}
use Rattle.regex_hir.specs.declared.hir.Hir.{Hir}
use Rattle.regex_hir.specs.Meaning.{meaning}
use Rattle.regex_hir.specs.Re.{Re}
use Rattle.regex_syntax.specs.Brackets.{Nested}
use Rattle.regex_syntax.specs.Grammar.{atom, group_count}
use Rattle.regex_syntax.specs.Reading.{is_at}
use Rattle.phone_automaton.specs.Ascii.{AsciiSame}
use Rattle.phone_plain.specs.Grammar.{verbose}

-- a text begins with a part that the tree stands for and that is no group; this is behind it
pub record IsAtom (text : List ℕ) (hir : Hir) (rest : List ℕ) : Type 0 where
  pub part : Nested Re
  pub matches : AsciiSame (meaning hir) part.value
  pub no_groups : group_count part.value ≡ 0
  pub no_group : is_at "(" text ≡ false
  pub goes_on : length rest < length text
  pub reads : atom verbose text ≡ Some (part, rest)
