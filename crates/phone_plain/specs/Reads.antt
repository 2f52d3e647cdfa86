-- What is read of a plain pattern is what the grammar of patterns reads there. The grammar's
-- functions take a number that bounds their calls: any number serves that is large enough.
use Rattle.std.specs.Prelude.{◌≡◌, ◌≤◌, ◌<◌, ℕ, ◌+◌, ◌*◌, max, length, ◌∷◌, Option, Some}
use Rattle.std.specs.Prelude.{Bool, true, false, if◌then◌else◌}
use Rattle.regex_hir.specs.declared.hir.Hir.{Hir}
use Rattle.regex_hir.specs.Meaning.{meaning, cat_all, alt_all}
use Rattle.regex_hir.specs.Re.{Re, group}
use Rattle.regex_syntax.specs.Brackets.{Nested}
use Rattle.regex_syntax.specs.Grammar.{Place, group_count, item, items, branches, join_parts}
use Rattle.regex_syntax.specs.Grammar.{with_repetitions, opening, opens}
use Rattle.regex_syntax.specs.Reading.{is_at}
use Rattle.phone_automaton.specs.Ascii.{AsciiSame}
use Rattle.phone_plain.specs.Grammar.{place}
use Rattle.phone_plain.specs.declared.cursor.Cursor.{Cursor}

-- how many characters are left
abbrev pub left : Cursor → ℕ
left at = length at.rest.now

-- a tree matches ASCII as a part does, and the part's groups are those opened between two places
pub record StandsFor (hir : Hir) (part : Nested Re) (from to : Cursor) : Type 0 where
  pub matches : AsciiSame (meaning hir) part.value
  pub groups : max (from.groups + 1) (group_count part.value) ≡ to.groups + 1

-- a reader of the grammar, with the number that bounds its calls
abbrev pub Reader : Type 0
Reader = ℕ → Place → Option (Nested Re × Place)

-- from one place to the other, the grammar's reader reads what the tree stands for
pub record IsRead (reader : Reader) (spare : ℕ) (from : Cursor) (hir : Hir) (to : Cursor)
    : Type 0 where
  pub part : Nested Re
  pub stands : StandsFor hir part from to
  pub goes_on : left to ≤ left from
  pub reads : (n : ℕ) → 2 * left from + spare ≤ n → reader n (place from) ≡ Some (part, place to)

-- branches, in a group or as a whole pattern
abbrev pub choice : Reader
choice n p = join_parts alt_all (branches n p)

-- the parts of one branch
abbrev pub sequence : Reader
sequence n p = join_parts cat_all (items n p)

-- one part of a branch, with its operators of repetition
abbrev pub part : Reader
part n p = item (choice n) p

-- what is between two places is a group, or a part without parts, before its operators
pub record IsUnit (from : Cursor) (hir : Hir) (to : Cursor) : Type 0 where
  pub part : Nested Re
  pub stands : StandsFor hir part from to
  pub goes_on : left to < left from
  pub reads : (n : ℕ) → 2 * left from ≤ n →
      item (choice n) (place from) ≡ with_repetitions part (place to)

-- what a group makes of the pattern inside it
abbrev pub in_group : Bool → ℕ → Re → Re
in_group true k re = group k re
in_group false k re = re

-- from one place to the other, a group opens
pub record IsOpening (from : Cursor) (captures : Bool) (inside : Cursor) : Type 0 where
  pub starts : is_at "(" from.rest.now ≡ true
  pub groups : inside.groups ≡ (if captures then from.groups + 1 else from.groups)
  pub goes_on : left inside < left from
  pub reads : opening (place from) ≡
      Some (opens (in_group captures inside.groups), place inside)

-- a bar is at the front, and a branch behind it
pub record IsOther (from : Cursor) (hir : Hir) (to : Cursor) : Type 0 where
  pub next : Cursor
  pub bar : from.rest.now ≡ 124 ∷ next.rest.now
  pub same_groups : next.groups ≡ from.groups
  pub branch : IsRead sequence 1 next hir to
