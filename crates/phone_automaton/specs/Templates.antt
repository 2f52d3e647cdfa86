-- What a template writes in the place of a match, by the cells that a search has filled.
use Rattle.std.specs.Prelude.{◌≡◌, ◌<◌, ◌≤◌, ◌+◌, ◌*◌, ◌++◌, ◌∷◌, [], ℕ, List, Option, None}
use Rattle.std.specs.Prelude.{Some, drop, length, slice_index, slice_set, take}
use Rattle.std.specs.Str.{IsAscii}
use Rattle.regex.specs.Replace.{bytes_of}
use Rattle.regex.specs.Templates.{name_at, written_after}
use Rattle.regex_hir.specs.Find.{Match}
use Rattle.regex_syntax.specs.Grammar.{Names}
use Rattle.phone_automaton.specs.Finds.{group, group_at}

-- the text with a match replaced by what the template writes there, its `$1` by group 1; as it is
-- where there is no match
abbrev pub with_match_replaced : Names → List ℕ → List ℕ → Option Match → List ℕ
with_match_replaced names template hay None = hay
with_match_replaced names template hay (Some m) =
    (take m.start hay ++ written_after names (λ n. bytes_of hay (group m n)) template 0) ++ drop
    m.trace.end hay

-- the cells with the end of a match put in at a place; as they are where the place is behind them
abbrev pub put_in : List ℕ → ℕ → ℕ → List ℕ
put_in cells place end = slice_set cells place (end + 1)

-- the text of each group that the cells have room for
abbrev pub AreTexts : List ℕ → ℕ × ℕ → List ℕ → (ℕ → List ℕ) → Type 0
AreTexts hay span cells text_of = (n : ℕ) → 2 * n ≤ length cells →
    text_of n ≡ bytes_of hay (group_at span cells n)

-- whatever names the groups have, the template writes these bytes where a match with these cells
-- stands
abbrev pub IsWritten : List ℕ → List ℕ → ℕ × ℕ → List ℕ → List ℕ → Type 0
IsWritten template hay span cells bytes =
    (names : Names) (text_of : ℕ → List ℕ) → AreTexts hay span cells text_of →
    bytes ≡ written_after names text_of template 0

-- behind a `$` so many bytes, all of ASCII, name a group by its digit
pub record IsNamedBy (rest : List ℕ) (n count : ℕ) : Type 0 where
  pub small : n < 10
  pub inside : count ≤ length rest
  pub ascii : IsAscii (take count rest)
  pub single : ¬ (slice_index rest 0 ≡ 36)
  pub name : name_at rest ≡ Some ((48 + n) ∷ [], count)
