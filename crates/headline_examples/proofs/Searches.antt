-- The first match of a pattern text, by what the text is read as.
use Rattle.std.proofs.Common.{◌≡◌, ◌<◌, ℕ, true, List, [], ◌∷◌, All, option_map}
use Rattle.std.proofs.Common.{nat_lt, ltb-true, sym}
use Rattle.std.proofs.lemmas.Bool.{and_parts}
use Rattle.std.proofs.lemmas.List.Elements.{All-from_recursion}
use Rattle.std.specs.Bool.{⊤}
use Rattle.std.specs.List.{list_all, AllByRecursion}
use Rattle.std.specs.Str.{chars}
use Rattle.regex.proofs.OnLiterals.{regex_on_literals, IsReadAs, same_sym}
use Rattle.regex.specs.Patterns.{Re, find_str, holds, has_bytes_at, slot_of}
use Rattle.regex_class.specs.Ranges.{in_range, in_ranges}
use Rattle.regex_hir.specs.Find.{first_from}
use Rattle.regex_hir.specs.Re.{attempt}
use Rattle.regex_hir.specs.Text.{is_boundary, char_at}
use Rattle.regex_syntax.proofs.CapturesLemmas.{alike_of_same}
use Rattle.regex_syntax.specs.Brackets.{Nested}
use Rattle.regex_syntax.specs.Grammar.{Names, read}
use Rattle.regex_syntax.specs.Same.{SameTree}
use Rattle.phone_territory.specs.First.{verbose, first_match, seen_of}
use Rattle.phone_pattern.proofs.Matches.{found}

-- what an answer unfolds to compute a search and what a template writes
unfoldable pub searching : ⊤
unfolding regex_on_literals find_str first_from attempt in_range in_ranges holds has_bytes_at
    is_boundary char_at chars slot_of
searching = tt

-- every element of a literal is a byte
small : (text : List ℕ) → list_all (λ c. nat_lt c 256) text ≡ true → All (λ x. x < 256) text
small text h = All-from_recursion _ text (each text h)
  where
    each : (cs : List ℕ) → list_all (λ c. nat_lt c 256) cs ≡ true → AllByRecursion (λ x. x < 256) cs
    each [] h = tt
    each (c ∷ cs) h =
        let both = and_parts (nat_lt c 256) _ h in (ltb-true c 256 both.0, each cs both.1)

-- the first match of a pattern text is that of what the text is read as
pub first_match-as_read : (pattern hay : List ℕ) (re : Re) →
    list_all (λ c. nat_lt c 256) hay ≡ true → IsReadAs verbose pattern re →
    first_match pattern hay ≡ option_map seen_of (find_str re hay 0)
unfolding first_match
first_match-as_read pattern hay re bytes h =
    let same : Nested Re × Names → Type 0 = λ x. SameTree x.0.value re in
    sym (found (read verbose (chars pattern)) same re hay (small hay bytes)
    (λ x s. alike_of_same (same_sym s).matches) h)
