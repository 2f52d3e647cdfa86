-- The summary of the rows so far, and one row more.
use Rattle.std.proofs.Common.{◌≡◌, List, [], ◌∷◌, ◌++◌, sym, subst}
use Rattle.std.specs.Prelude.{map}
use Rattle.std.proofs.lemmas.List.{map-append}
use Rattle.phone_table.specs.Summaries.{IsEmpty, IsSummary}
use Rattle.phone_table.specs.declared.summary.Summary.{Summary}
use Rattle.phone_table.proofs.Counting.{empty_summary}
use Rattle.phone_table.specs.Answered.{Answered}
use Rattle.phone_table.specs.Rows.{row_of}
use Rattle.phone_table.specs.Summed.{IsSummed, SumsRow, told_of}
use Rattle.phone_table.specs.declared.run.Asked.{Asked}

pub sums_none : (asked : Asked) (s : Summary) → IsEmpty s → IsSummed asked [] s
sums_none asked s is = λ on. empty_summary s is

pub sums_one : (asked : Asked) (all : List Answered) (a : Answered) (before after : Summary) → IsSummed asked all before → SumsRow asked (row_of a) before after → IsSummed asked (all ++ a ∷ []) after
sums_one asked all a before after is one = λ on.
    subst (λ rows. IsSummary rows after) (sym (map-append (λ (x : Answered). told_of asked.extra.now (row_of x)) all (a ∷ [])))
    (one.summed on (map (λ (x : Answered). told_of asked.extra.now (row_of x)) all) (is on))

-- the same where all are told anew
pub sums_held : (asked : Asked) (all more : List Answered) (a : Answered) (before after : Summary) → more ≡ all ++ a ∷ [] → IsSummed asked all before → SumsRow asked (row_of a) before after → IsSummed asked more after
sums_held asked all more a before after same is one = subst (λ (xs : List Answered). IsSummed asked xs after) (sym same) (sums_one asked all a before after is one)
