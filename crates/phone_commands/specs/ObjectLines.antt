-- A JSON object for each line.
use Rattle.std.specs.Prelude.{◌≡◌, ℕ, ◌+◌, List, [], ◌∷◌, ◌++◌, Option}
use Rattle.phone_csv.specs.Feeds.{counted}
use Rattle.phone_records.specs.declared.loader.Metadata.{Metadata}
use Rattle.phone_answers.specs.Objects as table
use Rattle.phone_answers.specs.declared.extra.Extra.{Extra}
use Rattle.phone_values.specs.declared.country.Id.{Id}
use Rattle.phone_values.specs.declared.rules.Rules.{Rules}

-- the number after this one, as it is counted
abbrev pub after_one : ℕ → ℕ
after_one n = counted (n + 1)

-- a line of this number is answered by the text of its object, in which is what columns tell, and a
-- line feed
abbrev pub IsObjectLine : Rules → List Metadata → (short : Option (List Metadata)) → List Extra →
    Option Id → (place : ℕ) → List ℕ → List ℕ → Type 0
IsObjectLine rules db short extra hint place line answer = (text : List ℕ) ×
    table.IsObjectLine rules db short extra hint place line text × (answer ≡ text ++ 10 ∷ [])
