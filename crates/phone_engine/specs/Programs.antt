-- What the report's program does by its words.
use Rattle.std.specs.Prelude.{◌≡◌, ◌⊎◌, ℕ, ◌+◌, ◌&&◌, nat_lt, if◌then◌else◌, codes, List, []}
use Rattle.std.specs.Prelude.{◌∷◌, ◌++◌, Option, None, Some, Result, Ok, Err, MatchResult, ⊤}
use Rattle.std.specs.Option.{option_map_or}
use Rattle.phone_values.specs.Ids.{id_of}
use Rattle.phone_values.specs.declared.country.Id.{Id}
use Rattle.phone_device.specs.Passing.{Takes, TakesFront}
use Rattle.phone_lines.specs.declared.blocks.RunError.{RunError}
use Rattle.phone_lines.specs.declared.blocks.RunError.TheVariants.{Input, Memory, Output}
use Rattle.phone_plans.specs.Texts.{IsRefusalOfSome}
use Rattle.phone_records.specs.declared.loader.Metadata.{Metadata}
use Rattle.phone_base.specs.Errors.{told}
use Rattle.phone_base.specs.declared.error.LoadMetadata.{LoadMetadata}

-- a line was written whole to a sink, or the sink failed once and took a beginning of it
abbrev pub IsTold : Option (List ℕ) → ℕ → List ℕ → Option (List ℕ) → ℕ → Type 0
IsTold taken faults line taken_then faults_then =
    (Takes taken line taken_then × (faults_then ≡ faults))
    ⊎ (TakesFront taken line taken_then × (faults_then ≡ faults + 1))

-- the line for a database that was refused: the digit of the refusal's number, from 1 to 8
abbrev pub refused_line : ℕ → List ℕ
refused_line n = codes "database refused: " ++
    (48 + (if nat_lt 0 n && nat_lt n 8 then n else 8)) ∷ 10 ∷ []

-- the line for a run that was refused
abbrev pub failed_line : RunError → List ℕ
failed_line Input = codes "input failed" ++ 10 ∷ []
failed_line Output = codes "output failed" ++ 10 ∷ []
failed_line Memory = codes "out of memory" ++ 10 ∷ []

-- the line for a word that is no region's id
abbrev pub unknown_region : List ℕ
unknown_region = codes "unknown region" ++ 10 ∷ []

-- how the program is called
abbrev pub usage : List ℕ
usage = codes "usage: phone_tool DATABASE [REGION]" ++ 10 ∷ []

-- a run that wasn't refused has status 0, a refused one 1
abbrev pub status_of : Result ⊤ RunError → ℕ
status_of (Ok _) = 0
status_of (Err _) = 1

-- the hint that words give, a file's name and perhaps a region; the line that is told of wrong ones
abbrev pub asked : List (List ℕ) → Result (Option Id) (List ℕ)
asked (path ∷ []) = Ok None
asked (path ∷ region ∷ []) = option_map_or (λ id. Ok (Some id)) (id_of region) (Err unknown_region)
asked words = Err usage

-- what a program may do: leave its source and its sink as they are; write nothing to the sink for
-- errors, or this line; run under a database and a hint, and end so
pub record Deeds : Type 1 where
  pub idle : Type 0
  pub silent : Type 0
  pub tells : List ℕ → Type 0
  pub runs : List Metadata → Option Id → Result ⊤ RunError → Type 0

-- of a run that was refused its line is told, of another nothing
abbrev pub Says : Deeds → Result ⊤ RunError → Type 0
Says does end = MatchResult end (λ _. does.silent) (λ error. does.tells (failed_line error))

-- what the program does by its words, and its status: it tells that they are wrong, or why the
-- database was refused, and reads nothing; or it runs under some database
pub data Acts (does : Deeds) (words : List (List ℕ)) : ℕ → Type 0 where
  wrong_words : (line : List ℕ) → asked words ≡ Err line → does.idle → does.tells line →
      Acts does words 2
  no_database : (hint : Option Id) (error : LoadMetadata) → asked words ≡ Ok hint →
      IsRefusalOfSome error → does.idle → does.tells (refused_line (told error).0) →
      Acts does words 3
  ran : (hint : Option Id) (db : List Metadata) (end : Result ⊤ RunError) →
      asked words ≡ Ok hint → does.runs db hint end → Says does end →
      Acts does words (status_of end)
