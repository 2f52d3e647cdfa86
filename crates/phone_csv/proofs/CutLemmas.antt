-- How bytes are cut into records, as more of them come.
use Rattle.std.proofs.Common.{ℕ, List, [], ◌∷◌, ◌++◌, sym, subst, append_assoc}
use Rattle.std.proofs.lemmas.List.{append-nil}
use Rattle.csv.specs.declared.parser.State.{State}
use Rattle.phone_csv.specs.Formats.{Record}
use Rattle.phone_csv.specs.Records.{AreCut, IsEnded}
use Rattle.phone_csv.specs.Records.AreCut.{none, next}

-- more bytes stand behind the last record
pub AreCut-grown : (d : ℕ) (start state : State) (bytes rest more : List ℕ) (records : List Record) →
    AreCut d start bytes records state rest → AreCut d start (bytes ++ more) records state (rest ++ more)
AreCut-grown d start state bytes rest more records (none s r) = none start (bytes ++ more)
AreCut-grown d start state bytes rest more records (next b m a part left r fields others is cut) =
    subst (λ t. AreCut d start t (fields ∷ others) state (rest ++ more)) (sym (append_assoc part left more))
    (next start m state part (left ++ more) (rest ++ more) fields others is (AreCut-grown d m state left rest more others cut))

-- what stands behind the last record is one more
pub AreCut-ended : (d : ℕ) (start state after : State) (bytes rest : List ℕ) (records : List Record) (fields : Record) →
    AreCut d start bytes records state rest → IsEnded d state rest fields after → AreCut d start bytes (records ++ fields ∷ []) after []
AreCut-ended d start state after bytes rest records fields (none s r) is =
    subst (λ t. AreCut d start t (fields ∷ []) after []) (append-nil bytes)
    (next start after after bytes [] [] fields [] is (none after []))
AreCut-ended d start state after bytes rest records fields (next b m a part left r first others was cut) is =
    next start m after part left [] first (others ++ fields ∷ []) was (AreCut-ended d m state after left rest others fields cut is)
