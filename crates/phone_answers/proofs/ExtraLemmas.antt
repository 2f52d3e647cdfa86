-- What columns tell, put behind the fields of a record one after the other.
use Rattle.std.proofs.Common.{◌≡◌, ℕ, List, [], ◌∷◌, ◌++◌, Option, ap, ◌∙◌, append_assoc}
use Rattle.phone_values.specs.declared.country.Id.{Id}
use Rattle.phone_values.specs.declared.reading.Reading.{Reading}
use Rattle.phone_csv.specs.Formats.{Record}
use Rattle.phone_records.specs.declared.loader.Metadata.{Metadata}
use Rattle.phone_values.specs.declared.rules.Rules.{Rules}
use Rattle.phone_answers.specs.Extras.{AreTold, IsTold}
use Rattle.phone_answers.specs.Extras.AreTold.{next}
use Rattle.phone_answers.specs.declared.extra.Extra.{Extra}

module _ (rules : Rules) (db : List Metadata) (under : Option (Option Id)) (field : List ℕ) (number : Option Reading) (extra : List Extra) (old : Record) where
  -- what the columns that are left tell completes what all tell
  abbrev pub Completes : List Extra → Record → Type 0
  Completes left fields = (rest : Record) → AreTold rules db under field number left rest →
      (all : Record) × AreTold rules db under field number extra all × (fields ++ rest ≡ old ++ all)

  -- one more column
  pub one_more : (column : Extra) (left : List Extra) (fields more : Record) (text : List ℕ) → Completes (column ∷ left) fields →
      IsTold rules db under field number column text → more ≡ fields ++ text ∷ [] → Completes left more
  one_more column left fields more text completes told is rest are =
      let x = completes (text ∷ rest) (next column left text rest told are) in
      (x.0, x.1, ap (λ f. f ++ rest) is ∙ append_assoc fields (text ∷ []) rest ∙ x.2)
