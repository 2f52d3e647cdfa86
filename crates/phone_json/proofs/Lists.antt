-- The items of an array, as a list.
use Rattle.std.proofs.Common.{◌≡◌, ◌∷◌, [], List, ap, refl}
use Rattle.serde_json.specs.Data.{Data}
use Rattle.serde_json.specs.View.{items_of}
use Rattle.phone_json.specs.Fields.{listed}

pub listed_items_of : (ds : List Data) → listed (items_of ds) ≡ ds
listed_items_of [] = refl
listed_items_of (d ∷ ds) = ap (λ xs. d ∷ xs) (listed_items_of ds)
