use Rattle.std.proofs.Common.{◌≡◌, ◌++◌, ℕ, List, [], ◌∷◌, refl}
use Rattle.phone_typed.specs.KeyedFields.{Field}
use Rattle.phone_typed.specs.Steps.{typed, typed_all}
use Rattle.phone_typed.proofs.keyed_laws.steps_give_the_same.Goals as goal

all : (a b : List ℕ) (s : Field) → typed_all (a ++ b) s ≡ typed_all b (typed_all a s)
all [] b s = refl
all (c ∷ a) b s = all a b (typed c s)

pub returns : goal.returns
returns c = all
