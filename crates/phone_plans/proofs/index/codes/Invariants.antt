use Rattle.std.proofs.Common.{◌≡◌, ℕ, take}
use Rattle.phone_plans.specs.CodeLookUps.{is_listed}
use Rattle.phone_index.specs.ListedCodes.{is_in}
use Rattle.phone_plans.proofs.index.codes.Given as goal

abbrev pub invariant-loop-territory : goal.invariant-loop-territory
invariant-loop-territory l = (code : ℕ) → is_in code l.codes ≡ is_listed code (take l.territory-index l.territories)
