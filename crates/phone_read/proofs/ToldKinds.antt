-- Kinds that are told on the way to a territory.
use Rattle.std.proofs.Common.{◌≡◌, ℕ, List, Option, None, Some, IfSome}
use Rattle.phone_read.specs.Origins.{FoundKind, TellsKind}
use Rattle.phone_read.specs.declared.validator.Found.{Found}
use Rattle.phone_read.specs.declared.validator.Origin.{Origin}

-- where none was told, nothing is said
pub none_told : (digits : List ℕ) (o : Option Origin) → IfSome o (λ o. o.kind ≡ None) → IfSome o (TellsKind digits)
none_told digits None h = tt
none_told digits (Some o) h = rw h tt

-- a kind that was told where a territory was found is told of the region that its id names
pub kind_named : (digits : List ℕ) (f : Found) (o : Option Origin) → FoundKind digits f →
    IfSome o (λ o. (o.kind ≡ f.kind) × (o.territory ≡ f.last)) → IfSome o (TellsKind digits)
kind_named digits f None h is = tt
kind_named digits f (Some o) h is = rw (is.0, is.1) h
