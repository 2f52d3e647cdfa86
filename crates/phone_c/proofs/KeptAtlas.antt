-- The handle of an atlas that nothing wrote is as it was.
use Rattle.std.proofs.Common.{refl}
use Rattle.phone_c.specs.Atlases.{IsAtlasKept}
use Rattle.phone_c.specs.declared.places.handle.AtlasHandle.{AtlasHandle}
use Rattle.phone_c.proofs.Kept.{in_block}

pub kept : (h : AtlasHandle) → IsAtlasKept h h
kept h = (λ closed. closed, λ some. (in_block h.at some, refl))
