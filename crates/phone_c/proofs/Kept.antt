-- A handle that nothing wrote is as it was.
use Rattle.std.proofs.Common.{◌≡◌, refl}
use denote.RawPtr.{Ptr, InBlock, block_ptr, null_ptr}
use Rattle.phone_c_base.specs.Handles.{IsKept}
use Rattle.phone_c_base.specs.declared.handle.Handle.{Handle}

-- a pointer that isn't null is to a block
pub in_block : (p : Ptr) → ¬ (p ≡ null_ptr) → InBlock p
in_block null_ptr some = absurd (some refl)
in_block (block_ptr b o) some = tt

pub kept : (h : Handle) → IsKept h h
kept h = (λ closed. closed, λ some. (in_block h.at some, refl, refl))
