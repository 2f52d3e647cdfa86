-- What a pointer owns that is null or the place of a boxed value, for each type of the value.
-- Assumes `Logic`.
use Rattle.std.proofs.Common.{◌≡◌, ℕ, List, [], ◌∷◌, refl}
use seplogic.Ra.Ura.{Ura}
use mir.Syntax.{impl, tnil, dnil}
use mir.Val.{Val, vstruct, vcons, vnil}
use mir.Raw.{raw as bare}
use base.Fraction.{full_share}
use base.Logic.{ent, via, snd∗, guard, guard_i}
use types.Logic.{Logic, sem}
use types.Kit.{given, learn, use1, Item, Goal, Seq, ‵, ◌$◌, drop}
use contract.Monad.{fact_use}
use denote.Memory.{lone}
use denote.Param.Laws.{Laws}
use denote.RattleType.{RattleType}
use denote.RawPtr.{Ptr, Testable, block_ptr, lies_at, null_ptr, ptr_val}
use Rattle.std.proofs.GlobalToken.{dealloc_token-Testable}
use Rattle.std.proofs.alloc.Global.TheLaws as heap_laws
use Rattle.std.specs.contracts.alloc.Global as heap
use Rattle.std.specs.contracts.impls.GlobalAllocator.TheImpl.{ghosts}
use Rattle.std_alloc.proofs.BoxSteps.Form.{Bx}
use Rattle.phone_c_base.specs.Owned.{boxed_at, c_heap, pointer_owns}

-- a handle is one pointer
abbrev pub pointer : Ptr → Val
pointer p = vstruct (vcons (ptr_val p) vnil)

-- a box over the C library's heap, as the kit's steps for boxes take it
abbrev pub box_of : (R : RattleType) → Laws R → Bx
box_of R L = record {
  row = R;
  laws = L;
  al = record { row = heap.the_row; laws = heap_laws.the_row_laws; g = ghosts; d = impl [] tnil dnil; drops = impl [] tnil dnil };
}

module _ {M : Type 1} {𝓤 : Ura M} (𝓛 : Logic 𝓤) (R : RattleType) where
  -- a pointer that the heap may free may be compared with null
  boxed_at-Testable : (p : Ptr) (x : R.Denot) → ent 𝓤 (sem 𝓛 (boxed_at R p x)) (guard 𝓤 (Testable p) (sem 𝓛 (boxed_at R p x)))
  boxed_at-Testable p x =
      fact_use 𝓤 (Testable p) (via 𝓤 _ (snd∗ 𝓤 (sem 𝓛 (lies_at R full_share p x)) (sem 𝓛 (ghosts.dealloc_token c_heap (bare (lone R.mir)) p))) (dealloc_token-Testable 𝓛 c_heap (bare (lone R.mir)) p)) (guard_i 𝓤 (Testable p) (sem 𝓛 (boxed_at R p x)))

module _ {M : Type 1} {𝓤 : Ura M} {𝓛 : Logic 𝓤} {K : Type 0} {Γ : List (Item 𝓤)} {G : Goal 𝓤 𝓛.H} where
  -- nothing is owned at null; a pointer to a block may be compared with null
  pub null_or_block : K → (R : RattleType) (p : Ptr) (x : R.Denot) → (p ≡ null_ptr → Seq K 𝓛 Γ G)
      → ((b o : ℕ) → p ≡ block_ptr b o → Testable (block_ptr b o) → Seq K 𝓛 (‵ (boxed_at R (block_ptr b o) x) ∷ Γ) G)
      → Seq K 𝓛 (‵ (pointer_owns R p x) ∷ Γ) G
  null_or_block t R null_ptr x n k = drop t $ n refl
  null_or_block t R (block_ptr b o) x n k =
      let p : Ptr = block_ptr b o in
      use1 𝓛 (given (Testable p) (‵ (boxed_at R p x))) (boxed_at-Testable 𝓛 R p x) $ learn t (λ may. k b o refl may)
