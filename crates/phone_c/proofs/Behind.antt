-- The machine values of the handle of an atlas, and what is owned behind it. Assumes `Logic`.
use Rattle.std.proofs.Common.{◌≡◌, List, [], ◌∷◌, ◌++◌, None, refl, subst}
use seplogic.Ra.Ura.{Ura}
use mir.Val.{Val, vstruct, of_list}
use types.Logic.{Logic}
use types.Kit.{Item, Goal, Seq, Step, step, ‵, ◌$◌, drop, fsplit, fjoin, fpick, fpack, feq_i, feq_l}
use denote.RattleType.{RattleType, Valss}
use denote.RawPtr.{Ptr, RawPtr, ptr_val}
use denote.Steps.{nothing}
use denote.Struct.Struct.{within}
use denote.Struct.Owning.{shape}
use Rattle.std_alloc.proofs.BoxSteps.Form.{Bx}
use Rattle.phone_c.specs.Owned.{atlas_owns}
use Rattle.phone_c_base.proofs.Pointers.{box_of, pointer}
use Rattle.phone_c.proofs.places.owned.OwnedAtlas.TheLaws as laws_of
use Rattle.phone_c.specs.contracts.places.owned.OwnedAtlas as owned
use Rattle.phone_c.specs.declared.places.owned.OwnedAtlas.{OwnedAtlas}
use Rattle.phone_c.specs.contracts.places.handle.AtlasHandle as handle

-- what stands behind one
abbrev pub behind : RattleType
behind = owned.the_row

-- a box of that
abbrev pub E : Bx
E = box_of behind laws_of.the_row_laws

-- an atlas without anything
abbrev pub bare : OwnedAtlas
bare = record {
  locale = [];
  areas = record { own = None; english = None };
  carriers = record { own = None; english = None };
  names = [];
}

module _ {M : Type 1} {𝓤 : Ura M} {𝓛 : Logic 𝓤} {K : Type 0} {Γ : List (Item 𝓤)} {G : Goal 𝓤 𝓛.H} where
  -- what is owned at the pointer becomes the handle's
  pub shut_in : K → (p : Ptr) (x : OwnedAtlas)
      → Step K 𝓛 (‵ (handle.the_row.own_val (record { at = p; held = x }) (pointer p ∷ [])) ∷ Γ) G (‵ (atlas_owns p x) ∷ Γ) G
  shut_in t p x = step (λ s.
      nothing t $ feq_i t (List Val) (ptr_val p ∷ []) (ptr_val p ∷ []) refl $ fjoin t $ feq_i t (List Val) (pointer p ∷ []) (pointer p ∷ []) refl $ fjoin t $
      fpack t (Valss (RawPtr ∷ [])) (within (shape handle.the_type) (p, tt) (pointer p ∷ [])) (ptr_val p ∷ [], tt) $ fjoin t $ s)

  -- and back
  pub let_out : K → (h : handle.the_row.Denot) (vs : List Val)
      → (vs ≡ pointer h.at ∷ [] → Seq K 𝓛 (‵ (atlas_owns h.at h.held) ∷ Γ) G)
      → Seq K 𝓛 (‵ (handle.the_row.own_val h vs) ∷ Γ) G
  let_out t h vs k =
      fsplit t $ fpick t (λ vss. fsplit t $ feq_l t (λ ev. fsplit t $ feq_l t (λ ep. drop t $
      k (subst (λ (ps : List Val). vs ≡ vstruct (of_list (ps ++ [])) ∷ []) ep ev))))
