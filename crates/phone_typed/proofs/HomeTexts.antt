-- What is shown of keys without a plus sign.
use Rattle.std.proofs.Common.{◌≡◌, ℕ, ◌==◌, true, false, List, [], ◌∷◌, Option, None, Some, eqb-true, refl, ap, sym, ◌∙◌}
use Rattle.std.proofs.lemmas.Bool.{cond-false, cond-true, false_from_ne_true, or_right}
use Rattle.std.specs.Option.{option_map_or}
use Rattle.phone_values.specs.declared.country.Id.{Id}
use Rattle.phone_read.specs.Strips.{step}
use Rattle.phone_records.specs.declared.loader.Metadata.{Metadata}
use Rattle.phone_typed.specs.Keys.{HasNoPlus}
use Rattle.phone_typed.specs.Typed.{is_short, layout_territory, text_at, typed}

no_plus : (k : ℕ) (keys : List ℕ) → HasNoPlus (k ∷ keys) → (k == 43) ≡ false
no_plus k keys none = false_from_ne_true (k == 43) (λ e. none keys (ap (λ c. c ∷ keys) (eqb-true k 43 e)))

-- few keys are shown as they are in a territory
pub few_at : (m : Metadata) (keys : List ℕ) → is_short keys ≡ true → text_at m keys ≡ keys
few_at m keys short = cond-true _ _ _ (or_right (is_short (step m keys None).national) (is_short keys) short)

module _ (db : List Metadata) (hint : Option Id) where
  pub typed_in : (keys : List ℕ) (m : Metadata) → HasNoPlus keys → layout_territory db hint ≡ Some m → text_at m keys ≡ typed db hint keys
  typed_in [] m none e = cond-true _ _ _ (or_right (is_short (step m [] None).national) (is_short []) refl)
  typed_in (k ∷ keys) m none e =
      sym (cond-false _ _ _ (no_plus k keys none) ∙ ap (λ o. option_map_or (λ m. text_at m (k ∷ keys)) o (k ∷ keys)) e)

  pub typed_nowhere : (keys : List ℕ) → HasNoPlus keys → layout_territory db hint ≡ None → keys ≡ typed db hint keys
  typed_nowhere [] none e = refl
  typed_nowhere (k ∷ keys) none e =
      sym (cond-false _ _ _ (no_plus k keys none) ∙ ap (λ o. option_map_or (λ m. text_at m (k ∷ keys)) o (k ∷ keys)) e)

  -- few keys are shown as they are
  pub typed_short : (keys : List ℕ) → HasNoPlus keys → is_short keys ≡ true → typed db hint keys ≡ keys
  typed_short [] none short = refl
  typed_short (k ∷ keys) none short = cond-false _ _ _ (no_plus k keys none) ∙ at (layout_territory db hint)
    where
      at : (o : Option Metadata) → option_map_or (λ m. text_at m (k ∷ keys)) o (k ∷ keys) ≡ k ∷ keys
      at None = refl
      at (Some m) = few_at m (k ∷ keys) short
