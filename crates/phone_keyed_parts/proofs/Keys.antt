-- The keys that a text has, byte by byte.
use Rattle.std.proofs.Common.{◌≡◌, ℕ, Bool, true, false, ◌==◌, ◌&&◌, cond, List, [], ◌∷◌, Some, None, bytes_eq, refl}
use Rattle.std.specs.Option.{option_map_or}
use Rattle.phone_keyed_parts.specs.Layouts.{has_keys, is_key, keys_of, past_key}

-- a text has keys if what follows its first byte has those that are left
pub has_keys-past : (b : ℕ) (t ks : List ℕ) → has_keys (b ∷ t) ks ≡ option_map_or (has_keys t) (past_key b ks) false
has_keys-past b t [] = at (is_key b)
  where
    at : (k : Bool) → bytes_eq (cond k (b ∷ keys_of t) (keys_of t)) [] ≡ option_map_or (has_keys t) (cond k None (Some [])) false
    at true = refl
    at false = refl
has_keys-past b t (x ∷ ks) = at (is_key b)
  where
    same : (e : Bool) → (e && has_keys t ks) ≡ option_map_or (has_keys t) (cond e (Some ks) None) false
    same true = refl
    same false = refl

    at : (k : Bool) → bytes_eq (cond k (b ∷ keys_of t) (keys_of t)) (x ∷ ks) ≡ option_map_or (has_keys t) (cond k (cond (b == x) (Some ks) None) (Some (x ∷ ks))) false
    at true = same (b == x)
    at false = refl
