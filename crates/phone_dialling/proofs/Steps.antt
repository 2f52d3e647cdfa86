-- The keys of a text, one after another.
use Rattle.std.proofs.Common.{◌≡◌, ℕ, ◌&&◌, ◌==◌, Bool, true, false, if◌then◌else◌, List, [], ◌∷◌, Option, None, Some, is_some, unwrap_or, encode_utf8_all, length, refl, ap, sym, arith, true≢false}
use Rattle.std.proofs.lemmas.Bool.{cond-true, ne_eqb}
use Rattle.std.specs.List.{cons_option}
use Rattle.std.specs.Option.{option_map_or}
use Rattle.std.specs.Str.{bytes_eq}
use Rattle.phone_library_text.specs.Letters.{key_of}
use Rattle.phone_dialling.specs.Keys.{behind, behind_key, dialled_end, is_dialled_by, keys_of}

-- a key that is the first of the digits leaves the others
matched_by : (b : Bool) (ks ds more : List ℕ) → (if b then Some ds else None) ≡ Some more → (b && bytes_eq ks ds) ≡ bytes_eq ks more
matched_by true ks ds more h = ap (λ (o : Option (List ℕ)). bytes_eq ks (unwrap_or o ds)) h
matched_by false ks ds more h = absurd (true≢false (sym (ap is_some h)))

-- one that isn't ends it
missed_by : (b : Bool) (ks ds : List ℕ) → (if b then Some ds else None) ≡ None → (b && bytes_eq ks ds) ≡ false
missed_by true ks ds h = absurd (true≢false (ap is_some h))
missed_by false ks ds h = refl

key_by : (key : Option ℕ) (ks left more : List ℕ) → option_map_or (λ k. behind k left) key (Some left) ≡ Some more →
    bytes_eq (cons_option key ks) left ≡ bytes_eq ks more
key_by None ks left more h = ap (λ (o : Option (List ℕ)). bytes_eq ks (unwrap_or o left)) h
key_by (Some k) ks [] more h = absurd (true≢false (sym (ap is_some h)))
key_by (Some k) ks (d ∷ ds) more h = matched_by (k == d) ks ds more h

no_key_by : (key : Option ℕ) (ks left : List ℕ) → option_map_or (λ k. behind k left) key (Some left) ≡ None →
    bytes_eq (cons_option key ks) left ≡ false
no_key_by None ks left h = absurd (true≢false (ap is_some h))
no_key_by (Some k) ks [] h = refl
no_key_by (Some k) ks (d ∷ ds) h = missed_by (k == d) ks ds h

-- one character of the text
pub step_so : (c : ℕ) (cs left more : List ℕ) → behind_key c left ≡ Some more → bytes_eq (keys_of (c ∷ cs)) left ≡ bytes_eq (keys_of cs) more
step_so c cs left more h = key_by (key_of c) (keys_of cs) left more h

pub stop_so : (c : ℕ) (cs left : List ℕ) → behind_key c left ≡ None → bytes_eq (keys_of (c ∷ cs)) left ≡ false
stop_so c cs left h = no_key_by (key_of c) (keys_of cs) left h

-- the end that is dialled so stands here, or further on
pub here_so : (digits t : List ℕ) (c : ℕ) (cs : List ℕ) → t ≡ c ∷ cs → is_dialled_by digits t ≡ true →
    dialled_end digits t ≡ Some (encode_utf8_all t)
here_so digits [] c cs e h = absurd (true≢false (sym h))
here_so digits (d ∷ ds) c cs e h = cond-true _ _ _ h

-- no key at all
pub nothing_so : (left : List ℕ) → (length left == 0) ≡ bytes_eq [] left
nothing_so [] = refl
nothing_so (d ∷ ds) = ne_eqb (length (d ∷ ds)) 0 (λ e. omega (arith, e))
