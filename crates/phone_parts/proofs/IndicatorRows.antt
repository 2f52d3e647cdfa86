-- Each indicator announces an extension.
use Rattle.std.proofs.Common.{◌≡◌, ℕ, Bool, true, false, ◌||◌, List, [], ◌∷◌, ◌++◌, map, codes, refl, ap}
use Rattle.std.proofs.lemmas.Bool.{or_left, or_right}
use Rattle.std.proofs.lemmas.Slice.Eq.{bytes_eq-Decides}
use Rattle.std.specs.List.{list_any}
use Rattle.std.specs.Str.{bytes_eq}
use Rattle.ucd_case.specs.CaseFolding.{simple_fold}
use Rattle.ucd_category.proofs.Computing.{ucd_category}
use Rattle.phone_parts.specs.Suffixes.{IsSuffix, indicators}
use Rattle.phone_parts.specs.Texts.{is_like}
use Rattle.phone_parts.specs.declared.suffix.Form.TheVariants.{Indicated}
use Rattle.phone_parts.proofs.NaturalRows.{indicated_of}

-- a text is like itself
like_same : (a b : List ℕ) → bytes_eq a b ≡ true → is_like a b ≡ true
like_same a b e = (bytes_eq-Decides (map simple_fold a) (map simple_fold b)).1 (ap (map simple_fold) ((bytes_eq-Decides a b).0 e))

-- so a member is like a member
any_like_same : (w : List ℕ) (words : List (List ℕ)) → list_any (bytes_eq w) words ≡ true → list_any (is_like w) words ≡ true
any_like_same w [] any = any
any_like_same w (v ∷ vs) any = at_head (bytes_eq w v) refl any (any_like_same w vs)
  where
    at_head : (b : Bool) → bytes_eq w v ≡ b → (b || list_any (bytes_eq w) vs) ≡ true → (list_any (bytes_eq w) vs ≡ true → list_any (is_like w) vs ≡ true) →
        (is_like w v || list_any (is_like w) vs) ≡ true
    at_head true e f g = or_left _ _ (like_same w v e)
    at_head false e f g = or_right _ _ (g f)

pub like_indicator : (w : List ℕ) → list_any (is_like w) indicators ≡ true → IsSuffix (w ++ codes "5") Indicated (codes "5")
unfolding ucd_category
like_indicator w announces =
    indicated_of [] w [] [] (codes "5") [] refl announces refl refl refl refl

pub each_indicator : (w : List ℕ) → list_any (bytes_eq w) indicators ≡ true → IsSuffix (w ++ codes "5") Indicated (codes "5")
each_indicator w member = like_indicator w (any_like_same w indicators member)
