-- A layout that names leading digits and suits digits matches them whole.
use Rattle.std.proofs.Common.{◌≡◌, ◌==◌, List, [], ◌∷◌, ℕ, length, reverse, true, false, sym, ap, ◌∙◌, true≢false}
use Rattle.std.proofs.lemmas.Bool.{and_parts}
use Rattle.std.proofs.lemmas.List.{length-reverse}
use Rattle.phone_records.specs.declared.loader.Format.{Format}
use Rattle.phone_territory.specs.First.{at_start, is_whole_match}
use Rattle.phone_territory.specs.Layouts.{layout_pattern, suits, suits_by}

pub suits_whole : (digits : List ℕ) (f : Format) → (length f.leading_digits == 0) ≡ false → suits digits f ≡ true →
    is_whole_match (layout_pattern f) digits ≡ true
suits_whole digits f some suited = go (reverse f.leading_digits) (length-reverse f.leading_digits) suited
  where
    go : (l : List (List ℕ)) → length l ≡ length f.leading_digits → suits_by digits (layout_pattern f) l ≡ true → is_whole_match (layout_pattern f) digits ≡ true
    go [] same suits = absurd (true≢false (ap (λ n. n == 0) same ∙ some))
    go (last ∷ others) same suits = (and_parts (at_start last digits) (is_whole_match (layout_pattern f) digits) suits).1
