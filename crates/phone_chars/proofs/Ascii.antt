-- What the characters of ASCII are: their digits, their foldings, their keys.
use Rattle.std.proofs.Common.{◌≡◌, ◌<◌, ℕ, ◌==◌, ◌&&◌, not, Bool, true, false, List, [], ◌∷◌, Option, None, Some, get_or, slice_index_or, eqb-true, refl, ap, sym, subst, ◌∙◌, true≢false}
use Rattle.std.proofs.lemmas.Bool.{and_parts}
use Rattle.std.specs.Bool.{beq}
use Rattle.std.specs.Char.{is_ascii_digit, to_ascii_lowercase}
use Rattle.ucd_case.proofs.Computing.{ucd_case}
use Rattle.ucd_case.proofs.CaseFoldingLemmas.{simple_folding_stepped}
use Rattle.ucd_case.specs.CaseFolding.{simple_fold, simple_folding}
use Rattle.ucd_category.proofs.Computing.{ucd_category}
use Rattle.ucd_category.proofs.GeneralCategoryLemmas.{general_category_stepped}
use Rattle.ucd_category.specs.GeneralCategory.{general_category, general_category_eq}
use Rattle.ucd_category.specs.declared.GeneralCategory.TheVariants.{DecimalNumber}
use Rattle.ucd_table.proofs.Facts.{Stepped-below, same_from_beq}
use Rattle.ucd_table.proofs.TrieCheck.{all_below, all_below-at}
use Rattle.phone_chars.specs.Characters.{digit_of, is_nd}

-- the digits are `0` to `9`
pub ascii_nd : (c : ℕ) → c < 128 → is_nd c ≡ is_ascii_digit c
unfolding ucd_category
ascii_nd c h =
    same_from_beq _ _ (Stepped-below general_category general_category_stepped (λ c g. beq (general_category_eq g DecimalNumber) (is_ascii_digit c)) 128 refl c h)

-- the capital letters fold to the small ones, and each other character to itself
pub ascii_folded : (c : ℕ) → c < 128 → simple_fold c ≡ to_ascii_lowercase c
unfolding ucd_case
ascii_folded c h =
    eqb-true _ _ (Stepped-below simple_folding simple_folding_stepped (λ c v. slice_index_or v 0 c == to_ascii_lowercase c) 128 refl c h)

-- the digit of each, zero for one that has none
abbrev pub ascii_digits : List ℕ
ascii_digits =
    0 ∷ 0 ∷ 0 ∷ 0 ∷ 0 ∷ 0 ∷ 0 ∷ 0 ∷ 0 ∷ 0 ∷ 0 ∷ 0 ∷ 0 ∷ 0 ∷ 0 ∷ 0 ∷ 0 ∷ 0 ∷ 0 ∷ 0 ∷ 0 ∷ 0 ∷ 0 ∷ 0 ∷ 0 ∷ 0 ∷ 0 ∷ 0 ∷ 0 ∷ 0 ∷ 0 ∷ 0 ∷
    0 ∷ 0 ∷ 0 ∷ 0 ∷ 0 ∷ 0 ∷ 0 ∷ 0 ∷ 0 ∷ 0 ∷ 0 ∷ 0 ∷ 0 ∷ 0 ∷ 0 ∷ 0 ∷ 48 ∷ 49 ∷ 50 ∷ 51 ∷ 52 ∷ 53 ∷ 54 ∷ 55 ∷ 56 ∷ 57 ∷ 0 ∷ 0 ∷ 0 ∷ 0 ∷ 0 ∷ 0 ∷
    0 ∷ 50 ∷ 50 ∷ 50 ∷ 51 ∷ 51 ∷ 51 ∷ 52 ∷ 52 ∷ 52 ∷ 53 ∷ 53 ∷ 53 ∷ 54 ∷ 54 ∷ 54 ∷ 55 ∷ 55 ∷ 55 ∷ 55 ∷ 56 ∷ 56 ∷ 56 ∷ 57 ∷ 57 ∷ 57 ∷ 57 ∷ 0 ∷ 0 ∷ 0 ∷ 0 ∷ 0 ∷
    0 ∷ 50 ∷ 50 ∷ 50 ∷ 51 ∷ 51 ∷ 51 ∷ 52 ∷ 52 ∷ 52 ∷ 53 ∷ 53 ∷ 53 ∷ 54 ∷ 54 ∷ 54 ∷ 55 ∷ 55 ∷ 55 ∷ 55 ∷ 56 ∷ 56 ∷ 56 ∷ 57 ∷ 57 ∷ 57 ∷ 57 ∷ 0 ∷ 0 ∷ 0 ∷ 0 ∷ 0 ∷ []

-- a table's number tells what there is, and zero that there is nothing
abbrev tells : Option ℕ → ℕ → Bool
tells None d = d == 0
tells (Some e) d = (e == d) && not (d == 0)

tells_none : (o : Option ℕ) → tells o 0 ≡ true → None ≡ o
tells_none None h = refl
tells_none (Some e) h = absurd (true≢false (sym (and_parts (e == 0) false h).1))

tells_some : (o : Option ℕ) (d : ℕ) → tells o d ≡ true → ¬ (d ≡ 0) → Some d ≡ o
tells_some None d h other = absurd (other (eqb-true d 0 h))
tells_some (Some e) d h other = ap Some (sym (eqb-true e d (and_parts (e == d) _ h).0))

digits_tell : (c : ℕ) → c < 128 → tells (digit_of c) (get_or ascii_digits c 0) ≡ true
unfolding all_below
digits_tell c h = all_below-at (λ x. tells (digit_of x) (get_or ascii_digits x 0)) 128 c refl h

pub no_ascii_digit : (c place : ℕ) → c < 128 → place ≡ c → get_or ascii_digits place 0 ≡ 0 → None ≡ digit_of c
no_ascii_digit c place h e nothing =
    tells_none (digit_of c) (subst (λ d. tells (digit_of c) d ≡ true) (ap (λ x. get_or ascii_digits x 0) (sym e) ∙ nothing) (digits_tell c h))

pub some_ascii_digit : (c place : ℕ) → c < 128 → place ≡ c → ¬ (get_or ascii_digits place 0 ≡ 0) → Some (get_or ascii_digits place 0) ≡ digit_of c
some_ascii_digit c place h e some =
    tells_some (digit_of c) (get_or ascii_digits place 0)
    (subst (λ d. tells (digit_of c) d ≡ true) (ap (λ x. get_or ascii_digits x 0) (sym e)) (digits_tell c h)) some
