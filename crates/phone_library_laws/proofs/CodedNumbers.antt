-- A calling code behind a plus sign, a mark, and digits laid out.
use Rattle.std.proofs.Common.{◌≡◌, ℕ, ◌≤◌, Bool, true, false, List, [], ◌∷◌, ◌++◌, length, filter}
use Rattle.std.proofs.Common.{refl, ap, ap₂, sym, subst, ◌∙◌, append_assoc, true≢false}
use Rattle.std.proofs.lemmas.Bool.{and_from, and_parts, cond-false, cond-true, or_left, or_right}
use Rattle.std.proofs.lemmas.List.Elements.{filter-append}
use Rattle.std.proofs.lemmas.List.Folds.{list_all-append}
use Rattle.std.specs.List.{list_all}
use Rattle.phone_chars.specs.Characters.{is_digit, is_plus}
use Rattle.phone_parts.specs.Texts.{ends}
use Rattle.phone_parts.proofs.Ends.{all_wider, ends-append}
use Rattle.phone_library_laws.specs.Layouts.{IsLaidOut, is_quiet}
use Rattle.phone_library_laws.proofs.LaidOut.{is_parted, is_written, signed_viable}
use Rattle.phone_library_laws.proofs.WrittenLaidOut.{IsBefore, IsNumber}

-- nothing stands before the number
pub no_front : IsBefore []
no_front = record { no_start = refl; plain = refl }

-- digits alone are the digits among them
pub all_digits : (t : List ℕ) → list_all is_digit t ≡ true → filter is_digit t ≡ t
all_digits [] all = refl
all_digits (c ∷ cs) all =
    let parts = and_parts (is_digit c) (list_all is_digit cs) all in cond-true _ _ _ parts.0
    ∙ ap (λ t. c ∷ t) (all_digits cs parts.1)

pub some_last : (p : ℕ → Bool) (t : List ℕ) → ends p t ≡ true → ¬ (t ≡ [])
some_last p t last e = true≢false (sym last ∙ ap (ends p) e)

-- what a number with a code behind a plus sign, a mark and its digits laid out is
module _ (cd q digits : List ℕ) (mark : ℕ) (code : list_all is_digit cd ≡ true)
    (quiet : is_parted mark ≡ true) (other : is_digit mark ≡ false)
    (laid : IsLaidOut is_quiet q digits) (enough : 3 ≤ length (cd ++ digits)) where
  abbrev body : List ℕ
  body = cd ++ mark ∷ q

  parted : list_all is_parted body ≡ true
  parted =
      list_all-append is_parted cd (mark ∷ q)
      ∙ and_from _ _ (all_wider is_digit is_parted (λ c h. or_left (is_digit c) (is_quiet c) h) cd
      code) (and_from (is_parted mark) (list_all is_parted q) quiet laid.only)

  pub coded_digits : filter is_digit (43 ∷ body) ≡ cd ++ digits
  coded_digits =
      filter-append is_digit cd (mark ∷ q)
      ∙ ap₂ (λ a b. a ++ b) (all_digits cd code) (cond-false _ _ _ other ∙ laid.same)

  pub coded_number : IsNumber (43 ∷ body)
  coded_number = record {
    only = all_wider is_parted is_written (λ c h. or_right (is_plus c) (is_parted c) h) body parted;
    signed = signed_viable body parted (subst (λ t. 3 ≤ length t) (sym coded_digits) enough);
    starts = refl;
    last =
        ap (ends is_digit) (ap (λ t. 43 ∷ t) (sym (append_assoc cd (mark ∷ []) q)))
        ∙ ends-append is_digit (43 ∷ (cd ++ mark ∷ [])) q (some_last is_digit q laid.last)
        ∙ laid.last;
  }
