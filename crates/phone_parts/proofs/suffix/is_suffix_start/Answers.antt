use Rattle.std.proofs.Common.{◌≡◌, ℕ, true, false, not, refl, ap, sym, ◌∙◌}
use Rattle.std.proofs.lemmas.Bool.{not-true}
use Rattle.phone_chars.specs.Characters.{is_digit, is_one_of}
use Rattle.phone_parts.specs.Suffixes.{is_suffix_start, suffix_starts}
use Rattle.phone_parts.proofs.Foldings.{simple_fold-digit}
use Rattle.phone_parts.proofs.PrintedInternational.{digit_nd}
use Rattle.phone_parts.proofs.PrintedTexts.{digit_passes}
use Rattle.phone_parts.proofs.suffix.is_suffix_start.Goals as goal

-- a digit folds to itself, and none of the foldings is a digit
no_digit_starts : (c : ℕ) → is_digit c ≡ true → is_suffix_start c ≡ false
no_digit_starts c digit =
    ap (is_one_of suffix_starts) (simple_fold-digit c (digit_nd c digit))
    ∙ not-true _ (digit_passes (λ d. not (is_one_of suffix_starts d)) refl c digit)

pub returns-else-not-is_digit : goal.returns-else-not-is_digit
returns-else-not-is_digit c =
    ap not c.if-not-is_digit.false
    ∙ sym (no_digit_starts c.args.c (sym c.is_digit.ensures ∙ c.if-not-is_digit.false))
