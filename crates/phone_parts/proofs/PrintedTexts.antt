-- What is true of ASCII digits in the readers' sets, and of texts made of them.
use Rattle.std.proofs.Common.{◌≡◌, ℕ, ◌<◌, ◌≤◌, Bool, true, false, not, ◌||◌, List, [], ◌∷◌, ◌++◌, length, Some, codes, refl, ap, ◌∙◌, arith}
use Rattle.std.proofs.lemmas.Bool.{and_parts, not-true, or_from}
use Rattle.std.proofs.lemmas.Bool.Decides.{nat_tests}
use Rattle.std.proofs.lemmas.List.Folds.{list_any-append}
use Rattle.std.specs.List.{list_any, list_all}
use Rattle.ucd_table.proofs.TrieCheck.{all_below, all_below-at}
use Rattle.phone_chars.specs.Characters.{is_digit, is_one_of}
use Rattle.phone_parts.specs.Tel
use Rattle.phone_parts.specs.Tel.{IsSignedRun}
use Rattle.phone_parts.specs.Texts.{begins}
use Rattle.phone_parts.proofs.Endings.{AreApart, member_passes}
use Rattle.phone_parts.proofs.Ends.{all_wider}
use Rattle.phone_parts.proofs.Runs.{run_begins}
use Rattle.phone_parts.proofs.Tels.{not_visual}

-- the ASCII digits
abbrev pub ascii_digits : List ℕ
ascii_digits = codes "0123456789"

-- a digit is one of them, computed over ASCII
digit_small : (c : ℕ) → is_digit c ≡ true → c < 128
digit_small c h = grind (arith, nat_tests)

digit_listed : (c : ℕ) → is_digit c ≡ true → is_one_of ascii_digits c ≡ true
unfolding all_below
digit_listed c h =
    let small : (not (is_digit c) || is_one_of ascii_digits c) ≡ true =
    all_below-at (λ x. not (is_digit x) || is_one_of ascii_digits x) 128 c refl (digit_small c h) in
    rw h at small

-- what holds of the ten holds of each
pub digit_passes : (q : ℕ → Bool) → list_all q ascii_digits ≡ true → (c : ℕ) → is_digit c ≡ true → q c ≡ true
digit_passes q all c h = member_passes q ascii_digits c all (digit_listed c h)

-- a set that has none of the ten has no digit
pub digit_apart : (q : ℕ → Bool) → list_all (λ c. not (q c)) ascii_digits ≡ true → AreApart q is_digit
digit_apart q all c h = not-true (q c) (digit_passes (λ x. not (q x)) all c h)

-- a text of one set has no character of a set apart
pub none_apart : (q p : ℕ → Bool) → AreApart q p → (xs : List ℕ) → list_all p xs ≡ true → list_any q xs ≡ false
none_apart q p apart [] all = refl
none_apart q p apart (x ∷ xs) all =
    let parts = and_parts (p x) (list_all p xs) all in or_from (q x) (list_any q xs) (apart x parts.0) (none_apart q p apart xs parts.1)

pub none_append : (p : ℕ → Bool) (a b : List ℕ) → list_any p a ≡ false → list_any p b ≡ false → list_any p (a ++ b) ≡ false
none_append p a b none_a none_b = list_any-append p a b ∙ or_from (list_any p a) (list_any p b) none_a none_b

-- after a plus sign the digits are the run, where a separator or nothing follows them
pub signed_digits : (d rest : List ℕ) → list_all is_digit d ≡ true → 1 ≤ length d → begins not_visual rest ≡ false → IsSignedRun rest (43 ∷ d) (Some d)
signed_digits d rest digits some ended =
    let run : list_all not_visual d ≡ true = all_wider is_digit not_visual (digit_passes not_visual refl) d digits in
    Tel.signed d (run_begins not_visual d run (λ e. omega (arith, some, ap length e))) run ended

-- a second number begins with a slash
abbrev pub is_slash : ℕ → Bool
is_slash c = is_one_of (47 ∷ 92 ∷ []) c
