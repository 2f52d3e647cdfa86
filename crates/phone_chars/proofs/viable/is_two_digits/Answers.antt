use Rattle.std.proofs.Common.{◌≡◌, List, ℕ, true, length, ap, sym, eqb-true, ◌∙◌}
use Rattle.std.proofs.lemmas.Fmt.{IsAscii-from_digits}
use Rattle.std.proofs.lemmas.Str.{encodes-IsAscii, encodes-chars}
use Rattle.std.specs.List.{list_all}
use Rattle.std.specs.Str.{chars, IsUtf8}
use Rattle.phone_values.proofs.ReadBack.{all_digits}
use Rattle.phone_chars.specs.Characters.{is_digit}
use Rattle.phone_chars.proofs.viable.is_two_digits.Goals as goal

-- a text whose characters are digits has as many bytes as characters
digits_long : (t : List ℕ) → IsUtf8 t → list_all is_digit (chars t) ≡ true →
    length (chars t) ≡ length t
digits_long t utf8 digits =
    ap length (sym (encodes-IsAscii (chars t)
    (IsAscii-from_digits (chars t) (all_digits (chars t) digits))) ∙ encodes-chars t utf8)

pub returns-then-text-eq2 : goal.returns-then-text-eq2
returns-then-text-eq2 c = (
  λ h. let digits = sym c.has_digits_alone.ensures ∙ h in
      record { two = digits_long c.args.text.now c.utf8.text digits ∙ c.if-text-eq2.true; digits = digits },
  λ t. c.has_digits_alone.ensures ∙ t.digits,
)

pub returns-else-text-eq2 : goal.returns-else-text-eq2
returns-else-text-eq2 c = (
  λ h. absurd (c.if-text-eq2.false (eqb-true _ 2 h)),
  λ t. absurd (c.if-text-eq2.false (sym (digits_long c.args.text.now c.utf8.text t.digits) ∙ t.two)),
)
