-- Texts that are refused.
use Rattle.std.proofs.Common.{◌≡◌, ◌∙◌, sym, ap, subst, arith, List, ℕ, ◌+◌, ◌++◌, ◌<◌, length, length-append, append_assoc}
use Rattle.std.specs.Prelude.{IsUtf8}
use Rattle.phone_compact.specs.Forms.{text, number_written}
use Rattle.phone_compact.specs.Refusals.{BeginsNone}
use Rattle.phone_compact.specs.Unique.{same_numbers, same_fronts}

module _ (bytes after : List ℕ) (len : ℕ) (is : bytes ≡ number_written len ++ after) where
  -- the length that was read, and the text, of a text that stands there
  of_text : (t rest : List ℕ) → bytes ≡ (number_written (length t) ++ t) ++ rest →
      (len ≡ length t) × (after ≡ t ++ rest)
  of_text t rest e =
      same_numbers len (length t) after (t ++ rest) (sym is ∙ (e ∙ append_assoc (number_written (length t)) t rest))

  -- there are fewer bytes
  pub refused_few : length after < len → BeginsNone text bytes
  refused_few few t rest held e =
      let h = of_text t rest e in
      let whole : length after ≡ length t + length rest = ap length h.1 ∙ length-append t rest in
      omega arith

  -- the bytes are no text
  pub refused_bytes : (bs tail : List ℕ) → after ≡ bs ++ tail → length bs ≡ len → ¬ (IsUtf8 bs) →
      BeginsNone text bytes
  refused_bytes bs tail parts count none t rest held e =
      let h = of_text t rest e in
      let same = same_fronts bs t tail rest (count ∙ h.0) (sym parts ∙ h.1) in
      none (subst IsUtf8 (sym same.0) held)
