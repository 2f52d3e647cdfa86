-- Digits are no separators.
use Rattle.std.proofs.Common.{◌≡◌, ◌<◌, ◌≤◌, ◌+◌, ◌-◌, ℕ, zero, suc, false, refl, sym, ap, ◌∙◌, arith}
use Rattle.phone_chars.specs.Characters.{is_separator}

digit : (n : ℕ) → n < 10 → is_separator (48 + n) ≡ false
digit zero h = refl
digit (suc zero) h = refl
digit (suc (suc zero)) h = refl
digit (suc (suc (suc zero))) h = refl
digit (suc (suc (suc (suc zero)))) h = refl
digit (suc (suc (suc (suc (suc zero))))) h = refl
digit (suc (suc (suc (suc (suc (suc zero)))))) h = refl
digit (suc (suc (suc (suc (suc (suc (suc zero))))))) h = refl
digit (suc (suc (suc (suc (suc (suc (suc (suc zero)))))))) h = refl
digit (suc (suc (suc (suc (suc (suc (suc (suc (suc zero))))))))) h = refl
digit (suc (suc (suc (suc (suc (suc (suc (suc (suc (suc n)))))))))) h = absurd (omega arith)

pub digit_apart : (c : ℕ) → 48 ≤ c → c ≤ 57 → is_separator c ≡ false
digit_apart c low high =
    let same : 48 + (c - 48) ≡ c = omega arith in
    ap is_separator (sym same) ∙ digit (c - 48) (omega arith)
