-- A line, parted at its first tab.
use Rattle.std.proofs.Common.{◌≡◌, ◌==◌, ℕ, ◌+◌, ◌<◌, true, false, List, [], ◌∷◌, ◌++◌, length, get_or, take, drop, refl, ap, ap₂, sym, subst, ◌∙◌, arith, add-one, drop-cons, true≢false}
use Rattle.std.proofs.lemmas.Bool.{eqb-true}
use Rattle.std.proofs.lemmas.List.{take-append-drop}
use Rattle.std.specs.List.{list_any}
use Rattle.std.specs.Str.{IsUtf8}
use Rattle.phone_prefixes.specs.declared.fault.LineFault.TheVariants as fault
use Rattle.phone_prefixes.specs.Refusals.{IsNoEntry, IsParted}
use Rattle.phone_prefixes.specs.Refusals.IsNoEntry.{empty}
use Rattle.phone_prefixes.specs.Spans.{parted_at}
use Rattle.phone_prefixes.specs.Tables.{is_prefix, IsEntry}

pub nil_of : (xs : List ℕ) → length xs ≡ 0 → xs ≡ []
nil_of [] e = refl
nil_of (x ∷ xs) e = absurd (omega (arith, e))

pub empty_line : (line : List ℕ) → length line ≡ 0 → IsNoEntry line fault.Empty
empty_line line e = subst (λ l. IsNoEntry l fault.Empty) (sym (nil_of line e)) empty

pub parted : (line : List ℕ) (at : ℕ) → at < length line → get_or line at 0 ≡ 9 → list_any (λ c. c == 9) (take at line) ≡ false → IsParted line (take at line) (drop (at + 1) line)
parted line at less is first = record {
  whole = sym (take-append-drop at line) ∙ ap (λ xs. take at line ++ xs) (drop-cons line at 0 less ∙ ap₂ (λ c n. c ∷ drop n line) is (sym (add-one at)));
  first = first;
}

pub is_entry : (line : List ℕ) (at : ℕ) → IsParted line (take at line) (drop (at + 1) line) → is_prefix (take at line) ≡ true → IsUtf8 (drop (at + 1) line) → IsEntry line (parted_at line at)
is_entry line at h prefix text = record { whole = h.whole; prefix = prefix; text = text }

pub is_nil : (xs : List ℕ) → (length xs == 0) ≡ true → length xs ≡ 0
is_nil xs e = eqb-true (length xs) 0 e

pub is_some : (xs : List ℕ) → (length xs == 0) ≡ false → 0 < length xs
is_some [] e = absurd (true≢false e)
is_some (x ∷ xs) e = omega arith
