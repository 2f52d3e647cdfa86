-- Texts that stand side by side at the front of a buffer.
use Rattle.std.proofs.Common.{◌≡◌, ℕ, ◌+◌, ◌-◌, ◌≤◌, List, [], ◌++◌, length, take, drop, refl, sym, subst, arith, length-append, take_at, drop_at}
use mathlib.Core.List.{append_assoc}
use Rattle.std.proofs.lemmas.Slice.{drop-append-drop}
use Rattle.phone_c_base.specs.Numbers.{IsAt}

-- two copies, the second behind the first
pub copies-append : (a b xs : List ℕ) → length a + length b ≤ length xs →
    take (length a) (a ++ drop (0 + length a) xs) ++ b ++ drop (length a + length b) (a ++ drop (0 + length a) xs)
    ≡ (a ++ b) ++ drop (length (a ++ b)) xs
copies-append a b xs room =
    let same : 0 + length a ≡ length a = omega arith in
    rw (
      same,
      take_at a (drop (length a) xs) (length a) refl,
      drop-append-drop (length a) xs a (length a + length b) (omega arith) refl,
      length-append a b,
    ) refl

IsAt-append : (before text after : List ℕ) → IsAt (before ++ (text ++ after)) (length before) text
IsAt-append before text after = (
  omega (arith, length-append before (text ++ after), length-append text after),
  (let same : length before + length text - length before ≡ length text = omega arith in
      rw (same, drop_at before (text ++ after) (length before) refl, take_at text after (length text) refl) refl),
)

pub IsAt-front : (a b rest : List ℕ) → IsAt ((a ++ b) ++ rest) 0 a
IsAt-front a b rest = subst (λ ys. IsAt ys 0 a) (sym (append_assoc a b rest)) (IsAt-append [] a (b ++ rest))

pub IsAt-back : (a b rest : List ℕ) → IsAt ((a ++ b) ++ rest) (length a) b
IsAt-back a b rest = subst (λ ys. IsAt ys (length a) b) (sym (append_assoc a b rest)) (IsAt-append a b rest)
