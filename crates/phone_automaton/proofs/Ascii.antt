-- ASCII in the place of ASCII leaves a text UTF-8.
use Rattle.std.proofs.Common.{◌≡◌, ◌<◌, ◌≤◌, ◌+◌, ◌-◌, ◌++◌, ℕ, zero, suc, List, [], ◌∷◌, length}
use Rattle.std.proofs.Common.{drop, slice_index, get_or, Option, None, Some, All, refl, sym}
use Rattle.std.proofs.Common.{ap, ap₂, subst, ◌∙◌, arith, length-append, rules, take, take_at}
use Rattle.std.proofs.lemmas.List.{append_assoc, append-nil, at_drop_all, at_drop_more, drop_at}
use Rattle.std.proofs.lemmas.List.{drop-drop, get_or-append-add, get_or-drop, take-append-drop}
use Rattle.std.proofs.lemmas.Str.{IsAscii-drop, IsAscii-take, IsCharBoundary-after_ascii}
use Rattle.std.proofs.lemmas.Str.{IsCharBoundary-before_ascii, IsUtf8-append, IsUtf8-drop}
use Rattle.std.proofs.lemmas.Str.{IsUtf8-from_ascii, IsUtf8-take}
use Rattle.std.proofs.lemmas.Str.Ascii.{IsAscii-from_all, IsAscii-nil}
use Rattle.std.specs.Str.{IsAscii, IsUtf8}
use Rattle.regex.specs.Replace.{bytes_of}
use Rattle.phone_automaton.specs.Digits.{AreDigits}

-- digits are ASCII
pub digits_ascii : (text : List ℕ) → AreDigits text → IsAscii text
digits_ascii text digits = IsAscii-from_all text (λ k d h. let b = digits k d h in omega (arith, b))

-- a list of one
pub all_one : (b : ℕ) → b < 128 → All (λ x. x < 128) (b ∷ [])
all_one b small zero d h = small
all_one b small (suc k) d h = absurd (omega (arith, h))

-- a list of three
pub all_three : (a b c : ℕ) → a < 128 → b < 128 → c < 128 → All (λ x. x < 128) (a ∷ b ∷ c ∷ [])
all_three a b c p q r zero d h = p
all_three a b c p q r (suc zero) d h = q
all_three a b c p q r (suc (suc zero)) d h = r
all_three a b c p q r (suc (suc (suc k))) d h = absurd (omega (arith, h))

-- what a group spans in ASCII
pub bytes_ascii : (hay : List ℕ) (group : Option (ℕ × ℕ)) → IsAscii hay → IsAscii (bytes_of hay group)
bytes_ascii hay None ascii = IsAscii-nil
bytes_ascii hay (Some (a, b)) ascii = IsAscii-take (drop a hay) (b - a) (IsAscii-drop hay a ascii)

-- ASCII in the place of a byte of ASCII
ascii_for : (before more after : List ℕ) (b : ℕ) → b < 128 → IsAscii more →
    IsUtf8 (before ++ b ∷ after) → IsUtf8 ((before ++ more) ++ after)
ascii_for before more after b small ascii whole =
    let text = before ++ b ∷ after in
    let at = length before in
    let inside : at < length text = omega (arith, length-append before (b ∷ after)) in
    let here : get_or text at 0 < 128 = subst (λ x. x < 128)
    (sym (ap (λ k. get_or text k 0) (plus_none at) ∙ get_or-append-add before (b ∷ after) 0 0)) small in
    let front : IsUtf8 before = subst IsUtf8 (take_at before (b ∷ after) at refl)
    (IsUtf8-take text at whole (IsCharBoundary-before_ascii text at inside here)) in
    let same : drop (at + 1) text ≡ after = sym (drop-drop 1 at text) ∙ ap (drop 1)
    (drop_at before (b ∷ after) at refl) in
    let back : IsUtf8 after = subst IsUtf8 same (IsUtf8-drop text (at + 1) whole
    (IsCharBoundary-after_ascii text at whole inside here)) in
    IsUtf8-append (before ++ more) after
    (IsUtf8-append before more front (IsUtf8-from_ascii more ascii)) back
  where
    plus_none : (n : ℕ) → n ≡ n + 0
    plus_none n = omega arith

-- ASCII in the place of a byte of ASCII and a run of it
run_for : (run before more after : List ℕ) (b : ℕ) → b < 128 → IsAscii run → IsAscii more →
    IsUtf8 (before ++ b ∷ (run ++ after)) → IsUtf8 ((before ++ more) ++ after)
run_for [] before more after b small of ascii whole = ascii_for before more after b small ascii whole
run_for (c ∷ run) before more after b small of ascii whole =
    run_for run before more after c (of 0) (IsAscii-drop (c ∷ run) 1 of) ascii
    (subst (λ xs. IsUtf8 (xs ++ c ∷ (run ++ after))) (append-nil before)
    (ascii_for before [] (c ∷ (run ++ after)) b small IsAscii-nil whole))

module _ (t : List ℕ) where
  -- a byte of a template that is written as it is
  pub byte_utf8 : (at : ℕ) (out : List ℕ) → at < length t → IsUtf8 (out ++ drop at t) →
      IsUtf8 ((out ++ slice_index t at ∷ []) ++ drop (at + 1) t)
  byte_utf8 at out inside whole =
      subst IsUtf8
      (ap (λ r. out ++ r) (at_drop_more (λ xs. xs) t at 0 inside)
      ∙ sym (append_assoc out (slice_index t at ∷ []) (drop (at + 1) t)))
      whole

  -- ASCII in the place of a `$` and what it stands before
  pub two_utf8 : (at b : ℕ) (out more : List ℕ) → at + 1 < length t → slice_index t at ≡ 36 →
      slice_index (drop (at + 1) t) 0 ≡ b → b < 128 → IsAscii more → IsUtf8 (out ++ drop at t) →
      IsUtf8 ((out ++ more) ++ drop (at + 2) t)
  two_utf8 at b out more inside dollar next small ascii whole =
      let two : at + 1 + 1 ≡ at + 2 = omega arith in
      let zero_on : at + 1 + 0 ≡ at + 1 = omega arith in
      let both : drop at t ≡ 36 ∷ b ∷ drop (at + 2) t =
      at_drop_more (λ xs. xs) t at 0 (omega arith)
      ∙ ap₂ (λ c xs. c ∷ xs) dollar
      (at_drop_more (λ xs. xs) t (at + 1) 0 inside ∙ ap₂ (λ c i. c ∷ drop i t)
      (ap (slice_index t) (sym zero_on) ∙ sym (get_or-drop (at + 1) t 0 0) ∙ next) two) in
      ascii_for out more (drop (at + 2) t) b small ascii
      (subst (λ xs. IsUtf8 (xs ++ b ∷ drop (at + 2) t)) (append-nil out)
      (ascii_for out [] (b ∷ drop (at + 2) t) 36 (omega arith) IsAscii-nil
      (subst (λ r. IsUtf8 (out ++ r)) both whole)))

  -- ASCII in the place of a `$` and a run of ASCII behind it
  pub run_utf8 : (at k : ℕ) (out more : List ℕ) → at < length t → slice_index t at ≡ 36 →
      IsAscii (take k (drop (at + 1) t)) → IsAscii more → IsUtf8 (out ++ drop at t) →
      IsUtf8 ((out ++ more) ++ drop (at + (1 + k)) t)
  run_utf8 at k out more inside dollar of ascii whole =
      let r = drop (at + 1) t in
      let here : drop at t ≡ 36 ∷ r = at_drop_more (λ xs. xs) t at 0 inside ∙ ap (λ c. c ∷ r) dollar in
      let plus : at + 1 + k ≡ at + (1 + k) = omega arith in
      let next : drop k r ≡ drop (at + (1 + k)) t = drop-drop k (at + 1) t ∙ ap (λ i. drop i t) plus in
      subst (λ xs. IsUtf8 ((out ++ more) ++ xs)) next
      (run_for (take k r) out more (drop k r) 36 (omega arith) of ascii
      (subst (λ xs. IsUtf8 (out ++ 36 ∷ xs)) (sym (take-append-drop k r))
      (subst (λ xs. IsUtf8 (out ++ xs)) here whole)))

  -- at the end of the template all is written
  pub all_utf8 : (at : ℕ) (out : List ℕ) → length t ≤ at → IsUtf8 (out ++ drop at t) → IsUtf8 out
  all_utf8 at out past whole = subst IsUtf8
      (ap (λ r. out ++ r) (at_drop_all (λ xs. xs) t at past) ∙ append-nil out) whole
