-- Reading a template byte by byte, where each `$` names its group by one digit.
use Rattle.std.proofs.Common.{◌≡◌, ◌≢◌, ◌<◌, ◌≤◌, ◌+◌, ◌++◌, ℕ, zero, suc, List, [], ◌∷◌, length, drop, slice_index, Some, refl, sym, ap, ap₂, ◌∙◌, arith, ne_eqb}
use Rattle.std.proofs.lemmas.Bool.{cond-false}
use Rattle.std.proofs.lemmas.List.{append_assoc, append-nil, at_drop_all, at_drop_more, drop-drop, get_or-drop}
use Rattle.std.specs.List.{prefix_len}
use Rattle.regex.specs.Templates.{at_dollar, group_called, is_name_byte, name_at, number_in, written_after}
use Rattle.regex_syntax.specs.Grammar.{Names}
use Rattle.std.proofs.Common.{true, subst, not, nat_lt, ◌==◌, lt-ltb}
use Rattle.std.proofs.lemmas.Str.{IsUtf8-from_ascii, is_utf8-from_IsUtf8}
use Rattle.std.proofs.lemmas.Str.Ascii.{IsAscii-from_all}
use Rattle.std.specs.Str.{is_utf8}
use Rattle.phone_automaton.specs.Templates.{IsNamedBy}
use Rattle.phone_automaton.proofs.Ascii.{all_one, all_three}

digit_number : (n : ℕ) → n < 10 → number_in ((48 + n) ∷ []) ≡ Some n
unfolding number_in
digit_number zero h = refl
digit_number (suc zero) h = refl
digit_number (suc (suc zero)) h = refl
digit_number (suc (suc (suc zero))) h = refl
digit_number (suc (suc (suc (suc zero)))) h = refl
digit_number (suc (suc (suc (suc (suc zero))))) h = refl
digit_number (suc (suc (suc (suc (suc (suc zero)))))) h = refl
digit_number (suc (suc (suc (suc (suc (suc (suc zero))))))) h = refl
digit_number (suc (suc (suc (suc (suc (suc (suc (suc zero)))))))) h = refl
digit_number (suc (suc (suc (suc (suc (suc (suc (suc (suc zero))))))))) h = refl
digit_number (suc (suc (suc (suc (suc (suc (suc (suc (suc (suc n)))))))))) h = absurd (omega arith)

called : (names : Names) (n : ℕ) → n < 10 → group_called names ((48 + n) ∷ []) ≡ Some n
unfolding group_called
called names n h = rw (digit_number n h) refl

named : (n : ℕ) (rest : List ℕ) → n < 10 → prefix_len is_name_byte ((48 + n) ∷ rest) ≡ 1 → name_at ((48 + n) ∷ rest) ≡ Some ((48 + n) ∷ [], 1)
unfolding name_at
named n rest h one =
    rw one (cond-false _ _ _ (ne_eqb (48 + n) 123 (omega arith)))

-- a byte that is no `$` writes itself
pub writes_byte : (names : Names) (text_of : ℕ → List ℕ) (b : ℕ) (rest : List ℕ) → b ≢ 36 →
    written_after names text_of (b ∷ rest) 0 ≡ b ∷ written_after names text_of rest 0
unfolding written_after
writes_byte names text_of b rest h = rw (ne_eqb b 36 h) refl

-- bytes that are passed over
pub passed : (names : Names) (text_of : ℕ → List ℕ) (k : ℕ) (rest : List ℕ) →
    written_after names text_of rest k ≡ written_after names text_of (drop k rest) 0
unfolding written_after
passed names text_of zero rest = refl
passed names text_of (suc k) [] = refl
passed names text_of (suc k) (b ∷ rest) = passed names text_of k rest

-- a `$` writes the group that is named behind it
pub writes_named : (names : Names) (text_of : ℕ → List ℕ) (rest : List ℕ) (n k : ℕ) → IsNamedBy rest n k →
    written_after names text_of (36 ∷ rest) 0 ≡ text_of n ++ written_after names text_of (drop k rest) 0
unfolding written_after
writes_named names text_of rest n k h =
    cond-false _ _ _ (ne_eqb (slice_index rest 0) 36 h.single)
    ∙ ap (λ o. at_dollar names text_of o (written_after names text_of rest)) h.name
    ∙ rw (called names n h.small) (ap (λ w. text_of n ++ w) (passed names text_of k rest))

-- one digit alone
pub alone_named : (rest : List ℕ) (n : ℕ) → n < 10 → 0 < length rest → slice_index rest 0 ≡ 48 + n → prefix_len is_name_byte rest ≡ 1 → IsNamedBy rest n 1
alone_named [] n small some is one = absurd (omega (arith, some))
alone_named (b ∷ rest) n small some is one = record {
  small = small;
  inside = omega arith;
  ascii = IsAscii-from_all (b ∷ []) (all_one b (omega (arith, small, is)));
  single = λ e. omega (arith, small, is, e);
  name = subst (λ x. name_at (x ∷ rest) ≡ Some ((48 + n) ∷ [], 1)) (sym is)
      (named n rest small (subst (λ x. prefix_len is_name_byte (x ∷ rest) ≡ 1) is one));
}

digit_utf8 : (n : ℕ) → n < 10 → is_utf8 ((48 + n) ∷ []) ≡ true
digit_utf8 n small =
    let d = (48 + n) ∷ [] in
    is_utf8-from_IsUtf8 d (IsUtf8-from_ascii d (IsAscii-from_all d (all_one (48 + n) (omega (arith, small)))))

-- what stands before the brace that closes
inside_one : (n : ℕ) (rest : List ℕ) → n < 10 → prefix_len (λ b. not (b == 125)) ((48 + n) ∷ 125 ∷ rest) ≡ 1
inside_one n rest small = rw (ne_eqb (48 + n) 125 (omega (arith, small))) refl

one_less : (k : ℕ) → nat_lt 1 (suc (suc k)) ≡ true
one_less k = lt-ltb 1 (suc (suc k)) (omega arith)

-- a digit in braces
braced_named : (n : ℕ) (rest : List ℕ) → n < 10 → name_at (123 ∷ (48 + n) ∷ 125 ∷ rest) ≡ Some ((48 + n) ∷ [], 3)
unfolding name_at
braced_named n rest small = rw (inside_one n rest small) (rw (one_less (length rest)) (rw (digit_utf8 n small) refl))

pub in_braces_named : (rest : List ℕ) (n : ℕ) → n < 10 → 2 < length rest → slice_index rest 0 ≡ 123 → slice_index rest 1 ≡ 48 + n → slice_index rest 2 ≡ 125 → IsNamedBy rest n 3
in_braces_named [] n small some a b c = absurd (omega (arith, some))
in_braces_named (x ∷ []) n small some a b c = absurd (omega (arith, some))
in_braces_named (x ∷ y ∷ []) n small some a b c = absurd (omega (arith, some))
in_braces_named (x ∷ y ∷ z ∷ rest) n small some a b c = record {
  small = small;
  inside = omega arith;
  ascii = IsAscii-from_all (x ∷ y ∷ z ∷ []) (all_three x y z (omega (arith, a)) (omega (arith, small, b)) (omega (arith, c)));
  single = λ e. omega (arith, a, e);
  name = subst (λ x. name_at (x ∷ y ∷ z ∷ rest) ≡ Some ((48 + n) ∷ [], 3)) (sym a)
      (subst (λ y. name_at (123 ∷ y ∷ z ∷ rest) ≡ Some ((48 + n) ∷ [], 3)) (sym b)
      (subst (λ z. name_at (123 ∷ (48 + n) ∷ z ∷ rest) ≡ Some ((48 + n) ∷ [], 3)) (sym c) (braced_named n rest small)));
}

-- a `$` that stands twice writes itself once
pub writes_dollar : (names : Names) (text_of : ℕ → List ℕ) (rest : List ℕ) →
    written_after names text_of (36 ∷ 36 ∷ rest) 0 ≡ 36 ∷ written_after names text_of rest 0
unfolding written_after
writes_dollar names text_of rest = refl

module _ (names : Names) (text_of : ℕ → List ℕ) (t : List ℕ) where
  abbrev rest_from : ℕ → List ℕ
  rest_from i = written_after names text_of (drop i t) 0

  -- one byte further, where it is no `$`
  pub byte_on : (at : ℕ) (out : List ℕ) (whole : List ℕ) → at < length t → slice_index t at ≢ 36 →
      out ++ rest_from at ≡ whole → (out ++ slice_index t at ∷ []) ++ rest_from (at + 1) ≡ whole
  byte_on at out whole inside h told =
      append_assoc out (slice_index t at ∷ []) (rest_from (at + 1))
      ∙ ap (λ w. out ++ w) (sym (at_drop_more (λ xs. written_after names text_of xs 0) t at 0 inside ∙ writes_byte names text_of (slice_index t at) (drop (at + 1) t) h))
      ∙ told

  abbrev two_on : (at b : ℕ) → at + 1 < length t → slice_index t at ≡ 36 → slice_index (drop (at + 1) t) 0 ≡ b → drop at t ≡ 36 ∷ b ∷ drop (at + 2) t
  two_on at b inside dollar next =
      let two : at + 1 + 1 ≡ at + 2 = omega arith in
      let zero_on : at + 1 + 0 ≡ at + 1 = omega arith in
      at_drop_more (λ xs. xs) t at 0 (omega arith)
      ∙ ap₂ (λ c xs. c ∷ xs) dollar
      (at_drop_more (λ xs. xs) t (at + 1) 0 inside ∙ ap₂ (λ c i. c ∷ drop i t) (ap (slice_index t) (sym zero_on) ∙ sym (get_or-drop (at + 1) t 0 0) ∙ next) two)

  -- two bytes further, where they are `$`
  pub dollar_on : (at : ℕ) (out : List ℕ) (whole : List ℕ) → at + 1 < length t → slice_index t at ≡ 36 → slice_index (drop (at + 1) t) 0 ≡ 36 →
      out ++ rest_from at ≡ whole → (out ++ 36 ∷ []) ++ rest_from (at + 2) ≡ whole
  dollar_on at out whole inside dollar again told =
      append_assoc out (36 ∷ []) (rest_from (at + 2))
      ∙ ap (λ w. out ++ w) (sym (ap (λ xs. written_after names text_of xs 0) (two_on at 36 inside dollar again) ∙ writes_dollar names text_of (drop (at + 2) t)))
      ∙ told

  -- further behind what names a group
  pub named_on : (at n k : ℕ) (out more : List ℕ) (whole : List ℕ) → at < length t → slice_index t at ≡ 36 → IsNamedBy (drop (at + 1) t) n k →
      more ≡ text_of n → out ++ rest_from at ≡ whole → (out ++ more) ++ rest_from (at + (1 + k)) ≡ whole
  named_on at n k out more whole inside dollar is text told =
      let here : drop at t ≡ 36 ∷ drop (at + 1) t = at_drop_more (λ xs. xs) t at 0 inside ∙ ap (λ c. c ∷ drop (at + 1) t) dollar in
      let plus : at + 1 + k ≡ at + (1 + k) = omega arith in
      let next : drop k (drop (at + 1) t) ≡ drop (at + (1 + k)) t = drop-drop k (at + 1) t ∙ ap (λ i. drop i t) plus in
      append_assoc out more (rest_from (at + (1 + k)))
      ∙ ap (λ w. out ++ w)
      (ap (λ w. w ++ rest_from (at + (1 + k))) text
      ∙ sym (ap (λ xs. written_after names text_of xs 0) here
      ∙ writes_named names text_of (drop (at + 1) t) n k is
      ∙ ap (λ xs. text_of n ++ written_after names text_of xs 0) next))
      ∙ told

  -- at the end all is written
  pub all_on : (at : ℕ) (out : List ℕ) (whole : List ℕ) → length t ≤ at → out ++ rest_from at ≡ whole → out ≡ whole
  unfolding written_after
  all_on at out whole past told =
      sym (ap (λ w. out ++ w) (at_drop_all (λ xs. written_after names text_of xs 0) t at past) ∙ append-nil out) ∙ told
