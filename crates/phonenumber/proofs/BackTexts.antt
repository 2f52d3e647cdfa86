-- The characters of printed texts.
use Rattle.std.proofs.Common.{◌≡◌, inl, inr, ℕ, zero, suc, ◌<◌, ◌^◌, ◌==◌, ◌||◌, nat_le, nat_lt, Bool, true, false, if◌then◌else◌, List, [], ◌∷◌, ◌++◌, codes, length, filter, encode_utf8_all, Option, None, Some, IsUtf8, refl, ap, ap₂, sym, subst, ◌∙◌, arith, append_assoc, eqb-true, leb-true, lt-ltb, ltb-true, true≢false}
use Rattle.std.proofs.Math.Seq.{take-append_seam}
use Rattle.std.proofs.lemmas.Bool.{and_from, and_parts, cond-false, cond-true, or_cases, or_left}
use Rattle.std.proofs.lemmas.List.Folds.{list_all-append}
use Rattle.std.proofs.lemmas.Str.{IsCharBoundary-at_seam, IsUtf8-from_ascii, IsUtf8-take, chars-IsAscii, chars-append, encodes-IsAscii}
use Rattle.std.specs.Fmt.{decimal}
use Rattle.std.specs.List.{list_all}
use Rattle.std.specs.Option.{option_map_or}
use Rattle.std.specs.Str.{IsAscii, chars}
use Rattle.phone_chars.proofs.Runs.{IsUtf8-after}
use Rattle.phone_chars.specs.Characters.{is_digit, is_separator}
use Rattle.phone_values.specs.Numbers.{IsHeld, text_of}
use Rattle.phone_values.specs.declared.mode.Mode.TheVariants.{International, Rfc3966}
use Rattle.phone_records.specs.declared.loader.Format.{Format}
use Rattle.phone_records.specs.declared.loader.Metadata.{Metadata}
use Rattle.phone_parts.proofs.Ends.{all_wider}
use Rattle.phone_parts.specs.Texts.{begins}
use Rattle.phone_values.specs.declared.reading.Reading.{Reading}
use Rattle.phone_print.specs.Layouts.{laid, layout_for}
use Rattle.phonenumber.specs.Plain.{has_digits}
use Rattle.phone_print.specs.Texts.{e164_text, extension_parameter, extension_part, hyphenated, international_text, laid_out, rfc3966_text}
use Rattle.phonenumber.proofs.BackNumbers.{list_all-decimal, list_all-text_of}
use Rattle.phonenumber.proofs.BackViable.{is_parted}

-- an ASCII character
abbrev pub is_low : ℕ → Bool
is_low c = nat_lt c 128

pub low_digit : (c : ℕ) → is_digit c ≡ true → is_low c ≡ true
low_digit c digit =
    let high = leb-true c 57 (and_parts (nat_le 48 c) (nat_le c 57) digit).1 in lt-ltb c 128 (omega (arith, high))

IsAscii-low : (t : List ℕ) → list_all is_low t ≡ true → IsAscii t
IsAscii-low [] h i = omega arith
IsAscii-low (c ∷ cs) h zero = ltb-true c 128 (and_parts (is_low c) (list_all is_low cs) h).0
IsAscii-low (c ∷ cs) h (suc i) = IsAscii-low cs (and_parts (is_low c) (list_all is_low cs) h).1 i

pub IsUtf8-low : (t : List ℕ) → list_all is_low t ≡ true → IsUtf8 t
IsUtf8-low t h = IsUtf8-from_ascii t (IsAscii-low t h)

pub chars-low : (t : List ℕ) → list_all is_low t ≡ true → chars t ≡ t
chars-low t h = chars-IsAscii t (IsAscii-low t h)

low_append : (xs ys : List ℕ) → list_all is_low xs ≡ true → list_all is_low ys ≡ true → list_all is_low (xs ++ ys) ≡ true
low_append xs ys a b = list_all-append is_low xs ys ∙ and_from _ _ a b

pub low_digits : (t : List ℕ) → list_all is_digit t ≡ true → list_all is_low t ≡ true
low_digits t h = all_wider is_digit is_low low_digit t h

-- an extension, announced by a text
abbrev pub announced : List ℕ → Option (List ℕ) → List ℕ
announced words e = option_map_or (λ d. words ++ d) e []

pub low_announced : (words : List ℕ) (e : Option (List ℕ)) → list_all is_low words ≡ true → has_digits e ≡ true → list_all is_low (announced words e) ≡ true
low_announced words None w h = refl
low_announced words (Some e) w h = low_append words e w (low_digits e h)

-- a digit or a hyphen
abbrev pub is_dialled : ℕ → Bool
is_dialled c = is_digit c || (c == 45)

low_dialled : (c : ℕ) → is_dialled c ≡ true → is_low c ≡ true
low_dialled c e = elim (or_cases (is_digit c) (c == 45) e) [
  | inl digit ↦ low_digit c digit
  | inr hyphen ↦ subst (λ c. is_low c ≡ true) (sym (eqb-true c 45 hyphen)) refl
]

pub parted_dialled : (c : ℕ) → is_dialled c ≡ true → is_parted c ≡ true
parted_dialled c e = elim (or_cases (is_digit c) (c == 45) e) [
  | inl digit ↦ or_left _ _ digit
  | inr hyphen ↦ subst (λ c. is_parted c ≡ true) (sym (eqb-true c 45 hyphen)) refl
]

-- what is parted by separators is parted by hyphens, and keeps its digits
module _ (apart : (c : ℕ) → is_digit c ≡ true → is_separator c ≡ false) where
  pub all_dialled : (t : List ℕ) → list_all (λ c. is_digit c || is_separator c) t ≡ true → list_all is_dialled (hyphenated t) ≡ true
  all_dialled [] h = refl
  all_dialled (c ∷ cs) h =
      let both = and_parts (is_digit c || is_separator c) (list_all (λ c. is_digit c || is_separator c) cs) h in
      at (is_separator c) (begins is_separator cs) both.0 (all_dialled cs both.1)
    where
      at : (b more : Bool) → (is_digit c || b) ≡ true → list_all is_dialled (hyphenated cs) ≡ true →
          list_all is_dialled (if b then (if more then hyphenated cs else 45 ∷ hyphenated cs) else c ∷ hyphenated cs) ≡ true
      at true true e rest = rest
      at true false e rest = rest
      at false more e rest = elim (or_cases (is_digit c) false e) [
        | inl digit ↦ and_from _ _ (or_left _ _ digit) rest
        | inr nothing ↦ absurd (true≢false (sym nothing))
      ]

  pub hyphenated-digits : (t : List ℕ) → list_all (λ c. is_digit c || is_separator c) t ≡ true → filter is_digit (hyphenated t) ≡ filter is_digit t
  hyphenated-digits [] h = refl
  hyphenated-digits (c ∷ cs) h =
      let both = and_parts (is_digit c || is_separator c) (list_all (λ c. is_digit c || is_separator c) cs) h in
      at (is_separator c) refl (begins is_separator cs) (is_digit c) refl (hyphenated-digits cs both.1)
    where
      at : (b : Bool) → is_separator c ≡ b → (more : Bool) (d : Bool) → is_digit c ≡ d → filter is_digit (hyphenated cs) ≡ filter is_digit cs →
          filter is_digit (if b then (if more then hyphenated cs else 45 ∷ hyphenated cs) else c ∷ hyphenated cs) ≡ (if d then c ∷ filter is_digit cs else filter is_digit cs)
      at true s more true d rest = absurd (true≢false (sym s ∙ apart c d))
      at true s true false d rest = rest
      at true s false false d rest = rest
      at false s more true d rest = cond-true _ _ _ d ∙ ap (λ ds. c ∷ ds) rest
      at false s more false d rest = cond-false _ _ _ d ∙ rest

-- the digits are laid out for RFC 3966 as for International
same_laid : (f : Option Format) (m : Metadata) (carrier : Option (List ℕ)) (digits : List ℕ) → laid f m Rfc3966 carrier digits ≡ laid f m International carrier digits
same_laid None m carrier digits = refl
same_laid (Some f) m carrier digits = refl

pub laid_out-rfc3966 : (m : Metadata) (n : Reading) → laid_out m Rfc3966 None n ≡ laid_out m International None n
laid_out-rfc3966 m n = same_laid (layout_for m International None (text_of n.national)) m n.carrier (text_of n.national)

module _ (n : Reading) (fits : n.code.value < 2 ^ 64) where
  abbrev digits : List ℕ
  digits = decimal n.code.value

  low_code : list_all is_low digits ≡ true
  low_code = low_digits digits (list_all-decimal n.code.value fits)

  pub chars-e164_text : IsHeld n.national → chars (e164_text n) ≡ e164_text n
  chars-e164_text held =
      chars-low (e164_text n) (low_append digits (text_of n.national) low_code (low_digits (text_of n.national) (list_all-text_of n.national held)))

  -- what stands for the digits laid out has digits and hyphens alone
  pub chars-rfc3966_text : (m : Metadata) → has_digits n.extension ≡ true → list_all is_dialled (hyphenated (chars (laid_out m International None n))) ≡ true →
      chars (rfc3966_text m None n) ≡ codes "tel:+" ++ (digits ++ 45 ∷ (hyphenated (chars (laid_out m International None n)) ++ announced (codes ";ext=") n.extension))
  chars-rfc3966_text m extension dialled =
      let h = hyphenated (chars (laid_out m International None n)) in
      let e = announced (codes ";ext=") n.extension in
      let low_h : list_all is_low h ≡ true = all_wider is_dialled is_low low_dialled h dialled in
      let low_rest : list_all is_low (h ++ e) ≡ true = low_append h e low_h (low_announced (codes ";ext=") n.extension refl extension) in
      let written : encode_utf8_all (hyphenated (chars (laid_out m Rfc3966 None n))) ≡ h =
      ap (λ t. encode_utf8_all (hyphenated (chars t))) (laid_out-rfc3966 m n) ∙ encodes-IsAscii h (IsAscii-low h low_h) in
      ap (λ w. chars (codes "tel:+" ++ (digits ++ 45 ∷ (w ++ extension_parameter n.extension)))) written
      ∙ ap (λ p. chars (codes "tel:+" ++ (digits ++ 45 ∷ (h ++ p)))) (parameter n.extension)
      ∙ chars-low (codes "tel:+" ++ (digits ++ 45 ∷ (h ++ e))) (low_append (codes "tel:+") (digits ++ 45 ∷ (h ++ e)) refl (low_append digits (45 ∷ (h ++ e)) low_code low_rest))
    where
      parameter : (e : Option (List ℕ)) → extension_parameter e ≡ announced (codes ";ext=") e
      parameter None = refl
      parameter (Some e) = refl

  -- where the text is UTF-8, and so is what stands for the extension
  pub chars-international_text : (m : Metadata) → IsUtf8 (extension_part m n.extension) →
      IsUtf8 (international_text m None n) →
      chars (international_text m None n)
      ≡ 43 ∷ (digits ++ 32 ∷
      (chars (laid_out m International None n) ++ chars (extension_part m n.extension)))
  chars-international_text m e_utf8 utf8 =
      let q = laid_out m International None n in
      let e = extension_part m n.extension in
      let front = 43 ∷ (digits ++ 32 ∷ []) in
      let low_front : list_all is_low front ≡ true = low_append digits (32 ∷ []) low_code refl in
      let front_utf8 : IsUtf8 front = IsUtf8-low front low_front in
      let parted : (rest : List ℕ) → 43 ∷ (digits ++ 32 ∷ rest) ≡ front ++ rest = λ rest. ap (λ t. 43 ∷ t) (sym (append_assoc digits (32 ∷ []) rest)) in
      let rest_utf8 : IsUtf8 (q ++ e) =
      IsUtf8-after front (q ++ e) (subst IsUtf8 (parted (q ++ e)) utf8) front_utf8 in
      let q_utf8 : IsUtf8 q = subst IsUtf8 (take-append_seam q e) (IsUtf8-take (q ++ e) (length q) rest_utf8 (IsCharBoundary-at_seam (q ++ e) q e refl e_utf8)) in
      ap chars (parted (q ++ e)) ∙ chars-append front (q ++ e) front_utf8
      ∙ ap₂ (λ a b. a ++ b) (chars-low front low_front) (chars-append q e q_utf8)
      ∙ sym (parted (chars q ++ chars e))
