-- What is written in a printed number with its extension, if it has one.
use Rattle.std.proofs.Common.{◌≡◌, ℕ, ◌≤◌, ◌==◌, List, [], ◌++◌, codes}
use Rattle.std.proofs.Common.{chars, length, filter, Option, None, Some, Ok, encode_utf8_all, refl}
use Rattle.std.proofs.Common.{ap, sym, subst, ◌∙◌, append-nil, append_assoc}
use Rattle.std.proofs.lemmas.Str.{encodes-chars}
use Rattle.phone_chars.specs.Characters.{is_digit, is_plus}
use Rattle.phone_parts.specs.Texts.{begins}
use Rattle.phone_library_text.specs.NumberTexts.{context_name}
use Rattle.phone_library_text.specs.Places.{parted}
use Rattle.phone_library_text.specs.Written.{IsWritten, most_characters}
use Rattle.phone_library_laws.specs.Announced.{IsAnnouncedIfAny, IsParameterIfAny}
use Rattle.phone_library_laws.proofs.Announcing.{no_semicolon, no_slash, parameter_announces}
use Rattle.phone_library_laws.proofs.Announcing.{parameter_no_context, parameter_no_subaddress}
use Rattle.phone_library_laws.proofs.WrittenLaidOut.{IsBefore, IsNumber, alone_written}
use Rattle.phone_library_laws.proofs.WrittenLaidOut.{announced_written, extended, none_both}
use Rattle.phone_library_laws.proofs.WrittenLaidOut.{plain_digits, plain_written}

-- an extension behind the characters that announce it
abbrev pub tail : List ℕ → Option (List ℕ) → List ℕ
tail w None = []
tail w (Some e) = w ++ chars e

module _ (before number : List ℕ) (b : IsBefore before) (n : IsNumber number) where
  -- what is written there
  abbrev pub Tells : List ℕ → Option (List ℕ) → Type 0
  Tells w e = IsWritten (before ++ (number ++ tail w e))
      (Ok (record {
        has_plus = begins is_plus number;
        digits = filter is_digit number;
        extension = e;
      }))

  alone : (w : List ℕ) → length (before ++ (number ++ [])) ≤ most_characters → Tells w None
  alone w few =
      let same : before ++ number ≡ before ++ (number ++ []) =
      ap (λ t. before ++ t) (sym (append-nil number)) in
      subst (λ t. IsWritten t (Ok (record {
        has_plus = begins is_plus number;
        digits = filter is_digit number;
        extension = None;
      }))) same
      (alone_written before number b n (subst (λ t. length t ≤ most_characters) (sym same) few))

  -- an extension that is told by its characters is told by its bytes
  as_bytes : (w e : List ℕ) → encode_utf8_all (chars e) ≡ e →
      IsWritten (before ++ (number ++ (w ++ chars e)))
      (Ok (record {
        has_plus = begins is_plus number;
        digits = filter is_digit number;
        extension = Some (encode_utf8_all (chars e));
      })) →
      Tells w (Some e)
  as_bytes w e same h =
      subst (λ x. IsWritten (before ++ (number ++ (w ++ chars e)))
      (Ok (record {
        has_plus = begins is_plus number;
        digits = filter is_digit number;
        extension = Some x;
      }))) same h

  -- announced
  pub announced_tail : (w : List ℕ) (e : Option (List ℕ)) → IsAnnouncedIfAny w e →
      length (before ++ (number ++ tail (chars w) e)) ≤ most_characters → Tells (chars w) e
  announced_tail w None h few = alone (chars w) few
  announced_tail w (Some e) h few =
      as_bytes (chars w) e (encodes-chars e h.digits.utf8)
      (announced_written before number b n (chars w) (chars e) h.announces
      (no_slash (chars w) h.plain) h.digits.digits h.digits.some few
      (no_semicolon (chars w) h.plain))

  -- as a parameter
  pub parameter_tail : (e : Option (List ℕ)) → IsParameterIfAny e →
      length (before ++ (number ++ tail (codes ";ext=") e)) ≤ most_characters →
      Tells (codes ";ext=") e
  parameter_tail None h few = alone (codes ";ext=") few
  parameter_tail (Some e) (d, le) few =
      let plain = plain_digits (chars e) d.digits in
      let plain_number = plain_written number n.only in
      let plain_front = none_both (λ c. c == 59) before number b.plain plain_number in
      let context : parted context_name (before ++ (number ++ (codes ";ext=" ++ chars e))) ≡ None =
      ap (parted context_name) (sym (append_assoc before number (codes ";ext=" ++ chars e)))
      ∙ parameter_no_context (before ++ number) (chars e) plain_front plain in
      as_bytes (codes ";ext=") e (encodes-chars e d.utf8)
      (extended before number b n (codes ";ext=") (chars e)
      (parameter_announces (length (chars e)) le) refl d.digits d.some few
      context (parameter_no_subaddress number (chars e) plain_number plain))
