-- Numbers whose E.164 text both readings read alike.
use Rattle.std.proofs.Common.{◌≡◌, ℕ, ◌<◌, ◌^◌, ◌==◌, true, false, List, [], ◌∷◌, ◌++◌, get_or, replicate, chars, Option, None, Result, Ok, refl, ap, sym, subst, ◌∙◌, arith, ne_eqb}
use Rattle.std.proofs.lemmas.Bool.{and_left, and_right}
use Rattle.std.proofs.lemmas.Fmt.{first_decimal}
use Rattle.std.proofs.lemmas.List.Folds.{list_all-append}
use Rattle.std.specs.Fmt.{decimal}
use Rattle.std.specs.List.{list_all}
use Rattle.phone_values.specs.Numbers.{National, text_of}
use Rattle.phone_values.specs.declared.country.Id.{Id}
use Rattle.phone_values.specs.declared.error.ParseError.{ParseError}
use Rattle.phone_values.specs.declared.reading.Reading.{Reading}
use Rattle.phone_library.specs.LibraryCodes.{code_in}
use Rattle.phone_library.specs.Readings.{ReadsByLibrary}
use Rattle.phone_library_laws.specs.Again.{IsSettled, e164_reading}
use Rattle.phone_library_laws.specs.Agreement
use Rattle.phone_library_laws.specs.Agreement.{IsReadAlike, IsSettledAlike, IsStrippedAlike}
use Rattle.phone_read.specs.Strips.{Stripped}
use Rattle.phone_print.specs.Texts.{e164_text}
use Rattle.phone_read.specs.Hints.{Coded}
use Rattle.phone_read.specs.Readings.{Reads}
use Rattle.phone_records.specs.declared.loader.Metadata.{Metadata}
use Rattle.phone_library_laws.proofs.AlikeReadings.{PlainNational, readings_alike}
use Rattle.phone_library_laws.proofs.ReadAgain.{PlainInternational, read_again, settled_characters, settled_code, settled_code_in, settled_coded, settled_digits, settled_enough, settled_few}
use Rattle.phone_library_laws.proofs.ReadOnce.{OneWritten, reading_same}

-- the digits of a number that isn't 0 aren't zeros alone
not_zeros-front : (ds : List ℕ) → 48 < get_or ds 0 0 → list_all (λ d. d == 48) ds ≡ false
not_zeros-front [] h = absurd (omega (arith, h))
not_zeros-front (c ∷ cs) h = and_left (c == 48) (list_all (λ d. d == 48) cs) (ne_eqb c 48 (omega (arith, h)))

not_zeros : (n : National) → 0 < n.value → n.value < 2 ^ 56 → list_all (λ d. d == 48) (text_of n) ≡ false
not_zeros n some below =
    let fits : n.value < 2 ^ 64 = omega (arith, below) in
    list_all-append (λ d. d == 48) (replicate n.zeros 48) (decimal n.value)
    ∙ and_right (list_all (λ d. d == 48) (replicate n.zeros 48)) (list_all (λ d. d == 48) (decimal n.value)) (not_zeros-front (decimal n.value) (first_decimal n.value some fits))

pub same_code : (r : Result Coded ParseError) (c d : Coded) → r ≡ Ok c → r ≡ Ok d → d ≡ c
same_code r c d e f = let same : Ok c ≡ Ok d = sym e ∙ f in cc

module _ (db : List Metadata) (n : Reading) (h : IsSettledAlike db n) where
  abbrev s : IsSettled db n
  s = h.settled

  abbrev digits : List ℕ
  digits = decimal n.code.value ++ text_of n.national

  settled_stripped : IsStrippedAlike db None (settled_coded db n s)
  settled_stripped = record {
    two = s.long_enough;
    alike = h.idle ∙ sym s.idle;
    not_zeros = ap (λ (t : Stripped). list_all (λ d. d == 48) t.national) s.idle ∙ not_zeros n.national h.not_zero s.held.1;
  }

  settled_alike : IsReadAlike db None true digits
  settled_alike = record {
    digits_alone = settled_digits db n s;
    enough = settled_enough db n s;
    few = settled_few db n s;
    coded = Agreement.signed n.code.value refl (settled_code db n s);
    stripped = λ c e. subst (IsStrippedAlike db None) (same_code (code_in db None true digits) c (settled_coded db n s) e (settled_code_in db n s None)) settled_stripped;
  }

  pub e164_alike : OneWritten → PlainInternational → PlainNational → (hint : Option Id) (a b : Result Reading ParseError) →
      Reads db None (chars (e164_text n)) a → ReadsByLibrary db hint (chars (e164_text n)) b → a ≡ b
  e164_alike one international national hint a b reads by_library =
      let whole = settled_characters db n s in
      let again : ReadsByLibrary db None (43 ∷ digits) (Ok (e164_reading n)) =
      subst (λ t. ReadsByLibrary db None t (Ok (e164_reading n))) whole (read_again db n s international None) in
      readings_alike one international national db None true digits a (Ok (e164_reading n)) settled_alike (subst (λ t. Reads db None t a) whole reads) again
      ∙ reading_same one db hint (chars (e164_text n)) (Ok (e164_reading n)) b (read_again db n s international hint) by_library
