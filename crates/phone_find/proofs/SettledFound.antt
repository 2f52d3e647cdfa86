-- A settled number's E.164 text between two spaces is found alone, by the rules of libphonenumber.
use Rattle.std.proofs.Common.{◌≡◌, ℕ, ◌<◌, ◌≤◌, ◌^◌, true, List, [], ◌∷◌, ◌++◌, length, length-append, Option, Ok, refl, ap, ◌∙◌, arith}
use Rattle.std.specs.Fmt.{decimal}
use Rattle.std.specs.Str.{chars}
use Rattle.std.proofs.lemmas.Bool.{and_from}
use Rattle.std.proofs.lemmas.Fmt.{length-decimal-le}
use Rattle.phone_chars.specs.Characters.{is_plus}
use Rattle.phone_engine.specs.Readings.{ReadsBy}
use Rattle.phone_values.specs.declared.rules.Rules.TheVariants.{Library}
use Rattle.phone_values.specs.Numbers.{text_of}
use Rattle.phone_values.specs.declared.country.Id.{Id}
use Rattle.phone_values.specs.declared.reading.Reading.{Reading}
use Rattle.phone_library_laws.proofs.ReadAgain.{settled_characters, settled_digits, settled_enough, settled_few}
use Rattle.phone_library_laws.specs.Again.{IsSettled, e164_reading}
use Rattle.phone_find.specs.Sets.{is_last}
use Rattle.phone_find.specs.Shapes.{has_few_digits, is_made}
use Rattle.phone_parts.specs.Texts.{begins, ends}
use Rattle.phone_print.specs.Texts.{e164_text}
use Rattle.phone_records.specs.declared.loader.Metadata.{Metadata}
use Rattle.phone_find.proofs.FoundAlone.{found_alone}
use Rattle.phone_find.proofs.PrintedFound.{among_spaces, spaced_candidate}
use Rattle.phone_find.proofs.Shapes.{ends_signed, few_of, made_signed, shaped_from}
use Rattle.phone_find.specs.Alone.{IsAmong, IsNothingElse, IsShaped, placed}
use Rattle.phone_find.specs.Leniencies.{suffices, suffices_in}
use Rattle.phone_find.specs.Standing.{is_candidate}
use Rattle.phone_find.specs.Numbers.{AreNumbers, IsNumberBetween}
use Rattle.phone_find.specs.declared.leniency.Leniency.{Leniency}
use Rattle.phone_find.specs.declared.leniency.Leniency.TheVariants.{Possible, Valid}
use Rattle.phone_find.specs.declared.search.Found.{Found}

-- whether a number suffices is of its code and national number alone, and with a plus sign it needs no
-- national prefix
suffices_again : (db : List Metadata) (l : Leniency) (n : Reading) (t : List ℕ) → suffices Library db l n ≡ true →
    suffices_in Library db l t (e164_reading n) ≡ true
suffices_again db Possible n t e = and_from (suffices Library db Possible n) true e refl
suffices_again db Valid n t e = and_from (suffices Library db Valid n) true e refl

module _ (db : List Metadata) (hint : Option Id) (l : Leniency) (n : Reading) (before after : List ℕ) (all : List (Found Reading))
    (settled : IsSettled db n) (enough : suffices Library db l n ≡ true) (free : IsNothingElse (chars (e164_text n)) (32 ∷ chars after))
    (among : IsAmong before (e164_text n) after)
    (again : ReadsBy Library db hint (chars (e164_text n)) (Ok (e164_reading n))) where
  abbrev digits : List ℕ
  digits = decimal n.code.value ++ text_of n.national

  read : chars (e164_text n) ≡ 43 ∷ digits
  read = settled_characters db n settled

  few_digits : has_few_digits (chars (e164_text n)) ≡ true
  few_digits =
      let fits : n.code.value < 2 ^ 64 = omega (arith, settled.short_code) in
      let code : length (decimal n.code.value) ≤ 3 = length-decimal-le 3 n.code.value (omega arith) (omega (arith, settled.short_code)) fits in
      ap has_few_digits read ∙ few_of (43 ∷ digits)
      (omega (arith, length-append (decimal n.code.value) (text_of n.national), code, settled.short_enough))

  shaped : IsShaped (e164_text n) after
  shaped =
      let all = settled_digits db n settled in
      let short = settled_few db n settled in
      let some : 1 ≤ length digits = (let enough = settled_enough db n settled in omega (arith, enough)) in
      shaped_from (e164_text n) after short few_digits (ap is_made read ∙ made_signed digits all) (ap (ends is_last) read ∙ ends_signed digits all some) free

  candidate : is_candidate (chars (before ++ 32 ∷ [])) (chars (e164_text n)) (chars (32 ∷ after)) ≡ true
  candidate = spaced_candidate before (e164_text n) after (ap (begins is_plus) read) shaped.piece

  number : IsNumberBetween Library db hint l (before ++ 32 ∷ []) (e164_text n) (32 ∷ after) (e164_reading n)
  number = record {
    candidate = candidate;
    number = record { read = again; enough = suffices_again db l n (chars (e164_text n)) enough };
  }

  pub settled_found : AreNumbers Library db hint l ((before ++ 32 ∷ []) ++ (e164_text n ++ 32 ∷ after)) all →
      all ≡ placed (before ++ 32 ∷ []) (e164_text n) (e164_reading n) ∷ []
  settled_found found =
      found_alone Library db hint l (before ++ 32 ∷ []) (e164_text n) (32 ∷ after) (e164_reading n) (among_spaces before (e164_text n) after among)
      shaped.short number all found
