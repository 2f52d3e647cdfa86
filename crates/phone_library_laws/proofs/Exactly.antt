-- A coded number is read as itself only where nothing is stripped off its digits.
use Rattle.std.proofs.Common.{◌≡◌, ℕ, Bool, true, List, All, Option}
use Rattle.std.proofs.Common.{None}
use Rattle.std.proofs.Common.{Some, IfSome, Result, Ok, Err, ap, ap₂, sym, ◌∙◌, refl}
use Rattle.std.proofs.lemmas.List.Elements.{All-weaker}
use Rattle.std.proofs.lemmas.List.Sums.{AllPass-from_list_all}
use Rattle.std.specs.List.{list_all}
use Rattle.std.specs.Option.{option_map_or}
use Rattle.std.specs.Result.{result_map_both}
use Rattle.phone_chars.specs.Characters.{is_digit}
use Rattle.phone_parts.proofs.Ends.{all_wider}
use Rattle.phone_parts.proofs.PrintedTexts.{digit_passes}
use Rattle.phone_values.specs.Numbers.{National, text_of}
use Rattle.phone_values.specs.declared.country.Id.{Id}
use Rattle.phone_values.specs.declared.error.ParseError.{ParseError}
use Rattle.phone_values.specs.declared.reading.Reading.{Reading}
use Rattle.phone_library.specs.Readings.{ReadsByLibrary, national_number, reading_of}
use Rattle.phone_library_laws.proofs.PlusSigns.{All-stripped, IfSome-first, IsNoPlus, is_no_plus}
use Rattle.phone_library_laws.proofs.ReadOnce.{reading_same}
use Rattle.phone_library_text.specs.Written.{IsWritten}
use Rattle.phone_library_text.proofs.WrittenOnes.{written_same}
use Rattle.phone_plans.specs.CodeLookUps.{first_of, territories}
use Rattle.phone_read.specs.TransformRules.{rules_have_no_plus}
use Rattle.phone_records.specs.declared.loader.Metadata.{Metadata}
use Rattle.phonenumber.proofs.BackNumbers.{list_all-text_of}
use Rattle.phone_library_laws.specs.Coded.{IsCoded, IsLeftAlone}
use Rattle.phone_library_laws.specs.Printed.{printed_reading}
use Rattle.phone_library_laws.proofs.OwnDigits.{own_digits}
use Rattle.phone_library_laws.proofs.ReadSigned.{coded, left, reads_left, signed}

-- the national number of what is read, and its carrier
abbrev national_of : Result Reading ParseError → National → National
national_of (Ok r) other = r.national
national_of (Err e) other = other

abbrev carrier_of : Result Reading ParseError → Option (List ℕ)
carrier_of (Ok r) = r.carrier
carrier_of (Err e) = None

-- the transform rule of a territory has no plus sign
abbrev pub IsPlainRule : Metadata → Type 0
IsPlainRule m = IfSome m.national_prefix_transform_rule (All IsNoPlus)

abbrev rule_is_plain : Metadata → Bool
rule_is_plain m = option_map_or (list_all is_no_plus) m.national_prefix_transform_rule true

plain_rule : (m : Metadata) → rule_is_plain m ≡ true → IsPlainRule m
plain_rule m e = at m.national_prefix_transform_rule e
  where
    at : (o : Option (List ℕ)) → option_map_or (list_all is_no_plus) o true ≡ true →
        IfSome o (All IsNoPlus)
    at None e = tt
    at (Some rule) e = AllPass-from_list_all is_no_plus rule e

pub all_plain : (db : List Metadata) → rules_have_no_plus db ≡ true → All IsPlainRule db
all_plain db rules = All-weaker (λ (m : Metadata). rule_is_plain m ≡ true) IsPlainRule plain_rule db
    (AllPass-from_list_all rule_is_plain db rules)

module _ (db : List Metadata) (n : Reading) (h : IsCoded db n)
    (rules : rules_have_no_plus db ≡ true) where
  abbrev national : List ℕ
  national = text_of n.national

  digits_plain : All IsNoPlus national
  digits_plain = AllPass-from_list_all is_no_plus national
      (all_wider is_digit is_no_plus (digit_passes is_no_plus refl) national
      (list_all-text_of n.national h.held))

  left_plain : All IsNoPlus (left db n h).national
  left_plain = All-stripped IsNoPlus national digits_plain
      (first_of (territories n.code.value db))
      (IfSome-first IsPlainRule db (all_plain db rules) n.code.value)

  -- what is read tells what was left
  told : (r : Result National ParseError) → national_number (left db n h).national ≡ r →
      result_map_both (λ v. record {
        code = record { value = n.code.value; source = (coded db n h).source };
        national = v;
        extension = n.extension;
        carrier = (left db n h).carrier;
      }) (λ e. e) r ≡ Ok (printed_reading n) → IsLeftAlone db n
  told (Err e) f g = cc
  told (Ok v) f g =
      let same : v ≡ n.national = ap (λ r. national_of r v) g in
      let none : (left db n h).carrier ≡ None = ap carrier_of g in
      let text : (left db n h).national ≡ national =
      sym (own_digits (left db n h).national v left_plain f) ∙ ap text_of same in
      ap₂ (λ d c. record { national = d; carrier = c }) text none

  pub idle_if_read : (hint : Option Id) (t : List ℕ) → IsWritten t (Ok (signed db n h)) →
      ReadsByLibrary db hint t (Ok (printed_reading n)) → IsLeftAlone db n
  idle_if_read hint t written read =
      told (national_number (left db n h).national) refl
      (reading_same written_same db hint t
      (reading_of (coded db n h) n.extension (left db n h)) (Ok (printed_reading n))
      (reads_left db n h hint t written) read)
