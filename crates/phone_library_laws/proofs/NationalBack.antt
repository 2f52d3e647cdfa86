-- The national text of a number is read, inside a territory, as the number exactly where its digits
-- are dialled inside that.
use Rattle.std.proofs.Common.{◌≡◌, ℕ, ◌≤◌, true, List, [], ◌++◌, length, chars, All, Option}
use Rattle.std.proofs.Common.{None, Some, IfSome, Ok, refl, ap, sym, subst, ◌∙◌}
use Rattle.std.proofs.lemmas.List.Sums.{AllPass-from_list_all}
use Rattle.std.proofs.lemmas.Str.{chars-append}
use Rattle.phone_chars.specs.Characters.{is_digit}
use Rattle.phone_parts.proofs.Ends.{all_wider}
use Rattle.phone_parts.proofs.PrintedTexts.{digit_passes}
use Rattle.phone_values.specs.declared.country.Id.{Id}
use Rattle.phone_values.specs.declared.country.Source.TheVariants.{Default}
use Rattle.phone_values.specs.declared.mode.Mode.TheVariants.{National}
use Rattle.phone_values.specs.declared.reading.Reading.{Reading}
use Rattle.phone_library.specs.Readings.{ReadsByLibrary, reading_under, stripped}
use Rattle.phone_library_laws.proofs.PlusSigns.{IsNoPlus, is_no_plus}
use Rattle.phone_library_laws.proofs.ReadOnce.{reading_same}
use Rattle.phone_library_text.specs.Written.{IsWritten, most_characters}
use Rattle.phone_library_text.proofs.WrittenOnes.{written_same}
use Rattle.phone_values.specs.declared.rules.Rules.{Rules}
use Rattle.phone_library.specs.Printed.{printed_by}
use Rattle.phone_print.specs.Texts.{extension_part, laid_out_by, national_by}
use Rattle.phone_read.proofs.ReadNumbers.{IfSome-stripping_territory}
use Rattle.phone_read.specs.Hints.{Coded, hinted}
use Rattle.phone_read.specs.TransformRules.{rules_have_no_plus}
use Rattle.phone_records.specs.declared.loader.Metadata.{Metadata}
use Rattle.phone_library_laws.specs.Announced.{prefix_of}
use Rattle.phone_library_laws.specs.Layouts.{is_quiet}
use Rattle.phone_library_laws.specs.Plain.{IsDialledInside, IsLaidNational}
use Rattle.phone_library_laws.specs.Printed.{inside_reading}
use Rattle.phone_library_laws.proofs.DialledInside.{inside_if_read, read_inside, reads_inside}
use Rattle.phone_library_laws.proofs.DialledInside.{unsigned}
use Rattle.phone_library_laws.proofs.Exactly.{IsPlainRule, all_plain}
use Rattle.phone_library_laws.proofs.PrintedTexts.{chars-part, printed_text}
use Rattle.phone_library_laws.proofs.Tails.{tail}
use Rattle.phone_library_laws.proofs.WrittenDigits.{digits_alone, laid_written, two_at_least}

-- the hint's territory is one of the database
hinted_rule : (db : List Metadata) (hint : Option Id) (m : Metadata) →
    rules_have_no_plus db ≡ true → hinted db hint ≡ Some m → IsPlainRule m
hinted_rule db None m rules e = cc
hinted_rule db (Some id) m rules e =
    let any : Coded = record { source = Default; value = 0; rest = [] } in
    subst (λ o. IfSome o IsPlainRule) e
    (IfSome-stripping_territory IsPlainRule db (all_plain db rules) (Some id) any)

module _ (whose : Rules) (db : List Metadata) (m : Metadata) (n : Reading)
    (p : IsLaidNational whose db n) where
  abbrev laid : List ℕ
  laid = laid_out_by whose p.territory National None n

  abbrev behind : List ℕ
  behind = tail (chars (prefix_of p.territory)) n.extension

  characters : chars (national_by whose p.territory None n) ≡ chars laid ++ behind
  characters = chars-append laid (extension_part p.territory n.extension) p.utf8
      ∙ ap (λ t. chars laid ++ t) (chars-part p.territory n.extension p.announced)

  two : 2 ≤ length p.digits
  two = two_at_least (chars laid) p.digits n.extension p.enough

  written : IsWritten (chars laid ++ behind) (Ok (unsigned db m n p.digits two))
  written = laid_written (chars laid) p.digits (prefix_of p.territory) n.extension p.laid p.enough
      p.announced (subst (λ t. length t ≤ most_characters) characters p.few)

  abbrev again : Reading
  again = inside_reading n (stripped (Some m) p.digits).carrier

  module _ (hint : Option Id) (text : List ℕ) (there : hinted db hint ≡ Some m)
      (e : printed_by whose db National n ≡ Some text) where
    printed_is : chars text ≡ chars laid ++ behind
    printed_is = ap chars (sym (printed_text whose db National n p.territory text p.first e)) ∙ characters

    -- the text is read as its digits tell
    reads_text : ReadsByLibrary db hint (chars text)
        (reading_under db (Some m) (unsigned db m n p.digits two))
    reads_text =
        subst (λ t. ReadsByLibrary db hint t
        (reading_under db (Some m) (unsigned db m n p.digits two))) (sym printed_is)
        (reads_inside db m n p.digits two hint (chars laid ++ behind) there written)

    pub national_back : IsDialledInside m n p.digits →
        ReadsByLibrary db hint (chars text) (Ok again)
    national_back dialled = subst (ReadsByLibrary db hint (chars text))
        (read_inside db m n p.digits two dialled) reads_text

    pub national_inside : rules_have_no_plus db ≡ true →
        ReadsByLibrary db hint (chars text) (Ok again) → IsDialledInside m n p.digits
    national_inside rules read =
        let plain : All IsNoPlus p.digits = AllPass-from_list_all is_no_plus p.digits
        (all_wider is_digit is_no_plus (digit_passes is_no_plus refl) p.digits
        (digits_alone is_quiet (chars laid) p.digits p.laid)) in
        inside_if_read db m n p.digits two plain (hinted_rule db hint m rules there)
        (reading_same written_same db hint (chars text)
        (reading_under db (Some m) (unsigned db m n p.digits two)) (Ok again) reads_text read)
