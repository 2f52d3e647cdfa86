-- Dialled numbers are read under the region as hint by libphonenumber's rules.
use Rattle.std.proofs.Common.{◌≡◌, ◌==◌, ℕ, ◌≤◌, true, List, [], ◌∷◌, ◌++◌, codes, length, chars}
use Rattle.std.proofs.Common.{Option, None, Some, option_map, Ok, Err, ap, sym, subst, ◌∙◌}
use Rattle.std.proofs.Common.{append_assoc, eq-eqb}
use Rattle.std.proofs.lemmas.Bool.{cond-false, cond-true}
use Rattle.std.specs.Fmt.{decimal}
use Rattle.std.specs.Option.{option_map_or}
use Rattle.phone_values.specs.Ids.{name}
use Rattle.phone_values.specs.declared.country.Id.{Id}
use Rattle.phone_values.specs.declared.country.Source.TheVariants.{Idd, Plus}
use Rattle.phone_values.specs.declared.mode.Mode.{Mode}
use Rattle.phone_values.specs.declared.mode.Mode.TheVariants.{International, National}
use Rattle.phone_values.specs.declared.reading.Reading.{Reading}
use Rattle.phone_values.specs.declared.rules.Rules.TheVariants.{Crate}
use Rattle.phone_library.specs.Readings.{ReadsByLibrary, stripped}
use Rattle.phone_library_text.specs.Written.{most_characters}
use Rattle.phone_library_laws.specs.Coded.{IsCoded}
use Rattle.phone_library_laws.specs.Plain.{IsPlainNational}
use Rattle.phone_library_laws.specs.Printed.{inside_reading}
use Rattle.phone_library_laws.proofs.BehindPrefix as prefixed
use Rattle.phone_library_laws.proofs.InternationalBack.{international_back}
use Rattle.phone_library_laws.proofs.NationalBack.{national_back}
use Rattle.phone_library_laws.proofs.ReadSigned.{coded_of}
use Rattle.phone_plans.specs.CodeLookUps.{first_of, territories}
use Rattle.phone_plans.specs.Records.{last_with}
use Rattle.phone_print.specs.Texts.{extension_part, international_text, laid_out, national_text}
use Rattle.phone_print.specs.Texts.{text_by}
use Rattle.phone_records.specs.declared.loader.Metadata.{Metadata}
use Rattle.phone_territory.specs.Records.{code_of}
use Rattle.phonenumber.specs.Printed.{printed}
use Rattle.phone_engine.specs.Back.{IsAfterPrefix}
use Rattle.phone_engine.specs.Dialled.{dialled_abroad, dialled_by, dialled_prefix, dialled_text}
use Rattle.phone_engine.specs.LibraryBack.{IsSettledDialled, dialled_reading}
use Rattle.phone_engine.specs.declared.dialled.DialError.TheVariants.{UnknownCode, UnknownRegion}

-- the text that is dialled is laid out by the code's first territory
module _ (db : List Metadata) (region : Id) (n : Reading) (from m : Metadata)
    (hinted : last_with (name region) db ≡ Some from)
    (first : first_of (territories n.code.value db) ≡ Some m) where
  dialled_is : (text : List ℕ) → dialled_text db region n ≡ Ok text → dialled_by from m n ≡ text
  dialled_is text e =
      let same : Ok (dialled_by from m n) ≡ Ok text =
      sym (ap (λ o. option_map_or (λ (m : Metadata). Ok (dialled_by from m n)) o
      (Err UnknownCode)) first)
      ∙ sym (ap (λ o. option_map_or
      (λ (from : Metadata). option_map_or (λ m. Ok (dialled_by from m n))
      (first_of (territories n.code.value db)) (Err UnknownCode)) o (Err UnknownRegion)) hinted)
      ∙ e in cc

  printed_is : (mode : Mode) (text : List ℕ) → text_by m mode None n ≡ text →
      printed db mode None n ≡ Some text
  printed_is mode text e =
      ap (option_map (λ (m : Metadata). text_by m mode None n)) first ∙ ap (λ t. Some t) e

module _ (db : List Metadata) (region : Id) (n : Reading) (h : IsSettledDialled db region n) where
  abbrev m : Metadata
  m = h.plain.layout.territory

  abbrev behind : List ℕ
  behind = laid_out m International None n ++ extension_part m n.extension

  abbrev coded_text : List ℕ
  coded_text = decimal n.code.value ++ 32 ∷ behind

  coded : IsCoded db n
  coded = coded_of db n h.settled

  abroad : (text : List ℕ) → dialled_text db region n ≡ Ok text → dialled_abroad h.from m n ≡ text
  abroad text e = sym (cond-false _ _ _ h.other_code)
      ∙ dialled_is db region n h.from m h.hinted h.plain.layout.first text e

  -- with what is dialled before the code
  behind_dialled : (o : Option (List ℕ)) → dialled_prefix h.from ≡ o → (text : List ℕ) →
      dialled_text db region n ≡ Ok text →
      option_map_or (λ p. p ++ 32 ∷ []) o (codes "+") ++ coded_text ≡ text
  behind_dialled o f text e =
      sym (ap (λ o. option_map_or (λ p. p ++ 32 ∷ []) o (codes "+") ++ coded_text) f)
      ∙ abroad text e

  pub plus_again : (text : List ℕ) → dialled_prefix h.from ≡ None →
      dialled_text db region n ≡ Ok text →
      ReadsByLibrary db (Some region) (chars text) (Ok (dialled_reading Plus n))
  plus_again text none e =
      let same : international_text m None n ≡ text = behind_dialled None none text e in
      international_back Crate db n coded h.plain (Some region) text
      (printed_is db region n h.from m h.hinted h.plain.layout.first International text same)
      h.settled.idle

  pub prefix_again : (text : List ℕ) → IsAfterPrefix h.from n → dialled_text db region n ≡ Ok text →
      length (chars text) ≤ most_characters →
      ReadsByLibrary db (Some region) (chars text) (Ok (dialled_reading Idd n))
  prefix_again text pre e few =
      let same : pre.prefix ++ 32 ∷ coded_text ≡ text =
      sym (append_assoc pre.prefix (32 ∷ []) coded_text)
      ∙ behind_dialled (Some pre.prefix) pre.dialled text e in
      subst (λ t. ReadsByLibrary db (Some region) (chars t) (Ok (dialled_reading Idd n))) same
      (prefixed.prefix_back db n coded h.from pre.prefix pre.found h.settled.idle Crate h.plain pre.digits
      (Some region) h.hinted (subst (λ t. length (chars t) ≤ most_characters) (sym same) few))

-- of the region's own code
pub inside_again : (db : List Metadata) (region : Id) (from : Metadata) (n : Reading)
    (text : List ℕ) → last_with (name region) db ≡ Some from → (plain : IsPlainNational Crate db from n) →
    dialled_text db region n ≡ Ok text → ReadsByLibrary db (Some region) (chars text)
    (Ok (inside_reading n (stripped (Some from) plain.layout.digits).carrier))
inside_again db region from n text hinted plain e =
    let m = plain.layout.territory in
    let own : (code_of from == n.code.value) ≡ true =
    eq-eqb (code_of from) n.code.value plain.dialled.code in
    let same : national_text m None n ≡ text =
    sym (cond-true _ _ _ own) ∙ dialled_is db region n from m hinted plain.layout.first text e in
    national_back Crate db from n plain.layout (Some region) text hinted
    (printed_is db region n from m hinted plain.layout.first National text same) plain.dialled
