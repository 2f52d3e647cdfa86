-- Whole readings, from a text to a number, computed on their definition.
use Rattle.std.proofs.Common.{◌≡◌, inl, inr, ◌==◌, true≢false, [], ◌∷◌, ◌++◌, codes, Some, None, Ok, refl, ap, sym, ◌∙◌, arith}
use Rattle.std.proofs.lemmas.Fmt.{decimal_digit, decimal_step}
use Rattle.std.specs.Fmt.{decimal}
use Rattle.ucd_case.proofs.Computing.{ucd_case}
use Rattle.ucd_category.proofs.Computing.{ucd_category}
use Rattle.phone_chars.specs.Viable.{IsViable}
use Rattle.phone_values.specs.Ids.{name}
use Rattle.phone_values.specs.declared.country.Id.TheVariants.{NZ}
use Rattle.phone_values.specs.declared.country.Source.{Source}
use Rattle.phone_values.specs.declared.country.Source.TheVariants.{Plus, Default}
use Rattle.phone_chars.proofs.Signed.{signed_of_walk}
use Rattle.phone_read.specs.CallingCodes.{code_of}
use Rattle.phone_read.specs.Hints.{Coded}
use Rattle.phone_parts.specs.Naturals.{IsNatural}
use Rattle.phone_parts.specs.Readers
use Rattle.phone_parts.specs.Readers.{HasParts}
use Rattle.phone_read.specs.Readings
use Rattle.phone_read.specs.Readings.{Reads}
use Rattle.phone_read.specs.Samples.{nz}
use Rattle.phone_parts.specs.Tel
use Rattle.phone_parts.specs.Tel.{IsTel}
use Rattle.phone_parts.specs.Texts.{begins}
use Rattle.phone_values.specs.declared.reading.Reading.{Reading}
use Rattle.phone_parts.proofs.CoreRows.{no_mark}
use Rattle.phone_read.proofs.HintCodes.{code_by_hint-other}
use Rattle.phone_parts.proofs.NaturalRows.{plain_of}
use Rattle.phone_parts.proofs.SuffixTests.{fails_at}
use Rattle.phone_parts.proofs.TelRefusals.{spaced}
use Rattle.phone_parts.proofs.TelRows.{no_parameters, tel_of}

pub decimal_64 : decimal 64 ≡ codes "64"
decimal_64 = decimal_step 64 (omega arith) (omega arith) ∙ ap (λ t. t ++ 52 ∷ []) (decimal_digit 6 (omega arith))

-- 33316005 of New Zealand, by its source
abbrev sample : Source → Reading
sample source = record {
  code = record { value = 64; source = source };
  national = record { zeros = 0; value = 33316005 };
  extension = None;
  carrier = None;
}

home_text : IsNatural (codes "03-331 6005") (Ok (record { national = codes "03-331 6005"; prefix = None; extension = None }))
unfolding ucd_case ucd_category no_mark fails_at
home_text = plain_of (codes "03-331 6005") refl refl refl refl

home_parts : HasParts (codes "03-331 6005") (Some (record { national = codes "03-331 6005"; prefix = None; extension = None }))
home_parts = Readers.as_natural (record { national = codes "03-331 6005"; prefix = None; extension = None }) (spaced (codes "03-331 6005") refl) home_text

home_viable : IsViable (codes "03-331 6005")
home_viable = inr (signed_of_walk (codes "03-331 6005") refl)

home_coded : Coded
home_coded = record { source = Default; value = 64; rest = codes "033316005" }

home_code : code_of (nz ∷ []) (Some NZ) (codes "03-331 6005") None ≡ Ok home_coded
unfolding home_coded name
home_code = ap Ok (code_by_hint-other nz (codes "033316005") (codes "64") 64 refl (sym decimal_64) (λ rest e. true≢false (sym (ap (begins (λ c. c == 54)) e))))

pub by_hint : Reads (nz ∷ []) (Some NZ) (codes "03-331 6005") (Ok (sample Default))
unfolding home_coded name
by_hint = Readings.coded (record { national = codes "03-331 6005"; prefix = None; extension = None }) home_coded home_parts home_viable home_code

tel_text : IsTel (codes "tel:+64-3-331-6005") (record { national = codes "-3-331-6005"; prefix = Some (codes "64"); extension = None })
unfolding ucd_case
tel_text =
    tel_of (codes "tel:") (codes "-3-331-6005") (inr refl) no_parameters (inl refl) (Tel.signed (codes "64") refl refl refl) refl refl refl refl

tel_viable : IsViable (codes "-3-331-6005")
tel_viable = inr (signed_of_walk (codes "-3-331-6005") refl)

tel_coded : Coded
tel_coded = record { source = Plus; value = 64; rest = codes "33316005" }

tel_code : code_of (nz ∷ []) (Some NZ) (codes "-3-331-6005") (Some (codes "64")) ≡ Ok tel_coded
unfolding tel_coded name
tel_code = refl

pub by_prefix : Reads (nz ∷ []) (Some NZ) (codes "tel:+64-3-331-6005") (Ok (sample Plus))
unfolding tel_coded name
by_prefix =
    Readings.coded (record { national = codes "-3-331-6005"; prefix = Some (codes "64"); extension = None }) tel_coded
    (Readers.as_tel _ tel_text) tel_viable tel_code
