use Rattle.std.proofs.Common.{◌≡◌, ◌==◌, ◌∙◌, ℕ, List, Option, None, Some, Result, Ok, true, false, codes}
use Rattle.std.proofs.Common.{leb-true, ltb-true, refl, ap, sym}
use Rattle.std.specs.Fmt.{digits}
use Rattle.std.specs.List.{list_all}
use Rattle.std.specs.Option.{option_map_or}
use Rattle.phone_values.specs.Ids.{id_of, name}
use Rattle.phone_values.specs.declared.country.Id.{Id}
use Rattle.phone_values.specs.declared.country.Id.TheVariants.{NZ, US}
use Rattle.phone_values.specs.declared.country.Source.{Source}
use Rattle.phone_values.specs.declared.country.Source.TheVariants.{Default, Idd, Plus}
use Rattle.phone_library.specs.LibraryCodes.{code_after_sign, code_by_territory, code_in}
use Rattle.phone_library.specs.Readings as second
use Rattle.phone_library.specs.Stripping.{untouched}
use Rattle.phone_library_laws.specs.Agreement.{IsStrippedAlike}
use Rattle.phone_library_laws.specs.Agreement as alike
use Rattle.phone_read.specs.Hints.{Coded, hinted}
use Rattle.phone_records.specs.declared.loader.Metadata.{Metadata}
use Rattle.phone_values.specs.declared.error.ParseError.{ParseError}
use Rattle.phone_read.specs.Readings as first_reading
use Rattle.phone_read.specs.Dialling.{after_match}
use Rattle.phone_read.specs.Strips as first
use Rattle.phone_read.specs.Strips.{Stripped}
use Rattle.headline_examples.proofs.Kept.{behind_told, stripped_kept}
use Rattle.headline_examples.proofs.Prefixed.{nz_own, us_prefix}
use Rattle.headline_examples.specs.Samples.{db_b, nz, us}
use Rattle.headline_examples.proofs.by_library.read_alike.Goals as goal

-- New Zealand's code, told so, and the digits behind it
abbrev told : Source → Coded
told source = record { source = source; value = 64; rest = codes "33316005" }

-- libphonenumber's rules strip nothing off them
kept : second.stripped (Some nz) (codes "33316005") ≡ untouched (codes "33316005")
kept = stripped_kept nz (codes "33316005") refl

-- nor do the crate's
both : (hint : Option Id) (source : Source) →
    first.stripped (first_reading.stripping_territory db_b hint (told source)) (codes "33316005")
    ≡ untouched (codes "33316005") →
    second.stripping_territory db_b (hinted db_b hint) (told source) ≡ Some nz →
    IsStrippedAlike db_b hint (told source)
both hint source by_first territory =
    let by_second = ap (λ m. second.stripped m (codes "33316005")) territory ∙ kept in
    record {
      two = leb-true 2 _ refl;
      alike = by_first ∙ sym by_second;
      not_zeros = ap (λ (s : Stripped). list_all (λ d. d == 48) s.national) by_second;
    }

pub returns-clause-signed : goal.returns-clause-signed
unfolding digits id_of name
returns-clause-signed c = record {
  digits_alone = refl;
  enough = leb-true 3 _ refl;
  few = leb-true _ 250 refl;
  coded = alike.signed 64 refl refl;
  stripped = behind_told db_b None (code_in db_b None true (codes "6433316005")) (told Plus) refl
      (both None Plus refl refl);
}

-- the code by a hint's territory, where this follows the international prefix
abbrev by_hint : Metadata → List ℕ → Option (List ℕ) → Result Coded ParseError
by_hint m digits after = option_map_or (λ a. code_after_sign db_b Idd a) after
    (Ok (code_by_territory m digits))

pub returns-clause-prefixed : goal.returns-clause-prefixed
unfolding digits id_of name
returns-clause-prefixed c =
    let after = ap (after_match (codes "0116433316005")) us_prefix in
    record {
      digits_alone = refl;
      enough = leb-true 3 _ refl;
      few = leb-true _ 250 refl;
      coded = alike.prefixed (codes "6433316005") after (ltb-true 2 _ refl);
      stripped = behind_told db_b (Some US)
          (code_in db_b (hinted db_b (Some US)) false (codes "0116433316005")) (told Idd)
          (ap (by_hint us (codes "0116433316005")) after) (both (Some US) Idd refl refl);
    }

pub returns-clause-own : goal.returns-clause-own
unfolding digits id_of name
returns-clause-own c =
    let after = ap (after_match (codes "33316005")) nz_own in
    record {
      digits_alone = refl;
      enough = leb-true 3 _ refl;
      few = leb-true _ 250 refl;
      coded = alike.own nz refl after refl;
      stripped = behind_told db_b (Some NZ)
          (code_in db_b (hinted db_b (Some NZ)) false (codes "33316005")) (told Default)
          (ap (by_hint nz (codes "33316005")) after) (both (Some NZ) Default refl refl);
    }
