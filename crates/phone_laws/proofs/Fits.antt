-- Examples that fit are of their kind and region.
use Rattle.std.proofs.Common.{◌≡◌, ℕ, ◌≤◌, ◌==◌, Bool, true, false, if◌then◌else◌, List, [], ◌∷◌, length, chars, codes, Option, None, Some, Ok, unwrap_or, refl, ap, sym, subst, ◌∙◌, arith}
use Rattle.std.proofs.lemmas.Option.{none-some, same_Some}
use Rattle.std.proofs.lemmas.Slice.Eq.{bytes_eq-Decides}
use Rattle.std.specs.List.{list_all}
use Rattle.std.specs.Option.{option_and_then, option_map_or, option_or}
use Rattle.std.specs.Str.{bytes_eq}
use Rattle.phone_chars.specs.Characters.{is_digit}
use Rattle.phone_values.proofs.Texts.{id_of-name}
use Rattle.phone_values.specs.Ids.{id_of, name}
use Rattle.phone_values.specs.Numbers.{text_of}
use Rattle.phone_values.specs.declared.country.Id.{Id}
use Rattle.phone_values.specs.declared.kind.«Type».{«Type»}
use Rattle.phone_values.specs.declared.kind.«Type».TheVariants.{Unknown}
use Rattle.phone_values.specs.declared.reading.Reading.{Reading}
use Rattle.phone_library.specs.Facts.{kind_of_number, region_of_number}
use Rattle.phone_library.specs.Kinds.{kind_in}
use Rattle.phone_library.specs.Readings.{ReadsByLibrary, stripped}
use Rattle.phone_library_laws.proofs.DialledInside.{inside, read_inside, reads_inside, unsigned}
use Rattle.phone_library_laws.proofs.ToldAlike.{inside_alike, told_alike}
use Rattle.phone_library_laws.specs.Told.{AreToldAlike}
use Rattle.phone_library_text.proofs.PlainWritten.{national_written}
use Rattle.phone_plans.specs.Records as plans
use Rattle.phone_read.specs.Hints.{hinted}
use Rattle.phone_records.specs.declared.loader.Metadata.{Metadata}
use Rattle.phone_territory.specs.Records as territory
use Rattle.phonenumber.proofs.BackNumbers.{list_all-text_of}
use Rattle.phonenumber.proofs.BackTexts.{chars-low, low_digits}
use Rattle.phone_further.specs.Examples
use Rattle.phone_further.specs.Examples.{IsExample, example_in}
use Rattle.phone_laws.specs.Fitting.{IsFitting, number_in}

-- ---- the id of a region's territory

module _ {X : Type 0} (passes : X → Bool) where
  passes_if : (y x : X) (b : Bool) → passes y ≡ b → (if b then Some y else None) ≡ Some x → passes x ≡ true
  passes_if y x true r e = subst (λ z. passes z ≡ true) (same_Some y x e) r
  passes_if y x false r e = absurd (none-some x e)

  last_passes : (xs : List X) (x : X) → plans.last_where passes xs ≡ Some x → passes x ≡ true
  last_passes [] x e = absurd (none-some x e)
  last_passes (y ∷ ys) x e = at (plans.last_where passes ys) refl e (λ h. last_passes ys x h)
    where
      at : (o : Option X) → plans.last_where passes ys ≡ o → option_or o (if passes y then Some y else None) ≡ Some x →
          (plans.last_where passes ys ≡ Some x → passes x ≡ true) → passes x ≡ true
      at None r e later = passes_if y x (passes y) refl e
      at (Some z) r e later = later (r ∙ e)

-- a territory whose id's text is a region's is that region's
id_told : (id : Option (List ℕ)) (region : Id) → unwrap_or id [] ≡ name region → option_and_then id_of id ≡ Some region
unfolding id_of name
id_told (Some t) region e = ap id_of e ∙ id_of-name region
id_told None region e = let nothing : id_of [] ≡ Some region = ap id_of e ∙ id_of-name region in absurd (none-some region nothing)

region_told : (db : List Metadata) (region : Id) (m : Metadata) → hinted db (Some region) ≡ Some m → option_and_then id_of m.id ≡ Some region
region_told db region m e = id_told m.id region ((bytes_eq-Decides (territory.id_of m) (name region)).0 (last_passes (plans.has_id (name region)) db m e))

-- ---- what a fitting example is read as

module _ (db : List Metadata) (region : Id) (m : Metadata) (k : «Type») (f : IsFitting db region m k) where
  abbrev digits : List ℕ
  digits = text_of f.national

  abbrev number : Reading
  number = number_in m f.national

  digits_alone : list_all is_digit digits ≡ true
  digits_alone = list_all-text_of f.national f.dialled.held

  characters : chars digits ≡ digits
  characters = chars-low digits (low_digits digits digits_alone)

  few : length digits ≤ 250
  few = omega (arith, f.dialled.short_enough)

  two : 2 ≤ length digits
  two = omega (arith, f.enough)

  back : ReadsByLibrary db (Some region) (chars digits) (Ok (inside db m number digits two))
  back = subst (λ t. ReadsByLibrary db (Some region) t (Ok (inside db m number digits two))) (sym characters)
      (subst (ReadsByLibrary db (Some region) digits) (read_inside db m number digits two f.dialled)
      (reads_inside db m number digits two (Some region) digits f.is_hint (national_written digits digits_alone f.enough few)))

  told : (n : Reading) → ReadsByLibrary db (Some region) (chars digits) (Ok n) → AreToldAlike db n number
  told n read = told_alike db (Some region) (chars digits) number n (inside db m number digits two) read back
      (inside_alike db number (stripped (Some m) digits).carrier)

  example_read : (text : Option (List ℕ)) (n : Reading) → text ≡ Some digits → IsExample db (Some region) text (Ok (Some n)) →
      ReadsByLibrary db (Some region) (chars digits) (Ok n)
  example_read _ n e (Examples.read text _ h) = subst (λ t. ReadsByLibrary db (Some region) (chars t) (Ok n)) (same_Some text digits e) h

  abbrev alike : (n : Reading) → IsExample db (Some region) (example_in m k) (Ok (Some n)) → AreToldAlike db n number
  alike n h = told n (example_read (example_in m k) n f.given h)

  pub of_its_kind : (n : Reading) → IsExample db (Some region) (example_in m k) (Ok (Some n)) → kind_of_number db n ≡ k
  of_its_kind n h = (alike n h).kind ∙ ap (λ o. option_map_or (λ (t : Metadata). kind_in t digits) o Unknown) f.own ∙ f.of_kind

  pub of_its_region : (n : Reading) → IsExample db (Some region) (example_in m k) (Ok (Some n)) → region_of_number db n ≡ Some region
  of_its_region n h =
      (alike n h).region
      ∙ ap (option_and_then (λ (t : Metadata). option_and_then id_of t.id)) f.own
      ∙ region_told db region m f.is_hint
