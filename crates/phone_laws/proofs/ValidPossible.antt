-- A valid number is possible.
use Rattle.std.proofs.Common.{◌≡◌, ℕ, ◌==◌, ◌||◌, ◌++◌, Bool, true, false, if◌then◌else◌, List, [], ◌∷◌, length, Option, None, Some, refl, ap, sym, subst, ◌∙◌, true≢false}
use Rattle.std.proofs.lemmas.List.{append-nil}
use Rattle.std.specs.List.{cons_option, list_any}
use Rattle.std.specs.Option.{option_map_or}
use Rattle.phone_values.specs.Numbers.{text_of}
use Rattle.phone_values.specs.Validations.{is_possible}
use Rattle.phone_values.specs.declared.kind.«Type».TheVariants.{Unknown}
use Rattle.phone_values.specs.declared.reading.Reading.{Reading}
use Rattle.phone_values.specs.declared.validator.Validation.{Validation}
use Rattle.phone_values.specs.declared.validator.Validation.TheVariants.{InvalidCountryCode, InvalidLength, IsPossible, IsPossibleLocalOnly, TooLong, TooShort}
use Rattle.phone_library.specs.Facts.{is_valid_number, territory_of_number}
use Rattle.phone_plans.specs.CodeLookUps.{first_of, territories}
use Rattle.phone_records.specs.declared.loader.Descriptor.{Descriptor}
use Rattle.phone_records.specs.declared.loader.Metadata.{Metadata}
use Rattle.phone_read.specs.Verdicts.{general_lengths}
use Rattle.phone_territory.specs.Records.{allows_length}
use Rattle.phone_questions.specs.Possible.{is_among, lengths_by, possibility_as, verdict_by, verdict_in, verdict_on}

-- a verdict by the two tests that come first
said : (here listed : Bool) (rest : Validation) → listed ≡ true →
    is_possible (if here then IsPossibleLocalOnly else if listed then IsPossible else rest) ≡ true
said true listed rest h = refl
said false true rest h = refl
said false false rest h = absurd (true≢false (sym h))

verdict-possible : (lengths local : List ℕ) (n : ℕ) → ((length lengths == 0) || is_among n lengths) ≡ true →
    is_possible (verdict_on lengths local n) ≡ true
verdict-possible lengths local n h = said (is_among n local) ((length lengths == 0) || is_among n lengths) _ h

-- the general descriptor's lengths are its own
own_lengths : (m : Metadata) (d : Descriptor) → m.general ≡ Some d → lengths_by m d ≡ d.possible_length
own_lengths m d e = at (length d.possible_length == 0)
  where
    at : (none : Bool) → (if none then general_lengths m else d.possible_length) ≡ d.possible_length
    at true = ap (λ o. option_map_or (λ (d : Descriptor). d.possible_length) o []) e
    at false = refl

pub by_general : (m : Metadata) (n : ℕ) (o : Option Descriptor) → m.general ≡ o →
    option_map_or (λ (d : Descriptor). allows_length d n) o false ≡ true → is_possible (verdict_by m (cons_option o []) n) ≡ true
by_general m n None e h = absurd (true≢false (sym h))
by_general m n (Some d) e h =
    let own : lengths_by m d ++ [] ≡ d.possible_length = append-nil (lengths_by m d) ∙ own_lengths m d e in
    subst (λ ls. is_possible (verdict_on ls (d.possible_local_length ++ []) n) ≡ true) (sym own)
    (verdict-possible d.possible_length (d.possible_local_length ++ []) n h)

pub valid-possible : (db : List Metadata) (n : Reading) (m : Metadata) →
    option_map_or (λ (d : Descriptor). allows_length d (length (text_of n.national))) m.general false ≡ true →
    first_of (territories n.code.value db) ≡ Some m → is_possible (possibility_as db Unknown n) ≡ true
valid-possible db n m allowed first =
    ap (λ o. is_possible (option_map_or (verdict_in Unknown (length (text_of n.national))) o InvalidCountryCode)) first
    ∙ by_general m (length (text_of n.national)) m.general refl allowed
