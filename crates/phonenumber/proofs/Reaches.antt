-- Which numbers the premises of reading back take.
use Rattle.std.proofs.Common.{◌≡◌, ℕ, ◌≤◌, not, Bool, true, false, List, [], ◌∷◌, filter, length, Option, None, Some, Ok, refl, ap, sym, ◌∙◌, arith, true≢false}
use Rattle.std.proofs.lemmas.Bool.{and_parts, cond-true}
use Rattle.std.specs.List.{list_all, list_any}
use Rattle.std.specs.Option.{option_map_or}
use Rattle.std.specs.Str.{chars}
use Rattle.phone_chars.specs.Characters.{is_digit, is_one_of, is_punctuation, is_separator}
use Rattle.phone_values.specs.Numbers.{text_of}
use Rattle.phone_values.specs.declared.country.Id.{Id}
use Rattle.phone_values.specs.declared.mode.Mode.TheVariants.{International}
use Rattle.phone_plans.specs.CodeLookUps.{first_of, territories}
use Rattle.phone_records.specs.declared.loader.Metadata.{Metadata}
use Rattle.phone_parts.proofs.Ends.{all_wider}
use Rattle.phone_read.proofs.ListedFronts.{listed_none}
use Rattle.phone_read.proofs.ReadNumbers.{national-digits, number-listed}
use Rattle.phone_read.specs.Readings.{Reads}
use Rattle.phone_read.specs.TransformRules.{rules_have_no_plus}
use Rattle.phone_values.specs.declared.reading.Reading.{Reading}
use Rattle.phone_print.specs.Layouts.{laid, layout_for}
use Rattle.phonenumber.specs.Bounds.{IsBounded}
use Rattle.phonenumber.specs.Plain.{IsPlainE164, IsPlainInternational, IsPlainRfc3966, has_digits}
use Rattle.phone_print.specs.Texts.{laid_out}
use Rattle.phonenumber.proofs.BackLaws.{between_digits, punctuated}
use Rattle.phonenumber.proofs.BackNumbers.{list_all-text_of}
use Rattle.phonenumber.proofs.BackTexts.{chars-low, low_digits}
use Rattle.phonenumber.proofs.BackViable.{indicating}
use Rattle.phonenumber.proofs.ThinTexts.{digit_passes, none_passes}

-- a number that was read is plain for the E.164 text
pub plain_if_read : (db : List Metadata) (hint : Option Id) (text : List ℕ) (n : Reading) → rules_have_no_plus db ≡ true → Reads db hint text (Ok n) → IsPlainE164 db n
plain_if_read db hint text n rules read = at (first_of (territories n.code.value db)) refl
  where
    at : (o : Option Metadata) → first_of (territories n.code.value db) ≡ o → IsPlainE164 db n
    at None none = absurd (true≢false (sym (number-listed db hint text n read) ∙ listed_none n.code.value db (sym none)))
    at (Some m) some =
        let is = national-digits db hint text n rules read in
        (m, record { listed = some; not_zero = is.not_zero; long_enough = is.long_enough; short_enough = is.short_enough })

-- of digits nothing goes that isn't one
all_stay : (p : ℕ → Bool) → ((c : ℕ) → is_digit c ≡ true → p c ≡ false) → (ds : List ℕ) → list_all is_digit ds ≡ true → filter (λ c. not (p c)) ds ≡ ds
all_stay p none [] h = refl
all_stay p none (d ∷ ds) h =
    let both = and_parts (is_digit d) (list_all is_digit ds) h in
    cond-true _ _ _ (ap not (none d both.0)) ∙ ap (λ t. d ∷ t) (all_stay p none ds both.1)

-- nor does a digit announce an extension
quiet_digits : (ds : List ℕ) → list_all is_digit ds ≡ true → list_any (is_one_of indicating) ds ≡ false
quiet_digits ds h =
    none_passes (is_one_of indicating) ds (all_wider is_digit (λ c. not (is_one_of indicating c)) (digit_passes (λ c. not (is_one_of indicating c)) refl) ds h)

-- without a layout and an extension
module _ (db : List Metadata) (n : Reading) (bounded : IsBounded n) (p : IsPlainE164 db n) (no_extension : n.extension ≡ None)
    (no_layout : layout_for p.0 International None (text_of n.national) ≡ None) where
  digits : list_all is_digit (text_of n.national) ≡ true
  digits = list_all-text_of n.national bounded.national

  alone : chars (laid_out p.0 International None n) ≡ text_of n.national
  alone = ap (λ f. chars (laid f p.0 International n.carrier (text_of n.national))) no_layout ∙ chars-low (text_of n.national) (low_digits (text_of n.national) digits)

  pub international_without_layout : IsPlainInternational db n
  international_without_layout = record {
    territory = p.0;
    plain = p.1;
    extension = ap has_digits no_extension;
    few_digits = omega (arith, ap (λ e. option_map_or length e 0) no_extension);
    only_parted = ap (filter (λ c. not (is_punctuation c))) alone ∙ all_stay is_punctuation punctuated (text_of n.national) digits;
    no_indicator = ap (list_any (is_one_of indicating)) alone ∙ quiet_digits (text_of n.national) digits;
  }

  pub rfc3966_without_layout : 3 ≤ length (text_of n.national) → IsPlainRfc3966 db n
  rfc3966_without_layout three = record {
    territory = p.0;
    plain = record { listed = p.1.listed; not_zero = p.1.not_zero; long_enough = three; short_enough = p.1.short_enough };
    extension = ap has_digits no_extension;
    only_parted = ap (filter (λ c. not (is_separator c))) alone ∙ all_stay is_separator between_digits (text_of n.national) digits;
  }
