-- Both readings of ASCII digits are the same, where they find the same code and strip the same.
use Rattle.std.proofs.Common.{◌≡◌, ℕ, ◌≤◌, ◌==◌, not, Bool, true, false, List, [], ◌∷◌, length, Option, None, Some, option_map, Result, Ok, Err, refl, ap, sym, subst, ◌∙◌, arith}
use Rattle.std.proofs.lemmas.Bool.{and_parts, cond-false, le-ltb, or_left}
use Rattle.std.specs.List.{list_all, list_any}
use Rattle.std.specs.Result.{result_map_both}
use Rattle.phone_chars.proofs.Norms.{norm_digits}
use Rattle.phone_chars.specs.Characters.{is_digit}
use Rattle.phone_chars.specs.Norm.{norm}
use Rattle.phone_chars.specs.Viable.{IsViable}
use Rattle.phone_values.specs.Numbers.{National}
use Rattle.phone_values.specs.declared.country.Id.{Id}
use Rattle.phone_values.specs.declared.error.ParseError.{ParseError}
use Rattle.phone_values.specs.declared.reading.Reading.{Reading}
use Rattle.phone_library.specs.LibraryCodes.{code_in}
use Rattle.phone_library.specs.Readings as second
use Rattle.phone_library.specs.Readings.{ReadsByLibrary, after_code_if_any}
use Rattle.phone_library_laws.specs.Agreement.{IsReadAlike, IsStrippedAlike, digits_text}
use Rattle.phone_library_text.specs.Written.{IsWritten, most_characters}
use Rattle.phone_parts.proofs.Ends.{all_wider}
use Rattle.phone_parts.proofs.PrintedE164.{e164_parts}
use Rattle.phone_parts.specs.Readers
use Rattle.phone_parts.specs.Readers.{HasParts}
use Rattle.phone_parts.specs.Texts.{begins, ends}
use Rattle.phone_read.specs.Strips as strips
use Rattle.phone_read.specs.Strips.{Stripped}
use Rattle.phone_read.proofs.ReadingOnes as first_proofs
use Rattle.phone_read.specs.CallingCodes.{code_of}
use Rattle.phone_read.specs.Hints.{Coded, hinted}
use Rattle.phone_read.specs.Numbering as numbering
use Rattle.phone_read.specs.Readings as first
use Rattle.phone_read.specs.Readings.{Reads}
use Rattle.phone_records.specs.declared.loader.Metadata.{Metadata}
use Rattle.phonenumber.proofs.BackLaws.{parted_digits}
use Rattle.phonenumber.proofs.BackViable.{viable-parted}
use Rattle.phonenumber.proofs.ThinTexts.{IsThinText, digit_passes, none_passes, thin_tel}
use Rattle.phonenumber.specs.Thin.{is_thin_char}
use Rattle.phone_library_laws.proofs.AlikeCodes.{coded_alike}
use Rattle.phone_library_laws.proofs.NationalTexts.{national_number-nsn}
use Rattle.phone_library_laws.proofs.ReadAgain.{PlainInternational}
use Rattle.phone_library_laws.proofs.ReadOnce.{OneWritten, read_if_written}

-- what is written in digits alone
abbrev pub PlainNational : Type 0
PlainNational = (d : List ℕ) → list_all is_digit d ≡ true → 3 ≤ length d → length d ≤ most_characters →
    IsWritten d (Ok (record { has_plus = false; digits = d; extension = None }))

begins_all : (d : List ℕ) → list_all is_digit d ≡ true → 1 ≤ length d → begins is_digit d ≡ true
begins_all [] h some = absurd (omega (arith, some))
begins_all (c ∷ cs) h some = (and_parts (is_digit c) (list_all is_digit cs) h).0

ends_all : (d : List ℕ) → list_all is_digit d ≡ true → 1 ≤ length d → ends is_digit d ≡ true
ends_all [] h some = absurd (omega (arith, some))
ends_all (c ∷ []) h some = (and_parts (is_digit c) true h).0
ends_all (c ∷ d ∷ ds) h some = ends_all (d ∷ ds) (and_parts (is_digit c) (list_all is_digit (d ∷ ds)) h).1 (omega arith)

module _ (d : List ℕ) (digits : list_all is_digit d ≡ true) (some : 1 ≤ length d) where
  thin : IsThinText d
  thin = record {
    first = begins_all d digits some;
    last = ends_all d digits some;
    all = all_wider is_digit is_thin_char (λ c e. or_left _ _ (or_left _ _ e)) d digits;
  }

  no_space : list_any (λ c. c == 32) d ≡ false
  no_space = none_passes (λ c. c == 32) d (all_wider is_digit (λ c. not (c == 32)) (digit_passes (λ c. not (c == 32)) refl) d digits)

  -- the first reading finds digits alone, or after a plus sign, as they are
  pub own_parts : (has_plus : Bool) → HasParts (digits_text has_plus d) (Some (record { national = digits_text has_plus d; prefix = None; extension = None }))
  own_parts true = e164_parts d digits some
  own_parts false = Readers.as_tel (record { national = d; prefix = None; extension = None }) (thin_tel d thin no_space)

pub own_viable : (d : List ℕ) → list_all is_digit d ≡ true → 3 ≤ length d → (has_plus : Bool) → IsViable (digits_text has_plus d)
own_viable d digits three true = viable-parted (43 ∷ []) d refl (parted_digits d digits) (omega (arith, ap length (norm_digits d digits), three))
own_viable d digits three false = viable-parted [] d refl (parted_digits d digits) (omega (arith, ap length (norm_digits d digits), three))

module _ (international : PlainInternational) (national : PlainNational) where
  own_written : (d : List ℕ) → list_all is_digit d ≡ true → 3 ≤ length d → (has_plus : Bool) → length (digits_text has_plus d) ≤ most_characters →
      IsWritten (digits_text has_plus d) (Ok (record { has_plus = has_plus; digits = d; extension = None }))
  own_written d digits three true few = international d digits three few
  own_written d digits three false few = national d digits three few

-- what both read after one code
module _ (db : List Metadata) (hint : Option Id) where
  abbrev first_after : Coded → Result Reading ParseError
  first_after c = numbering.reading_of c (option_map norm None) (strips.stripped (first.stripping_territory db hint c) c.rest)

  abbrev made : Coded → Stripped → Result National ParseError → Result Reading ParseError
  made c s r =
      result_map_both (λ n. record { code = record { value = c.value; source = c.source }; national = n; extension = None; carrier = s.carrier }) (λ e. e) r

  after_alike : (c : Coded) → IsStrippedAlike db hint c → first_after c ≡ second.after_code db (hinted db hint) None c
  after_alike c h =
      let s = second.stripped (second.stripping_territory db (hinted db hint) c) c.rest in
      ap (numbering.reading_of c None) h.alike
      ∙ ap (made c s) (national_number-nsn s.national h.not_zeros)
      ∙ sym (cond-false _ _ _ (le-ltb (length c.rest) 2 h.two))

  module _ (t : List ℕ) (p : HasParts t (Some (record { national = t; prefix = None; extension = None }))) (viable : IsViable t) where
    first_is : (r : Result Coded ParseError) → code_of db hint t None ≡ r → ((c : Coded) → r ≡ Ok c → IsStrippedAlike db hint c) →
        Reads db hint t (after_code_if_any db (hinted db hint) None r)
    first_is (Err e) coded alike = first.no_code (record { national = t; prefix = None; extension = None }) e p viable coded
    first_is (Ok c) coded alike =
        subst (Reads db hint t) (after_alike c (alike c refl)) (first.coded (record { national = t; prefix = None; extension = None }) c p viable coded)

-- both readings are the same
pub readings_alike : OneWritten → PlainInternational → PlainNational → (db : List Metadata) (hint : Option Id) (has_plus : Bool) (d : List ℕ)
    (a b : Result Reading ParseError) → IsReadAlike db hint has_plus d → Reads db hint (digits_text has_plus d) a → ReadsByLibrary db hint (digits_text has_plus d) b → a ≡ b
readings_alike one international national db hint has_plus d a b h reads reads_by_library =
    let t = digits_text has_plus d in
    let r = code_in db (hinted db hint) has_plus d in
    let by_first = first_is db hint t (own_parts d h.digits_alone (omega (arith, h.enough)) has_plus) (own_viable d h.digits_alone h.enough has_plus) r
    (coded_alike db hint d h.digits_alone h.enough has_plus h.coded) h.stripped in
    first_proofs.reading_same db hint t a (after_code_if_any db (hinted db hint) None r) reads by_first
    ∙ sym (read_if_written one db hint t (record { has_plus = has_plus; digits = d; extension = None }) b
    (own_written international national d h.digits_alone h.enough has_plus h.few) reads_by_library)
