-- What a text is read as, from the parts that the readers find in it on.
use Rattle.std.proofs.Common.{◌≡◌, inl, inr, ℕ, ◌<◌, ◌≤◌, ◌^◌, true, List, ◌∷◌, ◌++◌, length, Option, None, Some, option_map, Result, Ok, Err, refl, ap, ap₂, sym, subst, ◌∙◌, arith, length-append}
use Rattle.std.proofs.Math.Seq.{drop-append_seam}
use Rattle.std.proofs.lemmas.Fmt.{decimal_nonempty}
use Rattle.std.specs.Fmt.{decimal}
use Rattle.std.specs.Result.{result_map_both}
use Rattle.phone_chars.proofs.Norms.{norm_digits}
use Rattle.phone_chars.specs.Characters.{is_plus}
use Rattle.phone_chars.specs.Cuts.{after_front}
use Rattle.phone_chars.specs.Norm.{norm}
use Rattle.phone_values.specs.Nsn.{nsn}
use Rattle.phone_values.specs.Numbers.{National, text_of}
use Rattle.phone_chars.specs.Viable.{IsViable}
use Rattle.phone_values.specs.declared.country.Source.{Source}
use Rattle.phone_values.specs.declared.country.Source.TheVariants.{Plus}
use Rattle.phone_values.specs.declared.error.ParseError.{ParseError}
use Rattle.phone_plans.specs.CodeLookUps.{is_listed, is_prefix_free, shortest}
use Rattle.phone_records.specs.declared.loader.Metadata.{Metadata}
use Rattle.phone_parts.specs.Parts.{Parts}
use Rattle.phone_parts.specs.Readers.{HasParts}
use Rattle.phone_read.proofs.ListedFronts.{more_than_two, prefix_listed}
use Rattle.phone_read.proofs.ReadingOnes.{reading_same}
use Rattle.phone_read.proofs.ReadNumbers.{nsn-left}
use Rattle.phone_read.specs.CallingCodes.{code_by_front, code_by_prefix, code_of, with_three}
use Rattle.phone_read.specs.Hints.{Coded}
use Rattle.phone_read.specs.Numbering.{reading_of}
use Rattle.phone_read.specs.Readings
use Rattle.phone_read.specs.Readings.{Reads, without_zeros}
use Rattle.phone_read.specs.Regions.{home}
use Rattle.phone_read.specs.Strips.{Stripped, stripped}
use Rattle.phone_read.specs.TransformRules.{rules_have_no_plus}
use Rattle.phone_values.specs.declared.reading.Reading.{Reading}
use Rattle.phonenumber.specs.RoundTrips.{IsReadAs}
use Rattle.phonenumber.specs.Plain.{IsLeftAlone}
use Rattle.phonenumber.proofs.BackCodes.{number_in-decimal, shortest-decimal}
use Rattle.phonenumber.proofs.BackNumbers.{list_all-decimal}

-- what is found in a text before stripping: parts whose national part is viable, and a code that leaves the digits of the number
pub record IsFoundAs (db : List Metadata) (t : List ℕ) (n : Reading) (extension : Option (List ℕ)) : Type 0 where
  pub parts : Parts
  pub source : Source
  pub found : HasParts t (Some parts)
  pub viable : IsViable parts.national
  pub coded : code_of db None parts.national parts.prefix ≡ Ok (record { source = source; value = n.code.value; rest = text_of n.national })
  pub same_extension : option_map norm parts.extension ≡ extension

-- what stripping leaves of the digits after a code
abbrev left : List Metadata → ℕ → List ℕ → Stripped
left db code digits = stripped (home db code (without_zeros digits)) digits

idle_left : (db : List Metadata) (code : ℕ) (digits : List ℕ) → IsLeftAlone db code digits → (left db code digits).national ≡ digits
idle_left db code digits (inl none) = ap (λ o. (stripped o digits).national) none
idle_left db code digits (inr (m, there, same)) = ap (λ o. (stripped o digits).national) there ∙ same

idle_of : (db : List Metadata) (code : ℕ) (digits : List ℕ) (o : Option Metadata) → home db code (without_zeros digits) ≡ o → (stripped o digits).national ≡ digits →
    IsLeftAlone db code digits
idle_of db code digits None there same = inl there
idle_of db code digits (Some m) there same = inr (m, there, same)

ok_inside : (c : Coded) (e : Option (List ℕ)) (s : Stripped) (m : Reading) → Ok m ≡ reading_of c e s → nsn s.national ≡ Ok m.national
ok_inside c e s m = at (nsn s.national)
  where
    at : (r : Result National ParseError) →
        Ok m ≡ result_map_both (λ n. record { code = record { value = c.value; source = c.source }; national = n; extension = e; carrier = s.carrier }) (λ e. e) r → r ≡ Ok m.national
    at (Ok n) h = cc
    at (Err x) h = cc

module _ (db : List Metadata) (t : List ℕ) (n : Reading) (extension : Option (List ℕ)) (f : IsFoundAs db t n extension) where
  abbrev c : Coded
  c = record { source = f.source; value = n.code.value; rest = text_of n.national }

  reads : Reads db None t (reading_of c (option_map norm f.parts.extension) (left db n.code.value (text_of n.national)))
  reads = Readings.coded f.parts c f.found f.viable f.coded

  -- where stripping leaves the digits alone, the text is read as the number
  pub read_as : nsn (text_of n.national) ≡ Ok n.national → IsLeftAlone db n.code.value (text_of n.national) → IsReadAs db t n extension
  read_as number idle =
      let s = left db n.code.value (text_of n.national) in
      let m : Reading = record { code = record { value = n.code.value; source = f.source }; national = n.national; extension = option_map norm f.parts.extension; carrier = s.carrier } in
      let of_left : nsn s.national ≡ Ok n.national = ap nsn (idle_left db n.code.value (text_of n.national) idle) ∙ number in
      let whole : reading_of c (option_map norm f.parts.extension) s ≡ Ok m = rw of_left in
      (m, subst (λ r. Reads db None t r) whole reads, record { code = refl; national = refl; extension = f.same_extension })

  -- and only there, where no transform rule has a plus sign
  pub idle_as : rules_have_no_plus db ≡ true → IsReadAs db t n extension → IsLeftAlone db n.code.value (text_of n.national)
  idle_as plain (m, is_read, same) =
      let digits = text_of n.national in
      let s = left db n.code.value digits in
      let whole : Ok m ≡ reading_of c (option_map norm f.parts.extension) s = reading_same db None t (Ok m) _ is_read reads in
      let number : nsn s.national ≡ Ok m.national = ok_inside c (option_map norm f.parts.extension) s m whole in
      let text : text_of m.national ≡ s.national = nsn-left db None f.parts.national f.parts.prefix c m.national plain f.coded number in
      idle_of db n.code.value digits (home db n.code.value (without_zeros digits)) refl (sym text ∙ ap text_of same.national)

module _ (db : List Metadata) (code : ℕ) (digits : List ℕ) (listed : is_listed code db ≡ true) where
  -- the code after a plus sign: the front of the digits that is the printed code
  pub code_of-signed : (s : List ℕ) → is_prefix_free db ≡ true → 1 ≤ code → code ≤ 999 → 2 ≤ length digits → after_front is_plus s ≡ s →
      norm s ≡ decimal code ++ digits → code_of db None (43 ∷ s) None ≡ Ok (record { source = Plus; value = code; rest = digits })
  code_of-signed s free some few two no_sign normal =
      let text = decimal code ++ digits in
      let fits : code < 2 ^ 64 = omega (arith, few) in
      let long : 2 < length text = omega (arith, length-append (decimal code) digits, decimal_nonempty code fits, two) in
      let whole : norm (after_front is_plus s) ≡ text = ap norm no_sign ∙ normal in
      let found : shortest db text ≡ Some code = shortest-decimal db code digits some few listed free in
      let coded : code_by_front db Plus text ≡ Ok (record { source = Plus; value = code; rest = digits }) = rw (found, drop-append_seam (decimal code) digits) in
      ap (λ ds. with_three ds (code_by_front db Plus ds)) whole ∙ more_than_two text (code_by_front db Plus text) long ∙ coded

  -- the code that the reader found as a prefix
  pub code_of-prefix : (s : List ℕ) → code < 2 ^ 16 → 3 ≤ length digits → norm s ≡ digits →
      code_of db None s (Some (decimal code)) ≡ Ok (record { source = Plus; value = code; rest = digits })
  code_of-prefix s below three normal =
      let fits : code < 2 ^ 64 = omega (arith, below) in
      let prefix : norm (decimal code) ≡ decimal code = norm_digits (decimal code) (list_all-decimal code fits) in
      ap₂ (λ p ds. with_three ds (code_by_prefix db p ds)) prefix normal
      ∙ more_than_two digits (code_by_prefix db (decimal code) digits) three
      ∙ prefix_listed db (decimal code) digits code (number_in-decimal 16 code below fits) listed
