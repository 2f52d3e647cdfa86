-- Dialled numbers are read back under the region as hint.
use Rattle.std.proofs.Common.{◌≡◌, ℕ, ◌<◌, ◌≤◌, ◌^◌, ◌==◌, not, Bool, true, false, List, [], ◌∷◌, ◌++◌, codes, drop, length, get_or, Option, None, Some, IsUtf8, option_map, unwrap_or, Ok, Err, refl, ap, sym, subst, ◌∙◌, append_assoc, arith, length-append, ne_eqb}
use Rattle.std.proofs.Math.Seq.{drop-append_seam}
use Rattle.std.proofs.lemmas.Bool.{and_from, and_parts, cond-false, cond-true, not-true, or_right}
use Rattle.std.proofs.lemmas.Fmt.{decimal_nonempty, first_decimal}
use Rattle.std.proofs.lemmas.List.Elements.{filter_map-append}
use Rattle.std.proofs.lemmas.List.Folds.{list_all-append, list_any-append}
use Rattle.std.proofs.lemmas.Str.{IsUtf8-append, chars-append}
use Rattle.std.specs.Fmt.{decimal}
use Rattle.std.specs.List.{list_all, list_any}
use Rattle.std.specs.Option.{option_map_or}
use Rattle.std.specs.Str.{chars}
use Rattle.phone_chars.proofs.Norms.{norm_digits}
use Rattle.phone_chars.proofs.Runs.{IsUtf8-after}
use Rattle.phone_chars.proofs.Signed.{after_front-append}
use Rattle.phone_chars.specs.Characters.{digit_of, is_digit, is_plus}
use Rattle.phone_chars.specs.Cuts.{after_front}
use Rattle.phone_chars.specs.Norm.{norm}
use Rattle.phone_chars.specs.Viable.{IsViable}
use Rattle.phone_values.specs.Nsn.{nsn}
use Rattle.phone_values.specs.Numbers.{text_of}
use Rattle.phone_values.specs.declared.country.Id.{Id}
use Rattle.phone_values.specs.declared.country.Source.{Source}
use Rattle.phone_values.specs.declared.country.Source.TheVariants.{Default, Idd, Plus}
use Rattle.phone_values.specs.declared.mode.Mode.TheVariants.{International}
use Rattle.phone_plans.specs.CodeLookUps.{first_of, is_listed, territories}
use Rattle.phone_records.specs.declared.loader.Metadata.{Metadata}
use Rattle.phone_parts.proofs.Ends.{ends-append}
use Rattle.phone_parts.proofs.PrintedInternational.{some_text}
use Rattle.phone_parts.proofs.PrintedTexts.{digit_passes}
use Rattle.phone_parts.specs.Parts.{Parts}
use Rattle.phone_parts.specs.Readers.{HasParts}
use Rattle.phone_parts.specs.Texts.{begins, ends}
use Rattle.phone_read.proofs.FoundCodes.{code_by-front}
use Rattle.phone_read.proofs.ListedFronts.{listed_some, more_than_two}
use Rattle.phone_read.specs.Dialling.{Dialled, after_match, dialled, found_in, source_of, unsigned}
use Rattle.phone_read.specs.CallingCodes.{code_by, code_by_front, code_of, dialled_under, international_prefix_of}
use Rattle.phone_read.specs.Hints.{Coded, hinted}
use Rattle.phone_read.specs.Numbering.{reading_of}
use Rattle.phone_read.specs.Readings
use Rattle.phone_read.specs.Readings.{Reads}
use Rattle.phone_read.specs.Strips.{stripped}
use Rattle.phone_values.specs.declared.reading.Reading.{Reading}
use Rattle.phonenumber.specs.Bounds.{IsBounded}
use Rattle.phone_print.specs.Texts.{extension_part, laid_out}
use Rattle.phonenumber.proofs.BackCodes.{shortest-decimal}
use Rattle.phonenumber.proofs.BackLaws.{IsFoundBefore, parted_digits}
use Rattle.phonenumber.proofs.BackNumbers.{list_all-decimal, nsn-text_of}
use Rattle.phonenumber.proofs.BackTexts.{IsUtf8-low, chars-international_text, chars-low, is_low, low_digits}
use Rattle.phonenumber.proofs.BackViable.{all_allowed, is_parted, viable-parted}
use Rattle.phonenumber.specs.Plain.{has_digits}
use Rattle.phone_engine.specs.Back.{IsAfterPlus, IsAfterPrefix, IsPlainDialled, IsReadUnder}
use Rattle.phone_engine.specs.Dialled.{dialled_abroad, dialled_by, dialled_text}
use Rattle.phone_engine.specs.declared.dialled.DialError.TheVariants.{UnknownCode, UnknownRegion}
use Rattle.phone_engine.proofs.DialledParts.{IsLaid, IsTold, coded_laid, kept_of, laid_text, plain_laid, plain_told}
use Rattle.phone_engine.proofs.Prefixes.{never_empty}
use Rattle.phone_engine.proofs.UnsignedParts.{unsigned_parts}

-- how a national part without a reader's prefix is dialled, where its digits and what follows an
-- international prefix are known
abbrev dial : Bool → Option (List ℕ) → List ℕ → Dialled
dial signed after digits = record { source = source_of signed after; digits = unwrap_or after digits }

dialled_is : (found : List ℕ → Option (ℕ × ℕ)) (t digits : List ℕ) (after : Option (List ℕ)) →
    unsigned t ≡ digits → after_match digits (found digits) ≡ after →
    dialled found t None ≡ dial (begins is_plus t) after digits
dialled_is found t digits after e f =
    ap (λ u. dial (begins is_plus t) (after_match u (found u)) u) e
    ∙ ap (λ a. dial (begins is_plus t) a digits) f

-- a positive code doesn't begin with 0
no_zero : (code : ℕ) (rest : List ℕ) → 1 ≤ code → code < 2 ^ 64 →
    begins (λ d. d == 48) (decimal code ++ rest) ≡ false
no_zero code rest some fits = at (decimal code) refl
  where
    at : (ds : List ℕ) → decimal code ≡ ds → begins (λ d. d == 48) (ds ++ rest) ≡ false
    at [] e =
        let none : length (decimal code) ≡ 0 = ap length e in
        absurd (omega (arith, decimal_nonempty code fits, none))
    at (d ∷ ds) e =
        let first : get_or (decimal code) 0 0 ≡ d = ap (λ t. get_or t 0 0) e in
        ne_eqb d 48 (λ zero. absurd (omega (arith, first_decimal code (omega (arith, some)) fits, first, zero)))

norm_extension : (e : Option (List ℕ)) → has_digits e ≡ true → option_map norm e ≡ e
norm_extension None h = refl
norm_extension (Some e) h = ap Some (norm_digits e h)

module _ (db : List Metadata) (region : Id) (n : Reading) (bounded : IsBounded n) (h : IsPlainDialled db region n) where
  abbrev hint : Option Id
  hint = Some region

  abbrev cd : List ℕ
  cd = decimal n.code.value

  abbrev digits : List ℕ
  digits = text_of n.national

  abbrev q : List ℕ
  q = laid_text db n bounded.national h.plain

  abbrev m : Metadata
  m = h.plain.territory

  fits : n.code.value < 2 ^ 64
  fits = omega (arith, h.few_digits)

  code_digits : list_all is_digit cd ≡ true
  code_digits = list_all-decimal n.code.value fits

  listed : is_listed n.code.value db ≡ true
  listed = listed_some n.code.value db m (sym h.plain.plain.listed)

  laid : IsLaid q digits
  laid = plain_laid db n bounded.national h.plain

  told : IsTold m q n.extension
  told = plain_told db n bounded.national h.plain h.announced

  number : nsn digits ≡ Ok n.national
  number = nsn-text_of n.national bounded.national h.plain.plain.not_zero h.plain.plain.long_enough
      h.plain.plain.short_enough

  -- ---- from the national part on

  long : 2 < length (cd ++ digits)
  long = omega (arith, length-append cd digits, decimal_nonempty n.code.value fits, h.plain.plain.long_enough)

  front_coded : (source : Source) → code_by_front db source (cd ++ digits)
      ≡ Ok (record { source = source; value = n.code.value; rest = digits })
  front_coded source =
      rw (shortest-decimal db n.code.value digits h.some_code h.few_digits listed h.prefix_free, drop-append_seam cd digits)

  -- the code of a national part that is dialled so
  coded : (source : Source) (t : List ℕ) → ¬ (source ≡ Default) →
      dialled_under db hint t None ≡ record { source = source; digits = cd ++ digits } →
      code_of db hint t None ≡ Ok (record { source = source; value = n.code.value; rest = digits })
  coded source t other e =
      ap (λ (d : Dialled). code_by db (hinted db hint) None d.source d.digits) e
      ∙ code_by-front db (hinted db hint) source (cd ++ digits) other
      ∙ more_than_two (cd ++ digits) (code_by_front db source (cd ++ digits)) long
      ∙ front_coded source

  idle : (stripped (hinted db hint) digits).national ≡ digits
  idle = ap (λ o. (stripped o digits).national) h.hinted ∙ h.idle

  -- so a text with such parts is read as the number
  read_under : (source : Source) (text t : List ℕ) → ¬ (source ≡ Default) →
      HasParts text (Some (record { national = t; prefix = None; extension = n.extension })) →
      IsViable t → dialled_under db hint t None ≡ record { source = source; digits = cd ++ digits } →
      IsReadUnder db region text n source
  read_under source text t other parts viable e =
      let c : Coded = record { source = source; value = n.code.value; rest = digits } in
      let p : Parts = record { national = t; prefix = None; extension = n.extension } in
      let s = stripped (hinted db hint) digits in
      let r : Reading = record {
        code = record { value = n.code.value; source = source };
        national = n.national;
        extension = option_map norm n.extension;
        carrier = s.carrier;
      } in
      let of_left : nsn s.national ≡ Ok n.national = ap nsn idle ∙ number in
      let whole : reading_of c (option_map norm n.extension) s ≡ Ok r = rw of_left in
      let reads : Reads db hint text (reading_of c (option_map norm n.extension) s) =
      Readings.coded p c parts viable (coded source t other e) in (
        r,
        subst (λ r. Reads db hint text r) whole reads,
        record { code = refl; national = refl; extension = norm_extension n.extension h.plain.extension },
        refl,
      )

  -- ---- the dialled text

  abbrev behind : List ℕ
  behind = laid_out m International None n ++ extension_part m n.extension

  text_is : (text : List ℕ) → dialled_text db region n ≡ Ok text → dialled_abroad h.from m n ≡ text
  text_is text e =
      let same : Ok (dialled_by h.from m n) ≡ Ok text =
      sym (ap (λ o. option_map_or (λ (m : Metadata). Ok (dialled_by h.from m n)) o (Err UnknownCode)) h.plain.plain.listed)
      ∙ sym (ap (λ o. option_map_or
      (λ (from : Metadata). option_map_or (λ m. Ok (dialled_by from m n)) (first_of (territories n.code.value db)) (Err UnknownCode))
      o (Err UnknownRegion)) h.hinted) ∙ e in
      let inside : dialled_by h.from m n ≡ text = cc in
      sym (cond-false _ _ _ h.other_code) ∙ inside

  -- its characters, behind what is dialled in front of the code
  characters : (front : List ℕ) → list_all is_low front ≡ true →
      IsUtf8 (front ++ (cd ++ 32 ∷ behind)) →
      chars (front ++ (cd ++ 32 ∷ behind)) ≡ front ++ (cd ++ 32 ∷ (q ++ told.told))
  characters front low utf8 =
      let rest = cd ++ 32 ∷ behind in
      let front_utf8 : IsUtf8 front = IsUtf8-low front low in
      let sign_utf8 : IsUtf8 (43 ∷ []) = IsUtf8-low (43 ∷ []) refl in
      let rest_utf8 : IsUtf8 rest = IsUtf8-after front rest utf8 front_utf8 in
      let signed : chars (43 ∷ rest) ≡ 43 ∷ (cd ++ 32 ∷ (q ++ told.told)) =
      chars-international_text n fits m told.utf8 (IsUtf8-append (43 ∷ []) rest sign_utf8 rest_utf8)
      ∙ ap (λ t. 43 ∷ (cd ++ 32 ∷ (q ++ t))) told.characters in
      let apart : chars (43 ∷ rest) ≡ 43 ∷ chars rest =
      chars-append (43 ∷ []) rest sign_utf8 ∙ ap (λ t. t ++ chars rest) (chars-low (43 ∷ []) refl) in
      chars-append front rest front_utf8 ∙ ap (λ t. t ++ chars rest) (chars-low front low)
      ∙ ap (λ t. front ++ t) (ap (drop 1) (sym apart ∙ signed))

  -- ---- with a plus sign

  module _ (plus : IsAfterPlus h.from n) where
    plus_dialled : (s : List ℕ) → after_front is_plus s ≡ s → norm s ≡ cd ++ digits →
        dialled_under db hint (43 ∷ s) None ≡ record { source = Plus; digits = cd ++ digits }
    plus_dialled s no_sign normal =
        ap (λ o. dialled (found_in (international_prefix_of o)) (43 ∷ s) None) h.hinted
        ∙ dialled_is (found_in h.from.international_prefix) (43 ∷ s) (cd ++ digits) None
        (ap norm no_sign ∙ normal) plus.not_found

    plus_read : IsFoundBefore cd q told.told n.extension →
        IsReadUnder db region (43 ∷ (cd ++ 32 ∷ (q ++ told.told))) n Plus
    plus_read (kept, rest, whole, only, parts) =
        let k = kept_of q digits kept rest laid whole only in
        let s = cd ++ 32 ∷ kept in
        let s_parted : list_all is_parted s ≡ true =
        list_all-append is_parted cd (32 ∷ kept) ∙ and_from _ _ (parted_digits cd code_digits) k.parted in
        let normal : norm s ≡ cd ++ digits =
        filter_map-append digit_of cd (32 ∷ kept) ∙ ap (λ t. t ++ norm kept) (norm_digits cd code_digits)
        ∙ ap (λ t. cd ++ t) k.normal in
        let no_sign : after_front is_plus s ≡ s = after_front-append [] s refl (all_allowed s s_parted) in
        read_under Plus (43 ∷ (cd ++ 32 ∷ (q ++ told.told))) (43 ∷ s) (λ e. cc) parts
        (viable-parted (43 ∷ []) s refl s_parted (omega (arith, ap length normal, long)))
        (plus_dialled s no_sign normal)

    pub plus_back : (text : List ℕ) → IsUtf8 text → dialled_text db region n ≡ Ok text →
        IsReadUnder db region (chars text) n Plus
    plus_back text utf8 e =
        let same : codes "+" ++ (cd ++ 32 ∷ behind) ≡ text =
        sym (ap (λ o. option_map_or (λ p. p ++ 32 ∷ []) o (codes "+") ++ (cd ++ 32 ∷ behind)) plus.dialled)
        ∙ text_is text e in
        let whole : chars text ≡ 43 ∷ (cd ++ 32 ∷ (q ++ told.told)) =
        ap chars (sym same) ∙ characters (codes "+") refl (subst IsUtf8 (sym same) utf8) in
        subst (λ t. IsReadUnder db region t n Plus) (sym whole)
        (plus_read (told.before cd q digits code_digits laid (λ e. e)))

  -- ---- with an international prefix

  module _ (pre : IsAfterPrefix h.from n) where
    abbrev p : List ℕ
    p = pre.prefix

    -- what follows the prefix
    after_prefix : after_match (p ++ (cd ++ digits))
        (found_in h.from.international_prefix (p ++ (cd ++ digits))) ≡ Some (cd ++ digits)
    after_prefix =
        let all = p ++ (cd ++ digits) in
        let rest : drop (length p) all ≡ cd ++ digits = drop-append_seam p (cd ++ digits) in
        let some : not (begins (λ d. d == 48) (drop (length p) all)) ≡ true =
        ap (λ t. not (begins (λ d. d == 48) t)) rest
        ∙ ap not (no_zero n.code.value digits h.some_code fits) in
        ap (after_match all) pre.found ∙ cond-true _ _ _ some ∙ ap Some rest

    digit_not_plus : (c : ℕ) → is_digit c ≡ true → not (is_plus c) ≡ true
    digit_not_plus = digit_passes (λ c. not (is_plus c)) refl

    prefix_dialled : (d : ℕ) (t : List ℕ) → is_plus d ≡ false → after_front is_plus (d ∷ t) ≡ d ∷ t →
        norm (d ∷ t) ≡ p ++ (cd ++ digits) →
        dialled_under db hint (d ∷ t) None ≡ record { source = Idd; digits = cd ++ digits }
    prefix_dialled d t no_plus no_sign normal =
        ap (λ o. dialled (found_in (international_prefix_of o)) (d ∷ t) None) h.hinted
        ∙ dialled_is (found_in h.from.international_prefix) (d ∷ t) (p ++ (cd ++ digits))
        (Some (cd ++ digits)) (ap norm no_sign ∙ normal) after_prefix
        ∙ ap (λ b. dial b (Some (cd ++ digits)) (p ++ (cd ++ digits))) no_plus

    -- the number behind the prefix, with its code
    abbrev q2 : List ℕ
    q2 = cd ++ 32 ∷ q

    laid2 : IsLaid q2 (cd ++ digits)
    laid2 = coded_laid cd q digits code_digits laid

    last2 : ends is_digit q ≡ true → ends is_digit q2 ≡ true
    last2 last =
        ends-append is_digit cd (32 ∷ q) (λ e. cc)
        ∙ ends-append is_digit (32 ∷ []) q (some_text is_digit q last) ∙ last

    prefix_read : (d : ℕ) (ds : List ℕ) → p ≡ d ∷ ds → IsFoundBefore p q2 told.told n.extension →
        IsReadUnder db region (p ++ 32 ∷ (q2 ++ told.told)) n Idd
    prefix_read d ds split (kept, rest, whole, only, signed) =
        let k = kept_of q2 (cd ++ digits) kept rest laid2 whole only in
        let t = d ∷ (ds ++ 32 ∷ kept) in
        let same : p ++ 32 ∷ kept ≡ t = ap (λ p. p ++ 32 ∷ kept) split in
        let text : p ++ 32 ∷ (q2 ++ told.told) ≡ d ∷ (ds ++ 32 ∷ (q2 ++ told.told)) =
        ap (λ p. p ++ 32 ∷ (q2 ++ told.told)) split in
        let both = and_parts (is_digit d) (list_all is_digit ds) (ap (list_all is_digit) (sym split) ∙ pre.digits) in
        let space : list_any (λ c. c == 32) (ds ++ 32 ∷ (q2 ++ told.told)) ≡ true =
        list_any-append (λ c. c == 32) ds (32 ∷ (q2 ++ told.told)) ∙ or_right (list_any (λ c. c == 32) ds) _ refl in
        let t_parted : list_all is_parted t ≡ true =
        ap (list_all is_parted) (sym same) ∙ list_all-append is_parted p (32 ∷ kept)
        ∙ and_from _ _ (parted_digits p pre.digits) k.parted in
        let normal : norm t ≡ p ++ (cd ++ digits) =
        ap norm (sym same) ∙ filter_map-append digit_of p (32 ∷ kept)
        ∙ ap (λ t. t ++ norm kept) (norm_digits p pre.digits) ∙ ap (λ t. p ++ t) k.normal in
        let no_plus : is_plus d ≡ false = not-true (is_plus d) (digit_not_plus d both.0) in
        let parts = unsigned_parts d both.0 (ds ++ 32 ∷ (q2 ++ told.told)) space (ds ++ 32 ∷ kept) n.extension
        (subst (λ t. HasParts (43 ∷ t) (Some (record { national = 43 ∷ d ∷ (ds ++ 32 ∷ kept); prefix = None; extension = n.extension }))) text
        (subst (λ t. HasParts (43 ∷ (p ++ 32 ∷ (q2 ++ told.told))) (Some (record { national = 43 ∷ t; prefix = None; extension = n.extension }))) same signed)) in
        subst (λ t. IsReadUnder db region t n Idd) (sym text)
        (read_under Idd (d ∷ (ds ++ 32 ∷ (q2 ++ told.told))) t (λ e. cc) parts
        (viable-parted [] t refl t_parted (omega (arith, ap length normal, length-append p (cd ++ digits), long)))
        (prefix_dialled d (ds ++ 32 ∷ kept) no_plus (after_front-append [] t refl (all_allowed t t_parted)) normal))

    prefix_split : (t : List ℕ) → p ≡ t → IsFoundBefore p q2 told.told n.extension →
        IsReadUnder db region (p ++ 32 ∷ (q2 ++ told.told)) n Idd
    prefix_split [] e found = absurd (never_empty h.from (pre.dialled ∙ ap Some e))
    prefix_split (d ∷ ds) e found = prefix_read d ds e found

    pub prefix_back : (text : List ℕ) → IsUtf8 text → dialled_text db region n ≡ Ok text →
        IsReadUnder db region (chars text) n Idd
    prefix_back text utf8 e =
        let front = p ++ 32 ∷ [] in
        let low : list_all is_low front ≡ true =
        list_all-append is_low p (32 ∷ []) ∙ and_from _ _ (low_digits p pre.digits) refl in
        let same : front ++ (cd ++ 32 ∷ behind) ≡ text =
        sym (ap (λ o. option_map_or (λ p. p ++ 32 ∷ []) o (codes "+") ++ (cd ++ 32 ∷ behind)) pre.dialled)
        ∙ text_is text e in
        let whole : chars text ≡ p ++ 32 ∷ (q2 ++ told.told) =
        ap chars (sym same) ∙ characters front low (subst IsUtf8 (sym same) utf8)
        ∙ append_assoc p (32 ∷ []) (cd ++ 32 ∷ (q ++ told.told))
        ∙ ap (λ t. p ++ 32 ∷ t) (sym (append_assoc cd (32 ∷ q) told.told)) in
        subst (λ t. IsReadUnder db region t n Idd) (sym whole)
        (prefix_split p refl (told.before p q2 (cd ++ digits) pre.digits laid2 last2))
