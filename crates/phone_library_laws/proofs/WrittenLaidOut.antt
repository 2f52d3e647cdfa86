-- What is written in a text that is a number laid out, perhaps with what can't begin a number
-- before it, and an extension behind it.
use Rattle.std.proofs.Common.{◌≡◌, inl, inr, ℕ, ◌≤◌, ◌==◌, Bool, true, false, not, List, [], ◌∷◌}
use Rattle.std.proofs.Common.{◌++◌, length, length-append, filter, Option, None, Some, option_map}
use Rattle.std.proofs.Common.{encode_utf8_all, Ok, refl, ap, sym, subst, ◌∙◌, append_assoc}
use Rattle.std.proofs.Common.{append-nil, arith, true≢false, eqb-true}
use Rattle.std.proofs.lemmas.Bool.{and_parts, false_from_ne_true, not-true, or_from}
use Rattle.std.proofs.lemmas.List.Folds.{list_all-append, list_any-append}
use Rattle.std.specs.List.{list_all, list_any}
use Rattle.phone_chars.specs.Characters.{is_digit, is_nd, is_plus}
use Rattle.phone_parts.specs.Cores.{IsCore, is_last, is_start}
use Rattle.phone_parts.specs.Texts.{begins, ends}
use Rattle.phone_parts.proofs.Cores.{undivided}
use Rattle.phone_parts.proofs.Endings.{AreApart, apart_members}
use Rattle.ucd_category.proofs.Computing.{ucd_category}
use Rattle.phone_library_text.proofs.NumbersIn.{no_context, no_subaddress}
use Rattle.phone_parts.proofs.Ends.{all_wider, ends-append, ends_wider}
use Rattle.phone_parts.proofs.PrintedCores.{IsUnmarked, unmarked_before, unslashed}
use Rattle.phone_parts.proofs.PrintedTexts.{digit_apart, is_slash, none_apart}
use Rattle.phone_library_text.specs.Announcements.{Announces}
use Rattle.phone_library_text.specs.Extensions.{HasLongestExtension}
use Rattle.phone_library_text.specs.NumberTexts
use Rattle.phone_library_text.specs.NumberTexts.{HasNumberText, context_name, without_subaddress}
use Rattle.phone_library_text.specs.Places.{parted}
use Rattle.phone_library_text.specs.Viable
use Rattle.phone_library_text.specs.Viable.{HasNumber, IsSignedDigits, IsViable}
use Rattle.phone_library_text.specs.Written
use Rattle.phone_library_text.specs.Written.{IsWritten, most_characters}
use Rattle.phone_library_text.proofs.Outers.{ends_all}
use Rattle.phone_library_text.proofs.WrittenOnes.{written_as}
use Rattle.phone_library_laws.proofs.LaidOut.{digit_nd, is_written, nd_last, written_digits}
use Rattle.phone_library_laws.proofs.LaidOut.{written_no_extension, written_no_x, written_plain}
use Rattle.phone_library_laws.proofs.LongestExtensions.{longest_extension, parted_last}

-- the number, in a text that begins with nothing a number begins with: the core is its rest
pub record IsPrinted (before core number : List ℕ) (extension : Option (List ℕ)) : Type 0 where
  pub no_start : list_any is_start before ≡ false
  pub starts : begins is_start core ≡ true
  pub last : ends is_nd core ≡ true
  pub unmarked : IsUnmarked core
  pub no_context : parted context_name (before ++ core) ≡ None
  pub no_subaddress : without_subaddress core ≡ core
  pub viable : IsViable core
  pub has_number : HasNumber core number extension
  pub only : list_all is_written number ≡ true
  pub few : length (before ++ core) ≤ most_characters

module _ (before core number : List ℕ) (extension : Option (List ℕ))
    (p : IsPrinted before core number extension) where
  is_core : IsCore (before ++ core) core
  is_core = record {
    before = before;
    from = core;
    kept = core;
    whole = refl;
    no_start = p.no_start;
    starts = p.starts;
    trimmed = record {
      trailing = [];
      whole = sym (append-nil core);
      no_last = refl;
      trimmed = inr (ends_wider is_nd is_last nd_last core p.last);
    };
    first = undivided core (λ k less. p.unmarked k);
    not_empty = λ e. true≢false (sym p.starts ∙ ap (begins is_start) e);
  }

  text : HasNumberText (before ++ core) (Some core)
  text = subst (λ n. HasNumberText (before ++ core) (Some n)) p.no_subaddress
      (NumberTexts.free core p.no_context is_core)

  pub printed_written : IsWritten (before ++ core)
      (Ok (record {
        has_plus = begins is_plus core;
        digits = filter is_digit number;
        extension = option_map encode_utf8_all extension;
      }))
  printed_written =
      Written.something core _ p.few text
      (written_as core number extension (begins is_plus core) (filter is_digit number)
      (option_map encode_utf8_all extension) p.viable p.has_number refl
      (sym (written_digits number p.only)) refl)

-- ---- characters

none_passes : (p : ℕ → Bool) (xs : List ℕ) → list_all (λ c. not (p c)) xs ≡ true →
    list_any p xs ≡ false
none_passes p [] all = refl
none_passes p (x ∷ xs) all =
    let parts = and_parts (not (p x)) (list_all (λ c. not (p c)) xs) all in
    or_from (p x) (list_any p xs) (not-true (p x) parts.0) (none_passes p xs parts.1)

slash_nd : AreApart is_slash is_nd
unfolding ucd_category
slash_nd = apart_members is_nd (47 ∷ 92 ∷ []) refl

semicolon_nd : is_nd 59 ≡ false
unfolding ucd_category
semicolon_nd = refl

no_semicolon : (c : ℕ) → is_nd c ≡ true → (c == 59) ≡ false
no_semicolon c digit = false_from_ne_true (c == 59)
    (λ e. true≢false (sym digit ∙ ap is_nd (eqb-true c 59 e) ∙ semicolon_nd))

-- digits have neither slashes nor semicolons, and no number has a semicolon
pub no_slash_digits : (t : List ℕ) → list_all is_nd t ≡ true → list_any is_slash t ≡ false
no_slash_digits t all = none_apart is_slash is_nd slash_nd t all

pub plain_digits : (t : List ℕ) → list_all is_nd t ≡ true → list_any (λ c. c == 59) t ≡ false
plain_digits t all = none_apart (λ c. c == 59) is_nd no_semicolon t all

pub plain_written : (t : List ℕ) → list_all is_written t ≡ true → list_any (λ c. c == 59) t ≡ false
plain_written t all = none_passes (λ c. c == 59) t
    (all_wider is_written (λ c. not (c == 59)) written_plain t all)

pub none_both : (p : ℕ → Bool) (a b : List ℕ) → list_any p a ≡ false → list_any p b ≡ false →
    list_any p (a ++ b) ≡ false
none_both p a b e f = list_any-append p a b ∙ or_from _ _ e f

-- ---- second numbers

-- a number that ends in a digit, and behind it no slash: no second number begins
pub unmarked_behind : (number behind : List ℕ) → list_all is_written number ≡ true →
    ends is_digit number ≡ true → list_any is_slash behind ≡ false → IsUnmarked (number ++ behind)
unmarked_behind number behind only last none =
    let cut = parted_last is_digit number last in
    let front_only : list_all is_written cut.front ≡ true =
    (and_parts (list_all is_written cut.front) (list_all is_written (cut.last ∷ []))
    (sym (list_all-append is_written cut.front (cut.last ∷ []))
    ∙ ap (list_all is_written) (sym cut.whole) ∙ only)).0 in
    let no_x : list_any (λ c. c == 120) cut.front ≡ false =
    none_passes (λ c. c == 120) cut.front
    (all_wider is_written (λ c. not (c == 120)) written_no_x cut.front front_only) in
    let no_space : (cut.last == 32) ≡ false = digit_apart (λ c. c == 32) refl cut.last cut.member in
    let here : list_any is_slash (cut.last ∷ behind) ≡ false =
    or_from (is_slash cut.last) (list_any is_slash behind)
    (digit_apart is_slash refl cut.last cut.member) none in
    subst IsUnmarked (sym (ap (λ t. t ++ behind) cut.whole
    ∙ append_assoc cut.front (cut.last ∷ []) behind))
    (unmarked_before cut.front (cut.last ∷ behind) no_x
    (rw no_space (digit_apart (λ c. c == 120) refl cut.last cut.member))
    (unslashed (cut.last ∷ behind) here))

-- ---- a number, and what is before it

-- a number that may be written alone
pub record IsNumber (number : List ℕ) : Type 0 where
  pub only : list_all is_written number ≡ true
  pub signed : IsSignedDigits number
  pub starts : begins is_start number ≡ true
  pub last : ends is_digit number ≡ true

-- what begins no number, and no parameter
pub record IsBefore (before : List ℕ) : Type 0 where
  pub no_start : list_any is_start before ≡ false
  pub plain : list_any (λ c. c == 59) before ≡ false

module _ (before number : List ℕ) (b : IsBefore before) (n : IsNumber number) where
  abbrev has_plus : Bool
  has_plus = begins is_plus number

  plain_number : list_any (λ c. c == 59) number ≡ false
  plain_number = plain_written number n.only

  plain_front : list_any (λ c. c == 59) (before ++ number) ≡ false
  plain_front = none_both (λ c. c == 59) before number b.plain plain_number

  alone : length (before ++ number) ≤ most_characters → IsPrinted before number number None
  alone few = record {
    no_start = b.no_start;
    starts = n.starts;
    last = ends_wider is_digit is_nd digit_nd number n.last;
    unmarked = subst IsUnmarked (append-nil number) (unmarked_behind number [] n.only n.last refl);
    no_context = no_context (before ++ number) plain_front;
    no_subaddress = no_subaddress number plain_number;
    viable = inr (inl n.signed);
    has_number = Viable.plain (written_no_extension number n.only);
    only = n.only;
    few = few;
  }

  -- the number alone
  pub alone_written : length (before ++ number) ≤ most_characters →
      IsWritten (before ++ number) (Ok
      (record { has_plus = has_plus; digits = filter is_digit number; extension = None }))
  alone_written few = printed_written before number number None (alone few)

  -- and an extension behind it
  module _ (w e : List ℕ) (announced : Announces w (length e) false)
      (no_slash : list_any is_slash w ≡ false) (digits : list_all is_nd e ≡ true)
      (some : 1 ≤ length e)
      (few : length (before ++ (number ++ (w ++ e))) ≤ most_characters) where
    some_digits : ¬ (e ≡ [])
    some_digits f = omega (arith, some, ap length f)

    some_end : ¬ (w ++ e ≡ [])
    some_end f = omega (arith, some, length-append w e, ap length f)

    begin : (p : ℕ → Bool) → begins p (number ++ (w ++ e)) ≡ begins p number
    begin p = at number n.starts
      where
        at : (t : List ℕ) → begins is_start t ≡ true → begins p (t ++ (w ++ e)) ≡ begins p t
        at [] f = absurd (true≢false (sym f))
        at (c ∷ t) f = refl

    last_digit : ends is_nd (number ++ (w ++ e)) ≡ true
    last_digit =
        ends-append is_nd number (w ++ e) some_end ∙ ends-append is_nd w e some_digits
        ∙ ends_all is_nd e some_digits digits

    pub extended : parted context_name (before ++ (number ++ (w ++ e))) ≡ None →
        without_subaddress (number ++ (w ++ e)) ≡ number ++ (w ++ e) →
        IsWritten (before ++ (number ++ (w ++ e)))
        (Ok (record {
          has_plus = has_plus;
          digits = filter is_digit number;
          extension = Some (encode_utf8_all e);
        }))
    extended no_context no_subaddress =
        let longest : HasLongestExtension (number ++ (w ++ e)) number e =
        longest_extension number w e (ends_wider is_digit is_nd digit_nd number n.last) announced
        digits some in
        subst (λ b. IsWritten (before ++ (number ++ (w ++ e)))
        (Ok (record {
          has_plus = b;
          digits = filter is_digit number;
          extension = Some (encode_utf8_all e);
        }))) (begin is_plus)
        (printed_written before (number ++ (w ++ e)) number (Some e) (record {
          no_start = b.no_start;
          starts = begin is_start ∙ n.starts;
          last = last_digit;
          unmarked = unmarked_behind number (w ++ e) n.only n.last
              (none_both is_slash w e no_slash (no_slash_digits e digits));
          no_context = no_context;
          no_subaddress = no_subaddress;
          viable = inr (inr (record {
            number = number;
            extension = longest.extension;
            digits = e;
            whole = longest.whole;
            is_number = n.signed;
            is_extension = longest.is_extension;
          }));
          has_number = Viable.extended number e longest (inr (inl n.signed));
          only = n.only;
          few = few;
        }))

    -- announced by a text without a semicolon
    pub announced_written : list_any (λ c. c == 59) w ≡ false →
        IsWritten (before ++ (number ++ (w ++ e)))
        (Ok (record {
          has_plus = has_plus;
          digits = filter is_digit number;
          extension = Some (encode_utf8_all e);
        }))
    announced_written none =
        let behind : list_any (λ c. c == 59) (w ++ e) ≡ false =
        none_both (λ c. c == 59) w e none (plain_digits e digits) in
        let core : list_any (λ c. c == 59) (number ++ (w ++ e)) ≡ false =
        none_both (λ c. c == 59) number (w ++ e) plain_number behind in
        extended (no_context (before ++ (number ++ (w ++ e)))
        (none_both (λ c. c == 59) before (number ++ (w ++ e)) b.plain core))
        (no_subaddress (number ++ (w ++ e)) core)
