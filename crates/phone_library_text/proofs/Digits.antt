-- The digits of all scripts: a character is one exactly where it is one of the ten from a zero on. And the digits of a text are ASCII's.
use Rattle.std.proofs.Common.{◌≡◌, All, inl, inr, ℕ, ◌+◌, ◌-◌, ◌≤◌, ◌<◌, ◌==◌, Bool, true, false, cond, not, ◌||◌, ◌&&◌, nat_le, nat_lt, map, List, [], ◌∷◌, Some, None, IfSome, option_map, encode_utf8_all, IsUtf8, leb-true, ltb-true, lt-ltb, refl, ap, ap₂, sym, ◌∙◌, arith}
use Rattle.std.proofs.lemmas.Bool.{and_from, and_parts, cases_Bool, cond-false, cond-true, cond_both, le-leb, not-true, or_parts}
use Rattle.std.proofs.lemmas.Fmt.{IsAscii-from_digits}
use Rattle.std.proofs.lemmas.List.Elements.{All-from_recursion}
use Rattle.std.proofs.lemmas.List.Sums.{sum_by-cons}
use Rattle.std.proofs.lemmas.Str.{IsUtf8-from_ascii, encodes-IsAscii, encodes-chars}
use Rattle.std.specs.Bool.{beq}
use Rattle.std.specs.List.{AllByRecursion, count_by, cons_option, filter_map, find, list_all, list_any}
use Rattle.std.specs.Str.{chars}
use Rattle.ucd_category.proofs.Computing.{ucd_category}
use Rattle.ucd_category.proofs.GeneralCategoryLemmas.{general_category_stepped}
use Rattle.ucd_category.specs.GeneralCategory.{general_category, general_category_eq}
use Rattle.ucd_category.specs.declared.GeneralCategory.{GeneralCategory}
use Rattle.ucd_category.specs.declared.GeneralCategory.TheVariants.{DecimalNumber}
use Rattle.ucd_table.proofs.Facts.{Stepped-everywhere, same_from_beq}
use Rattle.ucd_table.proofs.Stepped.{Stepped, of_ranges, zip_stepped}
use Rattle.ucd_table.specs.Rows as table
use Rattle.phone_values.proofs.Finds.{IfSome-find, IfSome-option_map, list_all-filter_map}
use Rattle.phone_values.proofs.ReadBack.{all_digits}
use Rattle.phone_chars.specs.Characters.{is_alpha, is_digit, is_in_run, is_nd, is_one_of, is_plus, key_letters, keypad}
use Rattle.phone_chars.specs.Cuts.{after_front}
use Rattle.phone_parts.proofs.Endings.{member_passes}
use Rattle.phone_parts.proofs.PrintedTexts.{digit_passes}
use Rattle.phone_library_text.specs.Letters.{digits_in, is_lettered, key_of, script_zeros, value_of, zeros}
use Rattle.phone_library_text.proofs.Tests.{same_test}

-- the runs of digits as ranges
abbrev digit_runs : List ℕ → List (ℕ × ℕ)
digit_runs zeros = map (λ z. (z, z + 9)) zeros

in_run_range : (z c : ℕ) → is_in_run z c ≡ (nat_le z c && nat_le c (z + 9))
in_run_range z c =
    ap (λ b. nat_le z c && b) (same_test (nat_lt c (z + 10)) (nat_le c (z + 9))
    (λ e. le-leb c (z + 9) (omega (arith, ltb-true c (z + 10) e))) (λ e. lt-ltb c (z + 10) (omega (arith, leb-true c (z + 9) e))))

in_runs : (zs : List ℕ) (c : ℕ) → list_any (λ z. is_in_run z c) zs ≡ table.in_ranges (digit_runs zs) c
unfolding table.in_ranges
in_runs [] c = refl
in_runs (z ∷ zs) c = ap₂ (λ a b. a || b) (in_run_range z c) (in_runs zs c)

runs_stepped : Stepped (table.in_ranges (digit_runs zeros))
unfolding ucd_category
runs_stepped = of_ranges (digit_runs zeros) refl

pub nd_exactly : (c : ℕ) → is_nd c ≡ list_any (λ z. is_in_run z c) zeros
unfolding ucd_category runs_stepped
nd_exactly c =
    let steps = zip_stepped (λ (b : Bool) (g : GeneralCategory). beq b (general_category_eq g DecimalNumber))
    (table.in_ranges (digit_runs zeros)) general_category runs_stepped general_category_stepped in
    sym (in_runs zeros c ∙ same_from_beq _ _ (Stepped-everywhere (λ x. beq (table.in_ranges (digit_runs zeros) x) (is_nd x)) steps refl c))

none_found : (p : ℕ → Bool) (zs : List ℕ) → list_any p zs ≡ false → find p zs ≡ None
none_found p [] h = refl
none_found p (z ∷ zs) h = let parts = or_parts (p z) (list_any p zs) h in cond-false _ _ _ parts.0 ∙ none_found p zs parts.1

found_passes : (p : ℕ → Bool) (zs : List ℕ) (z : ℕ) → find p zs ≡ Some z → p z ≡ true
found_passes p [] z e = absurd (cc)
found_passes p (x ∷ xs) z e = at (p x) refl e (found_passes p xs z)
  where
    at : (b : Bool) → p x ≡ b → cond b (Some x) (find p xs) ≡ Some z → (find p xs ≡ Some z → p z ≡ true) → p z ≡ true
    at true f g more = let same : x ≡ z = cc in ap p (sym same) ∙ f
    at false f g more = more g

-- a character in the run of the zero that is found
pub found_in_run : (zs : List ℕ) (c z : ℕ) → find (λ z. is_in_run z c) zs ≡ Some z → (z ≤ c) × (c - z < 10)
found_in_run zs c z e =
    let both = and_parts (nat_le z c) (nat_lt c (z + 10)) (found_passes (λ z. is_in_run z c) zs z e) in
    let low = leb-true z c both.0 in
    let high = ltb-true c (z + 10) both.1 in
    (low, omega (arith, low, high))

-- what is no digit has no value
pub value_none : (c : ℕ) → is_nd c ≡ false → value_of c ≡ None
value_none c none = ap (option_map (λ z. 48 + (c - z))) (none_found (λ z. is_in_run z c) zeros (sym (nd_exactly c) ∙ none))

first_run : (c : ℕ) → is_in_run 48 c ≡ is_digit c
first_run c = in_run_range 48 c

-- an ASCII digit is its own value
pub value_digit : (c : ℕ) → is_digit c ≡ true → value_of c ≡ Some c
value_digit c digit =
    let low = leb-true 48 c (and_parts (nat_le 48 c) (nat_le c 57) digit).0 in
    ap (option_map (λ z. 48 + (c - z))) (cond-true _ _ _ (first_run c ∙ digit)) ∙ ap Some (let same : 48 + (c - 48) ≡ c = omega (arith, low) in same)

-- that of another digit is found among the other scripts
pub value_other : (c : ℕ) → is_digit c ≡ false → value_of c ≡ option_map (λ z. 48 + (c - z)) (find (λ z. is_in_run z c) script_zeros)
value_other c other = ap (option_map (λ z. 48 + (c - z))) (cond-false _ _ _ (first_run c ∙ other))

run_digit : (c first : ℕ) → is_in_run first c ≡ true → is_digit (48 + (c - first)) ≡ true
run_digit c first h =
    let both = and_parts (nat_le first c) (nat_lt c (first + 10)) h in
    let low = leb-true first c both.0 in
    let high = ltb-true c (first + 10) both.1 in
    and_from _ _ (le-leb 48 (48 + (c - first)) (omega (arith, low, high))) (le-leb (48 + (c - first)) 57 (omega (arith, low, high)))

value_is_digit : (c : ℕ) → IfSome (value_of c) (λ d. is_digit d ≡ true)
value_is_digit c = IfSome-option_map (λ first. 48 + (c - first)) _ (λ d. is_digit d ≡ true) (find (λ first. is_in_run first c) zeros)
    (IfSome-find (λ first. is_in_run first c) (λ first. true) zeros refl) (λ first h. run_digit c first h.0)

keypad_is_digit : (c : ℕ) → IfSome (keypad c) (λ d. is_digit d ≡ true)
keypad_is_digit c = cond_both (is_digit c) (Some c) _ (λ o. IfSome o (λ d. is_digit d ≡ true)) (λ t. t)
    (λ f. IfSome-option_map (λ (k : ℕ × List ℕ). k.0) _ (λ d. is_digit d ≡ true) (find (λ (k : ℕ × List ℕ). is_one_of k.1 c) key_letters)
    (IfSome-find (λ (k : ℕ × List ℕ). is_one_of k.1 c) (λ (k : ℕ × List ℕ). is_digit k.0) key_letters refl) (λ k h. h.1))

key_is_digit : (c : ℕ) → IfSome (key_of c) (λ d. is_digit d ≡ true)
key_is_digit c = cond_both (c == 0x131) (Some 52) _ (λ o. IfSome o (λ d. is_digit d ≡ true)) (λ t. refl)
    (λ f. cond_both (c == 0x17F) (Some 55) _ (λ o. IfSome o (λ d. is_digit d ≡ true)) (λ t. refl) (λ g. keypad_is_digit c))

-- digits are their own bytes
pub digits_bytes : (ds : List ℕ) → list_all is_digit ds ≡ true → encode_utf8_all ds ≡ ds
digits_bytes ds h = encodes-IsAscii ds (IsAscii-from_digits ds (all_digits ds h))

pub values_digits : (t : List ℕ) → list_all is_digit (filter_map value_of t) ≡ true
values_digits t = list_all-filter_map value_of is_digit value_is_digit t

pub values_utf8 : (t : List ℕ) → IsUtf8 (filter_map value_of t)
values_utf8 t =
    IsUtf8-from_ascii (filter_map value_of t) (IsAscii-from_digits (filter_map value_of t) (all_digits (filter_map value_of t) (values_digits t)))

pub values_bytes : (t : List ℕ) → encode_utf8_all (filter_map value_of t) ≡ filter_map value_of t
values_bytes t = digits_bytes (filter_map value_of t) (values_digits t)

pub keys_bytes : (t : List ℕ) → encode_utf8_all (filter_map key_of t) ≡ filter_map key_of t
keys_bytes t = digits_bytes (filter_map key_of t) (list_all-filter_map key_of is_digit key_is_digit t)

pub own_bytes : (t : List ℕ) → IsUtf8 t → list_all is_digit (chars t) ≡ true → t ≡ chars t
own_bytes t utf8 h = sym (encodes-chars t utf8) ∙ digits_bytes (chars t) h

-- digits alone behind plus signs are the digits of the text
plus_nd : (c : ℕ) → is_plus c ≡ true → not (is_nd c) ≡ true
unfolding ucd_category
plus_nd c e = member_passes (λ x. not (is_nd x)) (43 ∷ 0xFF0B ∷ []) c refl e

plus_alpha : (c : ℕ) → is_plus c ≡ true → not (is_alpha c) ≡ true
plus_alpha c e = member_passes (λ x. not (is_alpha x)) (43 ∷ 0xFF0B ∷ []) c refl e

digit_alpha : (c : ℕ) → is_digit c ≡ true → not (is_alpha c) ≡ true
digit_alpha = digit_passes (λ x. not (is_alpha x)) refl

values_of_digits : (ds : List ℕ) → list_all is_digit ds ≡ true → filter_map value_of ds ≡ ds
values_of_digits [] all = refl
values_of_digits (d ∷ ds) all =
    let parts = and_parts (is_digit d) (list_all is_digit ds) all in
    ap₂ (λ o r. cons_option o r) (value_digit d parts.0) (values_of_digits ds parts.1)

values_plain : (t : List ℕ) → list_all is_digit (after_front is_plus t) ≡ true → filter_map value_of t ≡ after_front is_plus t
values_plain [] all = refl
values_plain (c ∷ cs) all = elim (cases_Bool (is_plus c)) [
  | inl p ↦ ap₂ (λ o r. cons_option o r) (value_none c (not-true _ (plus_nd c p))) (values_plain cs (ap (list_all is_digit) (sym (cond-true _ _ _ p)) ∙ all))
      ∙ sym (cond-true _ _ _ p)
  | inr p ↦ values_of_digits (c ∷ cs) (ap (list_all is_digit) (sym (cond-false _ _ _ p)) ∙ all) ∙ sym (cond-false _ _ _ p)
]

none_more : (c : ℕ) (cs : List ℕ) → is_alpha c ≡ false → count_by is_alpha cs ≡ 0 → count_by is_alpha (c ∷ cs) ≡ 0
none_more c cs e f = sum_by-cons (λ x. cond (is_alpha x) 1 0) c cs ∙ ap₂ (λ (b : Bool) n. cond b 1 0 + n) e f

no_letters_in_digits : (ds : List ℕ) → list_all is_digit ds ≡ true → count_by is_alpha ds ≡ 0
no_letters_in_digits [] all = refl
no_letters_in_digits (d ∷ ds) all =
    let parts = and_parts (is_digit d) (list_all is_digit ds) all in
    none_more d ds (not-true _ (digit_alpha d parts.0)) (no_letters_in_digits ds parts.1)

no_letters : (t : List ℕ) → list_all is_digit (after_front is_plus t) ≡ true → count_by is_alpha t ≡ 0
no_letters [] all = refl
no_letters (c ∷ cs) all = elim (cases_Bool (is_plus c)) [
  | inl p ↦ none_more c cs (not-true _ (plus_alpha c p)) (no_letters cs (ap (list_all is_digit) (sym (cond-true _ _ _ p)) ∙ all))
  | inr p ↦ no_letters_in_digits (c ∷ cs) (ap (list_all is_digit) (sym (cond-false _ _ _ p)) ∙ all)
]

pub digits_plain : (t : List ℕ) → list_all is_digit (after_front is_plus t) ≡ true → digits_in t ≡ after_front is_plus t
digits_plain t all =
    let unlettered : is_lettered t ≡ false = ap (nat_le 3) (no_letters t all) in
    ap (λ b. filter_map (cond b key_of value_of) t) unlettered ∙ values_plain t all

-- characters of ASCII, and no letter among them
abbrev pub are_unlettered : List ℕ → Bool
are_unlettered t = list_all (λ b. nat_lt b 128 && not (is_alpha b)) t

pub small_of_unlettered : (t : List ℕ) → are_unlettered t ≡ true → All (λ b. b < 128) t
small_of_unlettered t h = All-from_recursion _ t (each t h)
  where
    each : (cs : List ℕ) → are_unlettered cs ≡ true → AllByRecursion (λ b. b < 128) cs
    each [] h = tt
    each (c ∷ cs) h =
        let both = and_parts (nat_lt c 128 && not (is_alpha c)) (are_unlettered cs) h in
        (ltb-true c 128 (and_parts (nat_lt c 128) (not (is_alpha c)) both.0).0, each cs both.1)

no_letters_in_unlettered : (t : List ℕ) → are_unlettered t ≡ true → count_by is_alpha t ≡ 0
no_letters_in_unlettered [] h = refl
no_letters_in_unlettered (c ∷ cs) h =
    let both = and_parts (nat_lt c 128 && not (is_alpha c)) (are_unlettered cs) h in
    none_more c cs (not-true _ (and_parts (nat_lt c 128) (not (is_alpha c)) both.0).1) (no_letters_in_unlettered cs both.1)

pub unlettered_is_not : (t : List ℕ) → are_unlettered t ≡ true → is_lettered t ≡ false
unlettered_is_not t h = ap (nat_le 3) (no_letters_in_unlettered t h)
