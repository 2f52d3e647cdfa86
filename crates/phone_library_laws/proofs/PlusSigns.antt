-- No plus sign stands among the digits of a number, from those that are written to those that stripping leaves.
use Rattle.std.proofs.Common.{◌≡◌, ◌≢◌, ℕ, ◌+◌, ◌-◌, ◌≤◌, ◌==◌, ◌&&◌, not, nat_le, Bool, true, false, if◌then◌else◌, List, [], ◌∷◌, length, All, Option, None, Some, IfSome, refl, ap, arith, ne_eqb, leb-true}
use Rattle.std.proofs.lemmas.Bool.{and_parts, cond_both}
use Rattle.std.proofs.lemmas.List.Elements.{All-drop, All-head}
use Rattle.std.proofs.lemmas.List.Sums.{AllPass-from_list_all}
use Rattle.std.specs.List.{filter_map, find, list_all}
use Rattle.std.specs.Option.{option_map_or}
use Rattle.phone_chars.specs.Characters.{is_digit, is_in_run, is_one_of, key_letters, keypad}
use Rattle.phone_values.proofs.Finds.{IfSome-find, IfSome-option_map, list_all-filter_map}
use Rattle.phone_library.specs.Kinds.{matches_whole}
use Rattle.phone_library.specs.Lengths.{length_in, may_be_left}
use Rattle.phone_library.specs.Stripping.{left_by_match, left_by_pattern, left_by_prefix, left_by_text, strip, stripped, untouched}
use Rattle.phone_library_text.specs.Letters.{digits_in, is_lettered, key_of, value_of, zeros}
use Rattle.phone_plans.proofs.InOrder.{All-territories}
use Rattle.phone_plans.specs.CodeLookUps.{first_of, territories}
use Rattle.phone_parts.specs.Texts.{is_front, without_front}
use Rattle.phone_read.specs.Strips.{Stripped}
use Rattle.phone_read.proofs.ReadNumbers.{All-replaced}
use Rattle.phone_records.specs.declared.loader.Metadata.{Metadata}
use Rattle.phone_territory.specs.First.{Captured, captured}

-- no plus sign
abbrev pub is_no_plus : ℕ → Bool
is_no_plus c = not (c == 43)

abbrev pub IsNoPlus : ℕ → Type 0
IsNoPlus c = is_no_plus c ≡ true

high_no_plus : (c : ℕ) → 48 ≤ c → IsNoPlus c
high_no_plus c high =
    let other : c ≢ 43 = λ e. absurd (omega (arith, high, e)) in
    ap not (ne_eqb c 43 other)

-- the value of a digit
value_no_plus : (c : ℕ) → IfSome (value_of c) IsNoPlus
value_no_plus c =
    IfSome-option_map (λ zero. 48 + (c - zero)) (λ zero. (is_in_run zero c ≡ true) × (true ≡ true)) IsNoPlus (find (λ zero. is_in_run zero c) zeros)
    (IfSome-find (λ zero. is_in_run zero c) (λ zero. true) zeros refl) (λ zero h. high_no_plus (48 + (c - zero)) (omega arith))

-- the key of a letter
keypad_no_plus : (c : ℕ) → IfSome (keypad c) IsNoPlus
keypad_no_plus c =
    let of_letters = find (λ (k : ℕ × List ℕ). is_one_of k.1 c) key_letters in
    cond_both (is_digit c) (Some c) _ (λ o. IfSome o IsNoPlus)
    (λ digit. high_no_plus c (leb-true 48 c (and_parts (nat_le 48 c) (nat_le c 57) digit).0))
    (λ _. IfSome-option_map (λ (k : ℕ × List ℕ). k.0) (λ (k : ℕ × List ℕ). (is_one_of k.1 c ≡ true) × (is_no_plus k.0 ≡ true)) IsNoPlus of_letters
    (IfSome-find (λ (k : ℕ × List ℕ). is_one_of k.1 c) (λ (k : ℕ × List ℕ). is_no_plus k.0) key_letters refl) (λ k h. h.1))

key_no_plus : (c : ℕ) → IfSome (key_of c) IsNoPlus
key_no_plus c =
    cond_both (c == 0x131) (Some 52) _ (λ o. IfSome o IsNoPlus) (λ _. refl)
    (λ _. cond_both (c == 0x17F) (Some 55) (keypad c) (λ o. IfSome o IsNoPlus) (λ _. refl) (λ _. keypad_no_plus c))

-- the digits of a text
pub written_no_plus : (t : List ℕ) → All IsNoPlus (digits_in t)
written_no_plus t = AllPass-from_list_all is_no_plus (digits_in t) (at (is_lettered t))
  where
    each : (b : Bool) (c : ℕ) → IfSome ((if b then key_of else value_of) c) IsNoPlus
    each true c = key_no_plus c
    each false c = value_no_plus c

    at : (b : Bool) → list_all is_no_plus (filter_map (if b then key_of else value_of) t) ≡ true
    at b = list_all-filter_map (if b then key_of else value_of) is_no_plus (each b) t

-- what holds of each answer, with a value and without
pub map_or_both : {X Y : Type 0} (o : Option X) (f : X → Y) (y : Y) (P : Y → Type 0) → ((x : X) → P (f x)) → P y → P (option_map_or f o y)
map_or_both None f y P some none = none
map_or_both (Some x) f y P some none = some x

-- what every byte of digits and of the transform rule has, every byte of what a territory leaves has
module _ (P : ℕ → Type 0) where
  All-without_front : (front : Option (List ℕ)) (text : List ℕ) → All P text → All P (without_front front text)
  All-without_front None text h = h
  All-without_front (Some front) text h = cond_both (is_front front text) _ _ (All P) (λ _. All-drop P (length front) text h) (λ _. h)

  abbrev AllLeft : Stripped → Type 0
  AllLeft s = All P s.national

  module _ (digits : List ℕ) (h : All P digits) where
    All-left_by_match : (pattern : List ℕ) (rule : Option (List ℕ)) (found : Captured) (last : Option (ℕ × ℕ)) → IfSome rule (All P) →
        AllLeft (left_by_match pattern rule digits found last)
    All-left_by_match pattern (Some rule) found (Some last) r = All-replaced P pattern rule digits r h
    All-left_by_match pattern (Some rule) found None r = All-drop P found.span.1 digits h
    All-left_by_match pattern None found (Some last) r = All-drop P found.span.1 digits h
    All-left_by_match pattern None found None r = All-drop P found.span.1 digits h

    All-left_by_pattern : (pattern : List ℕ) (rule : Option (List ℕ)) → IfSome rule (All P) → AllLeft (left_by_pattern pattern rule digits)
    All-left_by_pattern pattern rule r =
        map_or_both (captured pattern digits) _ (untouched digits) AllLeft
        (λ found. cond_both (found.span.0 == 0) (left_by_match pattern rule digits found found.last) (untouched digits) AllLeft
        (λ _. All-left_by_match pattern rule found found.last r) (λ _. h)) h

    module _ (m : Metadata) (r : IfSome m.national_prefix_transform_rule (All P)) where
      All-left_by_prefix : AllLeft (left_by_prefix m digits)
      All-left_by_prefix =
          map_or_both m.national_prefix_for_parsing _ (left_by_text m.national_prefix digits) AllLeft
          (λ pattern. All-left_by_pattern pattern m.national_prefix_transform_rule r) (All-without_front m.national_prefix digits h)

      pub All-strip : AllLeft (strip m digits)
      All-strip =
          let left = left_by_prefix m digits in
          cond_both (matches_whole m.general digits && not (matches_whole m.general left.national)) (untouched digits) left AllLeft
          (λ _. h) (λ _. All-left_by_prefix)

    pub All-stripped : (o : Option Metadata) → IfSome o (λ (m : Metadata). IfSome m.national_prefix_transform_rule (All P)) → AllLeft (stripped o digits)
    All-stripped None r = h
    All-stripped (Some m) r =
        let left = strip m digits in
        cond_both (may_be_left (length_in m (length left.national))) left (untouched digits) AllLeft (λ _. All-strip m r) (λ _. h)

-- what every record of a database has, the first territory of a code has
module _ (Q : Metadata → Type 0) (db : List Metadata) (h : All Q db) where
  first_has : (ms : List Metadata) → All Q ms → IfSome (first_of ms) Q
  first_has [] all = tt
  first_has (m ∷ ms) all = All-head Q m ms all

  pub IfSome-first : (code : ℕ) → IfSome (first_of (territories code db)) Q
  IfSome-first code = first_has (territories code db) (All-territories Q db h code)
