-- A test of the fronts of digits: how it goes on from digit to digit, and that all digits are one of them.
use Rattle.std.proofs.Common.{◌≡◌, ℕ, Bool, true, false, ◌||◌, map, List, [], ◌∷◌, ◌++◌, encode_utf8, append_assoc, append-nil, refl, ap, ap₂, sym, ◌∙◌}
use Rattle.std.proofs.lemmas.Bool.{and_from, and_parts}
use Rattle.std.proofs.lemmas.Fmt.{IsAscii-from_digits}
use Rattle.std.proofs.lemmas.Str.{chars-IsAscii}
use Rattle.std.specs.List.{list_all, list_any}
use Rattle.std.specs.Str.{chars}
use Rattle.phone_values.proofs.ReadBack.{all_digits}
use Rattle.phone_chars.specs.Characters.{is_digit}
use Rattle.phone_library_text.proofs.Digits.{digits_bytes}
use Rattle.phone_short.specs.Emergencies.{fronts}

any_map : (p : List ℕ → Bool) (f : List ℕ → List ℕ) (xs : List (List ℕ)) → list_any p (map f xs) ≡ list_any (λ x. p (f x)) xs
any_map p f [] = refl
any_map p f (x ∷ xs) = ap (λ b. p (f x) || b) (any_map p f xs)

any_same : (p q : List ℕ → Bool) (xs : List (List ℕ)) → ((x : List ℕ) → p x ≡ q x) → list_any p xs ≡ list_any q xs
any_same p q [] same = refl
any_same p q (x ∷ xs) same = ap₂ (λ a b. a || b) (same x) (any_same p q xs same)

or_right : (a b : Bool) → b ≡ true → (a || b) ≡ true
or_right true b h = refl
or_right false b h = h

or_false : (a : Bool) → (a || false) ≡ a
or_false true = refl
or_false false = refl

-- all of the digits are one of their fronts
pub whole_is_front : (p : List ℕ → Bool) (ds : List ℕ) → p ds ≡ true → list_any p (fronts ds) ≡ true
whole_is_front p [] h = ap (λ b. b || false) h
whole_is_front p (d ∷ ds) h =
    or_right (p []) _ (any_map p (λ f. d ∷ f) (fronts ds) ∙ whole_is_front (λ f. p (d ∷ f)) ds h)

module _ (p : List ℕ → Bool) (seen : List ℕ) where
  -- whether one of the fronts that go on after what was seen passes
  abbrev pub later : List ℕ → Bool
  later rest = list_any (λ f. p (seen ++ f)) (fronts rest)

  pub later_none : later [] ≡ p (seen ++ [])
  later_none = or_false (p (seen ++ []))

  -- what was seen passes
  pub later_seen : (d : ℕ) (ds : List ℕ) → p seen ≡ true → later (d ∷ ds) ≡ true
  later_seen d ds h = ap (λ b. b || list_any (λ f. p (seen ++ f)) (map (λ f. d ∷ f) (fronts ds))) (ap p (append-nil seen) ∙ h)

  -- what was seen doesn't pass
  pub later_more : (d : ℕ) (ds : List ℕ) → p seen ≡ false → later (d ∷ ds) ≡ list_any (λ f. p ((seen ++ d ∷ []) ++ f)) (fronts ds)
  later_more d ds h =
      ap (λ b. b || list_any (λ f. p (seen ++ f)) (map (λ f. d ∷ f) (fronts ds))) (ap p (append-nil seen) ∙ h)
      ∙ any_map (λ f. p (seen ++ f)) (λ f. d ∷ f) (fronts ds)
      ∙ any_same _ _ (fronts ds) (λ f. ap p (sym (append_assoc seen (d ∷ []) f)))

-- a character of digits is its own byte, and digits follow it
pub after_digit : (rest after : List ℕ) (c : ℕ) → list_all is_digit rest ≡ true → rest ≡ encode_utf8 c ++ after → chars rest ≡ c ∷ chars after →
    (rest ≡ c ∷ after) × (list_all is_digit after ≡ true)
after_digit rest after c all cut read =
    let own : rest ≡ c ∷ chars after = sym (chars-IsAscii rest (IsAscii-from_digits rest (all_digits rest all))) ∙ read in
    let digit = (and_parts (is_digit c) (list_all is_digit (chars after)) (ap (list_all is_digit) (sym own) ∙ all)).0 in
    let byte : encode_utf8 c ≡ c ∷ [] = sym (append-nil (encode_utf8 c)) ∙ digits_bytes (c ∷ []) (and_from (is_digit c) true digit refl) in
    let whole : rest ≡ c ∷ after = cut ∙ ap (λ t. t ++ after) byte in
    (whole, (and_parts (is_digit c) (list_all is_digit after) (ap (list_all is_digit) (sym whole) ∙ all)).1)
