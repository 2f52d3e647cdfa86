-- Two numbers in the other order, and a number with itself.
use Rattle.std.proofs.Common.{◌≡◌, ℕ, ◌==◌, ◌&&◌, ◌||◌, not, nat_eq, Bool, true, false, if◌then◌else◌, List, [], ◌∷◌, Option, None, Some, refl, ap, ap₂, sym, ◌∙◌, eqb-true}
use Rattle.std.proofs.lemmas.Bool.{cond-true, cond-false, eq-eqb, ne_eqb}
use Rattle.std.proofs.lemmas.Slice.Eq.{bytes_eq-Decides}
use Rattle.std.specs.Fmt.{decimal}
use Rattle.std.specs.List.{ends_with}
use Rattle.std.specs.Str.{bytes_eq}
use Rattle.phone_values.specs.Numbers.{National}
use Rattle.phone_values.specs.declared.reading.Reading.{Reading}
use Rattle.phone_questions.specs.Matches.{are_two_extensions, are_unlike_codes, extension_told, is_end_of_either, is_one_extension, is_one_national, is_one_number, lacks_code, match_as, match_of}
use Rattle.phone_questions.specs.declared.matches.NumberMatch.{NumberMatch}
use Rattle.phone_questions.specs.declared.matches.NumberMatch.TheVariants.{ExactMatch, NoMatch, NsnMatch, ShortNsnMatch}

same_answer : (p q : Bool) → (p ≡ true → q ≡ true) → (q ≡ true → p ≡ true) → p ≡ q
same_answer true q f g = sym (f refl)
same_answer false true f g = g refl
same_answer false false f g = refl

eqb-swap : (x y : ℕ) → (x == y) ≡ (y == x)
eqb-swap x y = same_answer (x == y) (y == x) (λ h. eq-eqb y x (sym (eqb-true x y h))) (λ h. eq-eqb x y (sym (eqb-true y x h)))

bytes_eq-swap : (a b : List ℕ) → bytes_eq a b ≡ bytes_eq b a
bytes_eq-swap a b =
    same_answer (bytes_eq a b) (bytes_eq b a)
    (λ h. (bytes_eq-Decides b a).1 (sym ((bytes_eq-Decides a b).0 h)))
    (λ h. (bytes_eq-Decides a b).1 (sym ((bytes_eq-Decides b a).0 h)))

or-swap : (p q : Bool) → (p || q) ≡ (q || p)
or-swap true true = refl
or-swap true false = refl
or-swap false true = refl
or-swap false false = refl

-- the table of codes, by its tests
or-swap_behind : (same p q : Bool) → (same || p || q) ≡ (same || q || p)
or-swap_behind true true true = refl
or-swap_behind true true false = refl
or-swap_behind true false true = refl
or-swap_behind true false false = refl
or-swap_behind false true true = refl
or-swap_behind false true false = refl
or-swap_behind false false true = refl
or-swap_behind false false false = refl

is_one_extension-swap : (e f : Option (List ℕ)) → is_one_extension e f ≡ is_one_extension f e
is_one_extension-swap None None = refl
is_one_extension-swap None (Some f) = refl
is_one_extension-swap (Some e) None = refl
is_one_extension-swap (Some e) (Some f) = bytes_eq-swap e f

are_two_extensions-swap : (e f : Option (List ℕ)) → are_two_extensions e f ≡ are_two_extensions f e
are_two_extensions-swap None None = refl
are_two_extensions-swap None (Some f) = refl
are_two_extensions-swap (Some e) None = refl
are_two_extensions-swap (Some e) (Some f) = ap not (bytes_eq-swap e f)

codes-swap : (x y : ℕ) → are_unlike_codes x y ≡ are_unlike_codes y x
codes-swap x y =
    ap (λ (same : Bool). not (same || (x == 0) || (y == 0))) (eqb-swap x y) ∙ ap not (or-swap_behind (y == x) (x == 0) (y == 0))

national-swap : (a b : National) → is_one_national a b ≡ is_one_national b a
national-swap a b = ap₂ ◌&&◌ (eqb-swap a.zeros b.zeros) (eqb-swap a.value b.value)

number-swap : (a b : Reading) → is_one_number a b ≡ is_one_number b a
number-swap a b = ap₂ ◌&&◌ (national-swap a.national b.national) (is_one_extension-swap (extension_told a.extension) (extension_told b.extension))

end-swap : (x y : ℕ) → is_end_of_either x y ≡ is_end_of_either y x
end-swap x y = or-swap (ends_with nat_eq (decimal y) (decimal x)) (ends_with nat_eq (decimal x) (decimal y))

as-swap : (whole : NumberMatch) (a b : Reading) → match_as whole a b ≡ match_as whole b a
as-swap whole a b =
    ap₂ (λ (one end : Bool). if one then whole else if end then ShortNsnMatch else NoMatch)
    (number-swap a b) (end-swap a.national.value b.national.value)

-- how like two numbers are, by the tests
abbrev told : Bool → Bool → Bool → (NumberMatch → NumberMatch) → NumberMatch
told two unlike lacks answer =
    if two then NoMatch else if unlike then NoMatch else answer (if lacks then NsnMatch else ExactMatch)

as_told : (two unlike lacks : Bool) (f g : NumberMatch → NumberMatch) → ((w : NumberMatch) → f w ≡ g w) →
    told two unlike lacks f ≡ told two unlike lacks g
as_told true unlike lacks f g same = refl
as_told false true lacks f g same = refl
as_told false false lacks f g same = same (if lacks then NsnMatch else ExactMatch)

pub match_of-swap : (a b : Reading) → match_of a b ≡ match_of b a
match_of-swap a b =
    let answer = λ (w : NumberMatch). match_as w a b in
    ap (λ (t : Bool). told t (are_unlike_codes a.code.value b.code.value) (lacks_code a b) answer) (are_two_extensions-swap (extension_told a.extension) (extension_told b.extension))
    ∙ ap (λ (t : Bool). told (are_two_extensions (extension_told b.extension) (extension_told a.extension)) t (lacks_code a b) answer) (codes-swap a.code.value b.code.value)
    ∙ ap (λ (t : Bool). told (are_two_extensions (extension_told b.extension) (extension_told a.extension)) (are_unlike_codes b.code.value a.code.value) t answer) (or-swap (a.code.value == 0) (b.code.value == 0))
    ∙ as_told (are_two_extensions (extension_told b.extension) (extension_told a.extension)) (are_unlike_codes b.code.value a.code.value) (lacks_code b a) answer (λ w. match_as w b a) (λ w. as-swap w a b)

is_one_extension-itself : (e : Option (List ℕ)) → is_one_extension e e ≡ true
is_one_extension-itself None = refl
is_one_extension-itself (Some e) = (bytes_eq-Decides e e).1 refl

are_two_extensions-itself : (e : Option (List ℕ)) → are_two_extensions e e ≡ false
are_two_extensions-itself None = refl
are_two_extensions-itself (Some e) = ap not ((bytes_eq-Decides e e).1 refl)

number-itself : (a : Reading) → is_one_number a a ≡ true
number-itself a =
    ap₂ ◌&&◌ (ap₂ ◌&&◌ (eq-eqb a.national.zeros a.national.zeros refl) (eq-eqb a.national.value a.national.value refl)) (is_one_extension-itself (extension_told a.extension))

codes-itself : (x : ℕ) → are_unlike_codes x x ≡ false
codes-itself x = ap (λ (same : Bool). not (same || (x == 0) || (x == 0))) (eq-eqb x x refl)

-- a number with itself, by whether its code is known
itself : (a : Reading) → match_of a a ≡ (if lacks_code a a then NsnMatch else ExactMatch)
itself a =
    cond-false _ _ _ (are_two_extensions-itself (extension_told a.extension))
    ∙ cond-false _ _ _ (codes-itself a.code.value)
    ∙ cond-true _ _ _ (number-itself a)

pub exact_itself : (a : Reading) → ¬ (a.code.value ≡ 0) → match_of a a ≡ ExactMatch
exact_itself a h = itself a ∙ ap (λ (b : Bool). if b || b then NsnMatch else ExactMatch) (ne_eqb a.code.value 0 h)

pub bare_itself : (a : Reading) → a.code.value ≡ 0 → match_of a a ≡ NsnMatch
bare_itself a h = itself a ∙ ap (λ (b : Bool). if b || b then NsnMatch else ExactMatch) (eq-eqb a.code.value 0 h)
