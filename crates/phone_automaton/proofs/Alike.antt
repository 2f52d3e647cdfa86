-- Patterns that match ASCII text alike, part by part.
use Rattle.std.proofs.Common.{◌≡◌, ◌<◌, ◌≤◌, ◌+◌, ◌-◌, ◌*◌, ◌&&◌, ◌++◌, ℕ, zero, suc, Bool, true, false, if◌then◌else◌, cond, List, [], ◌∷◌, map, length, nat_lt, Option, Some, None, All, refl, sym, ap, ap₂, ◌∙◌, arith, slice_get}
use Rattle.std.specs.Option.{option_or}
use Rattle.std.specs.Char.{len_utf8}
use Rattle.std.proofs.Common.{subst, ◌⊎◌, inl, inr, get_or}
use Rattle.std.proofs.lemmas.List.{map-append}
use Rattle.std.proofs.lemmas.Option.{slice_get_cases, none-some}
use Rattle.std.proofs.lemmas.Bool.Decides.{nat_tests}
use Rattle.regex_hir.specs.declared.hir.Hir.{Hir}
use Rattle.std.proofs.Common.{Box, Global}
use Rattle.regex_class.specs.declared.Class.{Class}
use Rattle.regex_hir.proofs.MeaningLemmas.{meaning-Chars, meaning-Repetition, meaning-Capture}
use Rattle.regex_hir.specs.declared.hir.Hir.TheVariants.{Chars, Repetition, Capture}
use mathlib.Core.Path.{fun_ext}
use Rattle.regex_class.specs.Ranges.{Range, in_range, in_ranges, HasExactly}
use Rattle.regex_hir.proofs.AttemptLemmas.{option_and_then_cong}
use Rattle.regex_hir.proofs.TextLemmas.{char_at_ascii, char_at_past}
use Rattle.regex_hir.specs.Meaning.{meaning, optional, copies, up_to, repeat, cat_all, alt_all}
use Rattle.regex_hir.specs.Re.{Re, Rest, write, attempt, more_rounds, empty, char_in, cat, alt, group, plus}
use Rattle.regex_hir.specs.Text.{char_at}
use Rattle.regex_syntax.proofs.SameLemmas.{cat_all-push, alt_all-push}
use Rattle.regex_syntax.specs.Same.{SameMatches}
use Rattle.phone_automaton.specs.Ascii.{AsciiSame, in_ascii}

pub ascii_refl : (a : Re) → AsciiSame a a
ascii_refl a hay ok = refl

pub ascii_cat : (a b c d : Re) → AsciiSame a b → AsciiSame c d → AsciiSame (cat a c) (cat b d)
unfolding attempt
ascii_cat a b c d p q hay ok = ap₂ {C = Rest → Rest} (λ (f g : Rest → Rest) (k : Rest) (i : ℕ). f (g k) i) (p hay ok) (q hay ok)

pub ascii_alt : (a b c d : Re) → AsciiSame a b → AsciiSame c d → AsciiSame (alt a c) (alt b d)
unfolding attempt
ascii_alt a b c d p q hay ok = ap₂ {C = Rest → Rest} (λ (f g : Rest → Rest) (k : Rest) (i : ℕ). option_or (f k i) (g k i)) (p hay ok) (q hay ok)

pub ascii_group : (n : ℕ) (a b : Re) → AsciiSame a b → AsciiSame (group n a) (group n b)
unfolding attempt
ascii_group n a b p hay ok =
    ap {B = Rest → Rest} (λ (f : Rest → Rest) (k : Rest) (i : ℕ). write (2 * n) i (f (λ j. write (2 * n + 1) j (k j)) i)) (p hay ok)

ascii_plus : (greedy : Bool) (a b : Re) → AsciiSame a b → AsciiSame (plus greedy a) (plus greedy b)
unfolding attempt
ascii_plus greedy a b p hay ok =
    ap {B = Rest → Rest} (λ (f : Rest → Rest) (k : Rest) (i : ℕ). f (λ j. if nat_lt i j then more_rounds hay greedy f k j else k j) i) (p hay ok)

ascii_optional : (greedy : Bool) (a b : Re) → AsciiSame a b → AsciiSame (optional greedy a) (optional greedy b)
ascii_optional true a b p = ascii_alt a b empty empty p (ascii_refl empty)
ascii_optional false a b p = ascii_alt empty empty a b (ascii_refl empty) p

ascii_copies : (n : ℕ) (a b c d : Re) → AsciiSame a b → AsciiSame c d → AsciiSame (copies n a c) (copies n b d)
ascii_copies zero a b c d p q = q
ascii_copies (suc n) a b c d p q = ascii_cat a b (copies n a c) (copies n b d) p (ascii_copies n a b c d p q)

ascii_up_to : (greedy : Bool) (n : ℕ) (a b : Re) → AsciiSame a b → AsciiSame (up_to greedy n a) (up_to greedy n b)
ascii_up_to greedy zero a b p = ascii_refl empty
ascii_up_to greedy (suc n) a b p =
    ascii_optional greedy (cat a (up_to greedy n a)) (cat b (up_to greedy n b))
    (ascii_cat a b (up_to greedy n a) (up_to greedy n b) p (ascii_up_to greedy n a b p))

pub ascii_repeat : (least : ℕ) (most : Option ℕ) (greedy : Bool) (a b : Re) → AsciiSame a b → AsciiSame (repeat least most greedy a) (repeat least most greedy b)
unfolding repeat
ascii_repeat zero None greedy a b p = ascii_optional greedy (plus greedy a) (plus greedy b) (ascii_plus greedy a b p)
ascii_repeat (suc n) None greedy a b p = ascii_copies n a b (plus greedy a) (plus greedy b) p (ascii_plus greedy a b p)
ascii_repeat least (Some most) greedy a b p =
    ascii_copies least a b (up_to greedy (most - least) a) (up_to greedy (most - least) b) p (ascii_up_to greedy (most - least) a b p)

-- where patterns match alike on all bytes they do on ASCII
of_same : (a b : Re) → SameMatches a b → AsciiSame a b
of_same a b p hay ok = fun_ext (λ k. fun_ext (λ i. p.at hay (λ n x h. let small = ok n x h in omega arith) k i))

joined : (a b c d : Re) → AsciiSame a b → AsciiSame b c → AsciiSame d c → AsciiSame a d
joined a b c d p q r hay ok = p hay ok ∙ q hay ok ∙ sym (r hay ok)

pub cat_all_grown : (xs ys : List Re) (x y : Re) → AsciiSame (cat_all xs) (cat_all ys) → AsciiSame x y →
    AsciiSame (cat_all (xs ++ x ∷ [])) (cat_all (ys ++ y ∷ []))
cat_all_grown xs ys x y p q =
    joined _ (cat (cat_all xs) x) (cat (cat_all ys) y) _ (of_same _ _ (cat_all-push xs x))
    (ascii_cat (cat_all xs) (cat_all ys) x y p q) (of_same _ _ (cat_all-push ys y))

pub alt_all_grown : (xs ys : List Re) (x y : Re) → AsciiSame (alt_all xs) (alt_all ys) → AsciiSame x y →
    AsciiSame (alt_all (xs ++ x ∷ [])) (alt_all (ys ++ y ∷ []))
alt_all_grown xs ys x y p q =
    joined _ (alt (alt_all xs) x) (alt (alt_all ys) y) _ (of_same _ _ (alt_all-push xs x))
    (ascii_alt (alt_all xs) (alt_all ys) x y p q) (of_same _ _ (alt_all-push ys y))

pub grown : (xs ys : List Hir) (x y : Hir) →
    AsciiSame (cat_all (map meaning xs)) (cat_all (map meaning ys)) × AsciiSame (alt_all (map meaning xs)) (alt_all (map meaning ys)) →
    AsciiSame (meaning x) (meaning y) →
    AsciiSame (cat_all (map meaning (xs ++ x ∷ []))) (cat_all (map meaning (ys ++ y ∷ [])))
    × AsciiSame (alt_all (map meaning (xs ++ x ∷ []))) (alt_all (map meaning (ys ++ y ∷ [])))
grown xs ys x y p q =
    let xs' = map-append meaning xs (x ∷ []) in
    let ys' = map-append meaning ys (y ∷ []) in (
      rw (xs', ys') (cat_all_grown (map meaning xs) (map meaning ys) (meaning x) (meaning y) p.0 q),
      rw (xs', ys') (alt_all_grown (map meaning xs) (map meaning ys) (meaning x) (meaning y) p.1 q),
    )

abbrev given_or : ℕ → Option ℕ → ℕ
given_or d None = d
given_or d (Some x) = x

-- a character of ASCII text is ASCII
ascii_char : (hay : List ℕ) → All (λ x. x < 128) hay → (i c : ℕ) → char_at hay i ≡ Some c → c < 128
ascii_char hay ok i c e = go (slice_get_cases hay i).1
  where
    go : ((b : ℕ) × (i < length hay) × (slice_get hay i ≡ Some b) × (get_or hay i b ≡ b)) ⊎ ((length hay ≤ i) × (slice_get hay i ≡ None)) → c < 128
    go (inl (b, within, here, read)) =
        let small : b < 128 = subst (λ x. x < 128) read (ok i b within) in
        let same : b ≡ c = ap (given_or 0) (sym (char_at_ascii hay i b here small) ∙ e) in
        rw same at small
    go (inr (past, none)) = absurd (none-some c (sym (char_at_past hay i past) ∙ e))

in_first : (c : ℕ) → c < 128 → in_ranges ((0, 127) ∷ []) c ≡ true
unfolding in_ranges in_range
in_first c h = grind (arith, nat_tests)

and_true : (b d : Bool) → d ≡ true → b && d ≡ b
and_true true d e = e
and_true false d e = refl

pub ascii_chars : (xs ys : List Range) → HasExactly xs (in_ascii ys) → AsciiSame (char_in xs) (char_in ys)
unfolding attempt
ascii_chars xs ys h hay ok = fun_ext (λ k. fun_ext (λ i.
    option_and_then_cong _ _ (char_at hay i) (λ c e.
    let small = ascii_char hay ok i c e in
    ap (λ b. cond b (k (i + len_utf8 c)) None) (h c (omega arith) ∙ and_true (in_ranges ys c) _ (in_first c small)))))

pub chars_kept : (x y : Class) → HasExactly x.ranges.items (in_ascii y.ranges.items) → AsciiSame (meaning (Chars x)) (meaning (Chars y))
chars_kept x y h = rw (meaning-Chars x, meaning-Chars y) (ascii_chars x.ranges.items y.ranges.items h)

pub repetition_kept : (min : ℕ) (max : Option ℕ) (greedy : Bool) (x y : Box Hir Global) → AsciiSame (meaning x.value) (meaning y.value) →
    AsciiSame (meaning (Repetition min max greedy x)) (meaning (Repetition min max greedy y))
repetition_kept min max greedy x y p =
    rw (meaning-Repetition min max greedy x, meaning-Repetition min max greedy y) (ascii_repeat min max greedy (meaning x.value) (meaning y.value) p)

pub capture_kept : (n : ℕ) (x y : Box Hir Global) → AsciiSame (meaning x.value) (meaning y.value) →
    AsciiSame (meaning (Capture n x)) (meaning (Capture n y))
capture_kept n x y p = rw (meaning-Capture n x, meaning-Capture n y) (ascii_group n (meaning x.value) (meaning y.value) p)
