-- Two numbers between reader and reading are equal where they have one source and the same texts.
use Rattle.std.proofs.Common.{rules, ◌≡◌, ◌↔◌, ℕ, ◌&&◌, Bool, true, false, IsTrue, List, Option, Some, None, option_map, refl, ap, sym, subst, ◌∙◌}
use Rattle.std.proofs.lemmas.Bool.{and_parts, and_from}
use Rattle.std.specs.Bool.{nat_eq}
use Rattle.std.specs.Cmp.Lexicographic.{pointwise, same_text, other_text}
use Rattle.std.specs.Cow.{cow_str_bytes}
use Rattle.std.specs.Option.{option_eq}
use Rattle.std.specs.declared.borrow.CowStr.{CowStr}
use denote.Enum.Bare.{sameb, same_true, true_same}
use Rattle.phone_values.specs.contracts.country.Source.{the_type}
use Rattle.phone_parts.specs.Parts.{HasSameParts}
use Rattle.phone_parts.specs.declared.number.Number.{Number}

abbrev same_bytes : {Z : Type 0} → CowStr Z → CowStr Z → Bool
same_bytes x y = pointwise nat_eq (cow_str_bytes x) (cow_str_bytes y)

told_self : (x : List ℕ) (b : Bool) → b ≡ pointwise nat_eq x x → b ≡ true
told_self x true e = refl
told_self x false e = absurd (other_text x x e refl)

bytes_same : (x y : List ℕ) → x ≡ y → pointwise nat_eq x y ≡ true
bytes_same x y e = subst (λ z. pointwise nat_eq x z ≡ true) e (told_self x (pointwise nat_eq x x) refl)

parts_equal : {Z : Type 0} (p q : Option (CowStr Z)) → option_eq same_bytes p q ≡ true → option_map cow_str_bytes p ≡ option_map cow_str_bytes q
parts_equal None None h = refl
parts_equal None (Some y) h = cc
parts_equal (Some x) None h = cc
parts_equal (Some x) (Some y) h = ap Some (same_text (cow_str_bytes x) (cow_str_bytes y) (sym h))

parts_told : {Z : Type 0} (p q : Option (CowStr Z)) → option_map cow_str_bytes p ≡ option_map cow_str_bytes q → option_eq same_bytes p q ≡ true
parts_told None None e = refl
parts_told None (Some y) e = cc
parts_told (Some x) None e = cc
parts_told (Some x) (Some y) e = let same : cow_str_bytes x ≡ cow_str_bytes y = cc in bytes_same (cow_str_bytes x) (cow_str_bytes y) same

-- what `==` tells of two numbers
abbrev pub told_equal : Number → Number → Bool
told_equal a b =
    sameb the_type a.country b.country && (same_bytes a.national b.national
    && (option_eq same_bytes a.prefix b.prefix && (option_eq same_bytes a.extension b.extension && option_eq same_bytes a.carrier b.carrier)))

pub parts_alike : (a b : Number) (r : Bool) → r ≡ told_equal a b → IsTrue r ↔ HasSameParts a b
parts_alike a b r e = (there, back)
  where
    there : IsTrue r → HasSameParts a b
    there t =
        let one = and_parts (sameb the_type a.country b.country) _ (sym e ∙ t) in
        let two = and_parts (same_bytes a.national b.national) _ one.1 in
        let three = and_parts (option_eq same_bytes a.prefix b.prefix) _ two.1 in
        let four = and_parts (option_eq same_bytes a.extension b.extension) _ three.1 in
        record {
          country = same_true the_type (search rules) _ _ one.0;
          national = same_text (cow_str_bytes a.national) (cow_str_bytes b.national) (sym two.0);
          prefix = parts_equal a.prefix b.prefix three.0;
          extension = parts_equal a.extension b.extension four.0;
          carrier = parts_equal a.carrier b.carrier four.1;
        }

    back : HasSameParts a b → IsTrue r
    back h =
        e ∙ and_from _ _ (true_same the_type a.country b.country h.country)
        (and_from _ _ (bytes_same (cow_str_bytes a.national) (cow_str_bytes b.national) h.national)
        (and_from _ _ (parts_told a.prefix b.prefix h.prefix)
        (and_from _ _ (parts_told a.extension b.extension h.extension) (parts_told a.carrier b.carrier h.carrier))))
