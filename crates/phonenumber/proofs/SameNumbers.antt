-- Two numbers are equal where all four parts are.
use Rattle.std.proofs.Common.{rules, ◌≡◌, ◌↔◌, ℕ, ◌==◌, ◌&&◌, Bool, true, false, IsTrue, List, Option, Some, None, refl, ap, sym, subst, ◌∙◌, eqb-true}
use Rattle.std.proofs.lemmas.Bool.{and_parts, and_from, eq-eqb}
use Rattle.std.specs.Bool.{nat_eq}
use Rattle.std.specs.Cmp.Lexicographic.{pointwise, same_text, other_text}
use Rattle.std.specs.Option.{option_eq}
use denote.Enum.Bare.{sameb, same_true, true_same}
use Rattle.phone_values.specs.Numbers.{IsHeld, National, packed}
use Rattle.phone_values.specs.contracts.country.Source.{the_type}
use Rattle.phone_values.specs.declared.country.Source.{Source}
use Rattle.phone_values.proofs.ReadBack.{packed-injective}
use Rattle.phone_values.specs.declared.reading.Reading.{Reading}

abbrev same_texts : Option (List ℕ) → Option (List ℕ) → Bool
same_texts x y = option_eq (pointwise nat_eq) x y

texts_same : (x y : Option (List ℕ)) → same_texts x y ≡ true → x ≡ y
texts_same None None h = refl
texts_same None (Some y) h = cc
texts_same (Some x) None h = cc
texts_same (Some x) (Some y) h = ap Some (same_text x y (sym h))

pointwise_self : (x : List ℕ) (b : Bool) → b ≡ pointwise nat_eq x x → b ≡ true
pointwise_self x true e = refl
pointwise_self x false e = absurd (other_text x x e refl)

texts_self : (x : Option (List ℕ)) → same_texts x x ≡ true
texts_self None = refl
texts_self (Some x) = pointwise_self x (pointwise nat_eq x x) refl

-- what `==` tells of two numbers
abbrev pub told_equal : Reading → Reading → Bool
told_equal a b =
    ((a.code.value == b.code.value) && sameb the_type a.code.source b.code.source)
    && ((packed a.national == packed b.national) && (same_texts a.extension b.extension && same_texts a.carrier b.carrier))

abbrev put : ℕ → Source → National → Option (List ℕ) → Option (List ℕ) → Reading
put v s n e c = record { code = record { value = v; source = s }; national = n; extension = e; carrier = c }

equal : (a b : Reading) → IsHeld a.national → IsHeld b.national → told_equal a b ≡ true → a ≡ b
equal a b p q h =
    let two = and_parts ((a.code.value == b.code.value) && sameb the_type a.code.source b.code.source) _ h in
    let code = and_parts (a.code.value == b.code.value) _ two.0 in
    let rest = and_parts (packed a.national == packed b.national) _ two.1 in
    let texts = and_parts (same_texts a.extension b.extension) _ rest.1 in
    let value : a.code.value ≡ b.code.value = eqb-true _ _ code.0 in
    let source : a.code.source ≡ b.code.source = same_true the_type (search rules) _ _ code.1 in
    let national : a.national ≡ b.national = packed-injective a.national b.national p q (eqb-true _ _ rest.0) in
    ap (λ v. put v a.code.source a.national a.extension a.carrier) value
    ∙ ap (λ s. put b.code.value s a.national a.extension a.carrier) source
    ∙ ap (λ n. put b.code.value b.code.source n a.extension a.carrier) national
    ∙ ap (λ e. put b.code.value b.code.source b.national e a.carrier) (texts_same a.extension b.extension texts.0)
    ∙ ap (put b.code.value b.code.source b.national b.extension) (texts_same a.carrier b.carrier texts.1)

self_equal : (a : Reading) → told_equal a a ≡ true
self_equal a =
    and_from _ _ (and_from _ _ (eq-eqb a.code.value a.code.value refl) (true_same the_type a.code.source a.code.source refl))
    (and_from _ _ (eq-eqb (packed a.national) (packed a.national) refl) (and_from _ _ (texts_self a.extension) (texts_self a.carrier)))

pub numbers_same : (a b : Reading) → IsHeld a.national → IsHeld b.national → (r : Bool) → r ≡ told_equal a b → IsTrue r ↔ (a ≡ b)
numbers_same a b p q r e = (λ t. equal a b p q (sym e ∙ t), λ same. e ∙ subst (λ x. told_equal a x ≡ true) same (self_equal a))
