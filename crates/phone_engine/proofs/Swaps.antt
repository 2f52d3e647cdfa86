-- Sides in the other order, and a side with itself.
use Rattle.std.proofs.Common.{◌≡◌, ℕ, ◌==◌, ◌&&◌, ◌||◌, Bool, true, false, if◌then◌else◌, List, Option, None, Some, refl, ap, ap₂, sym, ◌∙◌, eqb-true}
use Rattle.std.proofs.lemmas.Bool.{cond-true, eq-eqb}
use Rattle.std.proofs.lemmas.Slice.Eq.{bytes_eq-Decides}
use Rattle.std.specs.Fmt.{decimal}
use Rattle.std.specs.Str.{bytes_eq}
use Rattle.phone_values.specs.Numbers.{National as Nsn}
use Rattle.phone_engine.specs.Sameness.{is_end, is_one_extension, sameness_by, sameness_by_end, sameness_of, sameness_under_code, sameness_without_code}
use Rattle.phone_engine.specs.declared.sameness.Sameness.{Sameness}
use Rattle.phone_engine.specs.declared.sameness.Sameness.TheVariants.{Exact, Number, National, End, Different}
use Rattle.phone_engine.specs.declared.sides.Side.{Side}

same_answer : (p q : Bool) → (p ≡ true → q ≡ true) → (q ≡ true → p ≡ true) → p ≡ q
same_answer true q f g = sym (f refl)
same_answer false true f g = g refl
same_answer false false f g = refl

pub eqb-swap : (x y : ℕ) → (x == y) ≡ (y == x)
eqb-swap x y = same_answer (x == y) (y == x) (λ h. eq-eqb y x (sym (eqb-true x y h))) (λ h. eq-eqb x y (sym (eqb-true y x h)))

pub bytes_eq-swap : (a b : List ℕ) → bytes_eq a b ≡ bytes_eq b a
bytes_eq-swap a b =
    same_answer (bytes_eq a b) (bytes_eq b a)
    (λ h. (bytes_eq-Decides b a).1 (sym ((bytes_eq-Decides a b).0 h)))
    (λ h. (bytes_eq-Decides a b).1 (sym ((bytes_eq-Decides b a).0 h)))

or-swap : (p q : Bool) → (p || q) ≡ (q || p)
or-swap true true = refl
or-swap true false = refl
or-swap false true = refl
or-swap false false = refl

is_one_extension-swap : (e f : Option (List ℕ)) → is_one_extension e f ≡ is_one_extension f e
is_one_extension-swap None None = refl
is_one_extension-swap None (Some f) = refl
is_one_extension-swap (Some e) None = refl
is_one_extension-swap (Some e) (Some f) = bytes_eq-swap e f

by_end-swap : (a b : Side) → sameness_by_end a b ≡ sameness_by_end b a
by_end-swap a b =
    ap (λ (t : Bool). if t then End else Different)
    (or-swap (is_end (decimal a.national.value) (decimal b.national.value)) (is_end (decimal b.national.value) (decimal a.national.value)))

-- the table under one code, by its tests
abbrev told : Bool → Bool → Bool → Sameness → Sameness
told zeros value extension end = if zeros && value then (if extension then Exact else Number) else end

under_code-swap : (a b : Side) → sameness_under_code a b ≡ sameness_under_code b a
under_code-swap a b =
    ap (λ z. told z (a.national.value == b.national.value) (is_one_extension a.extension b.extension) (sameness_by_end a b)) (eqb-swap a.national.zeros b.national.zeros)
    ∙ ap (λ v. told (b.national.zeros == a.national.zeros) v (is_one_extension a.extension b.extension) (sameness_by_end a b)) (eqb-swap a.national.value b.national.value)
    ∙ ap (λ x. told (b.national.zeros == a.national.zeros) (b.national.value == a.national.value) x (sameness_by_end a b)) (is_one_extension-swap a.extension b.extension)
    ∙ ap (told (b.national.zeros == a.national.zeros) (b.national.value == a.national.value) (is_one_extension b.extension a.extension)) (by_end-swap a b)

without_code-swap : (a b : Side) → sameness_without_code a b ≡ sameness_without_code b a
without_code-swap a b =
    ap₂ (λ (v : Bool) (end : Sameness). if v then National else end) (eqb-swap a.national.value b.national.value) (by_end-swap a b)

by-swap : (c d : Option ℕ) (a b : Side) → sameness_by c d a b ≡ sameness_by d c b a
by-swap None None a b = without_code-swap a b
by-swap None (Some d) a b = without_code-swap a b
by-swap (Some c) None a b = without_code-swap a b
by-swap (Some c) (Some d) a b = ap₂ (λ (same : Bool) (under : Sameness). if same then under else Different) (eqb-swap c d) (under_code-swap a b)

pub sameness_of-swap : (a b : Side) → sameness_of a b ≡ sameness_of b a
sameness_of-swap a b = by-swap a.code b.code a b

pub is_one_extension-itself : (e : Option (List ℕ)) → is_one_extension e e ≡ true
is_one_extension-itself None = refl
is_one_extension-itself (Some e) = (bytes_eq-Decides e e).1 refl

-- sides of one code and one national number differ at most by their extensions
pub sameness_of-one : (code : ℕ) (n : Nsn) (e f : Option (List ℕ)) →
    sameness_of (record { code = Some code; national = n; extension = e }) (record { code = Some code; national = n; extension = f }) ≡
    (if is_one_extension e f then Exact else Number)
sameness_of-one code n e f =
    let both : ((n.zeros == n.zeros) && (n.value == n.value)) ≡ true = ap₂ ◌&&◌ (eq-eqb n.zeros n.zeros refl) (eq-eqb n.value n.value refl) in
    cond-true _ _ _ (eq-eqb code code refl) ∙ cond-true _ _ _ both

pub exact_itself : (a : Side) (code : ℕ) → a.code ≡ Some code → sameness_of a a ≡ Exact
exact_itself a code h =
    let both : ((a.national.zeros == a.national.zeros) && (a.national.value == a.national.value)) ≡ true =
    ap₂ ◌&&◌ (eq-eqb a.national.zeros a.national.zeros refl) (eq-eqb a.national.value a.national.value refl) in
    ap (λ o. sameness_by o o a a) h ∙ cond-true _ _ _ (eq-eqb code code refl) ∙ cond-true _ _ _ both ∙ cond-true _ _ _ (is_one_extension-itself a.extension)

pub national_itself : (a : Side) → a.code ≡ None → sameness_of a a ≡ National
national_itself a h = ap (λ o. sameness_by o o a a) h ∙ cond-true _ _ _ (eq-eqb a.national.value a.national.value refl)
