-- The E.164 text is a key: under codes of which none begins another it tells the code and the national number.
use Rattle.std.proofs.Common.{◌≡◌, inl, inr, ℕ, ◌==◌, ◌||◌, ◌≤◌, not, Bool, true, false, List, [], ◌∷◌, ◌++◌, drop, take, length, refl, ap, ap₂, sym, ◌∙◌, true≢false, eqb-true, arith}
use Rattle.std.proofs.Math.Seq.{take-append_seam}
use Rattle.std.proofs.lemmas.Bool.{and_from, and_parts, cases_lt, not-true}
use Rattle.std.proofs.lemmas.List.{append_cancel_left, take-append-le}
use Rattle.std.proofs.lemmas.Slice.Eq.{bytes_eq-Decides}
use Rattle.std.specs.Fmt.{decimal}
use Rattle.std.specs.List.{list_all, list_any}
use Rattle.phone_values.specs.Numbers.{National, IsHeld, text_of}
use Rattle.phone_values.proofs.ReadBack.{text_of-injective}
use Rattle.phone_plans.specs.CodeLookUps.{begins, is_listed, is_prefix_free}
use Rattle.phone_territory.specs.Records.{code_of}
use Rattle.phone_plans.specs.Records.{has_code}
use Rattle.phone_records.specs.declared.loader.Metadata.{Metadata}
use Rattle.phone_values.specs.declared.reading.Reading.{Reading}
use Rattle.phone_print.specs.Texts.{e164_text}

-- what holds of all of a list, of which one passes, holds of one that passes
one_of_all : (p q : Metadata → Bool) (ms : List Metadata) → list_any p ms ≡ true → list_all q ms ≡ true → (m : Metadata) × (p m ≡ true) × (q m ≡ true)
one_of_all p q [] any all = cc
one_of_all p q (m ∷ ms) any all = at (λ f. one_of_all p q ms f rest.1) (p m) refl any
  where
    rest : (q m ≡ true) × (list_all q ms ≡ true)
    rest = and_parts (q m) (list_all q ms) all

    at : (list_any p ms ≡ true → (n : Metadata) × (p n ≡ true) × (q n ≡ true)) → (b : Bool) → p m ≡ b → (b || list_any p ms) ≡ true →
        (n : Metadata) × (p n ≡ true) × (q n ≡ true)
    at more true e f = (m, e, rest.0)
    at more false e f = more f

-- of two listed codes none begins the other
codes_apart : (db : List Metadata) (a b : ℕ) → is_prefix_free db ≡ true → is_listed a db ≡ true → is_listed b db ≡ true → begins a b ≡ false
codes_apart db a b free first second =
    let m = one_of_all (has_code a) (λ m. list_all (λ n. not (begins (code_of m) (code_of n))) db) db first free in
    let n = one_of_all (has_code b) (λ n. not (begins (code_of m.0) (code_of n))) db second m.2 in
    let apart : begins (code_of m.0) (code_of n.0) ≡ false = not-true _ n.2 in
    sym (ap₂ begins (eqb-true (code_of m.0) a m.1) (eqb-true (code_of n.0) b n.1)) ∙ apart

-- of two fronts of one text the shorter begins the other
front_of : (x y s t : List ℕ) → x ++ s ≡ y ++ t → length x ≤ length y → take (length x) y ≡ x
front_of x y s t e le = sym (take-append-le (length x) y t le) ∙ ap (take (length x)) (sym e) ∙ take-append_seam x s

-- so two codes in front of one text are one code, unless one begins the other
same_code : (a b : ℕ) (s t : List ℕ) → begins a b ≡ false → decimal a ++ s ≡ decimal b ++ t → length (decimal a) ≤ length (decimal b) → a ≡ b
unfolding begins
same_code a b s t apart e le = at (a == b) refl
  where
    at : (c : Bool) → (a == b) ≡ c → a ≡ b
    at true f = eqb-true a b f
    at false f =
        absurd (true≢false (sym (and_from (not (a == b)) _ (ap not f) ((bytes_eq-Decides _ _).1 (front_of (decimal a) (decimal b) s t e le))) ∙ apart))

codes_same : (a b : ℕ) (s t : List ℕ) → begins a b ≡ false → begins b a ≡ false → decimal a ++ s ≡ decimal b ++ t → a ≡ b
codes_same a b s t f g e = elim (cases_lt (length (decimal a)) (length (decimal b))) [
  | inl less ↦ same_code a b s t f e (omega (arith, less))
  | inr more ↦ sym (same_code b a t s g (sym e) more)
]

nationals_same : (a b : National) → IsHeld a → IsHeld b → text_of a ≡ text_of b → a ≡ b
nationals_same a b p q e =
    let both = text_of-injective a b p q e in
    ap₂ (λ z v. let n : National = record { zeros = z; value = v } in n) both.1 both.0

pub same_key : (db : List Metadata) (a b : Reading) → is_prefix_free db ≡ true → is_listed a.code.value db ≡ true → is_listed b.code.value db ≡ true →
    IsHeld a.national → IsHeld b.national → e164_text a ≡ e164_text b → (a.code.value ≡ b.code.value) × (a.national ≡ b.national)
same_key db a b free first second p q e =
    let texts : decimal a.code.value ++ text_of a.national ≡ decimal b.code.value ++ text_of b.national = ap (drop 1) e in
    let code : a.code.value ≡ b.code.value =
    codes_same a.code.value b.code.value (text_of a.national) (text_of b.national) (codes_apart db a.code.value b.code.value free first second)
    (codes_apart db b.code.value a.code.value free second first) texts in
    let nationals : text_of a.national ≡ text_of b.national =
    append_cancel_left (decimal b.code.value) (text_of a.national) (text_of b.national) (ap (λ c. decimal c ++ text_of a.national) (sym code) ∙ texts) in
    (code, nationals_same a.national b.national p q nationals)
