-- Each form is read in one way.
use Rattle.std.proofs.Common.{◌≡◌, ◌∙◌, sym, refl, ap, ap₂, arith, length, append_assoc}
use Rattle.std.specs.Prelude.{ℕ, zero, suc, ◌/◌, ◌%◌, ◌<◌, true, false, List, [], ◌∷◌, ◌++◌}
use Rattle.std.specs.Prelude.{Option, Some, None, replicate}
use Rattle.phone_compact.specs.Forms.{Form, IsUnique, number, number_written, truth, text, option}
use Rattle.phone_compact.specs.Forms.{items, ◌then◌, seen_as}

-- what stands before and after, grouped otherwise
regrouped : (s t a u v b : List ℕ) → (s ++ t) ++ a ≡ (u ++ v) ++ b → s ++ (t ++ a) ≡ u ++ (v ++ b)
regrouped s t a u v b e = sym (append_assoc s t a) ∙ (e ∙ append_assoc u v b)

-- two numbers that stand at the head of bytes, by how often 255 stands there
same_runs : (k l r s : ℕ) (a b : List ℕ) → r < 255 → s < 255 →
    replicate k 255 ++ (r ∷ a) ≡ replicate l 255 ++ (s ∷ b) → (k ≡ l) × ((r ≡ s) × (a ≡ b))
same_runs zero zero r s a b r_small s_small e = (refl, (cc, cc))
same_runs zero (suc l) r s a b r_small s_small e =
    let h : r ≡ 255 = cc in
    absurd (omega arith)
same_runs (suc k) zero r s a b r_small s_small e =
    let h : s ≡ 255 = cc in
    absurd (omega arith)
same_runs (suc k) (suc l) r s a b r_small s_small e =
    let tails : replicate k 255 ++ (r ∷ a) ≡ replicate l 255 ++ (s ∷ b) = cc in
    let h = same_runs k l r s a b r_small s_small tails in
    (ap suc h.0, h.1)

same_parts : (m n : ℕ) → m / 255 ≡ n / 255 → m % 255 ≡ n % 255 → m ≡ n
same_parts m n quotients remainders = omega arith

-- numbers that begin the same bytes are one number
pub same_numbers : (m n : ℕ) (a b : List ℕ) → number_written m ++ a ≡ number_written n ++ b →
    (m ≡ n) × (a ≡ b)
same_numbers m n a b e =
    let small_m : m % 255 < 255 = omega arith in
    let small_n : n % 255 < 255 = omega arith in
    let h = same_runs (m / 255) (n / 255) (m % 255) (n % 255) a b small_m small_n
    (regrouped (replicate (m / 255) 255) (m % 255 ∷ []) a (replicate (n / 255) 255)
    (n % 255 ∷ []) b e) in
    (same_parts m n h.0 h.1.0, h.1.1)

-- a number's form is read in one way
pub number_unique : IsUnique number
number_unique = same_numbers

-- so is that of a truth value
pub truth_unique : IsUnique truth
truth_unique false false a b e = (refl, cc)
truth_unique true true a b e = (refl, cc)
truth_unique false true a b e = cc
truth_unique true false a b e = cc

-- lists that begin with lists of one length
pub same_fronts : (s t a b : List ℕ) → length s ≡ length t → s ++ a ≡ t ++ b → (s ≡ t) × (a ≡ b)
same_fronts [] [] a b e h = (refl, h)
same_fronts [] (y ∷ t) a b e h = absurd (omega arith)
same_fronts (x ∷ s) [] a b e h = absurd (omega arith)
same_fronts (x ∷ s) (y ∷ t) a b e h =
    let heads : x ≡ y = cc in
    let tails : s ++ a ≡ t ++ b = cc in
    let lengths : length s ≡ length t = omega arith in
    let r = same_fronts s t a b lengths tails in
    (ap₂ (λ z zs. z ∷ zs) heads r.0, r.1)

-- of a text
pub text_unique : IsUnique text
text_unique s t a b e =
    let whole = regrouped (number_written (length s)) s a (number_written (length t)) t b e in
    let h = same_numbers (length s) (length t) (s ++ a) (t ++ b) whole in
    same_fronts s t a b h.0 h.1

-- of a value that may be absent
pub option_unique : {A : Type 0} (form : Form A) → IsUnique form → IsUnique (option form)
option_unique form unique None None a b e = (refl, cc)
option_unique form unique None (Some y) a b e = cc
option_unique form unique (Some x) None a b e = cc
option_unique form unique (Some x) (Some y) a b e =
    let rest : form.written x ++ a ≡ form.written y ++ b = cc in
    let h = unique x y a b rest in
    (ap Some h.0, h.1)

-- of a list
pub items_unique : {A : Type 0} (form : Form A) → IsUnique form → IsUnique (items form)
items_unique form unique [] [] a b e = (refl, cc)
items_unique form unique [] (y ∷ ys) a b e = cc
items_unique form unique (x ∷ xs) [] a b e = cc
items_unique form unique (x ∷ xs) (y ∷ ys) a b e =
    let all_x = (items form).written xs in
    let all_y = (items form).written ys in
    let tails : (form.written x ++ all_x) ++ a ≡ (form.written y ++ all_y) ++ b = cc in
    let rest = regrouped (form.written x) all_x a (form.written y) all_y b tails in
    let h = unique x y (all_x ++ a) (all_y ++ b) rest in
    let t = items_unique form unique xs ys a b h.1 in
    (ap₂ (λ z zs. z ∷ zs) h.0 t.0, t.1)

-- of two things
pub then_unique : {A B : Type 0} (first : Form A) (second : Form B) → IsUnique first →
    IsUnique second → IsUnique (first then second)
then_unique first second unique_first unique_second x y a b e =
    let one_x = first.written x.0 in
    let one_y = first.written y.0 in
    let two_x = second.written x.1 in
    let two_y = second.written y.1 in
    let rest = regrouped one_x two_x a one_y two_y b e in
    let h = unique_first x.0 y.0 (two_x ++ a) (two_y ++ b) rest in
    let t = unique_second x.1 y.1 a b h.1 in
    (ap₂ (λ u v. (u, v)) h.0 t.0, t.1)

-- a record is determined by its fields
pub seen_as_unique : {A B : Type 0} (fields : A → B) (form : Form B) → IsUnique form →
    (made : B → A) → ((x : A) → made (fields x) ≡ x) → IsUnique (seen_as fields form)
seen_as_unique fields form unique made same x y a b e =
    let h = unique (fields x) (fields y) a b e in
    (sym (same x) ∙ (ap made h.0 ∙ same y), h.1)

-- a form with the proof that it is read in one way
pub record UniqueForm (A : Type 0) : Type 1 where
  pub form : Form A
  pub unique : IsUnique form

-- a value that may be absent, in one way
abbrev pub option_of : {A : Type 0} → UniqueForm A → UniqueForm (Option A)
option_of f = record { form = option f.form; unique = option_unique f.form f.unique }

-- a list, in one way
abbrev pub items_of : {A : Type 0} → UniqueForm A → UniqueForm (List A)
items_of f = record { form = items f.form; unique = items_unique f.form f.unique }

infixr 20 ◌before◌
-- two things, one before the other, in one way
abbrev pub ◌before◌ : {A B : Type 0} → UniqueForm A → UniqueForm B → UniqueForm (A × B)
f before g = record {
  form = f.form then g.form;
  unique = then_unique f.form g.form f.unique g.unique;
}

-- a record as its fields, of which it can be made again, in one way
abbrev pub fields_of : {A B : Type 0} (fields : A → B) → UniqueForm B → (made : B → A) →
    ((x : A) → made (fields x) ≡ x) → UniqueForm A
fields_of fields f made same = record {
  form = seen_as fields f.form;
  unique = seen_as_unique fields f.form f.unique made same;
}
