-- What a text is taken as: there is at most one side of it, and numbers that were read are compared
-- by code, national number and extension.
use Rattle.std.proofs.Common.{◌≡◌, ◌⊎◌, inl, inr, ℕ, if◌then◌else◌, List, None, Some, Result, Ok, Err, refl, ap, ap₂, sym, subst, ◌∙◌}
use Rattle.phone_values.specs.Numbers.{National as Nsn}
use Rattle.phone_values.specs.declared.error.ParseError.{ParseError}
use Rattle.phone_values.specs.declared.error.ParseError.TheVariants as error
use Rattle.phone_parts.proofs.OneParts.{parts_same}
use Rattle.phone_library_text.proofs.WrittenOnes.{written_same}
use Rattle.phone_engine.proofs.OneReading.{reading_same}
use Rattle.phone_engine.specs.Readings.{ReadsBy}
use Rattle.phone_values.specs.declared.rules.Rules.{Rules}
use Rattle.phone_values.specs.declared.rules.Rules.TheVariants.{Library, Crate}
use Rattle.phone_values.specs.declared.reading.Reading.{Reading}
use Rattle.phone_records.specs.declared.loader.Metadata.{Metadata}
use Rattle.phone_engine.proofs.Swaps.{sameness_of-one, sameness_of-swap}
use Rattle.phone_engine.specs.Sameness
use Rattle.phone_engine.specs.Sameness.{IsAnswer, is_one_extension, sameness_of}
use Rattle.phone_engine.specs.Sides
use Rattle.phone_engine.specs.Sides.{IsDialled, IsTaken, side_of, uncoded_side, written_side}
use Rattle.phone_engine.specs.declared.sameness.Sameness.{Sameness as Answer}
use Rattle.phone_engine.specs.declared.sameness.Sameness.TheVariants.{Exact, Number}
use Rattle.phone_engine.specs.declared.sides.Side.{Side}

-- a text without a code is taken as one side
dialled_same : (rules : Rules) (t : List ℕ) (a b : Result Side ParseError) → IsDialled rules t a → IsDialled rules t b → a ≡ b
dialled_same Library t a b (v, h, e) (w, g, f) = e ∙ ap written_side (written_same t v w h g) ∙ sym f
dialled_same Crate t a b (p, h, e) (q, g, f) = e ∙ ap uncoded_side (parts_same t p q h g) ∙ sym f

-- a text is taken as one side
pub taken_same : (rules : Rules) (db : List Metadata) (t : List ℕ) (a b : Result Side ParseError) → IsTaken rules db t a → IsTaken rules db t b → a ≡ b
taken_same rules db t a b (Sides.read m h) (Sides.read n g) =
    let same : Ok m ≡ Ok n = reading_same rules db None t (Ok m) (Ok n) h g in
    let one : m ≡ n = cc in
    ap (λ (k : Reading). Ok (side_of k)) one
taken_same rules db t a b (Sides.read m h) (Sides.dialled s g d) =
    let same : Ok m ≡ Err error.InvalidCountryCode = reading_same rules db None t (Ok m) (Err error.InvalidCountryCode) h g in cc
taken_same rules db t a b (Sides.read m h) (Sides.refused e other g) = let same : Ok m ≡ Err e = reading_same rules db None t (Ok m) (Err e) h g in cc
taken_same rules db t a b (Sides.dialled s h d) (Sides.read n g) =
    let same : Err error.InvalidCountryCode ≡ Ok n = reading_same rules db None t (Err error.InvalidCountryCode) (Ok n) h g in cc
taken_same rules db t a b (Sides.dialled s h c) (Sides.dialled r g d) = dialled_same rules t s r c d
taken_same rules db t a b (Sides.dialled s h d) (Sides.refused e other g) =
    let same : Err error.InvalidCountryCode ≡ Err e = reading_same rules db None t (Err error.InvalidCountryCode) (Err e) h g in
    absurd (other (let is : e ≡ error.InvalidCountryCode = cc in is))
taken_same rules db t a b (Sides.refused e other h) (Sides.read n g) = let same : Err e ≡ Ok n = reading_same rules db None t (Err e) (Ok n) h g in cc
taken_same rules db t a b (Sides.refused e other h) (Sides.dialled s g d) =
    let same : Err e ≡ Err error.InvalidCountryCode = reading_same rules db None t (Err e) (Err error.InvalidCountryCode) h g in
    absurd (other (let is : e ≡ error.InvalidCountryCode = cc in is))
taken_same rules db t a b (Sides.refused d other h) (Sides.refused e more g) =
    let same : Err d ≡ Err e = reading_same rules db None t (Err d) (Err e) h g in
    let one : d ≡ e = cc in
    ap (λ (x : ParseError). Err x) one

side_or : Side → Result Side ParseError → Side
side_or a (Ok b) = b
side_or a (Err e) = a

refusal_or : ParseError → Result Side ParseError → ParseError
refusal_or d (Ok b) = d
refusal_or d (Err e) = e

side_same : (rules : Rules) (db : List Metadata) (t : List ℕ) (a b : Side) → IsTaken rules db t (Ok a) → IsTaken rules db t (Ok b) → a ≡ b
unfolding side_or
side_same rules db t a b h g = ap (side_or a) (taken_same rules db t (Ok a) (Ok b) h g)

refusal_same : (rules : Rules) (db : List Metadata) (t : List ℕ) (d e : ParseError) → IsTaken rules db t (Err d) → IsTaken rules db t (Err e) → d ≡ e
unfolding refusal_or
refusal_same rules db t d e h g = ap (refusal_or d) (taken_same rules db t (Err d) (Err e) h g)

not_both : (rules : Rules) (db : List Metadata) (t : List ℕ) (a : Side) (e : ParseError) → IsTaken rules db t (Ok a) → ¬ (IsTaken rules db t (Err e))
not_both rules db t a e h g = let same : Ok a ≡ Err e = taken_same rules db t (Ok a) (Err e) h g in cc

-- two texts have one answer
pub answer_same : (rules : Rules) (db : List Metadata) (s t : List ℕ) (x y : Result Answer ParseError) → IsAnswer rules db s t x → IsAnswer rules db s t y → x ≡ y
answer_same rules db s t x y (Sameness.of_both a b h g) (Sameness.of_both c d k l) =
    ap₂ (λ (p q : Side). Ok (sameness_of p q)) (side_same rules db s a c h k) (side_same rules db t b d g l)
answer_same rules db s t x y (Sameness.of_both a b h g) (Sameness.first_refused e k) = absurd (not_both rules db s a e h k)
answer_same rules db s t x y (Sameness.of_both a b h g) (Sameness.second_refused c e k l) = absurd (not_both rules db t b e g l)
answer_same rules db s t x y (Sameness.first_refused e h) (Sameness.of_both c d k l) = absurd (not_both rules db s c e k h)
answer_same rules db s t x y (Sameness.first_refused e h) (Sameness.first_refused f k) = ap Err (refusal_same rules db s e f h k)
answer_same rules db s t x y (Sameness.first_refused e h) (Sameness.second_refused c f k l) = absurd (not_both rules db s c e k h)
answer_same rules db s t x y (Sameness.second_refused a e h g) (Sameness.of_both c d k l) = absurd (not_both rules db t d e l g)
answer_same rules db s t x y (Sameness.second_refused a e h g) (Sameness.first_refused f k) = absurd (not_both rules db s a f h k)
answer_same rules db s t x y (Sameness.second_refused a e h g) (Sameness.second_refused c f k l) = ap Err (refusal_same rules db t e f g l)

-- in the other order the answer is the same
swapped : (rules : Rules) (db : List Metadata) (s t : List ℕ) (x : Result Answer ParseError) (r : Answer) → IsAnswer rules db s t x → x ≡ Ok r → IsAnswer rules db t s (Ok r)
swapped rules db s t x r (Sameness.of_both a b h g) e = subst (λ y. IsAnswer rules db t s y) (ap Ok (sameness_of-swap b a) ∙ e) (Sameness.of_both b a g h)
swapped rules db s t x r (Sameness.first_refused f h) e = cc
swapped rules db s t x r (Sameness.second_refused a f h g) e = cc

pub answer_swap : (rules : Rules) (db : List Metadata) (s t : List ℕ) (r : Answer) → IsAnswer rules db s t (Ok r) → IsAnswer rules db t s (Ok r)
answer_swap rules db s t r h = swapped rules db s t (Ok r) r h refl

-- where the two orders are refused differently, both texts are refused, each as itself
refused_by_each : (rules : Rules) (db : List Metadata) (s t : List ℕ) (x y : Result Answer ParseError) (e f : ParseError) → IsAnswer rules db s t x → IsAnswer rules db t s y →
    x ≡ Err e → y ≡ Err f → ¬ (e ≡ f) → IsTaken rules db s (Err e) × IsTaken rules db t (Err f)
refused_by_each rules db s t x y e f (Sameness.of_both a b h g) back p q other = cc
refused_by_each rules db s t x y e f (Sameness.first_refused d h) (Sameness.of_both a b k l) p q other = cc
refused_by_each rules db s t x y e f (Sameness.first_refused d h) (Sameness.first_refused c k) p q other =
    let first : d ≡ e = cc in
    let second : c ≡ f = cc in
    (subst (λ z. IsTaken rules db s (Err z)) first h, subst (λ z. IsTaken rules db t (Err z)) second k)
refused_by_each rules db s t x y e f (Sameness.first_refused d h) (Sameness.second_refused a c k l) p q other =
    let same : d ≡ c = refusal_same rules db s d c h l in
    absurd (other (let is : e ≡ f = cc in is))
refused_by_each rules db s t x y e f (Sameness.second_refused a d h g) (Sameness.of_both b c k l) p q other = cc
refused_by_each rules db s t x y e f (Sameness.second_refused a d h g) (Sameness.first_refused c k) p q other =
    let same : d ≡ c = refusal_same rules db t d c g k in
    absurd (other (let is : e ≡ f = cc in is))
refused_by_each rules db s t x y e f (Sameness.second_refused a d h g) (Sameness.second_refused b c k l) p q other =
    absurd (not_both rules db t b d k g)

pub refused_swap : (rules : Rules) (db : List Metadata) (s t : List ℕ) (e f : ParseError) → IsAnswer rules db s t (Err e) → IsAnswer rules db t s (Err f) → ¬ (e ≡ f) →
    IsTaken rules db s (Err e) × IsTaken rules db t (Err f)
refused_swap rules db s t e f h g other = refused_by_each rules db s t (Err e) (Err f) e f h g refl refl other

-- two texts that are read as one code and one national number
pub read_alike : (rules : Rules) (db : List Metadata) (s t : List ℕ) (m k : Reading) → ReadsBy rules db None s (Ok m) → ReadsBy rules db None t (Ok k) →
    m.code.value ≡ k.code.value → m.national ≡ k.national →
    IsAnswer rules db s t (Ok (if is_one_extension m.extension k.extension then Exact else Number))
read_alike rules db s t m k h g code national =
    let same : sameness_of (side_of m) (side_of k) ≡ (if is_one_extension m.extension k.extension then Exact else Number) =
    ap₂ (λ (c : ℕ) (n : Nsn). sameness_of (record { code = Some c; national = n; extension = m.extension }) (side_of k)) code national
    ∙ sameness_of-one k.code.value k.national m.extension k.extension in
    subst (λ r. IsAnswer rules db s t (Ok r)) same (Sameness.of_both (side_of m) (side_of k) (Sides.read m h) (Sides.read k g))

-- what is told of one text, or want of memory
abbrev pub IsTakenOrWants : Rules → List Metadata → List ℕ → Result Side ParseError → Type 0
IsTakenOrWants rules db t s = (s ≡ Err error.Memory) ⊎ IsTaken rules db t s

abbrev pub IsReadOrWants : Rules → List Metadata → List ℕ → Result Reading ParseError → Type 0
IsReadOrWants rules db t r = (r ≡ Err error.Memory) ⊎ ReadsBy rules db None t r

abbrev pub IsAnswerOrWants : Rules → List Metadata → List ℕ → List ℕ → Result Answer ParseError → Type 0
IsAnswerOrWants rules db s t r = (r ≡ Err error.Memory) ⊎ IsAnswer rules db s t r

-- a text that was read as a number, which is taken over, or wants memory
pub number_so : (rules : Rules) (db : List Metadata) (t : List ℕ) (n : Reading) (s : Result Side ParseError) → (s ≡ Err error.Memory) ⊎ (s ≡ Ok (side_of n)) →
    IsReadOrWants rules db t (Ok n) → IsTakenOrWants rules db t s
number_so rules db t n s (inl e) f = inl e
number_so rules db t n s (inr e) (inl f) = cc
number_so rules db t n s (inr e) (inr f) = inr (subst (IsTaken rules db t) (sym e) (Sides.read n f))

-- a text that was refused for want of a code
pub uncoded_so : (rules : Rules) (db : List Metadata) (t : List ℕ) (e : ParseError) (s : Result Side ParseError) → e ≡ error.InvalidCountryCode → IsReadOrWants rules db t (Err e) →
    (s ≡ Err error.Memory) ⊎ IsDialled rules t s → IsTakenOrWants rules db t s
uncoded_so rules db t e s why h (inl g) = inl g
uncoded_so rules db t e s why (inl f) (inr g) = cc
uncoded_so rules db t e s why (inr f) (inr d) = inr (Sides.dialled s (subst (λ (x : ParseError). ReadsBy rules db None t (Err x)) why f) d)

cause : Result Reading ParseError → ParseError
cause (Ok n) = error.Memory
cause (Err x) = x

-- a text that was refused for another cause
pub refused_so : (rules : Rules) (db : List Metadata) (t : List ℕ) (e : ParseError) → ¬ (e ≡ error.InvalidCountryCode) → IsReadOrWants rules db t (Err e) → IsTakenOrWants rules db t (Err e)
unfolding cause
refused_so rules db t e other (inl f) = inl (ap (λ (x : ParseError). Err x) (ap cause f))
refused_so rules db t e other (inr f) = inr (Sides.refused e other f)

-- two texts of which the first was refused
pub first_so : (rules : Rules) (db : List Metadata) (s t : List ℕ) (e : ParseError) (r : Result Answer ParseError) → r ≡ Err e → IsTakenOrWants rules db s (Err e) → IsAnswerOrWants rules db s t r
unfolding refusal_or
first_so rules db s t e r same (inl f) = inl (same ∙ ap (λ (x : ParseError). Err x) (ap (refusal_or e) f))
first_so rules db s t e r same (inr f) = inr (subst (IsAnswer rules db s t) (sym same) (Sameness.first_refused e f))

-- two texts of which the second was refused
pub second_so : (rules : Rules) (db : List Metadata) (s t : List ℕ) (a : Side) (e : ParseError) (r : Result Answer ParseError) → r ≡ Err e →
    IsTakenOrWants rules db s (Ok a) → IsTakenOrWants rules db t (Err e) → IsAnswerOrWants rules db s t r
unfolding refusal_or
second_so rules db s t a e r same (inl h) g = cc
second_so rules db s t a e r same (inr h) (inl f) = inl (same ∙ ap (λ (x : ParseError). Err x) (ap (refusal_or e) f))
second_so rules db s t a e r same (inr h) (inr f) = inr (subst (IsAnswer rules db s t) (sym same) (Sameness.second_refused a e h f))

-- two texts with their sides
pub both_so : (rules : Rules) (db : List Metadata) (s t : List ℕ) (a b : Side) (x : Answer) → x ≡ sameness_of a b →
    IsTakenOrWants rules db s (Ok a) → IsTakenOrWants rules db t (Ok b) → IsAnswerOrWants rules db s t (Ok x)
both_so rules db s t a b x same (inl h) g = cc
both_so rules db s t a b x same (inr h) (inl g) = cc
both_so rules db s t a b x same (inr h) (inr g) = inr (subst (λ (y : Answer). IsAnswer rules db s t (Ok y)) (sym same) (Sameness.of_both a b h g))
