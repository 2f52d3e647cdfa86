-- The count of a valid number's digits is allowed, and possible.
use Rattle.std.proofs.Common.{◌≡◌, inl, inr, ℕ, ◌≤◌, ◌==◌, ◌||◌, nat_eq, nat_le, nat_lt, Bool, true, false, if◌then◌else◌, List, [], ◌∷◌, length, Option, None, Some, refl, ap, sym, ◌∙◌, arith, eqb-true, leb-true, ne_eqb, true≢false}
use Rattle.std.proofs.lemmas.Bool.{and_parts, cond-false, le-ltb, or_cases}
use Rattle.std.specs.List.{find, list_any}
use Rattle.std.specs.Option.{option_map_or}
use Rattle.phone_values.specs.Numbers.{text_of}
use Rattle.phone_values.specs.declared.kind.«Type».{«Type»}
use Rattle.phone_values.specs.declared.kind.«Type».TheVariants as kind
use Rattle.phone_values.specs.declared.reading.Reading.{Reading}
use Rattle.phone_values.specs.declared.validator.Validation.{Validation}
use Rattle.phone_values.specs.declared.validator.Validation.TheVariants.{IsPossible, IsPossibleLocalOnly, InvalidLength, TooLong, TooShort}
use Rattle.phone_read.specs.Kinds.{is_known, tried_kinds}
use Rattle.phone_read.specs.Verdicts.{general_lengths, last_of, verdict_by, verdict_of}
use Rattle.phone_library.specs.Facts.{is_valid_number, territory_of_number}
use Rattle.phone_library.specs.Kinds.{is_number_of, kind_in, line_or_mobile}
use Rattle.phone_library.specs.Lengths.{length_in, local_lengths}
use Rattle.phone_library_laws.specs.Lengths.{is_ascending}
use Rattle.phone_records.specs.declared.loader.Descriptor.{Descriptor}
use Rattle.phone_records.specs.declared.loader.Metadata.{Metadata}
use Rattle.phone_territory.specs.First.{is_whole_match}
use Rattle.phone_territory.specs.Records.{allows_length, pattern_of}

-- digits of a known kind are of the general kind
general_if_known : (m : Metadata) (digits : List ℕ) → is_known (kind_in m digits) ≡ true → is_number_of m.general digits ≡ true
general_if_known m digits known = at (is_number_of m.general digits) known
  where
    at : (b : Bool) → is_known (if b then option_map_or (λ (k : «Type» × Option Descriptor). line_or_mobile m digits k.0)
        (find (λ (k : «Type» × Option Descriptor). is_number_of k.1 digits) (tried_kinds m)) kind.Unknown else kind.Unknown) ≡ true → b ≡ true
    at true h = refl
    at false h = absurd (true≢false (sym h))

-- the descriptor is there and allows this length
abbrev pub allows : Option Descriptor → ℕ → Bool
allows o k = option_map_or (λ (d : Descriptor). allows_length d k) o false

allowed_if_number : (o : Option Descriptor) (digits : List ℕ) → is_number_of o digits ≡ true → allows o (length digits) ≡ true
allowed_if_number None digits h = h
allowed_if_number (Some d) digits h = (and_parts (allows_length d (length digits)) (is_whole_match (pattern_of d) digits) h).0

pub valid-allowed : (db : List Metadata) (n : Reading) (m : Metadata) → is_valid_number db n ≡ true → territory_of_number db n ≡ Some m →
    allows m.general (length (text_of n.national)) ≡ true
valid-allowed db n m valid e =
    let digits = text_of n.national in
    let known : is_known (kind_in m digits) ≡ true = sym (ap (λ o. is_known (option_map_or (λ (m : Metadata). kind_in m digits) o kind.Unknown)) e) ∙ valid in
    allowed_if_number m.general digits (general_if_known m digits known)

-- ascending lengths are between the first and the last
record IsBetween (n least last : ℕ) : Type 0 where
  low : least ≤ n
  high : n ≤ last

least_last : (least : ℕ) (more : List ℕ) → is_ascending (least ∷ more) ≡ true → least ≤ last_of least more
least_last least [] h = omega arith
least_last least (k ∷ ks) h =
    let both = and_parts (nat_le least k) (is_ascending (k ∷ ks)) h in
    omega (arith, leb-true least k both.0, least_last k ks both.1)

between : (n least : ℕ) (more : List ℕ) → is_ascending (least ∷ more) ≡ true → list_any (λ l. l == n) (least ∷ more) ≡ true → IsBetween n least (last_of least more)
between n least [] h any = elim (or_cases (least == n) false any) [
  | inl here ↦ record { low = omega (arith, eqb-true least n here); high = omega (arith, eqb-true least n here) }
  | inr none ↦ absurd (true≢false (sym none))
]
between n least (k ∷ ks) h any =
    let both = and_parts (nat_le least k) (is_ascending (k ∷ ks)) h in
    let rise : least ≤ k = leb-true least k both.0 in
    elim (or_cases (least == n) (list_any (λ l. l == n) (k ∷ ks)) any) [
      | inl here ↦ record { low = omega (arith, eqb-true least n here); high = omega (arith, eqb-true least n here, rise, least_last k ks both.1) }
      | inr later ↦ let rest = between n k ks both.1 later in record { low = omega (arith, rise, rest.low); high = rest.high }
    ]

-- possible, or possible only locally
abbrev pub possible_by : List ℕ → ℕ → Validation
possible_by local n = if list_any (λ l. l == n) local then IsPossibleLocalOnly else IsPossible

flip : (a b : ℕ) → (a == b) ≡ (b == a)
flip a b = grind arith

verdict-ascending : (least : ℕ) (more local : List ℕ) (n : ℕ) → is_ascending (least ∷ more) ≡ true → list_any (λ l. l == n) (least ∷ more) ≡ true →
    verdict_by (least ∷ more) local n ≡ possible_by local n
verdict-ascending least more local n h any =
    let bounds = between n least more h any in
    at (list_any (λ l. l == n) local) (n == least) refl (nat_lt n least) (le-ltb n least bounds.low) (nat_lt (last_of least more) n) (le-ltb (last_of least more) n bounds.high)
    (list_any (λ l. l == n) more) (ap (λ b. b || list_any (λ l. l == n) more) (flip n least) ∙ any)
  where
    at : (here first : Bool) → (n == least) ≡ first → (low : Bool) → low ≡ false → (high : Bool) → high ≡ false → (later : Bool) → (first || later) ≡ true →
        (if here then IsPossibleLocalOnly else if first then IsPossible else if low then TooShort else if high then TooLong else if later then IsPossible else InvalidLength)
        ≡ (if here then IsPossibleLocalOnly else IsPossible)
    at true first e low l high g later f = refl
    at false true e low l high g later f = refl
    at false false e true l high g later f = absurd (true≢false l)
    at false false e false l true g later f = absurd (true≢false g)
    at false false e false l false g true f = refl
    at false false e false l false g false f = absurd (true≢false (sym f))

-- the verdict by a general descriptor
abbrev lengths_of : Option Descriptor → List ℕ
lengths_of o = option_map_or (λ (d : Descriptor). d.possible_length) o []

abbrev locals_of : Option Descriptor → List ℕ
locals_of o = option_map_or (λ (d : Descriptor). d.possible_local_length) o []

abbrev length_by : Option Descriptor → ℕ → Validation
length_by o n = if nat_eq (length (lengths_of o)) 0 then possible_by (locals_of o) n else verdict_of (lengths_of o) o n

module _ (local : List ℕ) (n : ℕ) where
  by_lengths : (ls : List ℕ) → ((length ls == 0) || list_any (λ k. k == n) ls) ≡ true → is_ascending ls ≡ true →
      (if nat_eq (length ls) 0 then possible_by local n else if nat_eq (length ls) 0 then InvalidLength else verdict_by ls local n) ≡ possible_by local n
  by_lengths [] h rising = refl
  by_lengths (l ∷ ls) h rising =
      let some : nat_eq (length (l ∷ ls)) 0 ≡ false = ne_eqb (length (l ∷ ls)) 0 (omega arith) in
      let any : list_any (λ k. k == n) (l ∷ ls) ≡ true = sym (ap (λ b. b || list_any (λ k. k == n) (l ∷ ls)) some) ∙ h in
      cond-false _ _ _ some ∙ cond-false _ _ _ some ∙ verdict-ascending l ls local n rising any

by_general : (o : Option Descriptor) (n : ℕ) → allows o n ≡ true → is_ascending (lengths_of o) ≡ true → length_by o n ≡ possible_by (locals_of o) n
by_general None n h rising = absurd (true≢false (sym h))
by_general (Some d) n h rising = by_lengths d.possible_local_length n d.possible_length h rising

pub valid-possible : (db : List Metadata) (n : Reading) (m : Metadata) → is_valid_number db n ≡ true → territory_of_number db n ≡ Some m →
    is_ascending (general_lengths m) ≡ true → length_in m (length (text_of n.national)) ≡ possible_by (local_lengths m) (length (text_of n.national))
valid-possible db n m valid e rising = by_general m.general (length (text_of n.national)) (valid-allowed db n m valid e) rising
