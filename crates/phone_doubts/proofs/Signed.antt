-- What is read with a plus sign or a prefix in front, by the one reading of a text.
use Rattle.std.proofs.Common.{◌≡◌, ◌↔◌, ℕ, Bool, true, false, IsTrue, List, ◌++◌, codes, chars, Option, refl, sym, subst, true≢false}
use Rattle.phone_records.specs.declared.loader.Metadata.{Metadata}
use Rattle.phone_values.specs.declared.country.Id.{Id}
use Rattle.phone_values.specs.declared.country.Source.TheVariants.{Default}
use Rattle.phone_values.specs.declared.reading.Reading.{Reading}
use Rattle.phone_values.specs.declared.rules.Rules.{Rules}
use Rattle.phone_doubts.proofs.Told.{valid_same}
use Rattle.phone_doubts.specs.Fronts.{IsDialledByHint, IsReadSigned}
use Rattle.phone_doubts.specs.Valid.{IsNumber, IsValidText}

-- what the one valid number of a text decides
decided : (P : Reading → Type 0) (rules : Rules) (db : List Metadata) (hint : Option Id) (t : List ℕ) (m : Reading) → IsValidText rules db hint t m →
    (n : Reading) → IsValidText rules db hint t n → P n → P m
decided P rules db hint t m v n w p = subst P (valid_same rules db hint t n m w v) p

-- a text is read as a number, where one is told
pub number_so : (rules : Rules) (db : List Metadata) (hint : Option Id) (t : List ℕ) (n : Reading) → IsValidText rules db hint t n → IsTrue true ↔ IsNumber rules db hint t
number_so rules db hint t n v = (λ yes. (n, v), λ some. refl)

pub no_number_so : (rules : Rules) (db : List Metadata) (hint : Option Id) (t : List ℕ) → ((n : Reading) → ¬ (IsValidText rules db hint t n)) → IsTrue false ↔ IsNumber rules db hint t
no_number_so rules db hint t none = (λ no. absurd (true≢false (sym no)), λ some. absurd (none some.0 some.1))

-- another number of a code
abbrev pub IsOther : Reading → Reading → Type 0
IsOther n other = (other.code.value ≡ n.code.value) × ¬ (other.national ≡ n.national)

-- with a plus sign in front
pub signed_so : (rules : Rules) (db : List Metadata) (hint : Option Id) (t whole : List ℕ) → whole ≡ codes "+" ++ t → (n other : Reading) →
    IsValidText rules db hint (chars whole) other → (b : Bool) → IsTrue b ↔ IsOther n other → IsTrue b ↔ IsReadSigned rules db hint t n
signed_so rules db hint t whole e n other v b h =
    let now : IsValidText rules db hint (chars (codes "+" ++ t)) other = subst (λ w. IsValidText rules db hint (chars w) other) e v in (
      λ yes. record { other = other; signed = now; same_code = (h.0 yes).0; other_number = (h.0 yes).1 },
      λ r. h.1 (decided (λ m. IsOther n m) rules db hint (chars (codes "+" ++ t)) other now r.other r.signed (r.same_code, r.other_number)),
    )

pub unsigned_so : (rules : Rules) (db : List Metadata) (hint : Option Id) (t whole : List ℕ) → whole ≡ codes "+" ++ t → (n : Reading) →
    ((m : Reading) → ¬ (IsValidText rules db hint (chars whole) m)) → IsTrue false ↔ IsReadSigned rules db hint t n
unsigned_so rules db hint t whole e n none =
    (λ no. absurd (true≢false (sym no)), λ r. absurd (none r.other (subst (λ w. IsValidText rules db hint (chars w) r.other) (sym e) r.signed)))

-- with a prefix in front
pub dialled_so : (rules : Rules) (db : List Metadata) (hint : Option Id) (t whole : List ℕ) → whole ≡ t → (other : Reading) →
    IsValidText rules db hint (chars whole) other → (b : Bool) → IsTrue b ↔ (other.code.source ≡ Default) → IsTrue b ↔ IsDialledByHint rules db hint (chars t)
dialled_so rules db hint t whole e other v b h =
    let now : IsValidText rules db hint (chars t) other = subst (λ w. IsValidText rules db hint (chars w) other) e v in (
      λ yes. record { whole = other; dialled = now; by_hint = h.0 yes },
      λ r. h.1 (decided (λ (m : Reading). m.code.source ≡ Default) rules db hint (chars t) other now r.whole r.dialled r.by_hint),
    )

pub undialled_so : (rules : Rules) (db : List Metadata) (hint : Option Id) (t whole : List ℕ) → whole ≡ t →
    ((m : Reading) → ¬ (IsValidText rules db hint (chars whole) m)) → IsTrue false ↔ IsDialledByHint rules db hint (chars t)
undialled_so rules db hint t whole e none =
    (λ no. absurd (true≢false (sym no)), λ r. absurd (none r.whole (subst (λ w. IsValidText rules db hint (chars w) r.whole) (sym e) r.dialled)))
