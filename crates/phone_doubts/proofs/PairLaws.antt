-- The two numbers that a text is, which are determined.
use Rattle.std.proofs.Common.{◌≡◌, ℕ, List, Option, None, Some, Result, Ok, Err, IfOk, MatchOption, Bor, chars, sym, subst}
use Rattle.phone_records.specs.declared.loader.Metadata.{Metadata}
use Rattle.phone_values.specs.declared.country.Id.{Id}
use Rattle.phone_values.specs.declared.reading.Reading.{Reading}
use Rattle.phone_values.specs.declared.rules.Rules.{Rules}
use Rattle.phone_doubts.specs.Valid.{AreFirstTwo, AreReadAsTwo, IsNoPair, IsNumber, IsValidText}
use Rattle.phone_doubts.proofs.Parting.{two_same}
use Rattle.phone_doubts.proofs.Told.{valid_same}

module _ (rules : Rules) (db : List Metadata) (hint : Option Id) where
  -- a text is two numbers in one way
  pub pair_same : (t : List ℕ) (n k m l : Reading) → AreReadAsTwo rules db hint t n k → AreReadAsTwo rules db hint t m l → (n ≡ m) × (k ≡ l)
  pair_same t n k m l p q =
      let same = two_same rules db hint t p.first p.second q.first q.second p.texts q.texts in (
        valid_same rules db hint q.first n m (subst (λ f. IsValidText rules db hint f n) same.0 p.is_first) q.is_first,
        valid_same rules db hint q.second k l (subst (λ f. IsValidText rules db hint f k) same.1 p.is_second) q.is_second,
      )

  -- the numbers of its two parts
  abbrev pub AreBoth : List ℕ → List ℕ → Type 0
  AreBoth first second = IsNumber rules db hint first × IsNumber rules db hint second

  pub both_read : {E : Type 0} (t first second : List ℕ) → AreFirstTwo rules db hint t first second → (r : Result (Option (Reading × Reading)) E) →
      IfOk r (λ found. MatchOption found (¬ (AreBoth first second))
      (λ p. IsValidText rules db hint first p.0 × IsValidText rules db hint second p.1)) →
      IfOk r (λ found. MatchOption found (IsNoPair rules db hint t) (λ p. AreReadAsTwo rules db hint t p.0 p.1))
  both_read t first second texts (Ok None) h = absurd (h (texts.numbers.numbers.is_first, texts.numbers.numbers.is_second))
  both_read t first second texts (Ok (Some p)) h = record { first = first; second = second; texts = texts; is_first = h.0; is_second = h.1 }
  both_read t first second texts (Err e) h = h

  -- the same where there may be two parts
  pub numbers_read : {E : Type 0} (t : List ℕ) (texts : Option (Bor (List ℕ) × Bor (List ℕ))) →
      MatchOption texts (IsNoPair rules db hint t) (λ p. AreFirstTwo rules db hint t (chars p.0.now) (chars p.1.now)) → (r : Result (Option (Reading × Reading)) E) →
      MatchOption texts (r ≡ Ok None) (λ p. IfOk r (λ found. MatchOption found (¬ (AreBoth (chars p.0.now) (chars p.1.now)))
      (λ q. IsValidText rules db hint (chars p.0.now) q.0 × IsValidText rules db hint (chars p.1.now) q.1))) →
      IfOk r (λ found. MatchOption found (IsNoPair rules db hint t) (λ p. AreReadAsTwo rules db hint t p.0 p.1))
  numbers_read t None none r is =
      subst (λ x. IfOk x (λ found. MatchOption found (IsNoPair rules db hint t) (λ p. AreReadAsTwo rules db hint t p.0 p.1))) (sym is) none
  numbers_read t (Some p) texts r h = both_read t (chars p.0.now) (chars p.1.now) texts r h
